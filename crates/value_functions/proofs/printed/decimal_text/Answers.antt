use Rattle.std.proofs.Common.{arith}
use Rattle.std.proofs.lemmas.Grind.{common_steps}
use Rattle.value_functions.proofs.printed.decimal_text.Goals as goal

pub push_scaled-requires-clause-ascii : goal.push_scaled-requires-clause-ascii
push_scaled-requires-clause-ascii c = grind (arith, common_steps)
