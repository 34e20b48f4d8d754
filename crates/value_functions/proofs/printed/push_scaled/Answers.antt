use Rattle.std.proofs.Common.{arith}
use Rattle.std.proofs.lemmas.Grind.{common_steps}
use Rattle.value_functions.proofs.printed.push_scaled.Goals as goal

pub push_with_point-requires-clause-ascii : goal.push_with_point-requires-clause-ascii
push_with_point-requires-clause-ascii c = grind (arith, common_steps)

pub push_with_point-requires-clause-enough : goal.push_with_point-requires-clause-enough
push_with_point-requires-clause-enough c = grind (arith, common_steps)
