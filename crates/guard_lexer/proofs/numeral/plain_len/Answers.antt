use Rattle.std.proofs.Common.{arith}
use Rattle.std.proofs.lemmas.Grind.{common_steps}
use Rattle.guard_lexer.proofs.numeral.plain_len.Goals as goal

pub returns-clause-reach : goal.returns-clause-reach
returns-clause-reach c = grind (arith, common_steps)
