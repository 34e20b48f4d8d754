use Rattle.std.proofs.Common.{arith}
use Rattle.std.proofs.lemmas.Grind.{common_steps}
use Rattle.guard_lexer.proofs.numeral.digits_len.Goals as goal

pub loop-at-preserved : goal.loop-at-preserved
loop-at-preserved c = grind (arith, common_steps)

pub returns-clause-reach : goal.returns-clause-reach
returns-clause-reach c = grind (arith, common_steps)

pub returns-then-not-is_digit-clause-reach : goal.returns-then-not-is_digit-clause-reach
returns-then-not-is_digit-clause-reach c = grind (arith, common_steps)
