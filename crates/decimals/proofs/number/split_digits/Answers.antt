use Rattle.std.proofs.Common.{arith}
use Rattle.std.proofs.lemmas.Grind.{common_steps}
use Rattle.decimals.proofs.number.split_digits.Goals as goal

pub loop-end-preserved : goal.loop-end-preserved
loop-end-preserved c = grind (arith, common_steps)

pub returns-clause-front : goal.returns-clause-front
returns-clause-front c = grind (arith, common_steps)

pub returns-clause-rest : goal.returns-clause-rest
returns-clause-rest c = grind (arith, common_steps)

pub returns-then-not-is_digit-clause-front : goal.returns-then-not-is_digit-clause-front
returns-then-not-is_digit-clause-front c = grind (arith, common_steps)

pub returns-then-not-is_digit-clause-rest : goal.returns-then-not-is_digit-clause-rest
returns-then-not-is_digit-clause-rest c = grind (arith, common_steps)
