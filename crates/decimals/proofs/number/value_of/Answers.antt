use Rattle.std.proofs.Common.{arith}
use Rattle.std.proofs.lemmas.Grind.{common_steps}
use Rattle.decimals.proofs.number.value_of.Goals as goal

pub returns-in-None-decimal_of : goal.returns-in-None-decimal_of
returns-in-None-decimal_of c = grind (arith, common_steps)

pub returns-in-Some-decimal_of : goal.returns-in-Some-decimal_of
returns-in-Some-decimal_of c = grind (arith, common_steps)

pub returns-then-is_nil-2 : goal.returns-then-is_nil-2
returns-then-is_nil-2 c = grind (arith, common_steps)
