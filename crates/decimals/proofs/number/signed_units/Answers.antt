use Rattle.std.proofs.Common.{arith}
use Rattle.std.proofs.lemmas.Grind.{common_steps}
use Rattle.decimals.proofs.number.signed_units.Goals as goal

pub returns-then-minus : goal.returns-then-minus
returns-then-minus c = grind (arith, common_steps)
