use Rattle.std.proofs.Common.{arith}
use Rattle.std.proofs.lemmas.Grind.{common_steps}
use Rattle.yaml_scalars.proofs.plain_line.ends_at_once.Goals as goal

pub returns-in-58 : goal.returns-in-58
returns-in-58 c = grind (arith, common_steps)

pub returns-in_default : goal.returns-in_default
returns-in_default c = grind (arith, common_steps)

pub returns-then-at-bytes : goal.returns-then-at-bytes
returns-then-at-bytes c = grind (arith, common_steps)
