use Rattle.std.proofs.Common.{arith}
use Rattle.std.proofs.lemmas.Grind.{common_steps}
use Rattle.yaml_scalars.proofs.plain_line.stops_at.Goals as goal

pub returns-else-flow : goal.returns-else-flow
returns-else-flow c = grind (arith, common_steps)

pub returns-in-10 : goal.returns-in-10
returns-in-10 c = grind (arith, common_steps)

pub returns-in-35 : goal.returns-in-35
returns-in-35 c = grind (arith, common_steps)

pub returns-in-58 : goal.returns-in-58
returns-in-58 c = grind (arith, common_steps)

pub returns-then-flow : goal.returns-then-flow
returns-then-flow c = grind (arith, common_steps)
