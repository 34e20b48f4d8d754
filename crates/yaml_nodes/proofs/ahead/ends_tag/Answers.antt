use Rattle.std.proofs.Common.{arith}
use Rattle.std.proofs.lemmas.Grind.{common_steps}
use Rattle.yaml_nodes.proofs.ahead.ends_tag.Goals as goal

pub bounds-bytes-at : goal.bounds-bytes-at
bounds-bytes-at c = grind (arith, common_steps)

pub returns-then-flow : goal.returns-then-flow
returns-then-flow c = grind (arith, common_steps)
