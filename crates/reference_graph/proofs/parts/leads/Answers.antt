use Rattle.std.proofs.Common.{arith}
use Rattle.std.proofs.lemmas.Grind.{common_steps}
use Rattle.reference_graph.proofs.parts.leads.Goals as goal

pub returns-then-target-node : goal.returns-then-target-node
returns-then-target-node c = grind (arith, common_steps)

pub returns-then-users-target : goal.returns-then-users-target
returns-then-users-target c = grind (arith, common_steps)
