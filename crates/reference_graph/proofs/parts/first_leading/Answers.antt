use Rattle.std.proofs.lemmas.Grind.{common_steps}
use Rattle.std.proofs.Common.{length, arith}
use Rattle.reference_graph.proofs.Walks.{targets-below}
use Rattle.reference_graph.proofs.parts.first_leading.Goals as goal

pub leads-requires : goal.leads-requires
leads-requires c = rw c.targets.ensures.targets (targets-below c.args.graph.now c.loop-part.part (length c.args.users.now) c.targets.ensures.graph c.requires.users)

pub returns-then-leads : goal.returns-then-leads
returns-then-leads c = grind (arith, common_steps)
