use Rattle.reference_graph.proofs.OnCycle.{order-no-cycle}
use Rattle.reference_graph.proofs.cycle.first_on_cycle.Goals as goal

pub returns-in-Ordered : goal.returns-in-Ordered
returns-in-Ordered c = λ a l h r. order-no-cycle c.args.graph.now c.in-Ordered.field-0.items (rw c.in-Ordered.is at c.requires.walk) (a, r)
