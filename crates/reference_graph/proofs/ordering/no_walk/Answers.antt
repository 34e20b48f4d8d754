use Rattle.std.proofs.Common.{arith}
use Rattle.std.proofs.lemmas.Grind.{common_steps}
use Rattle.reference_graph.proofs.ordering.no_walk.Goals as goal

pub returns : goal.returns
returns c = grind (arith, common_steps)
