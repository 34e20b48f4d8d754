use Rattle.reference_graph.proofs.Reversals.{IsTurned}
use Rattle.reference_graph.proofs.reversal.reversed.Given as goal

abbrev pub invariant-loop-node : goal.invariant-loop-node
invariant-loop-node l = IsTurned l.graph l.node l.back
