use Rattle.reference_graph.specs.code.Ordering.{IsWalked, Begins, work_left}
use Rattle.reference_graph.proofs.ordering.visit.Given as goal

abbrev pub invariant-loop-stop : goal.invariant-loop-stop
invariant-loop-stop l = record {
  walked : IsWalked l.graph l.walk;
  begins : Begins l.root l.fn.walk l.walk;
}

abbrev pub decreases-loop-stop : goal.decreases-loop-stop
decreases-loop-stop l = work_left l.walk
