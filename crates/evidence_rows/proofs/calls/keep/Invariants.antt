use Rattle.evidence_rows.proofs.KeptTrees.{KeptSoFar}
use Rattle.evidence_rows.proofs.calls.keep.Given as goal

abbrev pub invariant-loop-made : goal.invariant-loop-made
invariant-loop-made l = KeptSoFar l.fn.store l.store l.line l.row l.yielded
