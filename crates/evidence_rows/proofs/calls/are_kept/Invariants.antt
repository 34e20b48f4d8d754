use Rattle.evidence_rows.proofs.KeptTrees.{Agrees}
use Rattle.evidence_rows.proofs.calls.are_kept.Given as goal

abbrev pub invariant-loop-at : goal.invariant-loop-at
invariant-loop-at l = Agrees l.line l.answer l.rows l.at
