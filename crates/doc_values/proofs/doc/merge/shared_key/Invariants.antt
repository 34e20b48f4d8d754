use Rattle.std.proofs.Common.{◌≡◌}
use Rattle.doc_values.specs.Places.{first_kids}
use Rattle.doc_values.specs.Merge.{first_shared}
use Rattle.doc_values.proofs.Sharing.{from}
use Rattle.doc_values.proofs.doc.merge.shared_key.Given as goal

abbrev pub invariant-loop-i : goal.invariant-loop-i
invariant-loop-i l = first_shared (first_kids l.first) (from l.i (first_kids l.second)) ≡ first_shared (first_kids l.first) (first_kids l.second)
