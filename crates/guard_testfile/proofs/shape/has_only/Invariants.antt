use Rattle.std.proofs.Common.{◌≡◌}
use Rattle.doc_values.specs.Places.{kids_at}
use Rattle.guard_testfile.specs.Shape.{has_only}
use Rattle.guard_testfile.specs.code.Siblings.{from_index}
use Rattle.guard_testfile.proofs.shape.has_only.Given as goal

abbrev pub invariant-loop-i : goal.invariant-loop-i
invariant-loop-i l = has_only l.place (kids_at l.node.doc.now l.node.id) ≡ has_only l.place (from_index (kids_at l.node.doc.now l.node.id) l.i)
