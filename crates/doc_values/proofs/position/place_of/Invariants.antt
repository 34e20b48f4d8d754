use Rattle.std.proofs.Common.{◌≡◌, ◌+◌, ◌≤◌}
use Rattle.doc_values.specs.Position.{line_at, column_at}
use Rattle.doc_values.proofs.position.place_of.Given as goal

abbrev pub invariant-loop-i : goal.invariant-loop-i
invariant-loop-i l = (l.line ≡ line_at l.bytes l.i) × (l.column ≡ column_at l.bytes l.i) × (l.line ≤ l.i + 1) × (l.column ≤ l.i + 1)
