use Rattle.std.proofs.Common.{◌≡◌}
use Rattle.std.proofs.lemmas.Slice.Eq.{slice_eq-Decides}
use Rattle.evidence_lines.proofs.SameRows.{one-of-two, row-decides}
use Rattle.evidence_rows.proofs.row_equality.same_rows.Goals as goal

pub returns : goal.returns
returns c = one-of-two c.eq.result (c.args.rows.now ≡ c.args.due.now) (slice_eq-Decides row-decides c.args.rows.now c.args.due.now c.eq.result c.eq.ensures)
