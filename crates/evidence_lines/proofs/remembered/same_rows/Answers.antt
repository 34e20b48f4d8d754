use Rattle.std.proofs.lemmas.Slice.Eq.{slice_eq-Decides}
use Rattle.evidence_lines.proofs.SameRows.{row-decides}
use Rattle.evidence_lines.proofs.remembered.same_rows.Goals as goal

pub returns : goal.returns
returns c = (slice_eq-Decides row-decides c.args.rows.now c.args.others.now c.eq.result c.eq.ensures).0
