use Rattle.std.proofs.Common.{ap, sym, ◌∙◌}
use Rattle.evidence_lines.specs.code.Held.{cut_span}
use Rattle.evidence_lines.proofs.remembered.shared_run.Goals as goal

pub returns-then-same_rows : goal.returns-then-same_rows
returns-then-same_rows c =
    (c.in-Some-held_span.ensures.0, ap (cut_span c.args.held.now) c.in-Some-held_span.ensures.1 ∙ sym c.rows_of.ensures ∙ c.same_rows.ensures c.if-same_rows.true)
