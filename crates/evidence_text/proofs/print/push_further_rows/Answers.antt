use Rattle.std.proofs.Common.{◌++◌, ap, refl, sym, ◌∙◌}
use Rattle.evidence_text.specs.Spelling.{row_text}
use Rattle.evidence_text.proofs.RowsLeft.{bounded_next, text_next}
use Rattle.evidence_text.proofs.print.push_further_rows.Goals as goal

pub loop-index-init : goal.loop-index-init
loop-index-init c = record { printed = refl; bounded = λ all. all }

pub loop-index-preserved : goal.loop-index-preserved
loop-index-preserved c = record {
  printed =
      text_next c.args.rows.now c.loop-index.index c.in-Some.row c.loop-index.text.items c.push_row.new.text.items _ (sym c.in-Some.ensures)
      (c.in_ok-push_row.ensures.printed ∙ ap (λ t. t ++ row_text c.in-Some.row) c.in_ok-push.ensures.items) c.loop-index.invariant.printed;
  bounded = λ all. c.loop-index.invariant.bounded (bounded_next c.args.rows.now c.loop-index.index c.in-Some.row (sym c.in-Some.ensures) c.in_ok-push_row.ensures.bounded all);
}
