use Rattle.std.proofs.Common.{◌≡◌, Bool, Some, ◌∙◌, ap, subst, sym}
use Rattle.std.specs.Bool.{Decides}
use Rattle.std.proofs.lemmas.Option.{none-some, slice_get_past, slice_get-get_or}
use Rattle.evidence_lines.proofs.SameRows.{one-of-two, row-decides}
use Rattle.evidence_lookups.proofs.RowsFound.{row-there}
use Rattle.evidence_lookups.proofs.expression_lines.stands_at.Goals as goal

pub returns-in-Some : goal.returns-in-Some
returns-in-Some c =
    row-there c.args.rows.now c.args.at c.in-Some.said.now c.args.row.now c.eq.result
    (slice_get-get_or c.args.rows.now c.args.at c.in-Some.said.now c.in-Some.ensures.lookup.3.0 ∙ sym (ap Some c.in-Some.ensures.lookup.1))
    (one-of-two c.eq.result (c.in-Some.said.now ≡ c.args.row.now)
    (subst (λ (b : Bool). Decides b (c.in-Some.said.now ≡ c.args.row.now)) (sym c.eq.ensures) (row-decides c.in-Some.said.now c.args.row.now)))

pub returns-in-None : goal.returns-in-None
returns-in-None c = λ there. none-some c.args.row.now (sym (slice_get_past c.args.rows.now c.args.at c.in-None.ensures.lookup.3) ∙ there)
