use Rattle.std.proofs.Common.{◌+◌, ℕ, sym, subst, ◌∙◌}
use Rattle.evidence_lookups.proofs.RowsFound.{FoundSoFar, found-differs, found-more, found-other}
use Rattle.evidence_lookups.proofs.expression_lines.are_found.Goals as goal
use Rattle.evidence_lookups.proofs.expression_lines.are_found.Goals.{then-is_found+else-not-stands_at, else-is_found}

pub returns-then-not-stands_at : goal.returns-then-not-stands_at
returns-then-not-stands_at c =
    found-differs c.args.all.now c.args.rows.now c.loop-index.index c.loop-index.next c.loop-index.invariant c.in-Some.row (sym c.in-Some.ensures) (sym c.is_found.ensures ∙ c.if-is_found.true) c.if-not-stands_at.ensures

pub loop-index-preserved : goal.loop-index-preserved
loop-index-preserved c =
    elim c.if-is_found.branch [
      | then-is_found+else-not-stands_at w ↦
          subst (λ (n : ℕ). FoundSoFar c.args.all.now c.args.rows.now (c.loop-index.index + 1) n) (sym w.next-is)
          (found-more c.args.all.now c.args.rows.now c.loop-index.index c.loop-index.next c.loop-index.invariant c.in-Some.row (sym c.in-Some.ensures) (sym c.is_found.ensures ∙ w.if-is_found.true) w.if-not-stands_at.ensures)
      | else-is_found w ↦
          subst (λ (n : ℕ). FoundSoFar c.args.all.now c.args.rows.now (c.loop-index.index + 1) n) (sym w.next-is)
          (found-other c.args.all.now c.args.rows.now c.loop-index.index c.loop-index.next c.loop-index.invariant c.in-Some.row (sym c.in-Some.ensures) (sym c.is_found.ensures ∙ w.if-is_found.false))
    ]
