use Rattle.std.proofs.Common.{Some, ◌∙◌, ap, arith, sym}
use Rattle.evidence_rows.proofs.KeptTrees.{agrees-more, differs-at, kept-many}
use Rattle.evidence_rows.proofs.calls.are_kept.Goals as goal

pub returns-then-answer-rows : goal.returns-then-answer-rows
returns-then-answer-rows c = λ same. let many = kept-many c.args.line c.args.answer.now c.args.rows.now same in absurd (omega (arith, c.if-answer-rows.true, many))

pub returns-then-not-stands_at : goal.returns-then-not-stands_at
returns-then-not-stands_at c =
    differs-at c.args.line c.args.answer.now c.args.rows.now c.loop-at.at c.index-answer-at.result c.loop-at-test.true c.index-answer-at.is
    (λ there. c.if-not-stands_at.ensures (there ∙ ap Some (sym c.row_kept.ensures)))

pub loop-at-preserved : goal.loop-at-preserved
loop-at-preserved c =
    agrees-more c.args.line c.args.answer.now c.args.rows.now c.loop-at.at c.index-answer-at.result c.loop-at-test.true c.index-answer-at.is c.loop-at.invariant
    (c.if-not-stands_at.ensures ∙ ap Some c.row_kept.ensures)
