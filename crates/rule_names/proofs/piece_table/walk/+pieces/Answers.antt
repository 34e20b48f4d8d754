use Rattle.std.proofs.Common.{refl, map}
use Rattle.guard_syntax.specs.code.Seen.{see_part, see_query, see_expr}
use Rattle.rule_names.specs.Pieces.{pieces_part, pieces_expr}
use Rattle.rule_names.specs.code.Seen.{see_piece}
use Rattle.rule_names.proofs.PiecesNoted.{of_lets, of_disjs, of_parts, of_exprs, next, end, lets-next, disjs-next, steps-next, steps-end, body-noted, conds-noted, query-noted, block-noted, when-noted, kinds-noted, test-noted, refer-noted, call-noted, literal-noted, function-noted, asked-noted, found-noted}
use Rattle.rule_names.proofs.piece_table.walk.+pieces.Goals as goal

pub in_body-returns : goal.in_body-returns
in_body-returns t c =
    body-noted c.args.body.now c.deref.result.now c.deref-2.result.now (map see_piece c.args.table.now.items) (map see_piece c.note.new.table.items) (map see_piece c.in_lets.new.table.items) (map see_piece c.in_disjs.new.table.items)
    c.deref.ensures.value c.deref-2.ensures.value c.note.ensures c.in_lets.ensures c.in_disjs.ensures

pub in_lets-loop-given-preserved : goal.in_lets-loop-given-preserved
in_lets-loop-given-preserved t c =
    lets-next c.args.lets.now c.loop-given.given-index c.given-item.result _ (map see_piece c.loop-given.table.items) (map see_piece c.note.new.table.items) (map see_piece c.in_expr.new.table.items)
    c.loop-given-test.true c.given-item.is c.note.ensures c.in_expr.ensures c.loop-given.invariant

pub in_lets-returns : goal.in_lets-returns
in_lets-returns t c = end of_lets refl c.args.lets.now c.loop-given.given-index _ (map see_piece c.loop-given.table.items) c.loop-given-test.false c.loop-given.invariant

pub in_conds-returns : goal.in_conds-returns
in_conds-returns t c = conds-noted c.args.conds.now c.deref.result.now (map see_piece c.args.table.now.items) (map see_piece c.note.new.table.items) (map see_piece c.in_disjs.new.table.items) c.deref.ensures.value c.note.ensures c.in_disjs.ensures

pub in_disjs-loop-disj-preserved : goal.in_disjs-loop-disj-preserved
in_disjs-loop-disj-preserved t c =
    disjs-next c.args.disjs.now c.loop-disj.disj-index c.disj-item.result c.deref.result.now _ (map see_piece c.loop-disj.table.items) (map see_piece c.note.new.table.items) (map see_piece c.in_parts.new.table.items)
    c.loop-disj-test.true c.disj-item.is c.deref.ensures.value c.note.ensures c.in_parts.ensures c.loop-disj.invariant

pub in_disjs-returns : goal.in_disjs-returns
in_disjs-returns t c = end of_disjs refl c.args.disjs.now c.loop-disj.disj-index _ (map see_piece c.loop-disj.table.items) c.loop-disj-test.false c.loop-disj.invariant

pub in_parts-loop-part-preserved : goal.in_parts-loop-part-preserved
in_parts-loop-part-preserved t c =
    next of_parts (λ y. pieces_part (see_part y)) (λ y ys. refl) c.args.parts.now c.loop-part.part-index c.part-item.result _ (map see_piece c.loop-part.table.items) (map see_piece c.in_part.new.table.items)
    c.loop-part-test.true c.part-item.is c.in_part.ensures c.loop-part.invariant

pub in_parts-returns : goal.in_parts-returns
in_parts-returns t c = end of_parts refl c.args.parts.now c.loop-part.part-index _ (map see_piece c.loop-part.table.items) c.loop-part-test.false c.loop-part.invariant

pub in_part-returns-in-Block : goal.in_part-returns-in-Block
in_part-returns-in-Block t c =
    block-noted c.args.part.now c.in-Block.site c.in-Block.any c.in-Block.head c.in-Block.body _ (map see_piece c.args.table.now.items) (map see_piece c.note.new.table.items) (map see_piece c.in_query.new.table.items) (map see_piece c.in_body.new.table.items)
    c.in-Block.is c.site.ensures c.note.ensures c.in_query.ensures c.in_body.ensures

pub in_part-returns-in-When : goal.in_part-returns-in-When
in_part-returns-in-When t c =
    when-noted c.args.part.now c.in-When.site c.in-When.cond c.in-When.body _ (map see_piece c.args.table.now.items) (map see_piece c.note.new.table.items) (map see_piece c.in_conds.new.table.items) (map see_piece c.in_body-in-When.new.table.items)
    c.in-When.is c.site.ensures c.note.ensures c.in_conds.ensures c.in_body-in-When.ensures

pub in_part-returns-in-Kinds : goal.in_part-returns-in-Kinds
in_part-returns-in-Kinds t c =
    kinds-noted c.args.part.now c.in-Kinds.site c.in-Kinds.name c.in-Kinds.cond c.in-Kinds.body _ (map see_piece c.args.table.now.items) (map see_piece c.note.new.table.items) (map see_piece c.in_opt_conds.new.table.items) (map see_piece c.in_body-in-Kinds.new.table.items)
    c.in-Kinds.is c.site.ensures c.note.ensures c.in_opt_conds.ensures c.in_body-in-Kinds.ensures

pub in_part-returns-in-Test : goal.in_part-returns-in-Test
in_part-returns-in-Test t c =
    test-noted c.args.part.now c.in-Test.site c.in-Test.any c.in-Test.left c.in-Test.op c.in-Test.not c.in-Test.right c.in-Test.note _ (map see_piece c.args.table.now.items) (map see_piece c.note.new.table.items) (map see_piece c.in_query-in-Test.new.table.items) (map see_piece c.in_opt_expr.new.table.items)
    c.in-Test.is c.site.ensures c.note.ensures c.in_query-in-Test.ensures c.in_opt_expr.ensures

pub in_part-returns-in-Refer : goal.in_part-returns-in-Refer
in_part-returns-in-Refer t c =
    refer-noted c.args.part.now c.in-Refer.site c.in-Refer.not c.in-Refer.name c.in-Refer.note _ (map see_piece c.args.table.now.items) (map see_piece c.note.new.table.items) c.in-Refer.is c.site.ensures c.note.ensures

pub in_part-returns-in-Call : goal.in_part-returns-in-Call
in_part-returns-in-Call t c =
    call-noted c.args.part.now c.in-Call.site c.in-Call.not c.in-Call.name c.in-Call.args c.in-Call.note c.deref.result.now _ (map see_piece c.args.table.now.items) (map see_piece c.note.new.table.items) (map see_piece c.in_exprs.new.table.items)
    c.in-Call.is c.deref.ensures.value c.site.ensures c.note.ensures c.in_exprs.ensures

pub in_query-loop-index-preserved : goal.in_query-loop-index-preserved
in_query-loop-index-preserved t c =
    steps-next (see_query c.args.query.now) c.as_slice-steps.result.now c.loop-index.index c.index-steps-index.result _ (map see_piece c.loop-index.table.items) (map see_piece c.note-in-loop-index.new.table.items) (map see_piece c.in_form.new.table.items)
    c.loop-index-test.true c.index-steps-index.is c.note-in-loop-index.ensures c.in_form.ensures c.loop-index.invariant

pub in_query-returns : goal.in_query-returns
in_query-returns t c =
    query-noted c.args.query.now c.as_slice-steps.result.now (map see_piece c.args.table.now.items) (map see_piece c.note.new.table.items) (map see_piece c.loop-index.table.items) c.as_slice-steps.ensures.value c.note.ensures
    (steps-end (see_query c.args.query.now) c.as_slice-steps.result.now c.loop-index.index _ (map see_piece c.loop-index.table.items) c.loop-index-test.false c.loop-index.invariant)

pub in_expr-returns-in-Literal : goal.in_expr-returns-in-Literal
in_expr-returns-in-Literal t c = literal-noted c.args.expr.now c.in-Literal.site c.in-Literal.tree (map see_piece c.args.table.now.items) (map see_piece c.note.new.table.items) c.in-Literal.is c.note.ensures

pub in_expr-returns-in-Function : goal.in_expr-returns-in-Function
in_expr-returns-in-Function t c =
    function-noted c.args.expr.now c.in-Function.site c.in-Function.name c.in-Function.args c.deref.result.now (map see_piece c.args.table.now.items) (map see_piece c.note-in-Function.new.table.items) (map see_piece c.in_exprs.new.table.items)
    c.in-Function.is c.deref.ensures.value c.note-in-Function.ensures c.in_exprs.ensures

pub in_expr-returns-in-Query : goal.in_expr-returns-in-Query
in_expr-returns-in-Query t c = asked-noted c.args.expr.now c.in-Query.query (map see_piece c.args.table.now.items) (map see_piece c.in_query.new.table.items) c.in-Query.is c.in_query.ensures

pub in_expr-returns-in-Found : goal.in_expr-returns-in-Found
in_expr-returns-in-Found t c =
    found-noted c.args.expr.now c.in-Found.site c.in-Found.query (map see_piece c.args.table.now.items) (map see_piece c.note-in-Found.new.table.items) (map see_piece c.in_query-in-Found.new.table.items) c.in-Found.is c.note-in-Found.ensures c.in_query-in-Found.ensures

pub in_exprs-loop-expr-preserved : goal.in_exprs-loop-expr-preserved
in_exprs-loop-expr-preserved t c =
    next of_exprs (λ y. pieces_expr (see_expr y)) (λ y ys. refl) c.args.exprs.now c.loop-expr.expr-index c.expr-item.result _ (map see_piece c.loop-expr.table.items) (map see_piece c.in_expr.new.table.items)
    c.loop-expr-test.true c.expr-item.is c.in_expr.ensures c.loop-expr.invariant

pub in_exprs-returns : goal.in_exprs-returns
in_exprs-returns t c = end of_exprs refl c.args.exprs.now c.loop-expr.expr-index _ (map see_piece c.loop-expr.table.items) c.loop-expr-test.false c.loop-expr.invariant
