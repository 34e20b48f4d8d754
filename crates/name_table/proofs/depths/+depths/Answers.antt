use Rattle.std.proofs.Common.{refl, sym, subst, arith, rules}
use Rattle.guard_syntax.specs.code.Seen.{see_query, see_opt_conds, see_opt_expr}
use Rattle.guard_syntax.specs.Syntax as sx
use Rattle.guard_syntax.specs.declared.syntax.Body.{the_lemmas}
use Rattle.guard_syntax.specs.declared.syntax.StepForm as form
use Rattle.rule_names.specs.Depths.{depth_opt_conds, depth_opt_expr}
use Rattle.name_table.specs.code.Measured.{Measured}
use Rattle.name_table.specs.code.Measures.{file_of, known_of}
use Rattle.rule_names.specs.Pieces.{pieces_opt_conds, pieces_opt_expr}
use Rattle.name_table.proofs.Measuring.{measured-none}
use Rattle.name_table.proofs.MeasuredParts.{OfLets, OfDisjs, OfParts, OfExprs, OfSteps, all-walked, lets-next, disjs-next, parts-next, exprs-next, steps-next, disj-measured, conds-measured, body-measured, query-measured, quiet-step, var-step, splice-step, filter-step, keys-step, block-measured, when-measured, kinds-measured, test-measured, refer-measured, call-measured, literal-measured, function-measured, query-expr, found-measured}
use Rattle.name_table.proofs.depths.+depths.Goals as goal

pub of_body-returns : goal.of_body-returns
of_body-returns t c =
    body-measured (file_of c.args.measure.now) (known_of c.args.measure.now) c.args.body.now c.deref.result.now c.deref-2.result.now c.args.table.now c.of_lets-lets.new.table c.of_disjs-parts.new.table _ _ _
    c.deref.ensures.value c.deref-2.ensures.value c.of_lets-lets.ensures c.of_disjs-parts.ensures c.larger.ensures

pub of_conds-returns : goal.of_conds-returns
of_conds-returns t c =
    conds-measured (file_of c.args.measure.now) (known_of c.args.measure.now) c.args.conds.now c.deref.result.now _ _ _ c.deref.ensures.value c.of_disjs.ensures

pub of_disj-returns : goal.of_disj-returns
of_disj-returns t c =
    disj-measured (file_of c.args.measure.now) (known_of c.args.measure.now) c.args.disj.now c.deref.result.now _ _ _ c.deref.ensures.value c.of_parts.ensures

pub of_lets-loop-given-init : goal.of_lets-loop-given-init
of_lets-loop-given-init t c =
    measured-none (file_of c.args.measure.now) (known_of c.args.measure.now) c.args.table.now

pub of_lets-loop-given-preserved : goal.of_lets-loop-given-preserved
of_lets-loop-given-preserved t c =
    lets-next (file_of c.args.measure.now) (known_of c.args.measure.now) c.args.lets.now c.loop-given.given-index c.given-item.result c.args.table.now c.loop-given.table c.of_expr.new.table _ _ _
    c.loop-given-test.true c.given-item.is c.loop-given.invariant c.of_expr.ensures c.larger-depth.ensures

pub of_lets-returns : goal.of_lets-returns
of_lets-returns t c =
    all-walked (file_of c.args.measure.now) (known_of c.args.measure.now) (λ xs. OfLets (file_of c.args.measure.now) (known_of c.args.measure.now) xs c.args.table.now c.loop-given.table c.loop-given.depth) c.args.lets.now c.loop-given.given-index (omega arith) c.loop-given.invariant

pub of_disjs-loop-disj-init : goal.of_disjs-loop-disj-init
of_disjs-loop-disj-init t c =
    measured-none (file_of c.args.measure.now) (known_of c.args.measure.now) c.args.table.now

pub of_disjs-loop-disj-preserved : goal.of_disjs-loop-disj-preserved
of_disjs-loop-disj-preserved t c =
    disjs-next (file_of c.args.measure.now) (known_of c.args.measure.now) c.args.disjs.now c.loop-disj.disj-index c.disj-item.result c.args.table.now c.loop-disj.table c.of_disj.new.table _ _ _
    c.loop-disj-test.true c.disj-item.is c.loop-disj.invariant c.of_disj.ensures c.larger-depth.ensures

pub of_disjs-returns : goal.of_disjs-returns
of_disjs-returns t c =
    all-walked (file_of c.args.measure.now) (known_of c.args.measure.now) (λ xs. OfDisjs (file_of c.args.measure.now) (known_of c.args.measure.now) xs c.args.table.now c.loop-disj.table c.loop-disj.depth) c.args.disjs.now c.loop-disj.disj-index (omega arith) c.loop-disj.invariant

pub of_parts-loop-part-init : goal.of_parts-loop-part-init
of_parts-loop-part-init t c =
    measured-none (file_of c.args.measure.now) (known_of c.args.measure.now) c.args.table.now

pub of_parts-loop-part-preserved : goal.of_parts-loop-part-preserved
of_parts-loop-part-preserved t c =
    parts-next (file_of c.args.measure.now) (known_of c.args.measure.now) c.args.parts.now c.loop-part.part-index c.part-item.result c.args.table.now c.loop-part.table c.of_part.new.table _ _ _
    c.loop-part-test.true c.part-item.is c.loop-part.invariant c.of_part.ensures c.larger-depth.ensures

pub of_parts-returns : goal.of_parts-returns
of_parts-returns t c =
    all-walked (file_of c.args.measure.now) (known_of c.args.measure.now) (λ xs. OfParts (file_of c.args.measure.now) (known_of c.args.measure.now) xs c.args.table.now c.loop-part.table c.loop-part.depth) c.args.parts.now c.loop-part.part-index (omega arith) c.loop-part.invariant

pub of_exprs-loop-expr-init : goal.of_exprs-loop-expr-init
of_exprs-loop-expr-init t c =
    measured-none (file_of c.args.measure.now) (known_of c.args.measure.now) c.args.table.now

pub of_exprs-loop-expr-preserved : goal.of_exprs-loop-expr-preserved
of_exprs-loop-expr-preserved t c =
    exprs-next (file_of c.args.measure.now) (known_of c.args.measure.now) c.args.exprs.now c.loop-expr.expr-index c.expr-item.result c.args.table.now c.loop-expr.table c.of_expr.new.table _ _ _
    c.loop-expr-test.true c.expr-item.is c.loop-expr.invariant c.of_expr.ensures c.larger-depth.ensures

pub of_exprs-returns : goal.of_exprs-returns
of_exprs-returns t c =
    all-walked (file_of c.args.measure.now) (known_of c.args.measure.now) (λ xs. OfExprs (file_of c.args.measure.now) (known_of c.args.measure.now) xs c.args.table.now c.loop-expr.table c.loop-expr.depth) c.args.exprs.now c.loop-expr.expr-index (omega arith) c.loop-expr.invariant

pub of_expr-returns-in-Literal : goal.of_expr-returns-in-Literal
of_expr-returns-in-Literal t c =
    literal-measured (file_of c.args.measure.now) (known_of c.args.measure.now) c.args.expr.now c.in-Literal.site c.in-Literal.tree c.args.table.now c.note.new.table c.in-Literal.is c.note.ensures

pub of_expr-returns-in-Function : goal.of_expr-returns-in-Function
of_expr-returns-in-Function t c =
    function-measured (file_of c.args.measure.now) (known_of c.args.measure.now) c.args.expr.now c.in-Function.site c.in-Function.name c.in-Function.args c.deref.result.now c.args.table.now c.of_exprs.new.table c.note-in-Function.new.table _ _
    c.in-Function.is c.deref.ensures.value c.of_exprs.ensures c.deeper-depth.ensures c.note-in-Function.ensures

pub of_expr-returns-in-Query : goal.of_expr-returns-in-Query
of_expr-returns-in-Query t c =
    query-expr (file_of c.args.measure.now) (known_of c.args.measure.now) c.args.expr.now c.in-Query.query _ _ _ c.in-Query.is c.of_query.ensures

pub of_expr-returns-in-Found : goal.of_expr-returns-in-Found
of_expr-returns-in-Found t c =
    found-measured (file_of c.args.measure.now) (known_of c.args.measure.now) c.args.expr.now c.in-Found.site c.in-Found.query c.args.table.now c.of_query-in-Found.new.table c.note-in-Found.new.table _ _
    c.in-Found.is c.of_query-in-Found.ensures c.deeper-depth-in-Found.ensures c.note-in-Found.ensures

pub of_opt_conds-returns-in-Some : goal.of_opt_conds-returns-in-Some
of_opt_conds-returns-in-Some t c =
    subst (λ o. Measured (file_of c.args.measure.now) (known_of c.args.measure.now) (pieces_opt_conds (see_opt_conds o)) (depth_opt_conds (file_of c.args.measure.now) (known_of c.args.measure.now) (see_opt_conds o)) c.args.table.now c.of_conds.new.table c.of_conds.result) (sym c.in-Some.is) c.of_conds.ensures

pub of_opt_conds-returns-in-None : goal.of_opt_conds-returns-in-None
of_opt_conds-returns-in-None t c =
    subst (λ o. Measured (file_of c.args.measure.now) (known_of c.args.measure.now) (pieces_opt_conds (see_opt_conds o)) (depth_opt_conds (file_of c.args.measure.now) (known_of c.args.measure.now) (see_opt_conds o)) c.args.table.now c.args.table.now 0) (sym c.in-None.is) (measured-none (file_of c.args.measure.now) (known_of c.args.measure.now) c.args.table.now)

pub of_opt_expr-returns-in-Some : goal.of_opt_expr-returns-in-Some
of_opt_expr-returns-in-Some t c =
    subst (λ o. Measured (file_of c.args.measure.now) (known_of c.args.measure.now) (pieces_opt_expr (see_opt_expr o)) (depth_opt_expr (file_of c.args.measure.now) (known_of c.args.measure.now) (see_opt_expr o)) c.args.table.now c.of_expr.new.table c.of_expr.result) (sym c.in-Some.is) c.of_expr.ensures

pub of_opt_expr-returns-in-None : goal.of_opt_expr-returns-in-None
of_opt_expr-returns-in-None t c =
    subst (λ o. Measured (file_of c.args.measure.now) (known_of c.args.measure.now) (pieces_opt_expr (see_opt_expr o)) (depth_opt_expr (file_of c.args.measure.now) (known_of c.args.measure.now) (see_opt_expr o)) c.args.table.now c.args.table.now 0) (sym c.in-None.is) (measured-none (file_of c.args.measure.now) (known_of c.args.measure.now) c.args.table.now)

pub of_part-returns-in-Block : goal.of_part-returns-in-Block
of_part-returns-in-Block t c =
    block-measured (file_of c.args.measure.now) (known_of c.args.measure.now) c.args.part.now c.in-Block.site c.in-Block.any c.in-Block.head c.in-Block.body c.args.table.now c.of_query-head.new.table c.of_body-body.new.table _ _ _ _
    c.in-Block.is c.of_query-head.ensures c.of_body-body.ensures c.larger.ensures c.deeper.ensures

pub of_part-returns-in-When : goal.of_part-returns-in-When
of_part-returns-in-When t c =
    when-measured (file_of c.args.measure.now) (known_of c.args.measure.now) c.args.part.now c.in-When.site c.in-When.cond c.in-When.body c.args.table.now c.of_conds-cond.new.table c.of_body-body-in-When.new.table _ _ _ _
    c.in-When.is c.of_conds-cond.ensures c.of_body-body-in-When.ensures c.larger-in-When.ensures c.deeper-in-When.ensures

pub of_part-returns-in-Kinds : goal.of_part-returns-in-Kinds
of_part-returns-in-Kinds t c =
    kinds-measured (file_of c.args.measure.now) (known_of c.args.measure.now) c.args.part.now c.in-Kinds.site c.in-Kinds.name c.in-Kinds.cond c.in-Kinds.body c.args.table.now c.of_opt_conds-cond.new.table c.of_body-body-in-Kinds.new.table _ _ _ _
    c.in-Kinds.is c.of_opt_conds-cond.ensures c.of_body-body-in-Kinds.ensures c.larger-in-Kinds.ensures c.deeper-in-Kinds.ensures

pub of_part-returns-in-Test : goal.of_part-returns-in-Test
of_part-returns-in-Test t c =
    test-measured (file_of c.args.measure.now) (known_of c.args.measure.now) c.args.part.now c.in-Test.site c.in-Test.any c.in-Test.left c.in-Test.op c.in-Test.not c.in-Test.right c.in-Test.note c.args.table.now c.of_query-left.new.table c.of_opt_expr-right.new.table _ _ _ _
    c.in-Test.is c.of_query-left.ensures c.of_opt_expr-right.ensures c.larger-in-Test.ensures c.deeper-in-Test.ensures

pub of_part-returns-in-Refer : goal.of_part-returns-in-Refer
of_part-returns-in-Refer t c =
    refer-measured (file_of c.args.measure.now) (known_of c.args.measure.now) c.args.part.now c.in-Refer.site c.in-Refer.not c.in-Refer.name c.in-Refer.note c.args.table.now _ _ c.in-Refer.is c.target.ensures c.deeper-in-Refer.ensures

pub of_part-returns-in-Call : goal.of_part-returns-in-Call
of_part-returns-in-Call t c =
    call-measured (file_of c.args.measure.now) (known_of c.args.measure.now) c.args.part.now c.in-Call.site c.in-Call.not c.in-Call.name c.in-Call.args c.in-Call.note c.deref.result.now c.args.table.now c.of_exprs-args.new.table _ _ _
    c.in-Call.is c.deref.ensures.value c.of_exprs-args.ensures c.target-in-Call.ensures c.deeper_by.ensures

pub of_query-loop-step-init : goal.of_query-loop-step-init
of_query-loop-step-init t c =
    measured-none (file_of c.args.measure.now) (known_of c.args.measure.now) c.args.table.now

pub of_query-loop-step-preserved : goal.of_query-loop-step-preserved
of_query-loop-step-preserved t c =
    steps-next (file_of c.args.measure.now) (known_of c.args.measure.now) c.args.query.now c.deref-step-items.result.now c.loop-step.step-index c.step-item.result c.args.table.now c.loop-step.table c.of_step.new.table c.note.new.table _ _ _ _
    c.deref-step-items.ensures.value c.loop-step-test.true c.step-item.is c.loop-step.invariant c.of_step.ensures c.larger-depth.ensures c.deeper.ensures c.note.ensures

pub of_query-returns : goal.of_query-returns
of_query-returns t c =
    query-measured (file_of c.args.measure.now) (known_of c.args.measure.now) c.args.query.now c.deref-step-items.result.now c.args.table.now c.loop-step.table c.note-2.new.table _ _ c.deref-step-items.ensures.value
    (all-walked (file_of c.args.measure.now) (known_of c.args.measure.now) (λ xs. OfSteps (file_of c.args.measure.now) (known_of c.args.measure.now) (see_query c.args.query.now) xs c.args.table.now c.loop-step.table c.loop-step.depth) c.deref-step-items.result.now c.loop-step.step-index (omega arith) c.loop-step.invariant)
    c.deeper-whole.ensures c.note-2.ensures

pub of_step-returns-in-Var : goal.of_step-returns-in-Var
of_step-returns-in-Var t c =
    var-step (file_of c.args.measure.now) (known_of c.args.measure.now) c.args.step.now c.in-Var.field-0 c.args.table.now _ _ c.in-Var.is c.bound.ensures c.deeper.ensures

pub of_step-returns-in-Splice : goal.of_step-returns-in-Splice
of_step-returns-in-Splice t c =
    splice-step (file_of c.args.measure.now) (known_of c.args.measure.now) c.args.step.now c.in-Splice.field-0 c.args.table.now _ _ c.in-Splice.is c.bound-in-Splice.ensures c.deeper-in-Splice.ensures

pub of_step-returns-in-Filter : goal.of_step-returns-in-Filter
of_step-returns-in-Filter t c =
    filter-step (file_of c.args.measure.now) (known_of c.args.measure.now) c.args.step.now c.in-Filter.field-0 c.in-Filter.conds _ _ _ c.in-Filter.is c.of_conds.ensures

pub of_step-returns-in-Keys : goal.of_step-returns-in-Keys
of_step-returns-in-Keys t c =
    keys-step (file_of c.args.measure.now) (known_of c.args.measure.now) c.args.step.now c.in-Keys.capture c.in-Keys.op c.in-Keys.not c.in-Keys.right _ _ _ c.in-Keys.is c.of_expr.ensures

pub of_step-returns-in-This : goal.of_step-returns-in-This
of_step-returns-in-This t c =
    quiet-step (file_of c.args.measure.now) (known_of c.args.measure.now) c.args.step.now form.This (λ n. sx.this n) c.args.table.now c.in-This.is (search (rules, the_lemmas)) refl refl

pub of_step-returns-in-Key : goal.of_step-returns-in-Key
of_step-returns-in-Key t c =
    quiet-step (file_of c.args.measure.now) (known_of c.args.measure.now) c.args.step.now (form.Key c.in-Key.field-0) (λ n. sx.key n c.in-Key.field-0) c.args.table.now c.in-Key.is (search (rules, the_lemmas)) refl refl

pub of_step-returns-in-Index : goal.of_step-returns-in-Index
of_step-returns-in-Index t c =
    quiet-step (file_of c.args.measure.now) (known_of c.args.measure.now) c.args.step.now (form.Index c.in-Index.field-0) (λ n. sx.index n c.in-Index.field-0) c.args.table.now c.in-Index.is (search (rules, the_lemmas)) refl refl

pub of_step-returns-in-Every : goal.of_step-returns-in-Every
of_step-returns-in-Every t c =
    quiet-step (file_of c.args.measure.now) (known_of c.args.measure.now) c.args.step.now form.Every (λ n. sx.every n) c.args.table.now c.in-Every.is (search (rules, the_lemmas)) refl refl

pub of_step-returns-in-Items : goal.of_step-returns-in-Items
of_step-returns-in-Items t c =
    quiet-step (file_of c.args.measure.now) (known_of c.args.measure.now) c.args.step.now form.Items (λ n. sx.items n) c.args.table.now c.in-Items.is (search (rules, the_lemmas)) refl refl
