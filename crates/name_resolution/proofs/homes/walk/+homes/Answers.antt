use Rattle.std.proofs.Common.{refl, sym, ap, ◌∙◌, rules}
use Rattle.guard_syntax.specs.Syntax as sx
use Rattle.guard_syntax.specs.code.Seen.{see_part, see_step, see_expr, see_opt_conds, see_opt_expr}
use Rattle.guard_syntax.specs.declared.syntax.Body.{the_lemmas}
use Rattle.guard_syntax.specs.declared.syntax.StepForm as form
use Rattle.rule_names.specs.EnclosingScopes.{with_homes, homes_part, homes_step, homes_expr, homes_opt_conds, homes_opt_expr}
use Rattle.name_resolution.proofs.HomesInTurn.{of_lets, of_disjs, of_parts, of_steps, of_exprs, next, end, lets-next, disjs-next, body-homes, conds-homes, query-homes, block-homes, when-homes, kinds-homes, test-homes, refer-homes, call-homes, step-homes, filter-homes, keys-homes, literal-homes, function-homes, asked-homes, found-homes}
use Rattle.name_resolution.proofs.homes.walk.+homes.Goals as goal

pub in_body-returns : goal.in_body-returns
in_body-returns t c =
    body-homes c.args.home c.args.body.now c.deref.result.now c.deref-2.result.now c.args.table.now c.note.new.table c.in_lets.new.table c.in_disjs.new.table
    c.deref.ensures.value c.deref-2.ensures.value c.note.ensures c.in_lets.ensures c.in_disjs.ensures

pub in_lets-loop-given-preserved : goal.in_lets-loop-given-preserved
in_lets-loop-given-preserved t c =
    lets-next c.args.home c.args.lets.now c.loop-given.given-index c.given-item.result _ c.loop-given.table c.note.new.table c.in_expr.new.table
    c.loop-given-test.true c.given-item.is c.note.ensures c.in_expr.ensures c.loop-given.invariant

pub in_lets-returns : goal.in_lets-returns
in_lets-returns t c = end (of_lets c.args.home) refl c.args.lets.now c.loop-given.given-index _ c.loop-given.table c.loop-given-test.false c.loop-given.invariant

pub in_conds-returns : goal.in_conds-returns
in_conds-returns t c = conds-homes c.args.home c.args.conds.now c.deref.result.now c.args.table.now c.note.new.table c.in_disjs.new.table c.deref.ensures.value c.note.ensures c.in_disjs.ensures

pub in_opt_conds-returns-in-Some : goal.in_opt_conds-returns-in-Some
in_opt_conds-returns-in-Some t c = c.in_conds.ensures ∙ ap (λ o. with_homes c.args.table.now (homes_opt_conds c.args.home (see_opt_conds o))) (sym c.in-Some.is)

pub in_opt_conds-returns-in-None : goal.in_opt_conds-returns-in-None
in_opt_conds-returns-in-None t c = ap (λ o. with_homes c.args.table.now (homes_opt_conds c.args.home (see_opt_conds o))) (sym c.in-None.is)

pub in_disjs-loop-disj-preserved : goal.in_disjs-loop-disj-preserved
in_disjs-loop-disj-preserved t c =
    disjs-next c.args.home c.args.disjs.now c.loop-disj.disj-index c.disj-item.result c.deref.result.now _ c.loop-disj.table c.note.new.table c.in_parts.new.table
    c.loop-disj-test.true c.disj-item.is c.deref.ensures.value c.note.ensures c.in_parts.ensures c.loop-disj.invariant

pub in_disjs-returns : goal.in_disjs-returns
in_disjs-returns t c = end (of_disjs c.args.home) refl c.args.disjs.now c.loop-disj.disj-index _ c.loop-disj.table c.loop-disj-test.false c.loop-disj.invariant

pub in_parts-loop-part-preserved : goal.in_parts-loop-part-preserved
in_parts-loop-part-preserved t c =
    next (of_parts c.args.home) (λ y. homes_part c.args.home (see_part y)) (λ y ys. refl) c.args.parts.now c.loop-part.part-index c.part-item.result _ c.loop-part.table c.in_part.new.table
    c.loop-part-test.true c.part-item.is c.in_part.ensures c.loop-part.invariant

pub in_parts-returns : goal.in_parts-returns
in_parts-returns t c = end (of_parts c.args.home) refl c.args.parts.now c.loop-part.part-index _ c.loop-part.table c.loop-part-test.false c.loop-part.invariant

pub in_part-returns-in-Block : goal.in_part-returns-in-Block
in_part-returns-in-Block t c =
    block-homes c.args.home c.args.part.now c.in-Block.site c.in-Block.any c.in-Block.head c.in-Block.body _ c.args.table.now c.note.new.table c.in_query.new.table c.in_body.new.table
    c.in-Block.is c.site.ensures c.note.ensures c.in_query.ensures c.in_body.ensures

pub in_part-returns-in-When : goal.in_part-returns-in-When
in_part-returns-in-When t c =
    when-homes c.args.home c.args.part.now c.in-When.site c.in-When.cond c.in-When.body _ c.args.table.now c.note.new.table c.in_conds.new.table c.in_body-in-When.new.table
    c.in-When.is c.site.ensures c.note.ensures c.in_conds.ensures c.in_body-in-When.ensures

pub in_part-returns-in-Kinds : goal.in_part-returns-in-Kinds
in_part-returns-in-Kinds t c =
    kinds-homes c.args.home c.args.part.now c.in-Kinds.site c.in-Kinds.name c.in-Kinds.cond c.in-Kinds.body _ c.args.table.now c.note.new.table c.in_opt_conds.new.table c.in_body-in-Kinds.new.table
    c.in-Kinds.is c.site.ensures c.note.ensures c.in_opt_conds.ensures c.in_body-in-Kinds.ensures

pub in_part-returns-in-Test : goal.in_part-returns-in-Test
in_part-returns-in-Test t c =
    test-homes c.args.home c.args.part.now c.in-Test.site c.in-Test.any c.in-Test.left c.in-Test.op c.in-Test.not c.in-Test.right c.in-Test.note _ c.args.table.now c.note.new.table c.in_query-in-Test.new.table c.in_opt_expr.new.table
    c.in-Test.is c.site.ensures c.note.ensures c.in_query-in-Test.ensures c.in_opt_expr.ensures

pub in_part-returns-in-Refer : goal.in_part-returns-in-Refer
in_part-returns-in-Refer t c =
    refer-homes c.args.home c.args.part.now c.in-Refer.site c.in-Refer.not c.in-Refer.name c.in-Refer.note _ c.args.table.now c.note.new.table c.in-Refer.is c.site.ensures c.note.ensures

pub in_part-returns-in-Call : goal.in_part-returns-in-Call
in_part-returns-in-Call t c =
    call-homes c.args.home c.args.part.now c.in-Call.site c.in-Call.not c.in-Call.name c.in-Call.args c.in-Call.note c.deref.result.now _ c.args.table.now c.note.new.table c.in_exprs.new.table
    c.in-Call.is c.deref.ensures.value c.site.ensures c.note.ensures c.in_exprs.ensures

pub in_query-loop-step-preserved : goal.in_query-loop-step-preserved
in_query-loop-step-preserved t c =
    next (of_steps c.args.home) (λ y. homes_step c.args.home (see_step y)) (λ y ys. refl) c.deref-step-items.result.now c.loop-step.step-index c.step-item.result _ c.loop-step.table c.in_step.new.table
    c.loop-step-test.true c.step-item.is c.in_step.ensures c.loop-step.invariant

pub in_query-returns : goal.in_query-returns
in_query-returns t c =
    query-homes c.args.home c.args.query.now c.deref-step-items.result.now c.args.table.now c.note.new.table c.loop-step.table c.deref-step-items.ensures.value c.note.ensures
    (end (of_steps c.args.home) refl c.deref-step-items.result.now c.loop-step.step-index _ c.loop-step.table c.loop-step-test.false c.loop-step.invariant)

pub in_step-returns-in-Filter : goal.in_step-returns-in-Filter
in_step-returns-in-Filter t c =
    filter-homes c.args.home c.args.step.now c.in-Filter.field-0 c.in-Filter.conds c.args.table.now c.note.new.table c.in_conds.new.table c.in-Filter.is c.note.ensures c.in_conds.ensures

pub in_step-returns-in-Keys : goal.in_step-returns-in-Keys
in_step-returns-in-Keys t c =
    keys-homes c.args.home c.args.step.now c.in-Keys.capture c.in-Keys.op c.in-Keys.not c.in-Keys.right c.args.table.now c.note.new.table c.in_expr.new.table c.in-Keys.is c.note.ensures c.in_expr.ensures

pub in_step-returns-in-This : goal.in_step-returns-in-This
in_step-returns-in-This t c =
    step-homes c.args.home c.args.step.now form.This (λ n. sx.this n) _ c.args.table.now c.note.new.table _ c.in-This.is (search (rules, the_lemmas)) refl c.note.ensures refl

pub in_step-returns-in-Var : goal.in_step-returns-in-Var
in_step-returns-in-Var t c =
    step-homes c.args.home c.args.step.now (form.Var c.in-Var.field-0) (λ n. sx.var n c.in-Var.field-0) _ c.args.table.now c.note.new.table _ c.in-Var.is (search (rules, the_lemmas)) refl c.note.ensures refl

pub in_step-returns-in-Key : goal.in_step-returns-in-Key
in_step-returns-in-Key t c =
    step-homes c.args.home c.args.step.now (form.Key c.in-Key.field-0) (λ n. sx.key n c.in-Key.field-0) _ c.args.table.now c.note.new.table _ c.in-Key.is (search (rules, the_lemmas)) refl c.note.ensures refl

pub in_step-returns-in-Index : goal.in_step-returns-in-Index
in_step-returns-in-Index t c =
    step-homes c.args.home c.args.step.now (form.Index c.in-Index.field-0) (λ n. sx.index n c.in-Index.field-0) _ c.args.table.now c.note.new.table _ c.in-Index.is (search (rules, the_lemmas)) refl c.note.ensures refl

pub in_step-returns-in-Every : goal.in_step-returns-in-Every
in_step-returns-in-Every t c =
    step-homes c.args.home c.args.step.now form.Every (λ n. sx.every n) _ c.args.table.now c.note.new.table _ c.in-Every.is (search (rules, the_lemmas)) refl c.note.ensures refl

pub in_step-returns-in-Items : goal.in_step-returns-in-Items
in_step-returns-in-Items t c =
    step-homes c.args.home c.args.step.now form.Items (λ n. sx.items n) _ c.args.table.now c.note.new.table _ c.in-Items.is (search (rules, the_lemmas)) refl c.note.ensures refl

pub in_step-returns-in-Splice : goal.in_step-returns-in-Splice
in_step-returns-in-Splice t c =
    step-homes c.args.home c.args.step.now (form.Splice c.in-Splice.field-0) (λ n. sx.splice n c.in-Splice.field-0) _ c.args.table.now c.note.new.table _ c.in-Splice.is (search (rules, the_lemmas)) refl c.note.ensures refl

pub in_expr-returns-in-Literal : goal.in_expr-returns-in-Literal
in_expr-returns-in-Literal t c = literal-homes c.args.home c.args.expr.now c.in-Literal.site c.in-Literal.tree c.args.table.now c.note.new.table c.in-Literal.is c.note.ensures

pub in_expr-returns-in-Function : goal.in_expr-returns-in-Function
in_expr-returns-in-Function t c =
    function-homes c.args.home c.args.expr.now c.in-Function.site c.in-Function.name c.in-Function.args c.deref.result.now c.args.table.now c.note-in-Function.new.table c.in_exprs.new.table
    c.in-Function.is c.deref.ensures.value c.note-in-Function.ensures c.in_exprs.ensures

pub in_expr-returns-in-Query : goal.in_expr-returns-in-Query
in_expr-returns-in-Query t c = asked-homes c.args.home c.args.expr.now c.in-Query.query c.args.table.now c.in_query.new.table c.in-Query.is c.in_query.ensures

pub in_expr-returns-in-Found : goal.in_expr-returns-in-Found
in_expr-returns-in-Found t c =
    found-homes c.args.home c.args.expr.now c.in-Found.site c.in-Found.query c.args.table.now c.note-in-Found.new.table c.in_query-in-Found.new.table c.in-Found.is c.note-in-Found.ensures c.in_query-in-Found.ensures

pub in_opt_expr-returns-in-Some : goal.in_opt_expr-returns-in-Some
in_opt_expr-returns-in-Some t c = c.in_expr.ensures ∙ ap (λ o. with_homes c.args.table.now (homes_opt_expr c.args.home (see_opt_expr o))) (sym c.in-Some.is)

pub in_opt_expr-returns-in-None : goal.in_opt_expr-returns-in-None
in_opt_expr-returns-in-None t c = ap (λ o. with_homes c.args.table.now (homes_opt_expr c.args.home (see_opt_expr o))) (sym c.in-None.is)

pub in_exprs-loop-expr-preserved : goal.in_exprs-loop-expr-preserved
in_exprs-loop-expr-preserved t c =
    next (of_exprs c.args.home) (λ y. homes_expr c.args.home (see_expr y)) (λ y ys. refl) c.args.exprs.now c.loop-expr.expr-index c.expr-item.result _ c.loop-expr.table c.in_expr.new.table
    c.loop-expr-test.true c.expr-item.is c.in_expr.ensures c.loop-expr.invariant

pub in_exprs-returns : goal.in_exprs-returns
in_exprs-returns t c = end (of_exprs c.args.home) refl c.args.exprs.now c.loop-expr.expr-index _ c.loop-expr.table c.loop-expr-test.false c.loop-expr.invariant
