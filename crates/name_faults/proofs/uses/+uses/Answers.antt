use Rattle.std.proofs.Common.{◌∙◌, ap, rules, List, ℕ, Option, Some, None}
use Rattle.std.proofs.lemmas.Result.{IfOk-weaker}
use Rattle.std.proofs.Common.{◌++◌}
use Rattle.guard_syntax.specs.Syntax as sx
use Rattle.guard_syntax.specs.code.Seen.{see_conds, see_expr}
use Rattle.guard_syntax.specs.declared.syntax.Body.{the_lemmas}
use Rattle.guard_syntax.specs.declared.syntax.Expr as expr
use Rattle.guard_syntax.specs.declared.syntax.StepForm as form
use Rattle.rule_names.specs.Faults.{Fault, first_from}
use Rattle.rule_names.specs.Scopes.{given_named}
use Rattle.rule_names.specs.Uses.{wrong_variable}
use Rattle.std.specs.declared.vec.Vec.{Vec}
use Rattle.std.specs.declared.alloc.Global.{Global}
use Rattle.name_scopes.specs.declared.scopes.Given.{Given}
use Rattle.name_scopes.specs.code.Seen.{see_best, see_given}
use Rattle.name_faults.specs.code.Found.{firsts, see_found}
use Rattle.name_faults.specs.code.FoundParts.{in_opt_conds, in_part, in_step, in_expr, in_opt_expr}
use Rattle.name_scopes.specs.code.ScopeChains.{visible_in}
use Rattle.name_faults.specs.code.RuleArities.{rules_of, places_of}
use Rattle.name_faults.proofs.FoundInTurn.{lets-next, lets-end, disjs-next, disjs-end, parts-next, parts-end, steps-next, steps-end, exprs-next, exprs-end, query-steps, block-found, when-found, kinds-found, test-found, function-found, call-found, body-found, filter-found}
use Rattle.name_faults.proofs.ScopeParts.{of-any-file, of-conds, of-step, of-refer, of-literal, of-asked, of-found, of-some-conds, of-some-expr}
use Rattle.name_faults.proofs.uses.+uses.Goals as goal

pub in_body-returns : goal.in_body-returns
in_body-returns t c =
    let own = c.in_ok-own.ensures in
    let visible = c.inside-inner.ensures.visible ∙ ap (λ (v : Vec Given Global). see_given v.items ++ visible_in c.args.scope.now) own.0 in
    IfOk-weaker c.in_disjs.result _ _ (λ found e. e ∙ body-found (rules_of c.args.walk.now) (places_of c.args.walk.now) (visible_in c.args.scope.now) (see_found c.args.best) (see_found c.in_ok-own.best) (see_found c.in_ok-best.best) c.args.body.now c.args.params.now (see_given c.in_ok-names.names.items) (visible_in c.inside-inner.result) c.deref.result.now c.deref-2.result.now
    c.in_ok-names.ensures visible c.deref.ensures.value c.deref-2.ensures.value own.1 c.in_ok-best.ensures) c.in_disjs.ensures

pub in_filter-returns : goal.in_filter-returns
in_filter-returns t c =
    let own = c.in_ok-own.ensures in
    let visible = c.inside-inner.ensures.visible ∙ ap (λ (v : Vec Given Global). see_given v.items ++ visible_in c.args.scope.now) own.0 in
    IfOk-weaker c.in_disjs.result _ _ (λ found e. e ∙ filter-found (rules_of c.args.walk.now) (places_of c.args.walk.now) (visible_in c.args.scope.now) (see_found c.args.best) (see_found c.in_ok-own.best) c.args.conds.now (see_given c.in_ok-names.names.items) (visible_in c.inside-inner.result) c.deref.result.now
    c.in_ok-names.ensures visible c.deref.ensures.value own.1) c.in_disjs.ensures

pub in_expr-returns-in-Function : goal.in_expr-returns-in-Function
in_expr-returns-in-Function t c =
    IfOk-weaker c.in_exprs.result _ _ (λ found e. e ∙ function-found (rules_of c.args.walk.now) (places_of c.args.walk.now) (visible_in c.args.scope.now) (see_found c.args.best) (firsts (see_best c.args.best.again) (see_best c.wrong_function.result)) c.args.expr.now c.in-Function.site c.in-Function.name c.in-Function.args c.deref.result.now c.deref-in-Function.result.now
    c.in-Function.is c.deref.ensures.value c.deref-in-Function.ensures.value (ap (λ (w : Option Fault). firsts (see_best c.args.best.again) w) c.wrong_function.ensures)) c.in_exprs.ensures

pub in_part-returns-in_ok-best-in-Block : goal.in_part-returns-in_ok-best-in-Block
in_part-returns-in_ok-best-in-Block t c =
    IfOk-weaker c.in_body.result _ _ (λ found e. e ∙ block-found (rules_of c.args.walk.now) (places_of c.args.walk.now) (visible_in c.args.scope.now) (see_found c.args.best) (see_found c.in_ok-best-in-Block.best) c.args.part.now c.in-Block.site c.in-Block.any c.in-Block.head c.in-Block.body c.in-Block.is c.in_ok-best-in-Block.ensures) c.in_body.ensures

pub in_part-returns-in_ok-best-in-When : goal.in_part-returns-in_ok-best-in-When
in_part-returns-in_ok-best-in-When t c =
    IfOk-weaker c.in_body-in-When.result _ _ (λ found e. e ∙ when-found (rules_of c.args.walk.now) (places_of c.args.walk.now) (visible_in c.args.scope.now) (see_found c.args.best) (see_found c.in_ok-best-in-When.best) c.args.part.now c.in-When.site c.in-When.cond c.in-When.body c.deref.result.now c.in-When.is c.deref.ensures.value c.in_ok-best-in-When.ensures) c.in_body-in-When.ensures

pub in_part-returns-in_ok-best-in-Kinds : goal.in_part-returns-in_ok-best-in-Kinds
in_part-returns-in_ok-best-in-Kinds t c =
    IfOk-weaker c.in_body-in-Kinds.result _ _ (λ found e. e ∙ kinds-found (rules_of c.args.walk.now) (places_of c.args.walk.now) (visible_in c.args.scope.now) (see_found c.args.best) (see_found c.in_ok-best-in-Kinds.best) c.args.part.now c.in-Kinds.site c.in-Kinds.name c.in-Kinds.cond c.in-Kinds.body c.in-Kinds.is c.in_ok-best-in-Kinds.ensures) c.in_body-in-Kinds.ensures

pub in_part-returns-in_ok-best-in-Test : goal.in_part-returns-in_ok-best-in-Test
in_part-returns-in_ok-best-in-Test t c =
    IfOk-weaker c.in_opt_expr.result _ _ (λ found e. e ∙ test-found (rules_of c.args.walk.now) (places_of c.args.walk.now) (visible_in c.args.scope.now) (see_found c.args.best) (see_found c.in_ok-best-in-Test.best) c.args.part.now c.in-Test.site c.in-Test.any c.in-Test.left c.in-Test.op c.in-Test.not c.in-Test.right c.in-Test.note c.in-Test.is c.in_ok-best-in-Test.ensures) c.in_opt_expr.ensures

pub in_lets-loop-given-preserved : goal.in_lets-loop-given-preserved
in_lets-loop-given-preserved t c =
    lets-next (rules_of c.args.walk.now) (places_of c.args.walk.now) (visible_in c.args.scope.now) c.args.lets.now c.loop-given.given-index c.given-item.result _ (see_found c.loop-given.best) (see_found c.in_ok-best.best) c.loop-given-test.true c.given-item.is c.in_ok-best.ensures c.loop-given.invariant

pub in_disjs-loop-disj-preserved : goal.in_disjs-loop-disj-preserved
in_disjs-loop-disj-preserved t c =
    disjs-next (rules_of c.args.walk.now) (places_of c.args.walk.now) (visible_in c.args.scope.now) c.args.disjs.now c.loop-disj.disj-index c.disj-item.result c.deref.result.now _ (see_found c.loop-disj.best) (see_found c.in_ok-best.best) c.loop-disj-test.true c.disj-item.is c.deref.ensures.value c.in_ok-best.ensures c.loop-disj.invariant

pub in_parts-loop-part-preserved : goal.in_parts-loop-part-preserved
in_parts-loop-part-preserved t c =
    parts-next (rules_of c.args.walk.now) (places_of c.args.walk.now) (visible_in c.args.scope.now) c.args.parts.now c.loop-part.part-index c.part-item.result _ (see_found c.loop-part.best) (see_found c.in_ok-best.best) c.loop-part-test.true c.part-item.is c.in_ok-best.ensures c.loop-part.invariant

pub in_exprs-loop-expr-preserved : goal.in_exprs-loop-expr-preserved
in_exprs-loop-expr-preserved t c =
    exprs-next (rules_of c.args.walk.now) (places_of c.args.walk.now) (visible_in c.args.scope.now) c.args.exprs.now c.loop-expr.expr-index c.expr-item.result _ (see_found c.loop-expr.best) (see_found c.in_ok-best.best) c.loop-expr-test.true c.expr-item.is c.in_ok-best.ensures c.loop-expr.invariant

pub in_query-loop-step-preserved : goal.in_query-loop-step-preserved
in_query-loop-step-preserved t c =
    steps-next (rules_of c.args.walk.now) (places_of c.args.walk.now) (visible_in c.args.scope.now) c.deref-step-items.result.now c.loop-step.step-index c.step-item.result _ (see_found c.loop-step.best) (see_found c.in_ok-best.best) c.loop-step-test.true c.step-item.is c.in_ok-best.ensures c.loop-step.invariant

pub in_opt_conds-returns-in-Some : goal.in_opt_conds-returns-in-Some
in_opt_conds-returns-in-Some t c = IfOk-weaker c.in_disjs.result _ _ (λ found e. e ∙ of-conds (λ (y : sx.Conds). in_opt_conds (rules_of c.args.walk.now) (places_of c.args.walk.now) (visible_in c.args.scope.now) (see_found c.args.best) (sx.with_conds y)) c.in-Some.conds c.deref.result.now c.deref.ensures.value ∙ of-some-conds (λ (y : sx.OptConds). in_opt_conds (rules_of c.args.walk.now) (places_of c.args.walk.now) (visible_in c.args.scope.now) (see_found c.args.best) y) c.args.conds.now (Some c.in-Some.conds) c.in-Some.is) c.in_disjs.ensures

pub in_opt_conds-returns-in-None : goal.in_opt_conds-returns-in-None
in_opt_conds-returns-in-None t c = of-some-conds (λ (y : sx.OptConds). in_opt_conds (rules_of c.args.walk.now) (places_of c.args.walk.now) (visible_in c.args.scope.now) (see_found c.args.best) y) c.args.conds.now None c.in-None.is

pub in_part-returns-in-Refer : goal.in_part-returns-in-Refer
in_part-returns-in-Refer t c = ap (λ (w : Option Fault). firsts (see_best c.args.best.again) w) c.wrong_reference.ensures ∙ of-refer (λ (y : sx.Part). in_part (rules_of c.args.walk.now) (places_of c.args.walk.now) (visible_in c.args.scope.now) (see_found c.args.best) y) c.args.part.now c.in-Refer.site c.in-Refer.not c.in-Refer.name c.in-Refer.note c.in-Refer.is

pub in_part-returns-in-Call : goal.in_part-returns-in-Call
in_part-returns-in-Call t c =
    IfOk-weaker c.in_exprs.result _ _ (λ found e. e ∙ call-found (rules_of c.args.walk.now) (places_of c.args.walk.now) (visible_in c.args.scope.now) (see_found c.args.best) (firsts (see_best c.args.best.again) (see_best c.wrong_call.result)) c.args.part.now c.in-Call.site c.in-Call.not c.in-Call.name c.in-Call.args c.in-Call.note c.deref-in-Call.result.now c.deref-in-Call-2.result.now
    c.in-Call.is c.deref-in-Call.ensures.value c.deref-in-Call-2.ensures.value (ap (λ (w : Option Fault). firsts (see_best c.args.best.again) w) c.wrong_call.ensures)) c.in_exprs.ensures

pub in_step-returns-in-Filter : goal.in_step-returns-in-Filter
in_step-returns-in-Filter t c = IfOk-weaker c.in_filter.result _ _ (λ found e. e ∙ of-step (λ (y : sx.Step). in_step (rules_of c.args.walk.now) (places_of c.args.walk.now) (visible_in c.args.scope.now) (see_found c.args.best) y) c.args.step.now (form.Filter c.in-Filter.field-0 c.in-Filter.conds) (λ n. sx.filter n c.in-Filter.field-0 (see_conds c.in-Filter.conds)) c.in-Filter.is (search (rules, the_lemmas))) c.in_filter.ensures

pub in_step-returns-in-Keys : goal.in_step-returns-in-Keys
in_step-returns-in-Keys t c = IfOk-weaker c.in_expr.result _ _ (λ found e. e ∙ of-step (λ (y : sx.Step). in_step (rules_of c.args.walk.now) (places_of c.args.walk.now) (visible_in c.args.scope.now) (see_found c.args.best) y) c.args.step.now (form.Keys c.in-Keys.capture c.in-Keys.op c.in-Keys.not c.in-Keys.right) (λ n. sx.keys n c.in-Keys.capture c.in-Keys.op c.in-Keys.not (see_expr c.in-Keys.right)) c.in-Keys.is (search (rules, the_lemmas))) c.in_expr.ensures

pub in_step-returns-in-This : goal.in_step-returns-in-This
in_step-returns-in-This t c = of-step (λ (y : sx.Step). in_step (rules_of c.args.walk.now) (places_of c.args.walk.now) (visible_in c.args.scope.now) (see_found c.args.best) y) c.args.step.now form.This (λ n. sx.this n) c.in-This.is (search (rules, the_lemmas))

pub in_step-returns-in-Key : goal.in_step-returns-in-Key
in_step-returns-in-Key t c = of-step (λ (y : sx.Step). in_step (rules_of c.args.walk.now) (places_of c.args.walk.now) (visible_in c.args.scope.now) (see_found c.args.best) y) c.args.step.now (form.Key c.in-Key.field-0) (λ n. sx.key n c.in-Key.field-0) c.in-Key.is (search (rules, the_lemmas))

pub in_step-returns-in-Index : goal.in_step-returns-in-Index
in_step-returns-in-Index t c = of-step (λ (y : sx.Step). in_step (rules_of c.args.walk.now) (places_of c.args.walk.now) (visible_in c.args.scope.now) (see_found c.args.best) y) c.args.step.now (form.Index c.in-Index.field-0) (λ n. sx.index n c.in-Index.field-0) c.in-Index.is (search (rules, the_lemmas))

pub in_step-returns-in-Every : goal.in_step-returns-in-Every
in_step-returns-in-Every t c = of-step (λ (y : sx.Step). in_step (rules_of c.args.walk.now) (places_of c.args.walk.now) (visible_in c.args.scope.now) (see_found c.args.best) y) c.args.step.now form.Every (λ n. sx.every n) c.in-Every.is (search (rules, the_lemmas))

pub in_step-returns-in-Items : goal.in_step-returns-in-Items
in_step-returns-in-Items t c = of-step (λ (y : sx.Step). in_step (rules_of c.args.walk.now) (places_of c.args.walk.now) (visible_in c.args.scope.now) (see_found c.args.best) y) c.args.step.now form.Items (λ n. sx.items n) c.in-Items.is (search (rules, the_lemmas))

pub in_expr-returns-in-Query : goal.in_expr-returns-in-Query
in_expr-returns-in-Query t c = IfOk-weaker c.in_query.result _ _ (λ found e. e ∙ of-asked (λ (y : sx.Expr). in_expr (rules_of c.args.walk.now) (places_of c.args.walk.now) (visible_in c.args.scope.now) (see_found c.args.best) y) c.args.expr.now c.in-Query.query c.in-Query.is) c.in_query.ensures

pub in_expr-returns-in-Found : goal.in_expr-returns-in-Found
in_expr-returns-in-Found t c = IfOk-weaker c.in_query-in-Found.result _ _ (λ found e. e ∙ of-found (λ (y : sx.Expr). in_expr (rules_of c.args.walk.now) (places_of c.args.walk.now) (visible_in c.args.scope.now) (see_found c.args.best) y) c.args.expr.now c.in-Found.site c.in-Found.query c.in-Found.is) c.in_query-in-Found.ensures

pub in_opt_expr-returns-in-Some : goal.in_opt_expr-returns-in-Some
in_opt_expr-returns-in-Some t c = IfOk-weaker c.in_expr.result _ _ (λ found e. e ∙ of-some-expr (λ (y : sx.OptExpr). in_opt_expr (rules_of c.args.walk.now) (places_of c.args.walk.now) (visible_in c.args.scope.now) (see_found c.args.best) y) c.args.expr.now (Some c.in-Some.expr) c.in-Some.is) c.in_expr.ensures

pub in_opt_expr-returns-in-None : goal.in_opt_expr-returns-in-None
in_opt_expr-returns-in-None t c = of-some-expr (λ (y : sx.OptExpr). in_opt_expr (rules_of c.args.walk.now) (places_of c.args.walk.now) (visible_in c.args.scope.now) (see_found c.args.best) y) c.args.expr.now None c.in-None.is

pub in_lets-returns : goal.in_lets-returns
in_lets-returns t c = lets-end (rules_of c.args.walk.now) (places_of c.args.walk.now) (visible_in c.args.scope.now) c.args.lets.now c.loop-given.given-index _ (see_found c.loop-given.best) c.loop-given-test.false c.loop-given.invariant

pub in_disjs-returns : goal.in_disjs-returns
in_disjs-returns t c = disjs-end (rules_of c.args.walk.now) (places_of c.args.walk.now) (visible_in c.args.scope.now) c.args.disjs.now c.loop-disj.disj-index _ (see_found c.loop-disj.best) c.loop-disj-test.false c.loop-disj.invariant

pub in_parts-returns : goal.in_parts-returns
in_parts-returns t c = parts-end (rules_of c.args.walk.now) (places_of c.args.walk.now) (visible_in c.args.scope.now) c.args.parts.now c.loop-part.part-index _ (see_found c.loop-part.best) c.loop-part-test.false c.loop-part.invariant

pub in_exprs-returns : goal.in_exprs-returns
in_exprs-returns t c = exprs-end (rules_of c.args.walk.now) (places_of c.args.walk.now) (visible_in c.args.scope.now) c.args.exprs.now c.loop-expr.expr-index _ (see_found c.loop-expr.best) c.loop-expr-test.false c.loop-expr.invariant

pub in_query-returns : goal.in_query-returns
in_query-returns t c = steps-end (rules_of c.args.walk.now) (places_of c.args.walk.now) (visible_in c.args.scope.now) c.deref-step-items.result.now c.loop-step.step-index _ (see_found c.loop-step.best) c.loop-step-test.false c.loop-step.invariant

pub in_query-loop-step-init : goal.in_query-loop-step-init
in_query-loop-step-init t c = query-steps (rules_of c.args.walk.now) (places_of c.args.walk.now) (visible_in c.args.scope.now) (see_found c.args.best) c.args.query.now c.deref-step-items.result.now c.deref-step-items.ensures.value

pub in_step-returns-in-Var : goal.in_step-returns-in-Var
in_step-returns-in-Var t c =
    ap (λ (w : Option Fault). firsts (see_best c.args.best.again) w) (c.wrong_variable.ensures
    ∙ ap (first_from (see_best c.args.best.wrong))
    (of-any-file (rules_of c.args.walk.now) (places_of c.args.walk.now) (given_named (visible_in c.args.scope.now) c.as_str.result.now) c.as_str.result.now c.place-at.result
    ∙ ap (λ (l : List ℕ). wrong_variable (rules_of c.args.walk.now) (places_of c.args.walk.now) (given_named (visible_in c.args.scope.now) l) l c.place-at.result) c.as_str.ensures
    ∙ ap (λ (n : ℕ). wrong_variable (rules_of c.args.walk.now) (places_of c.args.walk.now) (given_named (visible_in c.args.scope.now) c.in-Var.name) c.in-Var.name n) c.place-at.ensures))
    ∙ of-step (λ (y : sx.Step). in_step (rules_of c.args.walk.now) (places_of c.args.walk.now) (visible_in c.args.scope.now) (see_found c.args.best) y) c.args.step.now (form.Var c.in-Var.name) (λ n. sx.var n c.in-Var.name) c.in-Var.is (search (rules, the_lemmas))

pub in_step-returns-in-Splice : goal.in_step-returns-in-Splice
in_step-returns-in-Splice t c =
    ap (λ (w : Option Fault). firsts (see_best c.args.best.again) w) (c.wrong_variable-in-Splice.ensures
    ∙ ap (first_from (see_best c.args.best.wrong))
    (of-any-file (rules_of c.args.walk.now) (places_of c.args.walk.now) (given_named (visible_in c.args.scope.now) c.as_str-in-Splice.result.now) c.as_str-in-Splice.result.now c.at.result
    ∙ ap (λ (l : List ℕ). wrong_variable (rules_of c.args.walk.now) (places_of c.args.walk.now) (given_named (visible_in c.args.scope.now) l) l c.at.result) c.as_str-in-Splice.ensures
    ∙ ap (λ (n : ℕ). wrong_variable (rules_of c.args.walk.now) (places_of c.args.walk.now) (given_named (visible_in c.args.scope.now) c.in-Splice.name.text) c.in-Splice.name.text n) c.at.ensures))
    ∙ of-step (λ (y : sx.Step). in_step (rules_of c.args.walk.now) (places_of c.args.walk.now) (visible_in c.args.scope.now) (see_found c.args.best) y) c.args.step.now (form.Splice c.in-Splice.name) (λ n. sx.splice n c.in-Splice.name) c.in-Splice.is (search (rules, the_lemmas))

pub in_expr-returns-in-Literal : goal.in_expr-returns-in-Literal
in_expr-returns-in-Literal t c = of-literal (λ (y : sx.Expr). in_expr (rules_of c.args.walk.now) (places_of c.args.walk.now) (visible_in c.args.scope.now) (see_found c.args.best) y) c.args.expr.now (expr.Literal c.in-Literal.site c.in-Literal.tree) c.in-Literal.site c.in-Literal.tree c.in-Literal.is (search (rules, the_lemmas))
