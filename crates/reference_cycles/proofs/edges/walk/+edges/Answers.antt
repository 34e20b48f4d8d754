use Rattle.std.proofs.Common.{◌∙◌, ap, ◌++◌, rules, List, ℕ}
use Rattle.std.proofs.lemmas.Result.{IfOk-weaker}
use Rattle.std.specs.declared.vec.Vec.{Vec}
use Rattle.std.specs.declared.alloc.Global.{Global}
use Rattle.guard_syntax.specs.Syntax as sx
use Rattle.guard_syntax.specs.code.Seen.{see_expr}
use Rattle.guard_syntax.specs.declared.syntax.Body.{the_lemmas}
use Rattle.guard_syntax.specs.declared.syntax.Expr as expr
use Rattle.guard_syntax.specs.declared.syntax.StepForm as form
use Rattle.name_scopes.specs.declared.scopes.Given as scope
use Rattle.name_scopes.specs.code.ScopeChains.{visible_in}
use Rattle.name_scopes.specs.code.Seen.{see_given}
use Rattle.rule_names.specs.ReferenceGraph.{to_variable}
use Rattle.rule_names.specs.Scopes.{given_named}
use Rattle.reference_cycles.specs.code.RuleIndexes.{rules_of}
use Rattle.reference_cycles.proofs.BodyEdges.{body-edges, filter-edges}
use Rattle.reference_cycles.proofs.EdgesInTurn.{lets-next, lets-end, disjs-next, disjs-end, parts-next, parts-end, steps-next, steps-end, exprs-next, exprs-end, query-steps, conds-edges, some-conds, no-conds, block-edges, when-edges, kinds-edges, test-edges, refer-edges, call-edges, form-edges, filter-step, keys-step, literal-edges, function-edges, asked-edges, found-edges, some-expr, no-expr}
use Rattle.reference_cycles.proofs.LeadsInTurn.{expr-begins}
use Rattle.reference_cycles.proofs.edges.walk.+edges.Goals as goal

pub in_body-returns : goal.in_body-returns
in_body-returns t c =
    let outer = visible_in c.args.outer.now in
    let visible = c.inside-inner.ensures.visible ∙ ap (λ (v : Vec scope.Given Global). see_given v.items ++ outer) c.in_ok-own.ensures in
    IfOk-weaker c.in_disjs.result _ _ (λ _ e. e ∙ body-edges (rules_of c.args.rule_index.now) c.args.rule_index.now.count outer c.args.params.now c.args.body.now c.deref.result.now c.deref-3.result.now c.deref-2.result.now c.deref-4.result.now
    (see_given c.in_ok-body_names.field-0.items) (visible_in c.inside-inner.result) c.args.edges.now.items c.to_values.new.edges.items c.to_disjs.new.edges.items c.in_lets.new.edges.items
    c.deref.ensures.value c.deref-2.ensures.value c.deref-3.ensures.value c.deref-4.ensures.value c.in_ok-body_names.ensures visible c.in_ok-to_values.ensures c.in_ok-to_disjs.ensures c.in_ok-in_lets.ensures) c.in_disjs.ensures

pub in_filter-returns : goal.in_filter-returns
in_filter-returns t c =
    let outer = visible_in c.args.outer.now in
    let visible = c.inside-inner.ensures.visible ∙ ap (λ (v : Vec scope.Given Global). see_given v.items ++ outer) c.in_ok-own.ensures in
    IfOk-weaker c.in_conds.result _ _ (λ _ e. e ∙ filter-edges (rules_of c.args.rule_index.now) c.args.rule_index.now.count outer c.args.conds.now c.args.site (see_given c.in_ok-filter_names.field-0.items) (visible_in c.inside-inner.result)
    c.args.edges.now.items c.to_site.new.edges.items c.in_ok-filter_names.ensures visible c.in_ok-to_site.ensures) c.in_conds.ensures

pub in_lets-loop-given-preserved : goal.in_lets-loop-given-preserved
in_lets-loop-given-preserved t c = lets-next (rules_of c.args.rule_index.now) c.args.rule_index.now.count (visible_in c.args.chain.now) c.args.lets.now c.loop-given.given-index c.given-item.result c.variable_node.result c.site.result _ c.loop-given.edges.items c.to_site.new.edges.items c.in_expr.new.edges.items c.loop-given-test.true c.given-item.is c.variable_node.ensures (c.site.ensures ∙ expr-begins (see_expr c.given-item.result.value)) c.in_ok-to_site.ensures c.in_ok-in_expr.ensures c.loop-given.invariant

pub in_lets-returns : goal.in_lets-returns
in_lets-returns t c = lets-end (rules_of c.args.rule_index.now) c.args.rule_index.now.count (visible_in c.args.chain.now) c.args.lets.now c.loop-given.given-index _ c.loop-given.edges.items c.loop-given-test.false c.loop-given.invariant

pub in_disjs-loop-disj-preserved : goal.in_disjs-loop-disj-preserved
in_disjs-loop-disj-preserved t c = disjs-next (rules_of c.args.rule_index.now) c.args.rule_index.now.count (visible_in c.args.chain.now) c.args.disjs.now c.loop-disj.disj-index c.disj-item.result c.deref.result.now c.deref-in-loop-disj.result.now _ c.loop-disj.edges.items c.to_parts.new.edges.items c.in_parts.new.edges.items c.loop-disj-test.true c.disj-item.is c.deref.ensures.value c.deref-in-loop-disj.ensures.value c.in_ok-to_parts.ensures c.in_ok-in_parts.ensures c.loop-disj.invariant

pub in_disjs-returns : goal.in_disjs-returns
in_disjs-returns t c = disjs-end (rules_of c.args.rule_index.now) c.args.rule_index.now.count (visible_in c.args.chain.now) c.args.disjs.now c.loop-disj.disj-index _ c.loop-disj.edges.items c.loop-disj-test.false c.loop-disj.invariant

pub in_parts-loop-part-preserved : goal.in_parts-loop-part-preserved
in_parts-loop-part-preserved t c = parts-next (rules_of c.args.rule_index.now) c.args.rule_index.now.count (visible_in c.args.chain.now) c.args.parts.now c.loop-part.part-index c.part-item.result _ c.loop-part.edges.items c.in_part.new.edges.items c.loop-part-test.true c.part-item.is c.in_ok-in_part.ensures c.loop-part.invariant

pub in_parts-returns : goal.in_parts-returns
in_parts-returns t c = parts-end (rules_of c.args.rule_index.now) c.args.rule_index.now.count (visible_in c.args.chain.now) c.args.parts.now c.loop-part.part-index _ c.loop-part.edges.items c.loop-part-test.false c.loop-part.invariant

pub in_exprs-loop-expr-preserved : goal.in_exprs-loop-expr-preserved
in_exprs-loop-expr-preserved t c = exprs-next (rules_of c.args.rule_index.now) c.args.rule_index.now.count (visible_in c.args.chain.now) c.args.exprs.now c.loop-expr.expr-index c.expr-item.result _ c.loop-expr.edges.items c.in_expr.new.edges.items c.loop-expr-test.true c.expr-item.is c.in_ok-in_expr.ensures c.loop-expr.invariant

pub in_exprs-returns : goal.in_exprs-returns
in_exprs-returns t c = exprs-end (rules_of c.args.rule_index.now) c.args.rule_index.now.count (visible_in c.args.chain.now) c.args.exprs.now c.loop-expr.expr-index _ c.loop-expr.edges.items c.loop-expr-test.false c.loop-expr.invariant

pub in_query-loop-step-init : goal.in_query-loop-step-init
in_query-loop-step-init t c = query-steps (rules_of c.args.rule_index.now) c.args.rule_index.now.count (visible_in c.args.chain.now) c.args.edges.now.items c.to_last.new.edges.items c.args.query.now c.deref.result.now c.deref-step-items.result.now c.deref.ensures.value c.deref-step-items.ensures.value c.in_ok-to_last.ensures

pub in_query-loop-step-preserved : goal.in_query-loop-step-preserved
in_query-loop-step-preserved t c = steps-next (rules_of c.args.rule_index.now) c.args.rule_index.now.count (visible_in c.args.chain.now) c.deref-step-items.result.now c.loop-step.step-index c.step-item.result c.loop-step.before _ c.loop-step.edges.items c.to_before.new.edges.items c.in_step.new.edges.items c.loop-step-test.true c.step-item.is c.in_ok-to_before.ensures c.in_ok-in_step.ensures c.loop-step.invariant

pub in_query-returns : goal.in_query-returns
in_query-returns t c = steps-end (rules_of c.args.rule_index.now) c.args.rule_index.now.count (visible_in c.args.chain.now) c.deref-step-items.result.now c.loop-step.step-index c.loop-step.before _ c.loop-step.edges.items c.loop-step-test.false c.loop-step.invariant

pub in_conds-returns : goal.in_conds-returns
in_conds-returns t c = IfOk-weaker c.in_disjs.result _ _ (λ _ e. e ∙ conds-edges (rules_of c.args.rule_index.now) c.args.rule_index.now.count (visible_in c.args.chain.now) c.args.edges.now.items c.to_disjs.new.edges.items c.args.conds.now c.deref.result.now c.deref-2.result.now c.deref.ensures.value c.deref-2.ensures.value c.in_ok-to_disjs.ensures) c.in_disjs.ensures

pub in_opt_conds-returns-in-Some : goal.in_opt_conds-returns-in-Some
in_opt_conds-returns-in-Some t c = IfOk-weaker c.in_conds.result _ _ (λ _ e. e ∙ some-conds (rules_of c.args.rule_index.now) c.args.rule_index.now.count (visible_in c.args.chain.now) c.args.edges.now.items c.args.conds.now c.in-Some.conds c.in-Some.is) c.in_conds.ensures

pub in_opt_conds-returns-in-None : goal.in_opt_conds-returns-in-None
in_opt_conds-returns-in-None t c = no-conds (rules_of c.args.rule_index.now) c.args.rule_index.now.count (visible_in c.args.chain.now) c.args.edges.now.items c.args.conds.now c.in-None.is

pub in_opt_expr-returns-in-Some : goal.in_opt_expr-returns-in-Some
in_opt_expr-returns-in-Some t c = IfOk-weaker c.in_expr.result _ _ (λ _ e. e ∙ some-expr (rules_of c.args.rule_index.now) c.args.rule_index.now.count (visible_in c.args.chain.now) c.args.edges.now.items c.args.expr.now c.in-Some.expr c.in-Some.is) c.in_expr.ensures

pub in_opt_expr-returns-in-None : goal.in_opt_expr-returns-in-None
in_opt_expr-returns-in-None t c = no-expr (rules_of c.args.rule_index.now) c.args.rule_index.now.count (visible_in c.args.chain.now) c.args.edges.now.items c.args.expr.now c.in-None.is

pub in_part-returns-in_ok-in_query-in-Block : goal.in_part-returns-in_ok-in_query-in-Block
in_part-returns-in_ok-in_query-in-Block t c = IfOk-weaker c.in_body.result _ _ (λ _ e. e ∙ block-edges (rules_of c.args.rule_index.now) c.args.rule_index.now.count (visible_in c.args.chain.now) c.args.edges.now.items c.from_part.new.edges.items c.in_query.new.edges.items c.args.part.now c.in-Block.site c.in-Block.any c.in-Block.head c.in-Block.body c.in-Block.is c.in_ok-from_part.ensures c.in_ok-in_query-in-Block.ensures) c.in_body.ensures

pub in_part-returns-in_ok-in_conds-in-When : goal.in_part-returns-in_ok-in_conds-in-When
in_part-returns-in_ok-in_conds-in-When t c = IfOk-weaker c.in_body-in-When.result _ _ (λ _ e. e ∙ when-edges (rules_of c.args.rule_index.now) c.args.rule_index.now.count (visible_in c.args.chain.now) c.args.edges.now.items c.from_part.new.edges.items c.in_conds.new.edges.items c.args.part.now c.in-When.site c.in-When.cond c.in-When.body c.in-When.is c.in_ok-from_part.ensures c.in_ok-in_conds-in-When.ensures) c.in_body-in-When.ensures

pub in_part-returns-in_ok-in_opt_conds-in-Kinds : goal.in_part-returns-in_ok-in_opt_conds-in-Kinds
in_part-returns-in_ok-in_opt_conds-in-Kinds t c = IfOk-weaker c.in_body-in-Kinds.result _ _ (λ _ e. e ∙ kinds-edges (rules_of c.args.rule_index.now) c.args.rule_index.now.count (visible_in c.args.chain.now) c.args.edges.now.items c.from_part.new.edges.items c.in_opt_conds.new.edges.items c.args.part.now c.in-Kinds.site c.in-Kinds.name c.in-Kinds.cond c.in-Kinds.body c.in-Kinds.is c.in_ok-from_part.ensures c.in_ok-in_opt_conds-in-Kinds.ensures) c.in_body-in-Kinds.ensures

pub in_part-returns-in_ok-in_query-in-Test : goal.in_part-returns-in_ok-in_query-in-Test
in_part-returns-in_ok-in_query-in-Test t c = IfOk-weaker c.in_opt_expr.result _ _ (λ _ e. e ∙ test-edges (rules_of c.args.rule_index.now) c.args.rule_index.now.count (visible_in c.args.chain.now) c.args.edges.now.items c.from_part.new.edges.items c.in_query-in-Test.new.edges.items c.args.part.now c.in-Test.site c.in-Test.any c.in-Test.left c.in-Test.op c.in-Test.not c.in-Test.right c.in-Test.note c.in-Test.is c.in_ok-from_part.ensures c.in_ok-in_query-in-Test.ensures) c.in_opt_expr.ensures

pub in_part-returns-in-Refer : goal.in_part-returns-in-Refer
in_part-returns-in-Refer t c = refer-edges (rules_of c.args.rule_index.now) c.args.rule_index.now.count (visible_in c.args.chain.now) c.args.edges.now.items c.from_part.new.edges.items c.args.part.now c.in-Refer.site c.in-Refer.not c.in-Refer.name c.in-Refer.note c.in-Refer.is c.in_ok-from_part.ensures

pub in_part-returns-in-Call : goal.in_part-returns-in-Call
in_part-returns-in-Call t c = IfOk-weaker c.in_exprs.result _ _ (λ _ e. e ∙ call-edges (rules_of c.args.rule_index.now) c.args.rule_index.now.count (visible_in c.args.chain.now) c.args.edges.now.items c.from_part.new.edges.items c.args.part.now c.in-Call.site c.in-Call.not c.in-Call.name c.in-Call.args c.in-Call.note c.deref.result.now c.in-Call.is c.deref.ensures.value c.in_ok-from_part.ensures) c.in_exprs.ensures

pub in_step-returns-in-Var : goal.in_step-returns-in-Var
in_step-returns-in-Var t c = IfOk-weaker c.to_variable.result _ _ (λ _ e. e ∙ form-edges (rules_of c.args.rule_index.now) c.args.rule_index.now.count (visible_in c.args.chain.now) c.args.edges.now.items _ c.args.step.now (form.Var c.in-Var.name) (λ n. sx.var n c.in-Var.name) c.in-Var.is (search (rules, the_lemmas)) (ap (λ (l : List ℕ). to_variable (rules_of c.args.rule_index.now) c.args.rule_index.now.count c.args.step.now.site (given_named (visible_in c.args.chain.now) l)) c.as_str.ensures)) c.to_variable.ensures

pub in_step-returns-in-Splice : goal.in_step-returns-in-Splice
in_step-returns-in-Splice t c = IfOk-weaker c.to_variable-in-Splice.result _ _ (λ _ e. e ∙ form-edges (rules_of c.args.rule_index.now) c.args.rule_index.now.count (visible_in c.args.chain.now) c.args.edges.now.items _ c.args.step.now (form.Splice c.in-Splice.name) (λ n. sx.splice n c.in-Splice.name) c.in-Splice.is (search (rules, the_lemmas)) (ap (λ (l : List ℕ). to_variable (rules_of c.args.rule_index.now) c.args.rule_index.now.count c.args.step.now.site (given_named (visible_in c.args.chain.now) l)) c.as_str-in-Splice.ensures)) c.to_variable-in-Splice.ensures

pub in_step-returns-in_ok-from_capture-in-Filter : goal.in_step-returns-in_ok-from_capture-in-Filter
in_step-returns-in_ok-from_capture-in-Filter t c = IfOk-weaker c.in_filter.result _ _ (λ _ e. e ∙ filter-step (rules_of c.args.rule_index.now) c.args.rule_index.now.count (visible_in c.args.chain.now) c.args.edges.now.items c.from_capture.new.edges.items c.args.step.now c.in-Filter.capture c.in-Filter.conds (form.Filter c.in-Filter.capture c.in-Filter.conds) c.in-Filter.is (search (rules, the_lemmas)) c.in_ok-from_capture-in-Filter.ensures) c.in_filter.ensures

pub in_step-returns-in_ok-to_site-in-Keys : goal.in_step-returns-in_ok-to_site-in-Keys
in_step-returns-in_ok-to_site-in-Keys t c = IfOk-weaker c.in_expr.result _ _ (λ _ e. e ∙ keys-step (rules_of c.args.rule_index.now) c.args.rule_index.now.count (visible_in c.args.chain.now) c.args.edges.now.items c.from_capture-in-Keys.new.edges.items c.to_site.new.edges.items c.args.step.now c.in-Keys.capture c.in-Keys.op c.in-Keys.not c.in-Keys.right c.site.result (form.Keys c.in-Keys.capture c.in-Keys.op c.in-Keys.not c.in-Keys.right) c.in-Keys.is (search (rules, the_lemmas)) (c.site.ensures ∙ expr-begins (see_expr c.in-Keys.right)) c.in_ok-from_capture-in-Keys.ensures c.in_ok-to_site-in-Keys.ensures) c.in_expr.ensures

pub in_expr-returns-in-Literal : goal.in_expr-returns-in-Literal
in_expr-returns-in-Literal t c = literal-edges (rules_of c.args.rule_index.now) c.args.rule_index.now.count (visible_in c.args.chain.now) c.args.edges.now.items c.args.expr.now (expr.Literal c.in-Literal.site c.in-Literal.tree) c.in-Literal.site c.in-Literal.tree c.in-Literal.is (search (rules, the_lemmas))

pub in_expr-returns-in_ok-to_exprs-in-Function : goal.in_expr-returns-in_ok-to_exprs-in-Function
in_expr-returns-in_ok-to_exprs-in-Function t c = IfOk-weaker c.in_exprs.result _ _ (λ _ e. e ∙ function-edges (rules_of c.args.rule_index.now) c.args.rule_index.now.count (visible_in c.args.chain.now) c.args.edges.now.items c.to_exprs.new.edges.items c.args.expr.now c.in-Function.site c.in-Function.name c.in-Function.args c.deref.result.now c.deref-in-Function.result.now c.in-Function.is c.deref.ensures.value c.deref-in-Function.ensures.value c.in_ok-to_exprs-in-Function.ensures) c.in_exprs.ensures

pub in_expr-returns-in-Query : goal.in_expr-returns-in-Query
in_expr-returns-in-Query t c = IfOk-weaker c.in_query.result _ _ (λ _ e. e ∙ asked-edges (rules_of c.args.rule_index.now) c.args.rule_index.now.count (visible_in c.args.chain.now) c.args.edges.now.items c.args.expr.now c.in-Query.query c.in-Query.is) c.in_query.ensures

pub in_expr-returns-in_ok-to_site-in-Found : goal.in_expr-returns-in_ok-to_site-in-Found
in_expr-returns-in_ok-to_site-in-Found t c = IfOk-weaker c.in_query-in-Found.result _ _ (λ _ e. e ∙ found-edges (rules_of c.args.rule_index.now) c.args.rule_index.now.count (visible_in c.args.chain.now) c.args.edges.now.items c.to_site.new.edges.items c.args.expr.now c.in-Found.site c.in-Found.query c.in-Found.is c.in_ok-to_site-in-Found.ensures) c.in_query-in-Found.ensures
