use Rattle.std.proofs.Common.{◌∙◌, ap, ◌∷◌, refl, rules, List, ℕ}
use Rattle.std.proofs.lemmas.Result.{IfOk-weaker}
use Rattle.std.specs.declared.vec.Vec.{Vec}
use Rattle.std.specs.declared.alloc.Global.{Global}
use Rattle.guard_syntax.specs.Syntax as sx
use Rattle.guard_syntax.specs.code.Seen.{see_conds, see_expr}
use Rattle.guard_syntax.specs.declared.syntax.Body.{the_lemmas}
use Rattle.guard_syntax.specs.declared.syntax.Expr as expr
use Rattle.guard_syntax.specs.declared.syntax.StepForm as form
use Rattle.rule_names.specs.Resolution.{link_variable, meant_in}
use Rattle.name_scopes.specs.declared.scopes.Given as scope
use Rattle.name_scopes.specs.code.ScopeChains.{scopes_in}
use Rattle.name_scopes.specs.code.Seen.{see_given}
use Rattle.name_resolution.specs.code.Sources.{file_in}
use Rattle.name_resolution.proofs.LinksInTurn.{lets-next, lets-end, disjs-next, disjs-end, parts-next, parts-end, steps-next, steps-end, exprs-next, exprs-end, query-steps, some-conds, no-conds, block-links, when-links, kinds-links, test-links, refer-links, call-links, form-links, literal-links, function-links, asked-links, found-links, some-expr, no-expr, body-links, filter-links}
use Rattle.name_resolution.proofs.resolution.walk.+links.Goals as goal

pub in_body-returns : goal.in_body-returns
in_body-returns t c =
    let outer = scopes_in c.args.outer.now in
    let scopes = c.inside-inner.ensures.scopes ∙ ap (λ (v : Vec scope.Given Global). see_given v.items ∷ outer) c.in_ok-own.ensures in
    IfOk-weaker c.in_disjs.result _ _ (λ _ e. e ∙ body-links (file_in c.args.sources.now) outer c.args.body.now c.args.params.now c.deref.result.now c.deref-2.result.now
    (see_given c.in_ok-body_names.field-0.items) (scopes_in c.inside-inner.result) c.args.links.now.items c.in_lets.new.links.items
    c.deref.ensures.value c.deref-2.ensures.value c.in_ok-body_names.ensures scopes c.in_ok-in_lets.ensures) c.in_disjs.ensures

pub in_filter-returns : goal.in_filter-returns
in_filter-returns t c =
    let outer = scopes_in c.args.outer.now in
    let scopes = c.inside-inner.ensures.scopes ∙ ap (λ (v : Vec scope.Given Global). see_given v.items ∷ outer) c.in_ok-own.ensures in
    IfOk-weaker c.in_disjs.result _ _ (λ _ e. e ∙ filter-links (file_in c.args.sources.now) outer c.args.conds.now c.deref.result.now
    (see_given c.in_ok-filter_names.field-0.items) (scopes_in c.inside-inner.result) c.args.links.now.items
    c.deref.ensures.value c.in_ok-filter_names.ensures scopes) c.in_disjs.ensures

pub in_lets-loop-given-preserved : goal.in_lets-loop-given-preserved
in_lets-loop-given-preserved t c =
    lets-next (file_in c.args.sources.now) (scopes_in c.args.chain.now) c.args.lets.now c.loop-given.given-index c.given-item.result _ c.loop-given.links.items c.in_expr.new.links.items c.loop-given-test.true c.given-item.is c.in_ok-in_expr.ensures c.loop-given.invariant

pub in_lets-returns : goal.in_lets-returns
in_lets-returns t c = lets-end (file_in c.args.sources.now) (scopes_in c.args.chain.now) c.args.lets.now c.loop-given.given-index _ c.loop-given.links.items c.loop-given-test.false c.loop-given.invariant

pub in_disjs-loop-disj-preserved : goal.in_disjs-loop-disj-preserved
in_disjs-loop-disj-preserved t c =
    disjs-next (file_in c.args.sources.now) (scopes_in c.args.chain.now) c.args.disjs.now c.loop-disj.disj-index c.disj-item.result c.deref.result.now _ c.loop-disj.links.items c.in_parts.new.links.items c.loop-disj-test.true c.disj-item.is c.deref.ensures.value c.in_ok-in_parts.ensures c.loop-disj.invariant

pub in_disjs-returns : goal.in_disjs-returns
in_disjs-returns t c = disjs-end (file_in c.args.sources.now) (scopes_in c.args.chain.now) c.args.disjs.now c.loop-disj.disj-index _ c.loop-disj.links.items c.loop-disj-test.false c.loop-disj.invariant

pub in_parts-loop-part-preserved : goal.in_parts-loop-part-preserved
in_parts-loop-part-preserved t c =
    parts-next (file_in c.args.sources.now) (scopes_in c.args.chain.now) c.args.parts.now c.loop-part.part-index c.part-item.result _ c.loop-part.links.items c.in_part.new.links.items c.loop-part-test.true c.part-item.is c.in_ok-in_part.ensures c.loop-part.invariant

pub in_parts-returns : goal.in_parts-returns
in_parts-returns t c = parts-end (file_in c.args.sources.now) (scopes_in c.args.chain.now) c.args.parts.now c.loop-part.part-index _ c.loop-part.links.items c.loop-part-test.false c.loop-part.invariant

pub in_exprs-loop-expr-preserved : goal.in_exprs-loop-expr-preserved
in_exprs-loop-expr-preserved t c =
    exprs-next (file_in c.args.sources.now) (scopes_in c.args.chain.now) c.args.exprs.now c.loop-expr.expr-index c.expr-item.result _ c.loop-expr.links.items c.in_expr.new.links.items c.loop-expr-test.true c.expr-item.is c.in_ok-in_expr.ensures c.loop-expr.invariant

pub in_exprs-returns : goal.in_exprs-returns
in_exprs-returns t c = exprs-end (file_in c.args.sources.now) (scopes_in c.args.chain.now) c.args.exprs.now c.loop-expr.expr-index _ c.loop-expr.links.items c.loop-expr-test.false c.loop-expr.invariant

pub in_query-loop-step-init : goal.in_query-loop-step-init
in_query-loop-step-init t c = query-steps (file_in c.args.sources.now) (scopes_in c.args.chain.now) c.args.links.now.items c.args.query.now c.deref-step-items.result.now c.deref-step-items.ensures.value

pub in_query-loop-step-preserved : goal.in_query-loop-step-preserved
in_query-loop-step-preserved t c =
    steps-next (file_in c.args.sources.now) (scopes_in c.args.chain.now) c.deref-step-items.result.now c.loop-step.step-index c.step-item.result _ c.loop-step.links.items c.in_step.new.links.items c.loop-step-test.true c.step-item.is c.in_ok-in_step.ensures c.loop-step.invariant

pub in_query-returns : goal.in_query-returns
in_query-returns t c = steps-end (file_in c.args.sources.now) (scopes_in c.args.chain.now) c.deref-step-items.result.now c.loop-step.step-index _ c.loop-step.links.items c.loop-step-test.false c.loop-step.invariant

pub in_opt_conds-returns-in-Some : goal.in_opt_conds-returns-in-Some
in_opt_conds-returns-in-Some t c = IfOk-weaker c.in_disjs.result _ _ (λ _ e. e ∙ some-conds (file_in c.args.sources.now) (scopes_in c.args.chain.now) c.args.links.now.items c.args.conds.now c.in-Some.conds c.deref.result.now c.in-Some.is c.deref.ensures.value) c.in_disjs.ensures

pub in_opt_conds-returns-in-None : goal.in_opt_conds-returns-in-None
in_opt_conds-returns-in-None t c = no-conds (file_in c.args.sources.now) (scopes_in c.args.chain.now) c.args.links.now.items c.args.conds.now c.in-None.is

pub in_opt_expr-returns-in-Some : goal.in_opt_expr-returns-in-Some
in_opt_expr-returns-in-Some t c = IfOk-weaker c.in_expr.result _ _ (λ _ e. e ∙ some-expr (file_in c.args.sources.now) (scopes_in c.args.chain.now) c.args.links.now.items c.args.expr.now c.in-Some.expr c.in-Some.is) c.in_expr.ensures

pub in_opt_expr-returns-in-None : goal.in_opt_expr-returns-in-None
in_opt_expr-returns-in-None t c = no-expr (file_in c.args.sources.now) (scopes_in c.args.chain.now) c.args.links.now.items c.args.expr.now c.in-None.is

pub in_expr-returns-in-Literal : goal.in_expr-returns-in-Literal
in_expr-returns-in-Literal t c = literal-links (file_in c.args.sources.now) (scopes_in c.args.chain.now) c.args.links.now.items c.args.expr.now (expr.Literal c.in-Literal.site c.in-Literal.tree) c.in-Literal.site c.in-Literal.tree c.in-Literal.is (search (rules, the_lemmas))

pub in_expr-returns-in-Function : goal.in_expr-returns-in-Function
in_expr-returns-in-Function t c = IfOk-weaker c.in_exprs.result _ _ (λ _ e. e ∙ function-links (file_in c.args.sources.now) (scopes_in c.args.chain.now) c.args.links.now.items c.args.expr.now c.in-Function.site c.in-Function.name c.in-Function.args c.deref.result.now c.in-Function.is c.deref.ensures.value) c.in_exprs.ensures

pub in_expr-returns-in-Query : goal.in_expr-returns-in-Query
in_expr-returns-in-Query t c = IfOk-weaker c.in_query.result _ _ (λ _ e. e ∙ asked-links (file_in c.args.sources.now) (scopes_in c.args.chain.now) c.args.links.now.items c.args.expr.now c.in-Query.query c.in-Query.is) c.in_query.ensures

pub in_expr-returns-in-Found : goal.in_expr-returns-in-Found
in_expr-returns-in-Found t c = IfOk-weaker c.in_query-in-Found.result _ _ (λ _ e. e ∙ found-links (file_in c.args.sources.now) (scopes_in c.args.chain.now) c.args.links.now.items c.args.expr.now c.in-Found.site c.in-Found.query c.in-Found.is) c.in_query-in-Found.ensures

pub in_part-returns-in_ok-in_query-in-Block : goal.in_part-returns-in_ok-in_query-in-Block
in_part-returns-in_ok-in_query-in-Block t c =
    IfOk-weaker c.in_body.result _ _ (λ _ e. e ∙ block-links (file_in c.args.sources.now) (scopes_in c.args.chain.now) c.args.links.now.items c.in_query.new.links.items c.args.part.now c.in-Block.site c.in-Block.any c.in-Block.head c.in-Block.body c.in-Block.is c.in_ok-in_query-in-Block.ensures) c.in_body.ensures

pub in_part-returns-in_ok-in_disjs-in-When : goal.in_part-returns-in_ok-in_disjs-in-When
in_part-returns-in_ok-in_disjs-in-When t c =
    IfOk-weaker c.in_body-in-When.result _ _ (λ _ e. e ∙ when-links (file_in c.args.sources.now) (scopes_in c.args.chain.now) c.args.links.now.items c.in_disjs.new.links.items c.args.part.now c.in-When.site c.in-When.cond c.in-When.body c.deref.result.now c.in-When.is c.deref.ensures.value c.in_ok-in_disjs-in-When.ensures) c.in_body-in-When.ensures

pub in_part-returns-in_ok-in_opt_conds-in-Kinds : goal.in_part-returns-in_ok-in_opt_conds-in-Kinds
in_part-returns-in_ok-in_opt_conds-in-Kinds t c =
    IfOk-weaker c.in_body-in-Kinds.result _ _ (λ _ e. e ∙ kinds-links (file_in c.args.sources.now) (scopes_in c.args.chain.now) c.args.links.now.items c.in_opt_conds.new.links.items c.args.part.now c.in-Kinds.site c.in-Kinds.name c.in-Kinds.cond c.in-Kinds.body c.in-Kinds.is c.in_ok-in_opt_conds-in-Kinds.ensures) c.in_body-in-Kinds.ensures

pub in_part-returns-in_ok-in_query-in-Test : goal.in_part-returns-in_ok-in_query-in-Test
in_part-returns-in_ok-in_query-in-Test t c =
    IfOk-weaker c.in_opt_expr.result _ _ (λ _ e. e ∙ test-links (file_in c.args.sources.now) (scopes_in c.args.chain.now) c.args.links.now.items c.in_query-in-Test.new.links.items c.args.part.now c.in-Test.site c.in-Test.any c.in-Test.left c.in-Test.op c.in-Test.not c.in-Test.right c.in-Test.note c.in-Test.is c.in_ok-in_query-in-Test.ensures) c.in_opt_expr.ensures

pub in_part-returns-in-Refer : goal.in_part-returns-in-Refer
in_part-returns-in-Refer t c = IfOk-weaker c.link_rule.result _ _ (λ _ e. e ∙ refer-links (file_in c.args.sources.now) (scopes_in c.args.chain.now) c.args.links.now.items c.args.part.now c.in-Refer.site c.in-Refer.not c.in-Refer.name c.as_str.result.now c.in-Refer.note c.in-Refer.is c.as_str.ensures) c.link_rule.ensures

pub in_part-returns-in_ok-link_rule-in-Call : goal.in_part-returns-in_ok-link_rule-in-Call
in_part-returns-in_ok-link_rule-in-Call t c =
    IfOk-weaker c.in_exprs.result _ _ (λ _ e. e ∙ call-links (file_in c.args.sources.now) (scopes_in c.args.chain.now) c.args.links.now.items c.link_rule-in-Call.new.links.items c.args.part.now c.in-Call.site c.in-Call.not c.in-Call.name c.as_str-in-Call.result.now c.in-Call.args c.in-Call.note c.deref-in-Call.result.now c.in-Call.is c.as_str-in-Call.ensures c.deref-in-Call.ensures.value c.in_ok-link_rule-in-Call.ensures) c.in_exprs.ensures

pub in_step-returns-in-Var : goal.in_step-returns-in-Var
in_step-returns-in-Var t c = IfOk-weaker c.link_variable.result _ _ (λ _ e. e ∙ form-links (file_in c.args.sources.now) (scopes_in c.args.chain.now) c.args.links.now.items _ c.args.step.now (form.Var c.in-Var.name) (λ n. sx.var n c.in-Var.name) c.in-Var.is (search (rules, the_lemmas)) (ap (λ (l : List ℕ). link_variable (file_in c.args.sources.now) c.args.step.now.site (meant_in (scopes_in c.args.chain.now) l)) c.as_str.ensures)) c.link_variable.ensures

pub in_step-returns-in-Splice : goal.in_step-returns-in-Splice
in_step-returns-in-Splice t c = IfOk-weaker c.link_variable-in-Splice.result _ _ (λ _ e. e ∙ form-links (file_in c.args.sources.now) (scopes_in c.args.chain.now) c.args.links.now.items _ c.args.step.now (form.Splice c.in-Splice.name) (λ n. sx.splice n c.in-Splice.name) c.in-Splice.is (search (rules, the_lemmas)) (ap (λ (l : List ℕ). link_variable (file_in c.args.sources.now) c.args.step.now.site (meant_in (scopes_in c.args.chain.now) l)) c.as_str-in-Splice.ensures)) c.link_variable-in-Splice.ensures

pub in_step-returns-in-Filter : goal.in_step-returns-in-Filter
in_step-returns-in-Filter t c = IfOk-weaker c.in_filter.result _ _ (λ _ e. e ∙ form-links (file_in c.args.sources.now) (scopes_in c.args.chain.now) c.args.links.now.items _ c.args.step.now (form.Filter c.in-Filter.field-0 c.in-Filter.conds) (λ n. sx.filter n c.in-Filter.field-0 (see_conds c.in-Filter.conds)) c.in-Filter.is (search (rules, the_lemmas)) refl) c.in_filter.ensures

pub in_step-returns-in-Keys : goal.in_step-returns-in-Keys
in_step-returns-in-Keys t c = IfOk-weaker c.in_expr.result _ _ (λ _ e. e ∙ form-links (file_in c.args.sources.now) (scopes_in c.args.chain.now) c.args.links.now.items _ c.args.step.now (form.Keys c.in-Keys.capture c.in-Keys.op c.in-Keys.not c.in-Keys.right) (λ n. sx.keys n c.in-Keys.capture c.in-Keys.op c.in-Keys.not (see_expr c.in-Keys.right)) c.in-Keys.is (search (rules, the_lemmas)) refl) c.in_expr.ensures
