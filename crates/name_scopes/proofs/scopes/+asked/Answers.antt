use Rattle.std.proofs.Common.{refl, sym, ap, ◌∙◌, ◌++◌, rules, List}
use Rattle.std.proofs.lemmas.List.{append-nil}
use Rattle.std.proofs.lemmas.Result.{IfOk-weaker}
use Rattle.guard_syntax.specs.code.Seen.{see_conds, see_step, see_expr}
use Rattle.guard_syntax.specs.Syntax as sx
use Rattle.guard_syntax.specs.declared.syntax.Body.{the_lemmas}
use Rattle.guard_syntax.specs.declared.syntax.StepForm as form
use Rattle.rule_names.specs.Scopes.{Given, given_step, given_expr}
use Rattle.name_scopes.specs.code.Seen.{see_given}
use Rattle.name_scopes.proofs.GivenInTurn.{next, end, of_steps, of_exprs, query-given, expr-given, function-given, asked-given, found-given, form-given, keys-given}
use Rattle.name_scopes.proofs.scopes.+asked.Goals as goal

pub gather_steps-loop-step-preserved : goal.gather_steps-loop-step-preserved
gather_steps-loop-step-preserved t c =
    next of_steps (λ y. given_step (see_step y)) (λ y ys. refl) c.args.steps.now c.loop-step.step-index c.step-item.result _ (see_given c.loop-step.names.items) (see_given c.gather_step.new.names.items)
    c.loop-step-test.true c.step-item.is c.in_ok-gather_step.ensures c.loop-step.invariant

pub gather_steps-returns : goal.gather_steps-returns
gather_steps-returns t c = end of_steps refl c.args.steps.now c.loop-step.step-index _ (see_given c.loop-step.names.items) c.loop-step-test.false c.loop-step.invariant

pub gather_exprs-loop-expr-preserved : goal.gather_exprs-loop-expr-preserved
gather_exprs-loop-expr-preserved t c =
    next of_exprs (λ y. given_expr (see_expr y)) (λ y ys. refl) c.args.exprs.now c.loop-expr.expr-index c.expr-item.result _ (see_given c.loop-expr.names.items) (see_given c.gather_expr.new.names.items)
    c.loop-expr-test.true c.expr-item.is c.in_ok-gather_expr.ensures c.loop-expr.invariant

pub gather_exprs-returns : goal.gather_exprs-returns
gather_exprs-returns t c = end of_exprs refl c.args.exprs.now c.loop-expr.expr-index _ (see_given c.loop-expr.names.items) c.loop-expr-test.false c.loop-expr.invariant

pub gather_expr-returns-in-Literal : goal.gather_expr-returns-in-Literal
gather_expr-returns-in-Literal t c =
    sym (append-nil (see_given c.args.names.now.items)) ∙ ap (λ (l : List Given). see_given c.args.names.now.items ++ l)
    (expr-given c.args.expr.now (sx.literal c.in-Literal.site c.in-Literal.tree) (ap see_expr c.in-Literal.is ∙ search (rules, the_lemmas)))

pub gather_expr-returns-in-Function : goal.gather_expr-returns-in-Function
gather_expr-returns-in-Function t c =
    IfOk-weaker c.gather_exprs.result _ _ (λ _ e. e ∙ ap (λ (l : List Given). see_given c.args.names.now.items ++ l)
    (function-given c.args.expr.now c.in-Function.site c.in-Function.name c.in-Function.args c.deref.result.now c.in-Function.is c.deref.ensures.value)) c.gather_exprs.ensures

pub gather_expr-returns-in-Query : goal.gather_expr-returns-in-Query
gather_expr-returns-in-Query t c =
    IfOk-weaker c.gather_steps.result _ _ (λ _ e. e ∙ ap (λ (l : List Given). see_given c.args.names.now.items ++ l) (query-given c.in-Query.query c.deref-in-Query.result.now c.deref-in-Query.ensures.value ∙ asked-given c.args.expr.now c.in-Query.query c.in-Query.is)) c.gather_steps.ensures

pub gather_expr-returns-in-Found : goal.gather_expr-returns-in-Found
gather_expr-returns-in-Found t c =
    IfOk-weaker c.gather_steps-in-Found.result _ _ (λ _ e. e ∙ ap (λ (l : List Given). see_given c.args.names.now.items ++ l) (query-given c.in-Found.query c.deref-in-Found.result.now c.deref-in-Found.ensures.value ∙ found-given c.args.expr.now c.in-Found.site c.in-Found.query c.in-Found.is)) c.gather_steps-in-Found.ensures

pub gather_step-returns-in-Filter : goal.gather_step-returns-in-Filter
gather_step-returns-in-Filter t c =
    IfOk-weaker c.gather_capture.result _ _ (λ _ e. e ∙ form-given (see_given c.args.names.now.items) c.args.step.now (form.Filter c.in-Filter.capture c.in-Filter.field-1) (λ n. sx.filter n c.in-Filter.capture (see_conds c.in-Filter.field-1))
    c.in-Filter.is (search (rules, the_lemmas))) c.gather_capture.ensures

pub gather_step-returns-in_ok-gather_capture-in-Keys : goal.gather_step-returns-in_ok-gather_capture-in-Keys
gather_step-returns-in_ok-gather_capture-in-Keys t c =
    IfOk-weaker c.gather_expr.result _ _ (λ _ e. e ∙ keys-given (see_given c.args.names.now.items) (see_given c.gather_capture-in-Keys.new.names.items) c.args.step.now c.in-Keys.capture c.in-Keys.op c.in-Keys.not c.in-Keys.right
    (form.Keys c.in-Keys.capture c.in-Keys.op c.in-Keys.not c.in-Keys.right) c.in-Keys.is (search (rules, the_lemmas)) c.in_ok-gather_capture-in-Keys.ensures) c.gather_expr.ensures
