use Rattle.std.proofs.Common.{refl, sym, ap, ◌∙◌, ◌++◌, rules, List}
use Rattle.std.proofs.lemmas.List.{append-nil}
use Rattle.std.proofs.lemmas.Result.{IfOk-weaker}
use Rattle.guard_syntax.specs.code.Seen.{see_disj, see_part, see_opt_conds}
use Rattle.guard_syntax.specs.Syntax as sx
use Rattle.guard_syntax.specs.declared.syntax.Body.{the_lemmas}
use Rattle.rule_names.specs.Scopes.{Given, given_disj, given_part, given_opt_conds}
use Rattle.rule_names.proofs.Shapes.{block-seen, when-seen, kinds-seen, call-seen}
use Rattle.name_scopes.specs.code.Seen.{see_given}
use Rattle.name_scopes.proofs.GivenInTurn.{next, end, of_disjs, of_parts, of_exprs, conds-given, query-given, disj-given, part-given, test-given}
use Rattle.name_scopes.proofs.scopes.+joined.Goals as goal

pub gather_some_conds-returns-in-Some : goal.gather_some_conds-returns-in-Some
gather_some_conds-returns-in-Some t c =
    IfOk-weaker c.gather_disjs.result _ _ (λ _ e. e ∙ ap (λ (l : List Given). see_given c.args.names.now.items ++ l) (conds-given c.in-Some.conds c.deref.result.now c.deref.ensures.value ∙ ap (λ o. given_opt_conds (see_opt_conds o)) (sym c.in-Some.is))) c.gather_disjs.ensures

pub gather_some_conds-returns-in-None : goal.gather_some_conds-returns-in-None
gather_some_conds-returns-in-None t c =
    sym (append-nil (see_given c.args.names.now.items)) ∙ ap (λ o. see_given c.args.names.now.items ++ given_opt_conds (see_opt_conds o)) (sym c.in-None.is)

pub gather_disjs-loop-disj-preserved : goal.gather_disjs-loop-disj-preserved
gather_disjs-loop-disj-preserved t c =
    next of_disjs (λ y. given_disj (see_disj y)) (λ y ys. refl) c.args.disjs.now c.loop-disj.disj-index c.disj-item.result _ (see_given c.loop-disj.names.items) (see_given c.gather_parts.new.names.items)
    c.loop-disj-test.true c.disj-item.is
    (c.in_ok-gather_parts.ensures ∙ ap (λ (l : List Given). see_given c.loop-disj.names.items ++ l) (disj-given c.disj-item.result c.deref.result.now c.deref.ensures.value)) c.loop-disj.invariant

pub gather_disjs-returns : goal.gather_disjs-returns
gather_disjs-returns t c = end of_disjs refl c.args.disjs.now c.loop-disj.disj-index _ (see_given c.loop-disj.names.items) c.loop-disj-test.false c.loop-disj.invariant

pub gather_parts-loop-part-preserved : goal.gather_parts-loop-part-preserved
gather_parts-loop-part-preserved t c =
    next of_parts (λ y. given_part (see_part y)) (λ y ys. refl) c.args.parts.now c.loop-part.part-index c.part-item.result _ (see_given c.loop-part.names.items) (see_given c.gather_part.new.names.items)
    c.loop-part-test.true c.part-item.is c.in_ok-gather_part.ensures c.loop-part.invariant

pub gather_parts-returns : goal.gather_parts-returns
gather_parts-returns t c = end of_parts refl c.args.parts.now c.loop-part.part-index _ (see_given c.loop-part.names.items) c.loop-part-test.false c.loop-part.invariant

pub gather_part-returns-in-Block : goal.gather_part-returns-in-Block
gather_part-returns-in-Block t c =
    IfOk-weaker c.gather_steps.result _ _ (λ _ e. e ∙ ap (λ (l : List Given). see_given c.args.names.now.items ++ l)
    (query-given c.in-Block.head c.deref.result.now c.deref.ensures.value ∙ part-given c.args.part.now _ (ap see_part c.in-Block.is ∙ block-seen c.in-Block.site c.in-Block.any c.in-Block.head c.in-Block.body))) c.gather_steps.ensures

pub gather_part-returns-in-When : goal.gather_part-returns-in-When
gather_part-returns-in-When t c =
    IfOk-weaker c.gather_disjs.result _ _ (λ _ e. e ∙ ap (λ (l : List Given). see_given c.args.names.now.items ++ l)
    (conds-given c.in-When.cond c.deref-in-When.result.now c.deref-in-When.ensures.value ∙ part-given c.args.part.now _ (ap see_part c.in-When.is ∙ when-seen c.in-When.site c.in-When.cond c.in-When.body))) c.gather_disjs.ensures

pub gather_part-returns-in-Kinds : goal.gather_part-returns-in-Kinds
gather_part-returns-in-Kinds t c =
    IfOk-weaker c.gather_some_conds.result _ _ (λ _ e. e ∙ ap (λ (l : List Given). see_given c.args.names.now.items ++ l)
    (part-given c.args.part.now _ (ap see_part c.in-Kinds.is ∙ kinds-seen c.in-Kinds.site c.in-Kinds.name c.in-Kinds.cond c.in-Kinds.body))) c.gather_some_conds.ensures

pub gather_part-returns-in-Refer : goal.gather_part-returns-in-Refer
gather_part-returns-in-Refer t c =
    sym (append-nil (see_given c.args.names.now.items)) ∙ ap (λ (l : List Given). see_given c.args.names.now.items ++ l)
    (part-given c.args.part.now (sx.refer c.in-Refer.site c.in-Refer.not c.in-Refer.name c.in-Refer.note) (ap see_part c.in-Refer.is ∙ search (rules, the_lemmas)))

pub gather_part-returns-in-Call : goal.gather_part-returns-in-Call
gather_part-returns-in-Call t c =
    IfOk-weaker c.gather_exprs.result _ _ (λ _ e. e ∙ ap (λ (l : List Given). see_given c.args.names.now.items ++ l)
    (ap of_exprs c.deref-in-Call.ensures.value ∙ part-given c.args.part.now _ (ap see_part c.in-Call.is ∙ call-seen c.in-Call.site c.in-Call.not c.in-Call.name c.in-Call.args c.in-Call.note))) c.gather_exprs.ensures

pub gather_part-returns-in_ok-gather_steps-in-Test : goal.gather_part-returns-in_ok-gather_steps-in-Test
gather_part-returns-in_ok-gather_steps-in-Test t c =
    IfOk-weaker c.gather_side.result _ _ (λ _ e. e ∙ test-given (see_given c.args.names.now.items) (see_given c.gather_steps-in-Test.new.names.items) c.args.part.now c.in-Test.site c.in-Test.any c.in-Test.left c.in-Test.op c.in-Test.not c.in-Test.right c.in-Test.note
    c.in-Test.is (c.in_ok-gather_steps-in-Test.ensures ∙ ap (λ (l : List Given). see_given c.args.names.now.items ++ l) (query-given c.in-Test.left c.deref-in-Test.result.now c.deref-in-Test.ensures.value))) c.gather_side.ensures
