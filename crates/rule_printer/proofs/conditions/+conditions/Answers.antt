use Rattle.std.proofs.Common.{◌∙◌, ◌++◌, List, ℕ, ap, refl, codes, string_bytes, arith}
use Rattle.std.proofs.lemmas.Grind.{common_steps}
use Rattle.guard_syntax.specs.code.Seen.{see_disj, see_expr, see_part}
use Rattle.guard_syntax.specs.declared.syntax.Disj.{Disj}
use Rattle.guard_syntax.specs.declared.syntax.Expr.{Expr}
use Rattle.guard_syntax.specs.declared.syntax.Part.{Part}
use Rattle.rule_words.proofs.InARow.{row-next, row-end}
use Rattle.rule_printer.specs.RuleText.{cond_text, disj_text, expr_text}
use Rattle.rule_printer.proofs.PartTexts.{of_disjs, of_more_disjs, disjs-joined, disj-parts, conds-disjs, of_exprs, of_more_exprs, exprs-joined, of_parts, of_more_parts, parts-joined, steps-next, steps-end}
use Rattle.rule_printer.proofs.PartsAppended.{all_room, appended_to, asked-added, asked-empty, call-added, every-added, filter-added, found-added, function-added, index-added, items-added, key-added, keys-added, query-added, query-asked-added, no_steps, query-empty, refer-added, some_steps, splice-added, test-added, this-added, var-added}
use Rattle.rule_printer.proofs.conditions.+conditions.Goals as goal

pub push_arguments-loop-i-init : goal.push_arguments-loop-i-init
push_arguments-loop-i-init t c = ap (λ (l : List ℕ). l ++ of_exprs c.args.exprs.now) c.in_ok-push_str.ensures.bytes

pub push_arguments-loop-i-preserved : goal.push_arguments-loop-i-preserved
push_arguments-loop-i-preserved t c =
    row-next of_exprs of_more_exprs (λ (e : Expr). expr_text (see_expr e)) (codes ", ") exprs-joined c.args.exprs.now c.loop-i.i c.index-exprs-i.result _ (string_bytes c.loop-i.out) (string_bytes c.push_between.new.out) (string_bytes c.push_expr.new.out)
    c.loop-i-test.true c.index-exprs-i.is c.in_ok-push_between.ensures c.in_ok-push_expr.ensures c.loop-i.invariant

pub push_arguments-returns : goal.push_arguments-returns
push_arguments-returns t c =
    appended_to c.push_str-2.result _ (string_bytes c.loop-i.out) _ _
    (row-end of_exprs of_more_exprs (λ (e : Expr). expr_text (see_expr e)) (codes ", ") exprs-joined c.args.exprs.now c.loop-i.i _ (string_bytes c.loop-i.out) c.loop-i-test.false c.loop-i.invariant)
    (all_room c.push_str-2.result _ _ _ c.push_str-2.ensures.bytes)

pub push_alternatives-loop-i-preserved : goal.push_alternatives-loop-i-preserved
push_alternatives-loop-i-preserved t c =
    row-next of_parts of_more_parts (λ (p : Part). cond_text (see_part p)) (codes " or ") parts-joined c.args.parts.now c.loop-i.i c.index-parts-i.result _ (string_bytes c.loop-i.out) (string_bytes c.push_between.new.out) (string_bytes c.push_cond.new.out)
    c.loop-i-test.true c.index-parts-i.is c.in_ok-push_between.ensures c.in_ok-push_cond.ensures c.loop-i.invariant

pub push_alternatives-returns : goal.push_alternatives-returns
push_alternatives-returns t c =
    row-end of_parts of_more_parts (λ (p : Part). cond_text (see_part p)) (codes " or ") parts-joined c.args.parts.now c.loop-i.i _ (string_bytes c.loop-i.out) c.loop-i-test.false c.loop-i.invariant

pub push_conds-loop-i-preserved : goal.push_conds-loop-i-preserved
push_conds-loop-i-preserved t c =
    row-next of_disjs of_more_disjs (λ (d : Disj). disj_text (see_disj d)) (codes " ") disjs-joined c.as_slice-disjs.result.now c.loop-i.i c.index-disjs-i.result _ (string_bytes c.loop-i.out) (string_bytes c.push_between.new.out) (string_bytes c.push_alternatives.new.out)
    c.loop-i-test.true c.index-disjs-i.is c.in_ok-push_between.ensures
    (disj-parts (string_bytes c.push_between.new.out) (string_bytes c.push_alternatives.new.out) c.index-disjs-i.result c.deref.result.now c.deref.ensures.value c.in_ok-push_alternatives.ensures) c.loop-i.invariant

pub push_conds-returns : goal.push_conds-returns
push_conds-returns t c =
    row-end of_disjs of_more_disjs (λ (d : Disj). disj_text (see_disj d)) (codes " ") disjs-joined c.as_slice-disjs.result.now c.loop-i.i _ (string_bytes c.loop-i.out) c.loop-i-test.false c.loop-i.invariant
    ∙ conds-disjs (string_bytes c.args.out.now) c.args.conds.now c.as_slice-disjs.result.now c.as_slice-disjs.ensures.value

pub push_steps-loop-i-preserved : goal.push_steps-loop-i-preserved
push_steps-loop-i-preserved t c =
    steps-next c.args.steps.now c.loop-i.i c.index-steps-i.result _ (string_bytes c.loop-i.out) (string_bytes c.push_step.new.out) c.loop-i-test.true c.index-steps-i.is c.in_ok-push_step.ensures c.loop-i.invariant

pub push_steps-returns : goal.push_steps-returns
push_steps-returns t c = steps-end c.args.steps.now c.loop-i.i _ (string_bytes c.loop-i.out) c.loop-i-test.false c.loop-i.invariant

pub push_cond-returns-in_ok-push_right-in-Test : goal.push_cond-returns-in_ok-push_right-in-Test
push_cond-returns-in_ok-push_right-in-Test t c =
    test-added c.push_note.result c.args.part.now _ _ _ _ _ _ _ _ _ _ _ _ _ _ c.in-Test.is c.in_ok-push_word_if-in-Test.ensures c.in_ok-push_query-in-Test.ensures refl
    c.in_ok-push_spaced_operator-in-Test.ensures c.in_ok-push_right-in-Test.ensures c.push_note.ensures

pub push_cond-returns-in_ok-push_rule_name-in-Refer : goal.push_cond-returns-in_ok-push_rule_name-in-Refer
push_cond-returns-in_ok-push_rule_name-in-Refer t c =
    refer-added c.push_note-in-Refer.result c.args.part.now _ _ _ _ _ _ _ _ _ c.in-Refer.is c.as_str.ensures refl c.in_ok-push_rule_name-in-Refer.ensures c.push_note-in-Refer.ensures

pub push_cond-returns-in_ok-push_arguments-in-Call : goal.push_cond-returns-in_ok-push_arguments-in-Call
push_cond-returns-in_ok-push_arguments-in-Call t c =
    call-added c.push_note-in-Call.result c.args.part.now _ _ _ _ _ _ _ _ _ _ _ _ _ _ c.in-Call.is c.as_str-in-Call.ensures c.deref.ensures.value refl
    c.in_ok-push_rule_name-in-Call.ensures refl refl c.in_ok-push_arguments-in-Call.ensures c.push_note-in-Call.ensures

pub push_query-returns : goal.push_query-returns
push_query-returns t c =
    query-added c.push_steps.result c.args.query.now c.as_slice-steps.result.now c.index-steps-0.result _ _ _ c.as_slice-steps.ensures.value (some_steps c.as_slice-steps.result.now c.is_empty.result c.is_empty.ensures c.if-is_empty.false)
    c.index-steps-0.is c.in_ok-push_step.ensures c.push_steps.ensures

pub push_query-returns-then-is_empty : goal.push_query-returns-then-is_empty
push_query-returns-then-is_empty t c =
    query-empty c.args.query.now c.as_slice-steps.result.now _ c.as_slice-steps.ensures.value (no_steps c.as_slice-steps.result.now c.is_empty.result c.is_empty.ensures c.if-is_empty.true)

pub push_asked-returns : goal.push_asked-returns
push_asked-returns t c =
    asked-added c.push_steps.result c.args.query.now c.as_slice-steps.result.now c.index-steps-0.result _ _ _ _ c.as_slice-steps.ensures.value (some_steps c.as_slice-steps.result.now c.is_empty.result c.is_empty.ensures c.if-is_empty.false)
    c.index-steps-0.is c.in_ok-push_step.ensures c.in_ok-push_space_within.ensures c.push_steps.ensures

pub push_asked-returns-then-is_empty : goal.push_asked-returns-then-is_empty
push_asked-returns-then-is_empty t c =
    asked-empty c.args.query.now c.as_slice-steps.result.now _ c.as_slice-steps.ensures.value (no_steps c.as_slice-steps.result.now c.is_empty.result c.is_empty.ensures c.if-is_empty.true)

pub push_step-returns-in-Var : goal.push_step-returns-in-Var
push_step-returns-in-Var t c =
    var-added c.push_signed.result c.args.first c.args.step.now c.in-Var.name _ _ _ _ c.in-Var.is c.as_str.ensures refl c.push_signed.ensures

pub push_step-returns-in-Splice : goal.push_step-returns-in-Splice
push_step-returns-in-Splice t c =
    splice-added c.push_signed-in-Splice.result c.args.first c.args.step.now c.in-Splice.name _ _ _ _ c.in-Splice.is c.as_str-in-Splice.ensures refl c.push_signed-in-Splice.ensures

pub push_step-returns-in_ok-push_conds-in-Filter : goal.push_step-returns-in_ok-push_conds-in-Filter
push_step-returns-in_ok-push_conds-in-Filter t c =
    filter-added c.push_str-in-Filter.result c.args.first c.args.step.now c.in-Filter.capture c.in-Filter.conds _ _ _ _ _ c.in-Filter.is refl c.in_ok-push_opened-in-Filter.ensures
    c.in_ok-push_conds-in-Filter.ensures (all_room c.push_str-in-Filter.result _ _ _ c.push_str-in-Filter.ensures.bytes)

pub push_step-returns-in_ok-push_expr-in-Keys : goal.push_step-returns-in_ok-push_expr-in-Keys
push_step-returns-in_ok-push_expr-in-Keys t c =
    keys-added c.push_str-in-Keys.result c.args.first c.args.step.now c.in-Keys.capture c.in-Keys.op c.in-Keys.not c.in-Keys.right _ _ _ _ _ _ _ _ c.in-Keys.is refl refl refl refl
    c.in_ok-push_keys_test-in-Keys.ensures c.in_ok-push_expr-in-Keys.ensures (all_room c.push_str-in-Keys.result _ _ _ c.push_str-in-Keys.ensures.bytes)

pub push_expr-returns-in_ok-push_function_name-in-Function : goal.push_expr-returns-in_ok-push_function_name-in-Function
push_expr-returns-in_ok-push_function_name-in-Function t c =
    function-added c.push_arguments.result c.args.expr.now _ _ _ _ _ _ _ _ _ _ _ _ c.in-Function.is c.as_str.ensures c.as_str.ensures c.deref.ensures.value refl
    c.in_ok-push_function_name-in-Function.ensures refl refl c.push_arguments.ensures

pub push_expr-returns-in_ok-push_str-in-Found : goal.push_expr-returns-in_ok-push_str-in-Found
push_expr-returns-in_ok-push_str-in-Found t c = found-added c.push_query.result c.args.expr.now _ _ _ _ _ c.in-Found.is c.in_ok-push_str-in-Found.ensures.bytes c.push_query.ensures

pub push_step-returns-in-This : goal.push_step-returns-in-This
push_step-returns-in-This t c =
    this-added c.push_str.result c.args.first c.args.step.now (string_bytes c.args.out.now) (string_bytes c.push_str.new.self) c.in-This.is (all_room c.push_str.result _ _ _ c.push_str.ensures.bytes)

pub push_step-returns-in-Every : goal.push_step-returns-in-Every
push_step-returns-in-Every t c =
    every-added c.push_str-in-Every.result c.args.first c.args.step.now (string_bytes c.args.out.now) (string_bytes c.push_str-in-Every.new.self) c.in-Every.is
    (all_room c.push_str-in-Every.result _ _ _ c.push_str-in-Every.ensures.bytes)

pub push_step-returns-in-Items : goal.push_step-returns-in-Items
push_step-returns-in-Items t c =
    items-added c.push_str-in-Items.result c.args.first c.args.step.now (string_bytes c.args.out.now) (string_bytes c.push_str-in-Items.new.self) c.in-Items.is
    (all_room c.push_str-in-Items.result _ _ _ c.push_str-in-Items.ensures.bytes)

pub push_step-returns-in-Index : goal.push_step-returns-in-Index
push_step-returns-in-Index t c =
    index-added c.push_index.result c.args.first c.args.step.now c.in-Index.index (string_bytes c.args.out.now) (string_bytes c.push_index.new.out) c.in-Index.is c.push_index.ensures

pub push_step-returns-in-Key : goal.push_step-returns-in-Key
push_step-returns-in-Key t c =
    key-added c.push_key.result c.args.first c.args.step.now c.in-Key.name _ (string_bytes c.args.out.now) (string_bytes c.push_key.new.out) c.in-Key.is c.as_str-in-Key.ensures c.push_key.ensures

pub push_expr-returns-in-Query : goal.push_expr-returns-in-Query
push_expr-returns-in-Query t c = query-asked-added c.push_asked.result c.args.expr.now _ (string_bytes c.args.out.now) (string_bytes c.push_asked.new.out) c.in-Query.is c.push_asked.ensures

pub push_right-returns-in-None : goal.push_right-returns-in-None
push_right-returns-in-None t c = grind (arith, common_steps)

pub push_right-returns-in_ok-push_str-in-Some : goal.push_right-returns-in_ok-push_str-in-Some
push_right-returns-in_ok-push_str-in-Some t c = grind (arith, common_steps)
