use Rattle.std.proofs.Common.{◌≡◌, ◌++◌, ◌∙◌, ℕ, List, ap, codes, string_bytes}
use Rattle.std.proofs.lemmas.Result.{on_ok_weaker}
use Rattle.guard_syntax.specs.code.Seen.{see_part}
use Rattle.guard_syntax.specs.declared.syntax.Part.{Part}
use Rattle.rule_words.proofs.InARow.{row-next, row-end}
use Rattle.rule_printer.specs.RuleText.{in_a_row, merged, part_text}
use Rattle.rule_printer.specs.code.Printing.{disjs_from, lets_from}
use Rattle.rule_printer.proofs.BlockTexts.{of_body_parts, of_more_body_parts, body-parts-joined}
use Rattle.rule_printer.proofs.LinesInTurn.{body-text, disj-end, disj-next}
use Rattle.rule_printer.proofs.PartsAppended.{all_room, block-added, disj-added, kinds-added, when-added}
use Rattle.rule_printer.proofs.blocks.+bodies.Goals as goal

pub push_parts-loop-i-preserved : goal.push_parts-loop-i-preserved
push_parts-loop-i-preserved t c =
    let margin = c.args.margin.now in
    row-next (of_body_parts margin) (of_more_body_parts margin) (λ (p : Part). part_text margin (see_part p)) (codes " or ") (body-parts-joined margin) c.args.parts.now c.loop-i.i c.index-parts-i.result _ (string_bytes c.loop-i.out) (string_bytes c.push_between.new.out) (string_bytes c.push_part.new.out)
    c.loop-i-test.true c.index-parts-i.is c.in_ok-push_between.ensures c.in_ok-push_part.ensures c.loop-i.invariant

pub push_parts-returns : goal.push_parts-returns
push_parts-returns t c =
    let margin = c.args.margin.now in
    row-end (of_body_parts margin) (of_more_body_parts margin) (λ (p : Part). part_text margin (see_part p)) (codes " or ") (body-parts-joined margin) c.args.parts.now c.loop-i.i _ (string_bytes c.loop-i.out) c.loop-i-test.false c.loop-i.invariant

pub push_body-returns : goal.push_body-returns
push_body-returns t c =
    let inner = string_bytes c.in_ok-inner.inner in
    let lets = c.as_slice-lets.result.now in
    let disjs = c.as_slice-disjs.result.now in
    let begun = string_bytes c.push_str.new.self in
    let old = string_bytes c.loop-disj.out in
    let left = string_bytes c.push_lets.new.out in
    on_ok_weaker c.push_end.result
    (λ (e : string_bytes c.push_end.new.out ≡ left ++ (c.args.margin.now ++ codes "}")).
    body-text (string_bytes c.args.out.now) begun left (string_bytes c.push_end.new.out) c.args.margin.now inner c.args.body.now lets disjs
    c.in_ok-inner.ensures c.as_slice-lets.ensures.value c.as_slice-disjs.ensures.value c.in_ok-push_str.ensures.bytes
    (disj-end inner lets disjs c.loop-disj.disj-index c.loop-disj.next old left (begun ++ in_a_row (merged (lets_from inner lets 0) (disjs_from inner disjs 0))) c.loop-disj-test.false c.loop-disj.invariant
    (c.in_ok-push_lets.ensures ∙ ap (λ (m : List ℕ). old ++ in_a_row (lets_from m lets c.loop-disj.next)) c.deref-2.ensures)) e)
    c.push_end.ensures

pub push_body-loop-disj-preserved : goal.push_body-loop-disj-preserved
push_body-loop-disj-preserved t c =
    disj-next (string_bytes c.in_ok-inner.inner) c.deref.result.now c.deref-in-loop-disj.result.now c.as_slice-lets.result.now c.as_slice-disjs.result.now c.loop-disj.disj-index c.loop-disj.next c.in_ok-next.next
    c.disj-item.result (string_bytes c.loop-disj.out) (string_bytes c.push_lets_before.new.out) (string_bytes c.push_disj.new.out) _ c.deref.ensures c.deref-in-loop-disj.ensures c.loop-disj-test.true c.disj-item.is
    c.loop-disj.invariant c.in_ok-next.ensures c.in_ok-push_disj.ensures

pub push_disj-returns : goal.push_disj-returns
push_disj-returns t c =
    disj-added c.push_str-2.result c.args.disj.now c.args.margin.now c.deref.result.now _ _ _ _ c.deref.ensures.value c.in_ok-push_str.ensures.bytes c.in_ok-push_parts.ensures
    (all_room c.push_str-2.result _ _ _ c.push_str-2.ensures.bytes)

pub push_part-returns-in_ok-push_head-in-Block : goal.push_part-returns-in_ok-push_head-in-Block
push_part-returns-in_ok-push_head-in-Block t c =
    block-added c.push_body.result c.args.part.now c.args.margin.now _ _ _ _ _ _ _ _ c.in-Block.is c.in_ok-push_word_if-in-Block.ensures c.in_ok-push_head-in-Block.ensures c.push_body.ensures

pub push_part-returns-in_ok-push_conds-in-When : goal.push_part-returns-in_ok-push_conds-in-When
push_part-returns-in_ok-push_conds-in-When t c =
    when-added c.push_body-in-When.result c.args.part.now c.args.margin.now _ _ _ _ _ _ _ c.in-When.is c.in_ok-push_str-in-When.ensures.bytes c.in_ok-push_conds-in-When.ensures c.push_body-in-When.ensures

pub push_part-returns-in_ok-push_when-in-Kinds : goal.push_part-returns-in_ok-push_when-in-Kinds
push_part-returns-in_ok-push_when-in-Kinds t c =
    kinds-added c.push_body-in-Kinds.result c.args.part.now c.args.margin.now _ _ _ _ _ _ _ _ _ c.in-Kinds.is c.as_str.ensures c.in_ok-push_str-in-Kinds.ensures.bytes c.in_ok-push_when-in-Kinds.ensures c.push_body-in-Kinds.ensures
