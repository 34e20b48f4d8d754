use Rattle.std.proofs.Common.{◌≡◌, ◌<◌, ◌+◌, false, true, IfOk, sym, ap, ap₂, subst, ◌∙◌, arith, Some, true≢false}
use Rattle.std.specs.Prelude.{◌&&◌}
use Rattle.doc_values.specs.Tree.{Label, count, AreValues, Nil, is_map}
use Rattle.doc_values.specs.Places.{label_at, kids_at}
use Rattle.doc_values.proofs.Lookups.{kids-formed}
use Rattle.value_compare.specs.code.Entries.{may_find_entry}
use Rattle.value_store.specs.code.BookCovers.{covers, holds_in}
use Rattle.value_compare.specs.code.Meetings.{compares_pattern}
use Rattle.rule_meaning.specs.Pairs.{same_items, same_entries, entry_of, told}
use Rattle.rule_meaning.specs.Values.{value_at}
use Rattle.value_compare.proofs.Forests.{from_index, is_at, key_value, no_key}
use Rattle.value_compare.proofs.MapKeys.{maps_differ, maps_by_entries}
use Rattle.value_compare.proofs.Equalities.{leaf_kind, by_kind, as_key, items_turn, items_end, items_differ, entries_turn, entries_end, item_held, item_apart, entry_held, entry_apart, entry_value_apart, has_equal-told, no_entry_of, no_entry_none}
use Rattle.value_compare.proofs.equal.+equal.Goals as goal

pub pair_values-pair_leaf-requires : goal.pair_values-pair_leaf-requires
pair_values-pair_leaf-requires t c =
    let leaf = leaf_kind c.kind.result c.in_default.not-Text c.in_default.not-Pattern c.in_default.not-List c.in_default.not-Map in
    record { text = leaf.0; values = leaf.1 }

pub pair_values-returns-in_default-clause-answer : goal.pair_values-returns-in_default-clause-answer
pair_values-returns-in_default-clause-answer t c =
    let l = c.args.left in let r = c.args.right in
    by_kind (value_at l.doc.now l.id) (value_at r.doc.now r.id) _ _ _ c.kind.ensures c.kind-in_default.ensures c.pair_leaf.ensures

pub pair_values-returns-in-Text-clause-answer : goal.pair_values-returns-in-Text-clause-answer
pair_values-returns-in-Text-clause-answer t c =
    let l = c.args.left in let r = c.args.right in
    subst (λ e. IfOk c.pair_text.result (λ a. a ≡ e))
    (as_key (value_at l.doc.now l.id) (value_at r.doc.now r.id) c.text.result.now (sym c.kind.ensures ∙ c.in-Text.is) c.text.ensures) c.pair_text.ensures.answer

pub pair_items-returns-then-len-clause-answer : goal.pair_items-returns-then-len-clause-answer
pair_items-returns-then-len-clause-answer t c =
    let l = c.args.left in let r = c.args.right in
    ap told (sym (items_differ (kids_at l.doc.now l.id) (kids_at r.doc.now r.id) (λ e. c.if-len.true (omega (arith, e, c.len.ensures, c.len-2.ensures)))))

pub pair_items-pair_values-requires : goal.pair_items-pair_values-requires
pair_items-pair_values-requires t c =
    let l = c.args.left in let r = c.args.right in
    let f = kids_at l.doc.now l.id in let g = kids_at r.doc.now r.id in
    let i = c.loop-i.i in
    let in_left : i < count f = omega (arith, c.loop-i-test.true, c.len-i-end.ensures) in
    let in_right : i < count g = omega (arith, in_left, c.if-len.false, c.len.ensures, c.len-2.ensures) in
    let mine = is_at l.doc.now l.id i c.child.result.doc.now c.child.result.id l.within in_left c.child.ensures.doc c.child.ensures.id in
    let other = is_at r.doc.now r.id i c.child-in-loop-i.result.doc.now c.child-in-loop-i.result.id r.within in_right c.child-in-loop-i.ensures.doc c.child-in-loop-i.ensures.id in
    let less = mine.less in
    let held : covers c.loop-i.matchers.book.now (value_at c.child-in-loop-i.result.doc.now c.child-in-loop-i.result.id) ≡ true =
    ap₂ covers c.loop-i.invariant.0 other.value ∙ item_held c.args.matchers.now.book.now g i in_right c.requires.held in
    (omega (arith, less, c.decreases), held)

pub pair_items-returns-in_err-pair_values-clause-no_memory : goal.pair_items-returns-in_err-pair_values-clause-no_memory
pair_items-returns-in_err-pair_values-clause-no_memory t c h =
    let l = c.args.left in let r = c.args.right in
    let f = kids_at l.doc.now l.id in let g = kids_at r.doc.now r.id in
    let i = c.loop-i.i in
    let in_left : i < count f = omega (arith, c.loop-i-test.true, c.len-i-end.ensures) in
    let in_right : i < count g = omega (arith, in_left, c.if-len.false, c.len.ensures, c.len-2.ensures) in
    let mine = is_at l.doc.now l.id i c.child.result.doc.now c.child.result.id l.within in_left c.child.ensures.doc c.child.ensures.id in
    let other = is_at r.doc.now r.id i c.child-in-loop-i.result.doc.now c.child-in-loop-i.result.id r.within in_right c.child-in-loop-i.ensures.doc c.child-in-loop-i.ensures.id in
    absurd (true≢false (sym (c.in_err-pair_values.ensures.no_memory (ap₂ compares_pattern mine.value other.value ∙ item_apart f g i in_left in_right h))))

pub pair_items-returns-then-not-is_yes-clause-answer : goal.pair_items-returns-then-not-is_yes-clause-answer
pair_items-returns-then-not-is_yes-clause-answer t c =
    let l = c.args.left in let r = c.args.right in
    let f = kids_at l.doc.now l.id in let g = kids_at r.doc.now r.id in
    let i = c.loop-i.i in
    let in_left : i < count f = omega (arith, c.loop-i-test.true, c.len-i-end.ensures) in
    let in_right : i < count g = omega (arith, in_left, c.if-len.false, c.len.ensures, c.len-2.ensures) in
    let mine = is_at l.doc.now l.id i c.child.result.doc.now c.child.result.id l.within in_left c.child.ensures.doc c.child.ensures.id in
    let other = is_at r.doc.now r.id i c.child-in-loop-i.result.doc.now c.child-in-loop-i.result.id r.within in_right c.child-in-loop-i.ensures.doc c.child-in-loop-i.ensures.id in
    ap told (sym (items_turn f g i (same_items f g) _ _ _ c.is_yes.result in_left in_right c.loop-i.invariant.1 mine.value other.value c.in_ok-pair_values.ensures.answer c.is_yes.ensures
    ∙ ap (λ b. b && same_items (from_index f (i + 1)) (from_index g (i + 1))) c.if-not-is_yes.true))

pub pair_items-loop-i-preserved : goal.pair_items-loop-i-preserved
pair_items-loop-i-preserved t c =
    let l = c.args.left in let r = c.args.right in
    let f = kids_at l.doc.now l.id in let g = kids_at r.doc.now r.id in
    let i = c.loop-i.i in
    let in_left : i < count f = omega (arith, c.loop-i-test.true, c.len-i-end.ensures) in
    let in_right : i < count g = omega (arith, in_left, c.if-len.false, c.len.ensures, c.len-2.ensures) in
    let mine = is_at l.doc.now l.id i c.child.result.doc.now c.child.result.id l.within in_left c.child.ensures.doc c.child.ensures.id in
    let other = is_at r.doc.now r.id i c.child-in-loop-i.result.doc.now c.child-in-loop-i.result.id r.within in_right c.child-in-loop-i.ensures.doc c.child-in-loop-i.ensures.id in (
      c.pair_values.ensures.kept ∙ c.loop-i.invariant.0,
      items_turn f g i (same_items f g) _ _ _ c.is_yes.result in_left in_right c.loop-i.invariant.1 mine.value other.value c.in_ok-pair_values.ensures.answer c.is_yes.ensures
          ∙ ap (λ b. b && same_items (from_index f (i + 1)) (from_index g (i + 1))) c.if-not-is_yes.false,
    )

pub pair_items-returns-clause-answer : goal.pair_items-returns-clause-answer
pair_items-returns-clause-answer t c =
    let l = c.args.left in let r = c.args.right in
    ap told (sym (c.loop-i.invariant.1
    ∙ items_end (kids_at l.doc.now l.id) (kids_at r.doc.now r.id) c.loop-i.i (λ h. omega (arith, h, c.loop-i-test.false, c.len-i-end.ensures)) (omega (arith, c.if-len.false, c.len.ensures, c.len-2.ensures))))

pub pair_entries-returns-then-len-clause-answer : goal.pair_entries-returns-then-len-clause-answer
pair_entries-returns-then-len-clause-answer t c =
    let l = c.args.left in let r = c.args.right in
    let left : AreValues true Nil (kids_at l.doc.now l.id) = subst (λ k. AreValues (is_map k) Nil (kids_at l.doc.now l.id)) c.requires.left (kids-formed l.doc.now l.id c.len.ensures.tree l.within) in
    let right : AreValues true Nil (kids_at r.doc.now r.id) = subst (λ k. AreValues (is_map k) Nil (kids_at r.doc.now r.id)) c.requires.right (kids-formed r.doc.now r.id c.len-2.ensures.tree r.within) in
    ap told (sym (maps_differ (kids_at l.doc.now l.id) (kids_at r.doc.now r.id) left right (λ e. c.if-len.true (omega (arith, e, c.len-3.ensures, c.len-4.ensures)))))

pub pair_entries-pair_entry-requires : goal.pair_entries-pair_entry-requires
pair_entries-pair_entry-requires t c =
    let l = c.args.left in let r = c.args.right in
    let i = c.loop-i.i in
    let in_left : i < count (kids_at l.doc.now l.id) = omega (arith, c.loop-i-test.true, c.len-i-end.ensures) in
    let mine = is_at l.doc.now l.id i c.child.result.doc.now c.child.result.id l.within in_left c.child.ensures.doc c.child.ensures.id in
    let less = mine.less in
    (omega (arith, less, c.decreases), ap (λ book. holds_in book (kids_at r.doc.now r.id)) c.loop-i.invariant.0 ∙ c.requires.held)

pub pair_entries-returns-in_err-pair_entry-clause-no_memory : goal.pair_entries-returns-in_err-pair_entry-clause-no_memory
pair_entries-returns-in_err-pair_entry-clause-no_memory t c h =
    let l = c.args.left in let r = c.args.right in
    let f = kids_at l.doc.now l.id in let g = kids_at r.doc.now r.id in
    let i = c.loop-i.i in
    let in_left : i < count f = omega (arith, c.loop-i-test.true, c.len-i-end.ensures) in
    let mine = is_at l.doc.now l.id i c.child.result.doc.now c.child.result.id l.within in_left c.child.ensures.doc c.child.ensures.id in
    absurd (true≢false (sym (c.in_err-pair_entry.ensures.no_memory (ap₂ (λ (m : Label) v. may_find_entry m.key v g) mine.label mine.value ∙ entry_apart f g i in_left h))))

pub pair_entries-returns-then-not-is_yes-clause-answer : goal.pair_entries-returns-then-not-is_yes-clause-answer
pair_entries-returns-then-not-is_yes-clause-answer t c =
    let l = c.args.left in let r = c.args.right in
    let f = kids_at l.doc.now l.id in let g = kids_at r.doc.now r.id in
    let left : AreValues true Nil f = subst (λ k. AreValues (is_map k) Nil f) c.requires.left (kids-formed l.doc.now l.id c.len.ensures.tree l.within) in
    let right : AreValues true Nil g = subst (λ k. AreValues (is_map k) Nil g) c.requires.right (kids-formed r.doc.now r.id c.len-2.ensures.tree r.within) in
    let i = c.loop-i.i in
    let in_left : i < count f = omega (arith, c.loop-i-test.true, c.len-i-end.ensures) in
    let mine = is_at l.doc.now l.id i c.child.result.doc.now c.child.result.id l.within in_left c.child.ensures.doc c.child.ensures.id in
    let entries : same_entries f g ≡ false =
    entries_turn f g i (same_entries f g) _ _ _ in_left c.loop-i.invariant.1 mine.label mine.value (c.is_yes.ensures ∙ c.in_ok-pair_entry.ensures.answer)
    ∙ ap (λ b. b && same_entries (from_index f (i + 1)) g) c.if-not-is_yes.true in
    ap told (sym (maps_by_entries f g left right (omega (arith, c.if-len.false, c.len-3.ensures, c.len-4.ensures)) ∙ entries))

pub pair_entries-loop-i-preserved : goal.pair_entries-loop-i-preserved
pair_entries-loop-i-preserved t c =
    let l = c.args.left in let r = c.args.right in
    let f = kids_at l.doc.now l.id in let g = kids_at r.doc.now r.id in
    let i = c.loop-i.i in
    let in_left : i < count f = omega (arith, c.loop-i-test.true, c.len-i-end.ensures) in
    let mine = is_at l.doc.now l.id i c.child.result.doc.now c.child.result.id l.within in_left c.child.ensures.doc c.child.ensures.id in (
      c.pair_entry.ensures.kept ∙ c.loop-i.invariant.0,
      entries_turn f g i (same_entries f g) _ _ _ in_left c.loop-i.invariant.1 mine.label mine.value (c.is_yes.ensures ∙ c.in_ok-pair_entry.ensures.answer)
          ∙ ap (λ b. b && same_entries (from_index f (i + 1)) g) c.if-not-is_yes.false,
    )

pub pair_entries-returns-clause-answer : goal.pair_entries-returns-clause-answer
pair_entries-returns-clause-answer t c =
    let l = c.args.left in let r = c.args.right in
    let f = kids_at l.doc.now l.id in let g = kids_at r.doc.now r.id in
    let left : AreValues true Nil f = subst (λ k. AreValues (is_map k) Nil f) c.requires.left (kids-formed l.doc.now l.id c.len.ensures.tree l.within) in
    let right : AreValues true Nil g = subst (λ k. AreValues (is_map k) Nil g) c.requires.right (kids-formed r.doc.now r.id c.len-2.ensures.tree r.within) in
    ap told (sym (maps_by_entries f g left right (omega (arith, c.if-len.false, c.len-3.ensures, c.len-4.ensures)) ∙ c.loop-i.invariant.1
    ∙ entries_end f g c.loop-i.i (λ h. omega (arith, h, c.loop-i-test.false, c.len-i-end.ensures))))

pub pair_entry-returns-in_default-clause-answer : goal.pair_entry-returns-in_default-clause-answer
pair_entry-returns-in_default-clause-answer t c =
    let e = c.args.entry in let r = c.args.right in
    let g = kids_at r.doc.now r.id in
    no_entry_of (label_at e.doc.now e.id).key (value_at e.doc.now e.id) g (ap (entry_of g) c.in_default.ensures ∙ no_entry_none g)

pub pair_entry-returns-in-None-clause-answer : goal.pair_entry-returns-in-None-clause-answer
pair_entry-returns-in-None-clause-answer t c =
    let e = c.args.entry in let r = c.args.right in
    let g = kids_at r.doc.now r.id in
    no_entry_of (label_at e.doc.now e.id).key (value_at e.doc.now e.id) g (ap (entry_of g) c.in-Some.ensures ∙ no_key g c.in-Some.key.now (r.id + 1) c.in-None.ensures)

pub pair_entry-pair_values-requires : goal.pair_entry-pair_values-requires
pair_entry-pair_values-requires t c =
    let r = c.args.right in
    let g = kids_at r.doc.now r.id in
    let other = c.in-Some-get.other in
    let found = key_value r.doc.now r.id other.id c.in-Some.key.now other.doc.now r.within c.in-Some-get.ensures.0 c.in-Some-get.ensures.1 in
    (omega (arith, c.decreases), entry_held c.args.matchers.now.book.now g (Some c.in-Some.key.now) (value_at other.doc.now other.id) c.requires.held found)

pub pair_entry-returns-in-Some-get-clause-no_memory : goal.pair_entry-returns-in-Some-get-clause-no_memory
pair_entry-returns-in-Some-get-clause-no_memory t c h =
    let e = c.args.entry in let r = c.args.right in
    let g = kids_at r.doc.now r.id in
    let other = c.in-Some-get.other in
    let found = key_value r.doc.now r.id other.id c.in-Some.key.now other.doc.now r.within c.in-Some-get.ensures.0 c.in-Some-get.ensures.1 in
    c.pair_values.ensures.no_memory (entry_value_apart (label_at e.doc.now e.id).key c.in-Some.key.now (value_at e.doc.now e.id) (value_at other.doc.now other.id) g c.in-Some.ensures found h)

pub pair_entry-returns-in-Some-get-clause-answer : goal.pair_entry-returns-in-Some-get-clause-answer
pair_entry-returns-in-Some-get-clause-answer t c =
    let e = c.args.entry in let r = c.args.right in
    let g = kids_at r.doc.now r.id in
    let other = c.in-Some-get.other in
    let found = key_value r.doc.now r.id other.id c.in-Some.key.now other.doc.now r.within c.in-Some-get.ensures.0 c.in-Some-get.ensures.1 in
    has_equal-told c.pair_values.result (label_at e.doc.now e.id).key c.in-Some.key.now (value_at e.doc.now e.id) (value_at other.doc.now other.id) g c.in-Some.ensures found c.pair_values.ensures.answer
