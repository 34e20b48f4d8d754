use Rattle.std.proofs.Common.{◌≡◌, ◌++◌, List, None, Some, option_map, subst, sym, ℕ, ◌∙◌}
use Rattle.evidence_text.specs.code.Reading.{items_in, count_in}
use Rattle.evidence_text.proofs.Lists.{items_fail, items_last, items_last_fail, items_more, none_before}
use Rattle.evidence_text.proofs.read.read_counts.Goals as goal

pub returns-in_default-read_count : goal.returns-in_default-read_count
returns-in_default-read_count c =
    let read : count_in c.in-Some.item.now ≡ None = sym c.read_count.ensures ∙ c.in_default-read_count.is in
    sym (
    items_fail count_in c.items.rest.now c.in-Some.item.now c.in-Some.after.now c.items.into.items (items_in count_in c.args.bytes.now)
    (sym c.in-Some.ensures.parts) read c.items.invariant
    )

pub items-preserved : goal.items-preserved
items-preserved c =
    let read : count_in c.in-Some.item.now ≡ Some c.in-Some-read_count.count = sym c.read_count.ensures ∙ c.in-Some-read_count.is in
    let more =
    items_more count_in c.items.rest.now c.in-Some.item.now c.in-Some.after.now c.in-Some-read_count.count c.items.into.items (items_in count_in c.args.bytes.now)
    (sym c.in-Some.ensures.parts) read c.items.invariant in
    rw c.in_ok-push.ensures.items more

pub returns-in_default-read_count-2 : goal.returns-in_default-read_count-2
returns-in_default-read_count-2 c =
    let read : count_in c.items.rest.now ≡ None = sym c.read_count-2.ensures ∙ c.in_default-read_count-2.is in
    sym (items_last_fail count_in c.items.rest.now c.items.into.items (items_in count_in c.args.bytes.now) (sym c.in_default.ensures.parts) read c.items.invariant)

pub returns : goal.returns
returns c =
    let read : count_in c.items.rest.now ≡ Some c.in-Some-read_count-2.count = sym c.read_count-2.ensures ∙ c.in-Some-read_count-2.is in
    rw c.in_ok-push-2.ensures.items (sym (
    items_last count_in c.items.rest.now c.in-Some-read_count-2.count c.items.into.items (items_in count_in c.args.bytes.now) (sym c.in_default.ensures.parts) read
    c.items.invariant
    ))

pub items-init : goal.items-init
items-init c = subst (λ (xs : List ℕ). items_in count_in c.args.bytes.now ≡ option_map (λ ys. xs ++ ys) (items_in count_in c.args.bytes.now)) (sym c.requires) (none_before (items_in count_in c.args.bytes.now))
