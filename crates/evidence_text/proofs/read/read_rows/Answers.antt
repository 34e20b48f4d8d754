use Rattle.std.proofs.Common.{◌≡◌, ◌++◌, List, None, Some, option_map, subst, sym, ◌∙◌}
use Rattle.guard_syntax.specs.declared.row.Row.{Row}
use Rattle.evidence_text.specs.code.Reading.{items_in, row_in}
use Rattle.evidence_text.proofs.Lists.{items_fail, items_last, items_last_fail, items_more, none_before}
use Rattle.evidence_text.proofs.read.read_rows.Goals as goal

pub returns-in_default-read_row : goal.returns-in_default-read_row
returns-in_default-read_row c =
    let read : row_in c.in-Some.item.now ≡ None = sym c.read_row.ensures ∙ c.in_default-read_row.is in
    sym (
    items_fail row_in c.items.rest.now c.in-Some.item.now c.in-Some.after.now c.items.into.items (items_in row_in c.args.bytes.now)
    (sym c.in-Some.ensures.parts) read c.items.invariant
    )

pub items-preserved : goal.items-preserved
items-preserved c =
    let read : row_in c.in-Some.item.now ≡ Some c.in-Some-read_row.row = sym c.read_row.ensures ∙ c.in-Some-read_row.is in
    let more =
    items_more row_in c.items.rest.now c.in-Some.item.now c.in-Some.after.now c.in-Some-read_row.row c.items.into.items (items_in row_in c.args.bytes.now)
    (sym c.in-Some.ensures.parts) read c.items.invariant in
    rw c.in_ok-push.ensures.items more

pub returns-in_default-read_row-2 : goal.returns-in_default-read_row-2
returns-in_default-read_row-2 c =
    let read : row_in c.items.rest.now ≡ None = sym c.read_row-2.ensures ∙ c.in_default-read_row-2.is in
    sym (items_last_fail row_in c.items.rest.now c.items.into.items (items_in row_in c.args.bytes.now) (sym c.in_default.ensures.parts) read c.items.invariant)

pub returns : goal.returns
returns c =
    let read : row_in c.items.rest.now ≡ Some c.in-Some-read_row-2.row = sym c.read_row-2.ensures ∙ c.in-Some-read_row-2.is in
    rw c.in_ok-push-2.ensures.items (sym (
    items_last row_in c.items.rest.now c.in-Some-read_row-2.row c.items.into.items (items_in row_in c.args.bytes.now) (sym c.in_default.ensures.parts) read
    c.items.invariant
    ))

pub items-init : goal.items-init
items-init c = subst (λ (xs : List Row). items_in row_in c.args.bytes.now ≡ option_map (λ ys. xs ++ ys) (items_in row_in c.args.bytes.now)) (sym c.requires) (none_before (items_in row_in c.args.bytes.now))
