use Rattle.std.proofs.Common.{true, sym, ◌∙◌}
use Rattle.std.specs.Option.{option_map_or}
use Rattle.std.proofs.lemmas.Bool.{and_from}
use Rattle.std.proofs.lemmas.List.Folds.{list_all_at, list_all_more}
use Rattle.guard_syntax.specs.declared.row.Row.{Row}
use Rattle.rule_meaning.specs.StoreModel.{meant}
use Rattle.rule_meaning.specs.Pairs.{is_yes, ordered}
use Rattle.value_store.specs.code.Stores.{see_store}
use Rattle.rule_meaning.specs.Values.{Value}
use Rattle.value_store.specs.code.Views.{see_view}
use Rattle.value_compare.proofs.FoundRows.{order-by-row}
use Rattle.value_compare.proofs.Walks.{all_end}
use Rattle.value_compare.proofs.row_tests.stands_to_each.Goals as goal

pub returns-then-not-stands_to : goal.returns-then-not-stands_to
returns-then-not-stands_to c =
    let k = see_store c.args.store.now in
    let l = see_view c.args.left in
    order-by-row c.args.op l k c.args.rights.now _ c.requires.order c.requires.some
    (list_all_at (λ (r : Row). option_map_or (λ (v : Value). is_yes (ordered c.args.op l v)) (meant k r) true) c.args.rights.now c.loop-row.row-index _ c.loop-row-test.true
    (sym c.stands_to.ensures ∙ c.if-not-stands_to.true))

pub loop-row-preserved : goal.loop-row-preserved
loop-row-preserved c =
    let k = see_store c.args.store.now in
    let l = see_view c.args.left in
    list_all_more (λ (r : Row). option_map_or (λ (v : Value). is_yes (ordered c.args.op l v)) (meant k r) true) c.args.rights.now c.loop-row.row-index _ c.loop-row-test.true
    ∙ and_from _ _ c.loop-row.invariant (sym c.stands_to.ensures ∙ c.if-not-stands_to.false)

pub returns : goal.returns
returns c =
    let k = see_store c.args.store.now in
    let l = see_view c.args.left in
    order-by-row c.args.op l k c.args.rights.now _ c.requires.order c.requires.some
    (all_end (λ (r : Row). option_map_or (λ (v : Value). is_yes (ordered c.args.op l v)) (meant k r) true) c.args.rights.now c.loop-row.row-index c.loop-row-test.false c.loop-row.invariant)
