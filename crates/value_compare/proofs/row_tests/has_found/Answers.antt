use Rattle.std.proofs.Common.{List, map, ap, sym, ◌∙◌}
use Rattle.std.proofs.lemmas.List.{take_all}
use Rattle.guard_syntax.specs.declared.row.Row.{Row}
use Rattle.rule_meaning.specs.StoreModel.{meant}
use Rattle.rule_meaning.specs.RowTests.{found_of, is_some_right}
use Rattle.value_store.specs.code.Stores.{see_store}
use Rattle.rule_meaning.specs.Values.{Value}
use Rattle.value_compare.proofs.FoundRows.{none-found-more, row-found}
use Rattle.value_compare.proofs.row_tests.has_found.Goals as goal

pub returns-in-Some : goal.returns-in-Some
returns-in-Some c =
    let k = see_store c.args.store.now in
    sym (row-found k c.args.rows.now c.loop-row.row-index _ _ c.loop-row-test.true c.in-Some.ensures.value)

pub loop-row-preserved : goal.loop-row-preserved
loop-row-preserved c =
    let k = see_store c.args.store.now in
    none-found-more k c.args.rows.now c.loop-row.row-index _ c.loop-row-test.true c.in_default.ensures.value c.loop-row.invariant

pub returns : goal.returns
returns c =
    let k = see_store c.args.store.now in
    sym (ap (λ (rs : List Row). is_some_right (found_of (map (meant k) rs))) (sym (take_all c.loop-row.row-index c.args.rows.now c.loop-row-test.false)) ∙ ap (λ (vs : List Value). is_some_right vs) c.loop-row.invariant)
