use Rattle.std.proofs.Common.{◌≡◌, true, take}
use Rattle.std.specs.List.{list_all}
use Rattle.std.specs.Option.{option_map_or}
use Rattle.guard_syntax.specs.declared.row.Row.{Row}
use Rattle.rule_meaning.specs.StoreModel.{meant}
use Rattle.rule_meaning.specs.Pairs.{is_yes, ordered}
use Rattle.value_store.specs.code.Stores.{see_store}
use Rattle.rule_meaning.specs.Values.{Value}
use Rattle.value_store.specs.code.Views.{see_view}
use Rattle.value_compare.proofs.row_tests.stands_to_each.Given as goal

abbrev pub invariant-loop-row : goal.invariant-loop-row
invariant-loop-row l =
    list_all (λ (r : Row). option_map_or (λ (v : Value). is_yes (ordered l.op (see_view l.left) v)) (meant (see_store l.store) r) true) (take l.row-index l.rights) ≡ true
