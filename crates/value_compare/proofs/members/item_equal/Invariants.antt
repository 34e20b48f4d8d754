use Rattle.std.proofs.Common.{◌≡◌, false, take}
use Rattle.std.specs.List.{list_any}
use Rattle.doc_values.specs.Places.{kids_at}
use Rattle.rule_meaning.specs.Pairs.{equal, is_yes}
use Rattle.rule_meaning.specs.Values.{Value, values_in}
use Rattle.value_store.specs.code.Views.{see_view}
use Rattle.value_compare.proofs.members.item_equal.Given as goal

abbrev pub invariant-loop-i : goal.invariant-loop-i
invariant-loop-i l = record {
  kept : l.matchers.book.now ≡ l.initial.matchers.book.now;
  before : list_any (λ (item : Value). is_yes (equal (see_view l.left) item)) (take l.i (values_in (kids_at l.list.doc.now l.list.id))) ≡ false;
}
