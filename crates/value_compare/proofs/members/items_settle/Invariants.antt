use Rattle.std.proofs.Common.{◌≡◌, true, map, take}
use Rattle.doc_values.specs.Places.{kids_at}
use Rattle.rule_meaning.specs.Values.{values_in}
use Rattle.value_compare.specs.code.Settled.{items_settled}
use Rattle.value_store.specs.code.Views.{see_view}
use Rattle.value_compare.proofs.members.items_settle.Given as goal

abbrev pub invariant-loop-i : goal.invariant-loop-i
invariant-loop-i l = record {
  kept : l.matchers.book.now ≡ l.initial.matchers.book.now;
  before : items_settled l.not (map see_view l.rights) (take l.i (values_in (kids_at l.list.doc.now l.list.id))) ≡ true;
}
