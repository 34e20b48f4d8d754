use Rattle.std.proofs.Common.{◌≡◌, map, take}
use Rattle.value_compare.specs.code.Settled.{settled}
use Rattle.value_store.specs.code.Views.{see_view}
use Rattle.value_compare.proofs.members.settles.Given as goal

abbrev pub invariant-loop-right : goal.invariant-loop-right
invariant-loop-right l = record {
  kept : l.matchers.book.now ≡ l.initial.matchers.book.now;
  before : settled l.not l.asked (see_view l.left) (take l.right-index (map see_view l.rights)) ≡ l.not;
}
