use Rattle.std.proofs.Common.{◌≡◌, drop}
use Rattle.std.specs.List.{list_all}
use Rattle.value_store.specs.code.Stores.{see_store}
use Rattle.rule_meaning.specs.Keys.{passes}
use Rattle.engine_parts.proofs.judging.all_pass.Given as goal

abbrev pub invariant-loop-left : goal.invariant-loop-left
invariant-loop-left l = record {
  kept : l.matchers.book.now ≡ l.initial.matchers.book.now;
  left : list_all (passes (see_store l.store) l.test.op l.test.not l.test.rights.now) l.lefts ≡ list_all (passes (see_store l.store) l.test.op l.test.not l.test.rights.now) (drop l.left-index l.lefts);
}
