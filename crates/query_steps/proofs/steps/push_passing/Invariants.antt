use Rattle.std.proofs.Common.{◌≡◌, ◌++◌, map, filter, take}
use Rattle.guard_syntax.specs.declared.row.Ref.{Ref}
use Rattle.guard_syntax.specs.declared.row.Row.TheVariants.{Found}
use Rattle.value_store.specs.code.Stores.{see_store}
use Rattle.rule_meaning.specs.Keys.{passes}
use Rattle.rule_meaning.specs.Reached.{key_of}
use Rattle.query_steps.proofs.steps.push_passing.Given as goal

abbrev pub invariant-loop-entry : goal.invariant-loop-entry
invariant-loop-entry l = record {
  kept : l.matchers.book.now ≡ l.initial.matchers.book.now;
  added : l.into.items ≡ l.initial.into.items ++ map Found (filter (λ (r : Ref). passes (see_store l.store) l.test.op l.test.not l.test.rights.now (Found (key_of r))) (take l.entry-index l.entries));
}
