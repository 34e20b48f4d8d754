use Rattle.std.proofs.Common.{ℕ, ◌≡◌, ◌<◌, []}
use Rattle.rule_names.specs.code.Marks.{IsMarked}
use Rattle.reference_graph.specs.code.Ordering.{IsWalked}
use Rattle.reference_graph.proofs.ordering.walk_all.Given as goal

abbrev pub invariant-loop-root : goal.invariant-loop-root
invariant-loop-root l = record {
  walked : IsWalked l.graph l.walk;
  idle : l.walk.path.items ≡ [];
  begun : (a : ℕ) → a < l.root → IsMarked l.walk.begun.items a;
}
