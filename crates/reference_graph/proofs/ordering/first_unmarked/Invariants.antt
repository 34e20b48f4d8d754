use Rattle.std.proofs.Common.{ℕ, ◌<◌, ◌≤◌, get_or}
use Rattle.rule_names.specs.code.Marks.{IsMarked}
use Rattle.reference_graph.proofs.ordering.first_unmarked.Given as goal

abbrev pub invariant-loop-index : goal.invariant-loop-index
invariant-loop-index l = (k : ℕ) → l.low ≤ k → k < l.index → IsMarked l.marks (get_or l.nodes k 0)
