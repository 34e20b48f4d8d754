use Rattle.std.proofs.Common.{ℕ, ◌<◌, ◌≤◌}
use Rattle.rule_names.specs.Graphs.{Reaches}
use Rattle.reference_graph.proofs.cycle.first_unmarked_on_cycle.Given as goal

abbrev pub invariant-loop-node : goal.invariant-loop-node
invariant-loop-node l = (a : ℕ) → l.low ≤ a → a < l.node → Reaches l.graph a a → ⊥
