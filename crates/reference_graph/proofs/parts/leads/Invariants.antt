use Rattle.std.proofs.Common.{◌≡◌, ℕ, ◌<◌, ◌≤◌, ◌⊎◌, get_or}
use Rattle.rule_names.specs.code.Marks.{IsMarked}
use Rattle.reference_graph.proofs.parts.leads.Given as goal

abbrev pub invariant-loop-target : goal.invariant-loop-target
invariant-loop-target l = (k : ℕ) → k < l.target-index → l.count ≤ get_or l.targets k 0 → (get_or l.targets k 0 ≡ l.node) ⊎ IsMarked l.users (get_or l.targets k 0) → ⊥
