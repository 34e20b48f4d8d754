-- Marks on the nodes of a graph.
use Rattle.std.specs.Prelude.{ℕ, Bool, true, false, ◌≡◌, ◌+◌, ◌⊎◌, ◌↔◌, List, length, slice_index_or, if◌then◌else◌}
use Rattle.std.specs.List.{Contains, sum_by, All}
use Rattle.rule_names.specs.Graphs.{Graph, Names}

-- a node is marked
abbrev pub IsMarked : List Bool → ℕ → Type 0
IsMarked marks a = slice_index_or marks a false ≡ true

-- how many nodes are not
abbrev pub unmarked : List Bool → ℕ
unmarked marks = sum_by (λ m. if m then 0 else 1) marks

-- some nodes get marks, and those of them that had none are put behind the pending ones
pub record Marks (targets : List ℕ) (old : List Bool) (before : List ℕ) (new : List Bool) (after : List ℕ) : Type 0 where
  pub same_nodes : length new ≡ length old
  pub counted : unmarked new + length after ≡ unmarked old + length before
  pub kept : (a : ℕ) → IsMarked old a → IsMarked new a
  pub added : (a : ℕ) → Contains targets a → IsMarked new a
  pub only : (a : ℕ) → IsMarked new a → IsMarked old a ⊎ Contains targets a
  pub still : (a : ℕ) → Contains before a → Contains after a
  pub put : (a : ℕ) → IsMarked new a → IsMarked old a ⊎ Contains after a
  pub marked : All (IsMarked new) after

-- each of some nodes names one node more
pub record NamesMore (old : Graph) (nodes : List ℕ) (b : ℕ) (new : Graph) : Type 0 where
  pub same_nodes : length new ≡ length old
  pub exact : (x y : ℕ) → Names new x y ↔ (Names old x y ⊎ (Contains nodes x × (b ≡ y)))
