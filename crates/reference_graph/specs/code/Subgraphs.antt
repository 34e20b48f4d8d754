-- Graphs with some of their names alone, and what is reached there.
use Rattle.std.specs.Prelude.{ℕ, ◌≡◌, ◌<◌, ◌≤◌, ◌⊎◌, ◌↔◌, List, Bool, length}
use Rattle.std.specs.List.{Contains}
use Rattle.rule_names.specs.Cycles.{parts_only}
use Rattle.rule_names.specs.Graphs.{Graph, Names, Reaches, Uses}
use Rattle.rule_names.specs.code.Marks.{IsMarked}

-- as many nodes, and each names those that it named below a number
pub record IsSubgraph (g : Graph) (bound : ℕ) (subgraph : Graph) : Type 0 where
  pub same_nodes : length subgraph ≡ length g
  pub exact : (a b : ℕ) → Names subgraph a b ↔ (Names g a b × (b < bound))

-- a node names those of some nodes too that are below a number
pub record NamesBelow (old : Graph) (node : ℕ) (targets : List ℕ) (bound : ℕ) (new : Graph) : Type 0 where
  pub same_nodes : length new ≡ length old
  pub exact : (a b : ℕ) → Names new a b ↔ (Names old a b ⊎ ((node ≡ a) × Contains targets b × (b < bound)))

-- one of some nodes is no part, and is a node or marked
abbrev pub Leads : List Bool → (count node : ℕ) → List ℕ → Type 0
Leads users count node targets = (name : ℕ) × Contains targets name × (count ≤ name) × ((name ≡ node) ⊎ IsMarked users name)

-- a part that is reached from a node through parts alone, and leads to a name that is that node or reaches it
abbrev pub IsPartUse : ℕ → Graph → (node part : ℕ) → Type 0
IsPartUse count g node part = Reaches (parts_only count g) node part × ((name : ℕ) × Names g part name × (count ≤ name) × Uses g name node)

-- the least number below another of which something holds
pub record IsLeast (P : ℕ → Type 0) (high i : ℕ) : Type 0 where
  pub below : i < high
  pub here : P i
  pub before : (k : ℕ) → k < i → P k → ⊥

-- it holds of no number below another
abbrev pub NoneBelow : (ℕ → Type 0) → ℕ → Type 0
NoneBelow P high = (k : ℕ) → k < high → P k → ⊥
