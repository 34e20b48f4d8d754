-- Sites that are picked from the nodes of rules, in the order of the nodes.
use Rattle.std.specs.Prelude.{ℕ, Bool, ◌≡◌, ◌+◌, ◌<◌, ◌↔◌, List, length, slice_index}
use Rattle.std.specs.List.{AllPairs, Contains}
use Rattle.rule_names.specs.code.Marks.{IsMarked}

-- a node stands in front of another
abbrev pub IsInFront : List ℕ → ℕ → ℕ → Type 0
IsInFront nodes a b = (i j : ℕ) × (i < j) × (j < length nodes) × (slice_index nodes i ≡ a) × (slice_index nodes j ≡ b)

-- the sites that are marked and whose rules' nodes, which are so many more, are among the nodes; in the order of the nodes
pub record ArePicked (count : ℕ) (marks : List Bool) (nodes sites : List ℕ) : Type 0 where
  pub which : (site : ℕ) → Contains sites site ↔ (Contains nodes (count + site) × IsMarked marks site)
  pub following : AllPairs (λ a b. IsInFront nodes (count + a) (count + b)) sites
