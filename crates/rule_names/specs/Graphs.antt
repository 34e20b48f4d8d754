-- Graphs: which node names and reaches which, and the orders in which each node stands behind what it names.
use Rattle.std.specs.Prelude.{ℕ, ◌≡◌, ◌≢◌, ◌<◌, ◌≤◌, ◌^◌, ◌↔◌, ◌⊎◌, List, [], length, take, slice_index, slice_index_or}
use Rattle.std.specs.List.{AllPairs, Contains}

-- for each node the nodes that it names, in order; the nodes are the numbers from 0 on
abbrev pub Graph : Type 0
Graph = List (List ℕ)

-- a node names another
abbrev pub Names : Graph → ℕ → ℕ → Type 0
Names g a b = Contains (slice_index_or g a []) b

-- each node that is named is one of the graph, and there are fewer nodes than numbers of 32 bits
pub record IsGraph (g : Graph) : Type 0 where
  pub named : (a b : ℕ) → Names g a b → b < length g
  pub few : length g < 2 ^ 32

-- a node reaches another: it names it, or names one that reaches it
pub data Reaches (g : Graph) : ℕ → ℕ → Type 0 where
  names : {a b : ℕ} → Names g a b → Reaches g a b
  through : {a b c : ℕ} → Names g a c → Reaches g c b → Reaches g a b

-- some node reaches itself
abbrev pub HasCycle : Graph → Type 0
HasCycle g = (a : ℕ) × Reaches g a a

-- a list has each node of a graph just once, and each stands behind all that it names
pub record IsOrder (g : Graph) (order : List ℕ) : Type 0 where
  pub all : (a : ℕ) → a < length g → Contains order a
  pub only : (a : ℕ) → Contains order a → a < length g
  pub once : AllPairs (λ a b. a ≢ b) order
  pub behind : (i b : ℕ) → i < length order → Names g (slice_index order i) b → Contains (take i order) b

-- as many nodes, and each names those that named it
pub record IsReverse (g back : Graph) : Type 0 where
  pub same_nodes : length back ≡ length g
  pub turned : (a b : ℕ) → Names back b a ↔ Names g a b

-- the least node from low up to high, without it, that reaches itself
pub record IsFirstOnCycle (g : Graph) (low high a : ℕ) : Type 0 where
  pub from_low : low ≤ a
  pub below_high : a < high
  pub cycle : Reaches g a a
  pub least : (b : ℕ) → low ≤ b → b < a → Reaches g b b → ⊥

-- no node from low up to high, without it, reaches itself
abbrev pub NoneOnCycle : Graph → ℕ → ℕ → Type 0
NoneOnCycle g low high = (a : ℕ) → low ≤ a → a < high → Reaches g a a → ⊥

-- the index of the first of some numbers of which something holds
pub record IsFirstOf (P : ℕ → Type 0) (xs : List ℕ) (i : ℕ) : Type 0 where
  pub within : i < length xs
  pub here : P (slice_index xs i)
  pub before : (k : ℕ) → k < i → P (slice_index xs k) → ⊥

-- it holds of none of them
abbrev pub IsOfNone : (ℕ → Type 0) → List ℕ → Type 0
IsOfNone P xs = (k : ℕ) → k < length xs → P (slice_index xs k) → ⊥

-- a node uses another: it is it, or reaches it
abbrev pub Uses : Graph → ℕ → ℕ → Type 0
Uses g a b = (a ≡ b) ⊎ Reaches g a b
