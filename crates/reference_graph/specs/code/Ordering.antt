-- How far a walk that orders a graph has come.
use Rattle.std.specs.Prelude.{ℕ, Bool, true, ◌≡◌, ◌≢◌, ◌+◌, ◌*◌, ◌<◌, ◌≤◌, ◌↔◌, ◌⊎◌, List, [], ◌∷◌, ◌++◌, length, map, take, slice_index, slice_index_or, slice_set}
use Rattle.std.specs.List.{All, AllPairs, Contains}
use Rattle.rule_names.specs.Graphs.{Graph, Names, Reaches, HasCycle, IsOrder}
use Rattle.rule_names.specs.code.Marks.{IsMarked, unmarked}
use Rattle.reference_graph.specs.declared.ordering.Stop.{Stop}
use Rattle.reference_graph.specs.declared.ordering.Walk.{Walk}
use Rattle.reference_graph.specs.declared.ordering.WalkOutcome.{WalkOutcome}
use Rattle.reference_graph.specs.declared.ordering.WalkOutcome.TheVariants.{Ordered, Cycle}

-- the done nodes are listed, each once, and behind all that it names
pub record IsSettled (g : Graph) (done : List Bool) (order : List ℕ) : Type 0 where
  pub same_nodes : length done ≡ length g
  pub listed : (a : ℕ) → IsMarked done a ↔ Contains order a
  pub once : AllPairs (λ a b. a ≢ b) order
  pub behind : (i b : ℕ) → i < length order → Names g (slice_index order i) b → Contains (take i order) b

-- the nodes that are begun and not done stand on a path, once and each reaching the next
pub record IsOnPath (g : Graph) (begun done : List Bool) (path : List ℕ) : Type 0 where
  pub same_nodes : length begun ≡ length g
  pub done_begun : (a : ℕ) → IsMarked done a → IsMarked begun a
  pub begun_on : (a : ℕ) → IsMarked begun a → IsMarked done a ⊎ Contains path a
  pub on_begun : (a : ℕ) → Contains path a → IsMarked begun a
  pub on_undone : (a : ℕ) → Contains path a → IsMarked done a → ⊥
  pub leads : AllPairs (Reaches g) path
  pub once : AllPairs (λ a b. a ≢ b) path

-- of a node the targets before an index are done
abbrev pub IsPassed : Graph → List Bool → (node next : ℕ) → Type 0
IsPassed g done node next = (k : ℕ) → k < next → k < length (slice_index_or g node []) → IsMarked done (slice_index (slice_index_or g node []) k)

abbrev pub nodes_on : List Stop → List ℕ
nodes_on path = map (λ stop. stop.node) path

-- all this, of a walk as the code has it
pub record IsWalked (g : Graph) (walk : Walk) : Type 0 where
  pub settled : IsSettled g walk.done.items walk.order.items
  pub on_path : IsOnPath g walk.begun.items walk.done.items (nodes_on walk.path.items)
  pub passed : All (λ stop. IsPassed g walk.done.items stop.node stop.next) walk.path.items

-- what a walk has to do at most before its path is empty: two steps for each node that is not begun, one for each on the path
abbrev pub work_left : Walk → ℕ
work_left walk = 2 * unmarked walk.begun.items + length walk.path.items

-- all that was begun is still begun, and a node is too
pub record Begins (node : ℕ) (old new : Walk) : Type 0 where
  pub here : IsMarked new.begun.items node
  pub kept : (a : ℕ) → IsMarked old.begun.items a → IsMarked new.begun.items a

-- a node is put behind those that are done, and nothing else changes
pub record Finishes (node : ℕ) (old new : Walk) : Type 0 where
  pub done : new.done.items ≡ slice_set old.done.items node true
  pub order : new.order.items ≡ old.order.items ++ node ∷ []
  pub begun : new.begun ≡ old.begun
  pub path : new.path ≡ old.path

-- each of some nodes from an index on is marked
abbrev pub AreMarkedFrom : List Bool → List ℕ → ℕ → Type 0
AreMarkedFrom marks nodes low = (k : ℕ) → low ≤ k → k < length nodes → IsMarked marks (slice_index nodes k)

-- the index of the first of some nodes from an index on that is not marked
pub record IsFirstUnmarked (marks : List Bool) (nodes : List ℕ) (low i : ℕ) : Type 0 where
  pub from_low : low ≤ i
  pub within : i < length nodes
  pub here : IsMarked marks (slice_index nodes i) → ⊥
  pub before : (k : ℕ) → low ≤ k → k < i → IsMarked marks (slice_index nodes k)

-- an order, or marks of nodes that do not reach themselves and some node that does
abbrev pub IsWalkOutcome : Graph → WalkOutcome → Type 0
IsWalkOutcome g (Ordered order) = IsOrder g order.items
IsWalkOutcome g (Cycle done) = (length done.items ≡ length g) × ((a : ℕ) → IsMarked done.items a → Reaches g a a → ⊥) × HasCycle g
