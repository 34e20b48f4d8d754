-- The graph of some edges: what a node names there, and one edge more.
use Rattle.std.proofs.Common.{◌≡◌, ℕ, ◌^◌, ◌<◌, inl, inr, Bool, cond, refl, ap, sym, ◌∙◌, subst, List, [], ◌∷◌, ◌++◌, length, get_or, set, arith, replicate}
use Rattle.std.specs.Prelude.{nat_lt, ◌&&◌}
use Rattle.std.specs.List.{Contains}
use Rattle.std.proofs.lemmas.Bool.{cases_eq, lt-ltb}
use Rattle.std.proofs.lemmas.List.{append-nil, append_assoc, get_or-set_other, get_or-set_same, get_or_default, length-replicate, length-set, same_lists}
use Rattle.std.proofs.lemmas.List.Elements.{All-tail}
use Rattle.rule_names.specs.Graphs.{Graph, IsGraph}
use Rattle.rule_names.specs.ReferenceGraph.{Edge, with_edge, with_edges}
use Rattle.reference_graph.specs.code.Layout.{AreWithin, IsFilled, rows_of, target_if, targets_from}
use Rattle.reference_graph.proofs.Additions.{graph-added}
use Rattle.reference_graph.proofs.Layouts.{filled-length, filled-row, target-here, target-other}
use Rattle.reference_graph.proofs.Marking.{not-in-none}
use Rattle.reference_graph.proofs.Reversals.{nothing-there}

module _ (g : Graph) (edge : Edge) (from : edge.0 < length g) (to : edge.1 < length g) where
  pub edge-is : with_edge g edge ≡ set g edge.0 (get_or g edge.0 [] ++ edge.1 ∷ [])
  edge-is =
      ap (λ (b : Bool). cond {A = Graph} (b && nat_lt edge.1 (length g)) (set g edge.0 (get_or g edge.0 [] ++ edge.1 ∷ [])) g) (lt-ltb edge.0 (length g) from)
      ∙ ap (λ (b : Bool). cond {A = Graph} b (set g edge.0 (get_or g edge.0 [] ++ edge.1 ∷ [])) g) (lt-ltb edge.1 (length g) to)

  edge-length : length (with_edge g edge) ≡ length g
  edge-length = ap (λ (h : Graph). length h) edge-is ∙ length-set g edge.0 (get_or g edge.0 [] ++ edge.1 ∷ [])

  edge-graph : IsGraph g → IsGraph (with_edge g edge)
  edge-graph is = subst IsGraph (sym edge-is) (graph-added g edge.0 edge.1 from is to)

  edge-at : (a : ℕ) → get_or (with_edge g edge) a [] ≡ get_or g a [] ++ target_if a edge
  edge-at a = ap (λ (h : Graph). get_or h a []) edge-is ∙ elim (cases_eq edge.0 a) [
    | inl e ↦
        subst (λ (n : ℕ). get_or (set g edge.0 (get_or g edge.0 [] ++ edge.1 ∷ [])) n [] ≡ get_or g n [] ++ target_if n edge) e
        (get_or-set_same g edge.0 (get_or g edge.0 [] ++ edge.1 ∷ []) [] from ∙ ap (λ (l : List ℕ). get_or g edge.0 [] ++ l) (sym (target-here edge.0 edge refl)))
    | inr n ↦
        get_or-set_other g edge.0 a (get_or g edge.0 [] ++ edge.1 ∷ []) [] (λ e. n (sym e))
        ∙ sym (append-nil (get_or g a []))
        ∙ ap (λ (l : List ℕ). get_or g a [] ++ l) (sym (target-other a edge n))
  ]

first-within : (count : ℕ) (edge : Edge) (edges : List Edge) → AreWithin count (edge ∷ edges) → (edge.0 < count) × (edge.1 < count)
first-within count edge edges are = are 0 edge (omega arith)

rest-within : (count : ℕ) (edge : Edge) (edges : List Edge) → AreWithin count (edge ∷ edges) → AreWithin count edges
rest-within count edge edges are = All-tail (λ (e : Edge). (e.0 < count) × (e.1 < count)) edge edges are

pub edges-length : (g : Graph) (count : ℕ) (edges : List Edge) → length g ≡ count → AreWithin count edges → length (with_edges g edges) ≡ count
edges-length g count [] same are = same
edges-length g count (edge ∷ edges) same are =
    let first = first-within count edge edges are in
    let from : edge.0 < length g = omega (arith, same, first.0) in
    let to : edge.1 < length g = omega (arith, same, first.1) in
    edges-length (with_edge g edge) count edges (edge-length g edge from to ∙ same) (rest-within count edge edges are)

edges-graph : (g : Graph) (count : ℕ) (edges : List Edge) → length g ≡ count → AreWithin count edges → IsGraph g → IsGraph (with_edges g edges)
edges-graph g count [] same are is = is
edges-graph g count (edge ∷ edges) same are is =
    let first = first-within count edge edges are in
    let from : edge.0 < length g = omega (arith, same, first.0) in
    let to : edge.1 < length g = omega (arith, same, first.1) in
    edges-graph (with_edge g edge) count edges (edge-length g edge from to ∙ same) (rest-within count edge edges are) (edge-graph g edge from to is)

edges-at : (g : Graph) (count : ℕ) (edges : List Edge) (a : ℕ) → length g ≡ count → AreWithin count edges → get_or (with_edges g edges) a [] ≡ get_or g a [] ++ targets_from a edges
edges-at g count [] a same are = sym (append-nil (get_or g a []))
edges-at g count (edge ∷ edges) a same are =
    let first = first-within count edge edges are in
    let from : edge.0 < length g = omega (arith, same, first.0) in
    let to : edge.1 < length g = omega (arith, same, first.1) in
    edges-at (with_edge g edge) count edges a (edge-length g edge from to ∙ same) (rest-within count edge edges are)
    ∙ ap (λ (l : List ℕ). l ++ targets_from a edges) (edge-at g edge from to a)
    ∙ append_assoc (get_or g a []) (target_if a edge) (targets_from a edges)

pub edges-push : (g : Graph) (edges : List Edge) (edge : Edge) → with_edges g (edges ++ edge ∷ []) ≡ with_edge (with_edges g edges) edge
edges-push g [] edge = refl
edges-push g (first ∷ edges) edge = edges-push (with_edge g first) edges edge

-- ---- the edges of a graph that has no others

pub built-length : (count : ℕ) (edges : List Edge) → AreWithin count edges → length (with_edges (replicate count []) edges) ≡ count
built-length count edges are = edges-length (replicate count []) count edges (length-replicate {A = List ℕ} count []) are

pub built-push : (count : ℕ) (edges : List Edge) (edge : Edge) → AreWithin count edges → edge.0 < count → edge.1 < count
    → with_edges (replicate count []) (edges ++ edge ∷ [])
    ≡ set (with_edges (replicate count []) edges) edge.0 (get_or (with_edges (replicate count []) edges) edge.0 [] ++ edge.1 ∷ [])
built-push count edges edge are from to =
    let long = built-length count edges are in
    edges-push (replicate count []) edges edge ∙ edge-is (with_edges (replicate count []) edges) edge (omega (arith, long, from)) (omega (arith, long, to))

none-graph : (count : ℕ) → count < 2 ^ 32 → IsGraph (replicate count [])
none-graph count few = record {
  named = λ a b h. absurd (not-in-none b (subst (λ (row : List ℕ). Contains row b) (nothing-there count a) h));
  few = rw (length-replicate {A = List ℕ} count []) few;
}

pub built-graph : (count : ℕ) (edges : List Edge) → count < 2 ^ 32 → AreWithin count edges → IsGraph (with_edges (replicate count []) edges)
built-graph count edges few are = edges-graph (replicate count []) count edges (length-replicate {A = List ℕ} count []) are (none-graph count few)

-- it is what is laid out
pub built-rows : (count : ℕ) (edges : List Edge) (starts targets : List ℕ) → AreWithin count edges → IsFilled count edges edges starts targets → rows_of starts targets ≡ with_edges (replicate count []) edges
built-rows count edges starts targets are so =
    let long = built-length count edges are in
    let rows = filled-length count edges starts targets so in
    same_lists (rows_of starts targets) (with_edges (replicate count []) edges) (rows ∙ sym long) (λ a d l.
    let within : a < count = omega (arith, l, rows) in
    let in-built : a < length (with_edges (replicate count []) edges) = omega (arith, within, long) in
    get_or_default (rows_of starts targets) a d [] l
    ∙ filled-row count edges starts targets so a within
    ∙ sym (edges-at (replicate count []) count edges a (length-replicate {A = List ℕ} count []) are ∙ ap (λ (l : List ℕ). l ++ targets_from a edges) (nothing-there count a))
    ∙ get_or_default (with_edges (replicate count []) edges) a [] d in-built)
