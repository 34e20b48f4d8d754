-- Each cycle in the graph of a file has a name on it: where no name reaches itself, no node does.
use Rattle.std.proofs.Common.{◌≡◌, ℕ, ◌+◌, ◌*◌, ◌<◌, ◌≤◌, ◌⊎◌, inl, inr, Bool, true, false, cond, refl, sym, ◌∙◌, subst, List, [], ◌∷◌, ◌++◌, length, get_or, set, arith, replicate}
use Rattle.std.specs.Prelude.{nat_lt, ◌&&◌}
use Rattle.std.specs.List.{Contains}
use Rattle.std.proofs.lemmas.Bool.{cases_eq, cases_lt}
use Rattle.std.proofs.lemmas.List.{set_past, length-set, length-replicate, get_or-replicate, get_or_past, get_or-set_same, get_or-set_other}
use Rattle.std.proofs.lemmas.List.Elements.{Contains-push_cases}
use Rattle.guard_syntax.specs.Syntax.{File}
use Rattle.rule_names.specs.Cycles.{IsAcyclic}
use Rattle.rule_names.specs.Graphs.{Graph, Names, Reaches, names, through, HasCycle}
use Rattle.rule_names.specs.Pieces.{AreInOrder}
use Rattle.rule_names.specs.ReferenceGraph.{Edge, edges_of_file, with_edge, with_edges, graph_of}
use Rattle.rule_names.proofs.FallingEdges.{FallsBy, Fall, fall-file}
use Rattle.rule_names.proofs.Sizes.{size_at}

-- ---- what names nodes

nothing-named : (a : ℕ) → Contains {X = ℕ} [] a → ⊥
nothing-named a h = let l : h.0 < 0 = h.1 in absurd (omega arith)

named-from : (g : Graph) (a b : ℕ) → Names g a b → a < length g
named-from g a b h = elim (cases_lt a (length g)) [
  | inl l ↦ l
  | inr l ↦ absurd (nothing-named b (subst (λ (row : List ℕ). Contains row b) (get_or_past g a [] l) h))
]

reached-from : (g : Graph) (a b : ℕ) → Reaches g a b → a < length g
reached-from g a b (names n) = named-from g a b n
reached-from g a b (through {c = c} n r) = named-from g a c n

empty-names : (n a b : ℕ) → Names (replicate n []) a b → ⊥
empty-names n a b h =
    let within : a < n = subst (λ (m : ℕ). a < m) (length-replicate {A = List ℕ} n []) (named-from (replicate n []) a b h) in
    nothing-named b (subst (λ (row : List ℕ). Contains row b) (get_or-replicate {A = List ℕ} n a [] [] within) h)

-- ---- the graph of edges

set-names : (g : Graph) (a b x y : ℕ) → Names (set g a (get_or g a [] ++ b ∷ [])) x y → Names g x y ⊎ ((a ≡ x) × (b ≡ y))
set-names g a b x y h = elim (cases_lt a (length g)) [
  | inl l ↦ elim (cases_eq x a) [
    | inl e ↦
        let at_a : Contains (get_or (set g a (get_or g a [] ++ b ∷ [])) a []) y = subst (λ (z : ℕ). Contains (get_or (set g a (get_or g a [] ++ b ∷ [])) z []) y) e h in
        let pushed : Contains (get_or g a [] ++ b ∷ []) y = subst (λ (row : List ℕ). Contains row y) (get_or-set_same g a (get_or g a [] ++ b ∷ []) [] l) at_a in
        elim (Contains-push_cases (get_or g a []) b y pushed) [
          | inl k ↦ inl (subst (λ (z : ℕ). Names g z y) (sym e) k)
          | inr k ↦ inr (sym e, k)
        ]
    | inr n ↦ inl (subst (λ (row : List ℕ). Contains row y) (get_or-set_other g a x (get_or g a [] ++ b ∷ []) [] n) h)
  ]
  | inr l ↦ inl (subst (λ (k : Graph). Names k x y) (set_past g a (get_or g a [] ++ b ∷ []) l) h)
]

edge-names : (v : Bool) (g : Graph) (w : Edge) (x y : ℕ) → Names (cond v (set g w.0 (get_or g w.0 [] ++ w.1 ∷ [])) g) x y → Names g x y ⊎ ((w.0 ≡ x) × (w.1 ≡ y))
edge-names true g w x y h = set-names g w.0 w.1 x y h
edge-names false g w x y h = inl h

edge-length : (v : Bool) (g : Graph) (w : Edge) → length (cond v (set g w.0 (get_or g w.0 [] ++ w.1 ∷ [])) g) ≡ length g
edge-length true g w = length-set g w.0 (get_or g w.0 [] ++ w.1 ∷ [])
edge-length false g w = refl

edges-length : (g : Graph) (ws : List Edge) → length (with_edges g ws) ≡ length g
edges-length g [] = refl
edges-length g (w ∷ ws) = edges-length (with_edge g w) ws ∙ edge-length (nat_lt w.0 (length g) && nat_lt w.1 (length g)) g w

pub nodes-of : (f : File) → length (graph_of f) ≡ 3 * length f.places
nodes-of f = edges-length (replicate (3 * length f.places) []) (edges_of_file f) ∙ length-replicate {A = List ℕ} (3 * length f.places) []

module _ (f : File) where
  edges-fall : (g : Graph) (ws : List Edge) → ((x y : ℕ) → Names g x y → FallsBy f x y) → Fall f ws → (x y : ℕ) → Names (with_edges g ws) x y → FallsBy f x y
  edges-fall g [] start h x y k = start x y k
  edges-fall g (w ∷ ws) start h x y k =
      edges-fall (with_edge g w) ws
      (λ a b m. elim (edge-names (nat_lt w.0 (length g) && nat_lt w.1 (length g)) g w a b m) [
        | inl o ↦ start a b o
        | inr e ↦ subst (λ (z : ℕ). FallsBy f z b) e.0 (subst (λ (z : ℕ). FallsBy f w.0 z) e.1 h.0)
      ])
      h.1 x y k

  names-fall : AreInOrder f → (x y : ℕ) → Names (graph_of f) x y → FallsBy f x y
  names-fall order = edges-fall (replicate (3 * length f.places) []) (edges_of_file f) (λ x y k. absurd (empty-names (3 * length f.places) x y k)) (fall-file f order)

  -- ---- from a part to another the size falls, unless a name is on the way

  reached-on : {g : Graph} {a b c : ℕ} → Reaches g a b → Reaches g b c → Reaches g a c
  reached-on (names h) k = through h k
  reached-on (through h r) k = through h (reached-on r k)

  abbrev Through : ℕ → ℕ → Type 0
  Through a b = (c : ℕ) × (length f.places ≤ c) × Reaches (graph_of f) a c × Reaches (graph_of f) c b

  falls-or-through : AreInOrder f → (a b : ℕ) → Reaches (graph_of f) a b → a < length f.places → b < length f.places → (size_at f b < size_at f a) ⊎ Through a b
  falls-or-through order a b (names n) l m = inl (names-fall order a b n l m)
  falls-or-through order a b (through {c = c} n r) l m = elim (cases_lt c (length f.places)) [
    | inl part ↦ elim (falls-or-through order c b r part m) [
      | inl less ↦ let step = names-fall order a c n l part in inl (omega (arith, less, step))
      | inr on ↦ inr (on.0, on.1, through n on.2, on.3)
    ]
    | inr name ↦ inr (c, name, names n, r)
  ]

  name-cycle : IsAcyclic f → (a : ℕ) → length f.places ≤ a → Reaches (graph_of f) a a → ⊥
  name-cycle none a low r =
      let within : a < 3 * length f.places = subst (λ (n : ℕ). a < n) (nodes-of f) (reached-from (graph_of f) a a r) in
      none a low within r

  -- where no name reaches itself, nothing does
  pub no-cycle : AreInOrder f → IsAcyclic f → HasCycle (graph_of f) → ⊥
  no-cycle order none (a, r) = elim (cases_lt a (length f.places)) [
    | inl part ↦ elim (falls-or-through order a a r part part) [
      | inl less ↦ absurd (omega (arith, less))
      | inr on ↦ name-cycle none on.0 on.1 (reached-on on.3 on.2)
    ]
    | inr name ↦ name-cycle none a name r
  ]
