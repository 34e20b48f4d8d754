-- A graph without some of its names, one node after another, and what is reached there.
use Rattle.std.proofs.Common.{◌≡◌, ℕ, ◌+◌, ◌<◌, ◌≤◌, ◌↔◌, inl, inr, Bool, true, false, cond, refl, ap, sym, ◌∙◌, subst, List, [], ◌∷◌, ◌++◌, length, get_or, set, arith, replicate}
use Rattle.std.specs.Prelude.{nat_lt}
use Rattle.std.specs.List.{Contains, All, filter}
use Rattle.std.proofs.lemmas.Bool.{cases_lt, ltb-true}
use Rattle.std.proofs.lemmas.Bool.Decides.{nat_tests}
use Rattle.std.proofs.lemmas.List.{length-set, length-map, length-replicate, get_or_past, get_or-map}
use Rattle.std.proofs.lemmas.List.Elements.{All-nil, All-cons, All-contains, All-contains_itself, All-filter, All-weaker, filter_passes, Contains-push, Contains-push_cases, Contains-append_left, Contains-append_right}
use Rattle.rule_names.specs.Cycles.{parts_only}
use Rattle.rule_names.specs.Graphs.{Graph, Names, Reaches, names, through}
use Rattle.reference_graph.specs.code.Subgraphs.{IsSubgraph, NamesBelow}
use Rattle.reference_graph.proofs.Marking.{not-in-none}
use Rattle.reference_graph.proofs.Walks.{names-from}
use Rattle.reference_graph.proofs.Reversals.{nothing-there}
use Rattle.reference_graph.proofs.Additions.{named-after, names-kept, names-added}

pub below-none : (g : Graph) (node bound : ℕ) → NamesBelow g node [] bound g
below-none g node bound = record {
  same_nodes = refl;
  exact = λ a b. ((λ h. inl h), (λ h. elim h [ inl k ↦ k | inr k ↦ absurd (not-in-none b k.1) ]));
}

module _ (old new : Graph) (node : ℕ) (ts : List ℕ) (bound t : ℕ) (so : NamesBelow old node ts bound new) where
  pub below-skip : bound ≤ t → NamesBelow old node (ts ++ t ∷ []) bound new
  below-skip high = record {
    same_nodes = so.same_nodes;
    exact = λ a b. (
      (λ h. elim ((so.exact a b).0 h) [ inl o ↦ inl o | inr o ↦ inr (o.0, Contains-append_left ts (t ∷ []) b o.1, o.2) ]),
      (λ h. elim h [
        | inl k ↦ (so.exact a b).1 (inl k)
        | inr k ↦ elim (Contains-push_cases ts t b k.1) [
          | inl o ↦ (so.exact a b).1 (inr (k.0, o, k.2))
          | inr e ↦ let low = k.2 in absurd (omega arith)
        ]
      ]),
    );
  }

  pub below-add : t < bound → node < length new → NamesBelow old node (ts ++ t ∷ []) bound (set new node (get_or new node [] ++ t ∷ []))
  below-add low within = record {
    same_nodes = length-set new node (get_or new node [] ++ t ∷ []) ∙ so.same_nodes;
    exact = λ a b. (
      (λ h. elim (named-after new node t within a b h) [
        | inl k ↦ elim ((so.exact a b).0 k) [ inl o ↦ inl o | inr o ↦ inr (o.0, Contains-append_left ts (t ∷ []) b o.1, o.2) ]
        | inr e ↦ inr (e.0, subst (Contains (ts ++ t ∷ [])) e.1 (Contains-push ts t), subst (λ (z : ℕ). z < bound) e.1 low)
      ]),
      (λ h. elim h [
        | inl k ↦ names-kept new node t within a b ((so.exact a b).1 (inl k))
        | inr k ↦ elim (Contains-push_cases ts t b k.1) [
          | inl o ↦ names-kept new node t within a b ((so.exact a b).1 (inr (k.0, o, k.2)))
          | inr e ↦ subst (λ (z : ℕ). Names (set new node (get_or new node [] ++ t ∷ [])) z b) k.0 (subst (λ (z : ℕ). Names (set new node (get_or new node [] ++ t ∷ [])) node z) e (names-added new node t within))
        ]
      ]),
    );
  }

-- the nodes below i are done
pub record IsSubgraphOf (g : Graph) (bound i : ℕ) (subgraph : Graph) : Type 0 where
  pub same_nodes : length subgraph ≡ length g
  pub exact : (a b : ℕ) → Names subgraph a b ↔ (Names g a b × (b < bound) × (a < i))

pub subgraph_below-none : (g : Graph) (bound : ℕ) → IsSubgraphOf g bound 0 (replicate (length g) [])
subgraph_below-none g bound = record {
  same_nodes = length-replicate (length g) [];
  exact = λ a b. (
    (λ h. absurd (not-in-none b (subst (λ (row : List ℕ). Contains row b) (nothing-there (length g) a) h))),
    (λ h. let l = h.2 in absurd (omega arith)),
  );
}

pub subgraph_below-more : (g : Graph) (bound i : ℕ) (subgraph new : Graph) → IsSubgraphOf g bound i subgraph → NamesBelow subgraph i (get_or g i []) bound new → IsSubgraphOf g bound (i + 1) new
subgraph_below-more g bound i subgraph new so more = record {
  same_nodes = more.same_nodes ∙ so.same_nodes;
  exact = λ a b. (
    (λ h. elim ((more.exact a b).0 h) [
      | inl k ↦ let was = (so.exact a b).0 k in (was.0, was.1, (let l = was.2 in omega arith))
      | inr k ↦ (subst (λ (z : ℕ). Names g z b) k.0 k.1, k.2, (let e = k.0 in omega arith))
    ]),
    (λ h. elim (cases_lt a i) [
      | inl l ↦ (more.exact a b).1 (inl ((so.exact a b).1 (h.0, h.1, l)))
      | inr l ↦
          let below = h.2 in
          let e : a ≡ i = omega arith in
          (more.exact a b).1 (inr (sym e, subst (λ (z : ℕ). Names g z b) e h.0, h.1))
    ]),
  );
}

pub subgraph_below-all : (g : Graph) (bound i : ℕ) (subgraph : Graph) → IsSubgraphOf g bound i subgraph → length g ≤ i → IsSubgraph g bound subgraph
subgraph_below-all g bound i subgraph so all = record {
  same_nodes = so.same_nodes;
  exact = λ a b. (
    (λ h. let was = (so.exact a b).0 h in (was.0, was.1)),
    (λ h. let l = names-from g a b h.0 in (so.exact a b).1 (h.0, h.1, (omega arith))),
  );
}

-- ---- what is left of a list

kept-head : (v : Bool) (x : ℕ) (xs : List ℕ) → v ≡ true → Contains (cond v (x ∷ xs) xs) x
kept-head true x xs e = Contains-append_left (x ∷ []) xs x (Contains-push [] x)
kept-head false x xs e = absurd cc

kept-tail : (v : Bool) (x y : ℕ) (xs : List ℕ) → Contains xs y → Contains (cond v (x ∷ xs) xs) y
kept-tail true x y xs h = Contains-append_right (x ∷ []) xs y h
kept-tail false x y xs h = h

kept-all : (p : ℕ → Bool) (xs : List ℕ) → All (λ y. p y ≡ true → Contains (filter p xs) y) xs
kept-all p [] = All-nil (λ y. p y ≡ true → Contains (filter p []) y)
kept-all p (x ∷ xs) =
    All-cons (λ y. p y ≡ true → Contains (filter p (x ∷ xs)) y) x xs (kept-head (p x) x (filter p xs))
    (All-weaker (λ y. p y ≡ true → Contains (filter p xs) y) (λ y. p y ≡ true → Contains (filter p (x ∷ xs)) y) (λ y h e. kept-tail (p x) x y (filter p xs) (h e)) xs (kept-all p xs))

was-there : (p : ℕ → Bool) (xs : List ℕ) (y : ℕ) → Contains (filter p xs) y → Contains xs y
was-there p xs y h = All-contains (Contains xs) (filter p xs) y (All-filter p (Contains xs) xs (All-contains_itself xs)) h

row-of : (count : ℕ) (g : Graph) (a : ℕ) → get_or (parts_only count g) a [] ≡ filter (λ node. nat_lt node count) (get_or g a [])
row-of count g a = elim (cases_lt a (length g)) [
  | inl l ↦ get_or-map (λ (row : List ℕ). filter (λ node. nat_lt node count) row) g a [] [] l
  | inr l ↦
      get_or_past (parts_only count g) a [] (omega (arith, length-map g (λ (row : List ℕ). filter (λ node. nat_lt node count) row)))
      ∙ ap (λ (row : List ℕ). filter (λ node. nat_lt node count) row) (sym (get_or_past g a [] l))
]

pub parts-only-subgraph : (count : ℕ) (g : Graph) → IsSubgraph g count (parts_only count g)
parts-only-subgraph count g = record {
  same_nodes = length-map g (λ (row : List ℕ). filter (λ node. nat_lt node count) row);
  exact = λ a b. (
    (λ h.
        let there : Contains (filter (λ node. nat_lt node count) (get_or g a [])) b = subst (λ (row : List ℕ). Contains row b) (row-of count g a) h in (
          was-there (λ node. nat_lt node count) (get_or g a []) b there,
          ltb-true b count (All-contains (λ y. nat_lt y count ≡ true) (filter (λ node. nat_lt node count) (get_or g a [])) b (filter_passes (λ node. nat_lt node count) (get_or g a [])) there),
        )),
    (λ h.
        let l : b < count = h.1 in
        let passes : nat_lt b count ≡ true = grind (arith, nat_tests) in
        subst (λ (row : List ℕ). Contains row b) (sym (row-of count g a))
        (All-contains (λ y. nat_lt y count ≡ true → Contains (filter (λ node. nat_lt node count) (get_or g a [])) y) (get_or g a []) b (kept-all (λ node. nat_lt node count) (get_or g a [])) h.0 passes)),
  );
}

-- two such graphs reach the same
pub subgraph-same : {g n m : Graph} {bound a b : ℕ} → IsSubgraph g bound n → IsSubgraph g bound m → Reaches n a b → Reaches m a b
subgraph-same {a = a} {b = b} is as_ (names h) = names ((as_.exact a b).1 ((is.exact a b).0 h))
subgraph-same {a = a} is as_ (through {c = c} h r) = through ((as_.exact a c).1 ((is.exact a c).0 h)) (subgraph-same is as_ r)

pub subgraph-below : {g n : Graph} {bound a b : ℕ} → IsSubgraph g bound n → Reaches n a b → b < bound
subgraph-below {a = a} {b = b} is (names h) = ((is.exact a b).0 h).1
subgraph-below is (through h r) = subgraph-below is r
