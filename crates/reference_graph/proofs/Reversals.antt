-- A graph turned round, one node after another.
use Rattle.std.proofs.Common.{◌≡◌, ℕ, ◌+◌, ◌<◌, ◌≤◌, ◌↔◌, inl, inr, refl, sym, ◌∙◌, subst, List, [], ◌∷◌, ◌++◌, length, get_or, set, arith, replicate}
use Rattle.std.specs.List.{Contains}
use Rattle.std.proofs.lemmas.Bool.{cases_lt}
use Rattle.std.proofs.lemmas.List.{length-set, length-replicate, get_or-replicate, get_or_past}
use Rattle.std.proofs.lemmas.List.Elements.{Contains-push, Contains-push_cases, Contains-append_left}
use Rattle.rule_names.specs.Graphs.{Graph, Names, IsReverse}
use Rattle.rule_names.specs.code.Marks.{NamesMore}
use Rattle.reference_graph.proofs.Marking.{not-in-none}
use Rattle.reference_graph.proofs.Walks.{names-from}
use Rattle.reference_graph.proofs.Additions.{named-after, names-kept, names-added}

pub names-no-more : (g : Graph) (b : ℕ) → NamesMore g [] b g
names-no-more g b = record {
  same_nodes = refl;
  exact = λ x y. ((λ h. inl h), (λ h. elim h [ inl k ↦ k | inr k ↦ absurd (not-in-none x k.0) ]));
}

pub names-one-more : (old new : Graph) (ts : List ℕ) (b t : ℕ) → t < length new → NamesMore old ts b new → NamesMore old (ts ++ t ∷ []) b (set new t (get_or new t [] ++ b ∷ []))
names-one-more old new ts b t within so = record {
  same_nodes = length-set new t (get_or new t [] ++ b ∷ []) ∙ so.same_nodes;
  exact = λ x y. (
    (λ h. elim (named-after new t b within x y h) [
      | inl k ↦ elim ((so.exact x y).0 k) [ inl o ↦ inl o | inr o ↦ inr (Contains-append_left ts (t ∷ []) x o.0, o.1) ]
      | inr e ↦ inr (subst (Contains (ts ++ t ∷ [])) e.0 (Contains-push ts t), e.1)
    ]),
    (λ h. elim h [
      | inl k ↦ names-kept new t b within x y ((so.exact x y).1 (inl k))
      | inr k ↦ elim (Contains-push_cases ts t x k.0) [
        | inl o ↦ names-kept new t b within x y ((so.exact x y).1 (inr (o, k.1)))
        | inr e ↦ subst (λ (z : ℕ). Names (set new t (get_or new t [] ++ b ∷ [])) z y) e (subst (λ (z : ℕ). Names (set new t (get_or new t [] ++ b ∷ [])) t z) k.1 (names-added new t b within))
      ]
    ]),
  );
}

-- the nodes below i are turned round
pub record IsTurned (g : Graph) (i : ℕ) (back : Graph) : Type 0 where
  pub same_nodes : length back ≡ length g
  pub exact : (a b : ℕ) → Names back b a ↔ (Names g a b × (a < i))

pub nothing-there : (n b : ℕ) → get_or (replicate {A = List ℕ} n []) b [] ≡ []
nothing-there n b = elim (cases_lt b n) [
  | inl l ↦ get_or-replicate n b [] [] l
  | inr l ↦ get_or_past (replicate n []) b [] (omega (arith, length-replicate {A = List ℕ} n []))
]

pub turned-none : (g : Graph) → IsTurned g 0 (replicate (length g) [])
turned-none g = record {
  same_nodes = length-replicate (length g) [];
  exact = λ a b. (
    (λ h. absurd (not-in-none a (subst (λ (row : List ℕ). Contains row a) (nothing-there (length g) b) h))),
    (λ h. let l = h.1 in absurd (omega arith)),
  );
}

pub turned-more : (g : Graph) (i : ℕ) (back new : Graph) → IsTurned g i back → NamesMore back (get_or g i []) i new → IsTurned g (i + 1) new
turned-more g i back new so more = record {
  same_nodes = more.same_nodes ∙ so.same_nodes;
  exact = λ a b. (
    (λ h. elim ((more.exact b a).0 h) [
      | inl k ↦ let was = (so.exact a b).0 k in (was.0, (let l = was.1 in omega arith))
      | inr k ↦ (subst (λ (z : ℕ). Names g z b) k.1 k.0, (let e = k.1 in omega arith))
    ]),
    (λ h. elim (cases_lt a i) [
      | inl l ↦ (more.exact b a).1 (inl ((so.exact a b).1 (h.0, l)))
      | inr l ↦
          let below = h.1 in
          let e : a ≡ i = omega arith in
          (more.exact b a).1 (inr (subst (λ (z : ℕ). Names g z b) e h.0, sym e))
    ]),
  );
}

pub turned-all : (g : Graph) (i : ℕ) (back : Graph) → IsTurned g i back → length g ≤ i → IsReverse g back
turned-all g i back so all = record {
  same_nodes = so.same_nodes;
  turned = λ a b. ((λ h. ((so.exact a b).0 h).0), (λ h. let l = names-from g a b h in (so.exact a b).1 (h, (omega arith))));
}
