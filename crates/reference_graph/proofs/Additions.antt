-- A node is added to those that a node names: what is named then.
use Rattle.std.proofs.Common.{◌≡◌, ℕ, ◌<◌, ◌⊎◌, inl, inr, sym, subst, List, [], ◌∷◌, ◌++◌, length, get_or, set, arith}
use Rattle.std.specs.List.{Contains}
use Rattle.std.proofs.lemmas.Bool.{cases_eq}
use Rattle.std.proofs.lemmas.List.{length-set, get_or-set_same, get_or-set_other}
use Rattle.std.proofs.lemmas.List.Elements.{Contains-push, Contains-push_cases, Contains-append_left}
use Rattle.rule_names.specs.Graphs.{Graph, IsGraph, Names}

module _ (g : Graph) (a b : ℕ) (within : a < length g) where
  pub named-after : (x y : ℕ) → Names (set g a (get_or g a [] ++ b ∷ [])) x y → Names g x y ⊎ ((a ≡ x) × (b ≡ y))
  named-after x y h = elim (cases_eq x a) [
    | inl e ↦
        let at_a : Contains (get_or (set g a (get_or g a [] ++ b ∷ [])) a []) y = subst (λ (z : ℕ). Contains (get_or (set g a (get_or g a [] ++ b ∷ [])) z []) y) e h in
        let pushed : Contains (get_or g a [] ++ b ∷ []) y = subst (λ (row : List ℕ). Contains row y) (get_or-set_same g a (get_or g a [] ++ b ∷ []) [] within) at_a in
        elim (Contains-push_cases (get_or g a []) b y pushed) [
          | inl k ↦ inl (subst (λ (z : ℕ). Names g z y) (sym e) k)
          | inr k ↦ inr (sym e, k)
        ]
    | inr n ↦ inl (subst (λ (row : List ℕ). Contains row y) (get_or-set_other g a x (get_or g a [] ++ b ∷ []) [] n) h)
  ]

  pub names-kept : (x y : ℕ) → Names g x y → Names (set g a (get_or g a [] ++ b ∷ [])) x y
  names-kept x y h = elim (cases_eq x a) [
    | inl e ↦
        let there : Contains (get_or g a []) y = subst (λ (z : ℕ). Names g z y) e h in
        let pushed = Contains-append_left (get_or g a []) (b ∷ []) y there in
        let at_a : Names (set g a (get_or g a [] ++ b ∷ [])) a y = subst (λ (row : List ℕ). Contains row y) (sym (get_or-set_same g a (get_or g a [] ++ b ∷ []) [] within)) pushed in
        subst (λ (z : ℕ). Names (set g a (get_or g a [] ++ b ∷ [])) z y) (sym e) at_a
    | inr n ↦ subst (λ (row : List ℕ). Contains row y) (sym (get_or-set_other g a x (get_or g a [] ++ b ∷ []) [] n)) h
  ]

  pub names-added : Names (set g a (get_or g a [] ++ b ∷ [])) a b
  names-added = subst (λ (row : List ℕ). Contains row b) (sym (get_or-set_same g a (get_or g a [] ++ b ∷ []) [] within)) (Contains-push (get_or g a []) b)

  pub graph-added : IsGraph g → b < length g → IsGraph (set g a (get_or g a [] ++ b ∷ []))
  graph-added is fits =
      let same = length-set g a (get_or g a [] ++ b ∷ []) in
      record {
        named = λ x y h. elim (named-after x y h) [
          | inl k ↦ subst (λ (n : ℕ). y < n) (sym same) (is.named x y k)
          | inr e ↦ subst (λ (n : ℕ). y < n) (sym same) (subst (λ (z : ℕ). z < length g) e.1 fits)
        ];
        few = let few = is.few in omega arith;
      }
