-- Values that are put behind others unless they are the same as one of them: each is among those that are left. By induction on the values.
use Rattle.std.proofs.Common.{◌≡◌, Bool, true, false, ◌||◌, List, [], ◌∷◌, ◌++◌, refl, sym, ap, subst, ◌∙◌, ◌⊎◌, inl, inr}
use Rattle.std.specs.Prelude.{fold, if◌then◌else◌}
use Rattle.std.specs.Cmp.{IsEquivalence}
use Rattle.std.specs.List.{AllByRecursion, IsDistinct, list_any}
use Rattle.std.proofs.lemmas.List.Folds.{list_any-append}
use Rattle.std.proofs.lemmas.Map.Keys.{IsDistinct-push}
use Rattle.rule_generator.specs.GeneratedRules.{added}

pub tested : (b : Bool) → (b ≡ true) ⊎ (b ≡ false)
tested true = inl refl
tested false = inr refl

or-left : (a b : Bool) → a ≡ true → (a || b) ≡ true
or-left a b e = ap (λ c. c || b) e

or-right : (a b : Bool) → b ≡ true → (a || b) ≡ true
or-right true b e = refl
or-right false b e = e

module _ {A : Type 0} (same : A → A → Bool) where
  -- what stands there already
  pub added-there : (before : List A) (x : A) → list_any (same x) before ≡ true → added same before x ≡ before
  added-there before x e = ap (λ b. if b then before else before ++ x ∷ []) e

  -- what is new
  pub added-new : (before : List A) (x : A) → list_any (same x) before ≡ false → added same before x ≡ before ++ x ∷ []
  added-new before x e = ap (λ b. if b then before else before ++ x ∷ []) e

  keeps : (p : A → Bool) (before : List A) (x : A) → list_any p before ≡ true → list_any p (added same before x) ≡ true
  keeps p before x h = elim (tested (list_any (same x) before)) [
    | inl e ↦ ap (list_any p) (added-there before x e) ∙ h
    | inr e ↦ ap (list_any p) (added-new before x e) ∙ list_any-append p before (x ∷ []) ∙ or-left (list_any p before) (list_any p (x ∷ [])) h
  ]

  -- what passes a test stays
  pub kept-among : (p : A → Bool) (before xs : List A) → list_any p before ≡ true → list_any p (fold (added same) before xs) ≡ true
  kept-among p before [] h = h
  kept-among p before (x ∷ xs) h = kept-among p (added same before x) xs (keeps p before x h)

  there : (before : List A) (x : A) → same x x ≡ true → list_any (same x) (added same before x) ≡ true
  there before x own = elim (tested (list_any (same x) before)) [
    | inl e ↦ ap (list_any (same x)) (added-there before x e) ∙ e
    | inr e ↦
        ap (list_any (same x)) (added-new before x e) ∙ list_any-append (same x) before (x ∷ [])
        ∙ or-right (list_any (same x) before) (list_any (same x) (x ∷ [])) (or-left (same x x) false own)
  ]

  -- each value that is the same as itself is among those that are left
  pub all-among : (before xs : List A) → AllByRecursion (λ x. same x x ≡ true) xs → AllByRecursion (λ x. list_any (same x) (fold (added same) before xs) ≡ true) xs
  all-among before [] own = tt
  all-among before (x ∷ xs) own = (kept-among (same x) (added same before x) xs (there before x own.0), all-among (added same before x) xs own.1)

  -- no two of them are the same
  pub stay-distinct : IsEquivalence same → (before xs : List A) → IsDistinct same before → IsDistinct same (fold (added same) before xs)
  stay-distinct laws before [] d = d
  stay-distinct laws before (x ∷ xs) d = stay-distinct laws (added same before x) xs (one (tested (list_any (same x) before)))
    where
      one : (list_any (same x) before ≡ true) ⊎ (list_any (same x) before ≡ false) → IsDistinct same (added same before x)
      one (inl e) = subst (IsDistinct same) (sym (added-there before x e)) d
      one (inr e) = subst (IsDistinct same) (sym (added-new before x e)) (IsDistinct-push laws before x d e)
