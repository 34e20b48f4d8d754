-- Each place of a refusal is an allowed one.
use Rattle.std.proofs.Common.{◌≡◌, ℕ, suc, ◌<◌, ◌≤◌, ◌⊎◌, Bool, true, false, List, [], ◌∷◌, ◌++◌, length, take, drop, get_or, refl, sym, ap, inl, inr, ◌∙◌, arith, subst, drop-cons, length-take, length-append}
use Rattle.std.specs.Prelude.{nat_eq}
use Rattle.std.proofs.lemmas.Bool.Decides.{nat_tests}
use Rattle.std.proofs.lemmas.List.{take-append-drop}
use Rattle.yaml_scalars.specs.declared.scalar.Setting.{Setting}
use Rattle.yaml_scalars.specs.Lines.{Fails}
use Rattle.yaml_scalars.specs.Scalar.{scalar_at}
use Rattle.yaml_laws.specs.code.Refusals.{IsShort, IsSyntax}
use Rattle.yaml_laws.proofs.ScalarLaw.{scalar_lower, scalar_upper, scalar_dead}
use Rattle.yaml_laws.proofs.ScalarLonger.{scalar_short}

-- a text that is not empty, by its last byte
pub last_of : (x : ℕ) (xs : List ℕ) → (before : List ℕ) × (b : ℕ) × (x ∷ xs ≡ before ++ (b ∷ []))
last_of x [] = ([], x, refl)
last_of x (y ∷ xs) = let r = last_of y xs in (x ∷ r.0, r.1, ap (λ t. x ∷ t) r.2)

short_of : (s : Setting) (text : List ℕ) (at : ℕ) → at < length text → scalar_at s text at ≡ Fails (length text) → IsShort s text at
short_of s [] at l h = absurd (omega (arith, l))
short_of s (x ∷ xs) at l h =
    let r = last_of x xs in
    let sizes = ap (λ (t : List ℕ). length t) r.2 in
    let low : at ≤ length r.0 = omega (arith, l, sizes, length-append r.0 (r.1 ∷ [])) in
    subst (λ t. IsShort s t at) (sym r.2) (scalar_short s r.0 r.1 at low (subst (λ t. scalar_at s t at ≡ Fails (length t)) r.2 h))

-- a place within the text is dead, and at its length the text is too short
pub syntax_of : (s : Setting) (text : List ℕ) (at p : ℕ) → at < length text → scalar_at s text at ≡ Fails p → IsSyntax s text at p
syntax_of s text at p l h = by_place (split_places p (length text) (scalar_upper s text at p l h)) where
  split_places : (p n : ℕ) → p ≤ n → (p < n) ⊎ (p ≡ n)
  split_places p n m = by_test (nat_eq p n) refl where
    by_test : (q : Bool) → nat_eq p n ≡ q → (p < n) ⊎ (p ≡ n)
    by_test true e = inr (grind (arith, nat_tests, e))
    by_test false e = inl (grind (arith, nat_tests, e, m))

  by_place : (p < length text) ⊎ (p ≡ length text) → IsSyntax s text at p
  by_place (inr e) = inr (e, short_of s text at l (h ∙ ap Fails e))
  by_place (inl m) =
      let before = take p text in
      let b = get_or text p 0 in
      let rest = drop (suc p) text in
      let whole : text ≡ before ++ (b ∷ rest) = sym (take-append-drop p text) ∙ ap (λ t. take p text ++ t) (drop-cons text p 0 m) in
      let size : length before ≡ p = omega (arith, length-take p text, m) in
      let from = scalar_lower s text at p l h in
      let here : scalar_at s (before ++ (b ∷ rest)) at ≡ Fails (length before) = ap (λ t. scalar_at s t at) (sym whole) ∙ h ∙ ap Fails (sym size) in
      inl (before, rest, b, whole, size, λ more t e k. scalar_dead s before b rest more at t e (omega (arith, size, from)) here k)
