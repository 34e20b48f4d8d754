-- Dashes and dots that are looked at as far as the end of the bytes are one to three of them. By the cases of bytes.
use Rattle.std.proofs.Common.{◌≡◌, ℕ, suc, ◌≤◌, ◌⊎◌, inl, inr, Bool, true, false, ◌&&◌, cond, nat_eq, arith, List, [], ◌∷◌, length, refl, sym, ap, ◌∙◌, true≢false}
use Rattle.std.proofs.lemmas.Bool.Decides.{nat_tests}
use Rattle.yaml_scalars.specs.Block.{same}
use Rattle.yaml_scalars.specs.Lines.{ends_with}
use Rattle.yaml_grammar.specs.code.StopPlaces.{run_width}

-- dashes or dots, at most three of them
abbrev pub IsRun : List ℕ → Type 0
IsRun xs = (b : ℕ) × ((b ≡ 45) ⊎ (b ≡ 46)) × ((xs ≡ b ∷ []) ⊎ ((xs ≡ b ∷ b ∷ []) ⊎ (xs ≡ b ∷ b ∷ b ∷ [])))

-- where they are looked at as far as their end, they are such
pub run_of : (b : ℕ) (bs : List ℕ) → (b ≡ 45) ⊎ (b ≡ 46) → ends_with 13 (b ∷ bs) ≡ false → suc (length bs) ≤ run_width (suc (same b 2 bs)) bs → IsRun (b ∷ bs)
run_of b [] k e l = (b, k, inl refl)
run_of b (c ∷ []) k e l = by_byte (nat_eq c b) refl l where
  by_byte : (p : Bool) → nat_eq c b ≡ p → 2 ≤ run_width (suc (cond p 1 0)) (c ∷ []) → IsRun (b ∷ c ∷ [])
  by_byte true i l = let z : c ≡ b = grind (arith, nat_tests, i) in (b, k, inr (inl (ap (λ d. b ∷ d ∷ []) z)))
  by_byte false i l = absurd (omega (arith, l))
run_of b (c ∷ d ∷ []) k e l = by_byte (nat_eq c b) (nat_eq d b) refl refl l where
  by_byte : (p q : Bool) → nat_eq c b ≡ p → nat_eq d b ≡ q → 3 ≤ run_width (suc (cond p (suc (cond q 1 0)) 0)) (c ∷ d ∷ []) → IsRun (b ∷ c ∷ d ∷ [])
  by_byte true true i j l = let z : c ≡ b = grind (arith, nat_tests, i) in let y : d ≡ b = grind (arith, nat_tests, j) in (b, k, inr (inr (ap (λ x. b ∷ x ∷ d ∷ []) z ∙ ap (λ x. b ∷ b ∷ x ∷ []) y)))
  by_byte true false i j l = absurd (omega (arith, l))
  by_byte false q i j l = absurd (omega (arith, l))
run_of b (c ∷ d ∷ x ∷ []) k e l = by_byte (nat_eq c b) (nat_eq d b) (nat_eq x 13) refl l where
  by_byte : (p q r : Bool) → nat_eq x 13 ≡ r → 4 ≤ cond (nat_eq (suc (cond p (suc (cond q 1 0)) 0)) 3 && r) 4 (suc (cond p (suc (cond q 1 0)) 0)) → IsRun (b ∷ c ∷ d ∷ x ∷ [])
  by_byte true true true i l = absurd (true≢false (sym i ∙ e))
  by_byte true true false i l = absurd (omega (arith, l))
  by_byte true false r i l = absurd (omega (arith, l))
  by_byte false q r i l = absurd (omega (arith, l))
run_of b (c ∷ d ∷ x ∷ y ∷ bs) k e l = by_byte (nat_eq c b) (nat_eq d b) (nat_eq x 13) l where
  by_byte : (p q r : Bool) → suc (suc (suc (suc (suc (length bs))))) ≤ cond (nat_eq (suc (cond p (suc (cond q 1 0)) 0)) 3 && r) 4 (suc (cond p (suc (cond q 1 0)) 0)) → IsRun (b ∷ c ∷ d ∷ x ∷ y ∷ bs)
  by_byte true true true l = absurd (omega (arith, l))
  by_byte true true false l = absurd (omega (arith, l))
  by_byte true false r l = absurd (omega (arith, l))
  by_byte false q r l = absurd (omega (arith, l))
