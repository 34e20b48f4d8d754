-- The products of `compare` fit 128 bits.
use Rattle.std.proofs.Common.{◌≡◌, ℕ, ◌^◌, ◌<◌, ◌≤◌, ℤ, pos, ◌*ℤ◌, sym, ap, ◌∙◌, arith, unsigned_abs, FitsSigned, to_z, of_z, w64, subst}
use mir.Syntax.{w128}
use Rattle.std.proofs.lemmas.Int.{to_z-of_z, fits_signed_mul}
use Rattle.std.specs.Ordering.{int_cmp}
use Rattle.std.proofs.Math.Nat.{pow-le-pow_right}

pub power_small : (k : ℕ) → k ≤ 18 → 10 ^ k ≤ 10 ^ 18
power_small k h = pow-le-pow_right {n = 10} (omega arith) h

fits_wide : (z : ℤ) → FitsSigned w64 z → FitsSigned w128 z
fits_wide z f = let s = f.sfits in record { sfits = omega arith }

fits_power : (k : ℕ) → k ≤ 18 → FitsSigned w128 (pos (10 ^ k))
fits_power k h = let s = power_small k h in record { sfits = omega arith }

-- a number of 64 bits as one of 128
wide : (z : ℤ) → FitsSigned w64 z → to_z w128 (of_z w128 (to_z w64 (of_z w64 z))) ≡ z
wide z f = ap (λ y. to_z w128 (of_z w128 y)) (to_z-of_z w64 z f) ∙ to_z-of_z w128 z (fits_wide z f)

power_wide : (r : ℤ) (k : ℕ) → k ≤ 18 → r ≡ pos (10 ^ k) → to_z w128 (of_z w128 r) ≡ pos (10 ^ k)
power_wide r k h e = ap (λ y. to_z w128 (of_z w128 y)) e ∙ to_z-of_z w128 (pos (10 ^ k)) (fits_power k h)

abbrev pub product : ℤ → ℤ → ℤ
product z r = to_z w128 (of_z w128 (to_z w64 (of_z w64 z))) *ℤ to_z w128 (of_z w128 r)

product_value : (z r : ℤ) (k : ℕ) → FitsSigned w64 z → k ≤ 18 → r ≡ pos (10 ^ k) → product z r ≡ z *ℤ pos (10 ^ k)
product_value z r k f h e = ap (λ y. y *ℤ to_z w128 (of_z w128 r)) (wide z f) ∙ ap (λ y. z *ℤ y) (power_wide r k h e)

exact_fits : (z : ℤ) (k : ℕ) → unsigned_abs z < 10 ^ 18 → k ≤ 18 → FitsSigned w128 (z *ℤ pos (10 ^ k))
exact_fits z k s h = fits_signed_mul w128 z (pos (10 ^ k)) (10 ^ 18) (10 ^ 18) (omega arith) (power_small k h) (omega arith)

pub product_fits : (z r : ℤ) (k : ℕ) → FitsSigned w64 z → unsigned_abs z < 10 ^ 18 → k ≤ 18 → r ≡ pos (10 ^ k) → FitsSigned w128 (product z r)
product_fits z r k f s h e = subst (λ y. FitsSigned w128 y) (sym (product_value z r k f h e)) (exact_fits z k s h)

pub product_is : (z r : ℤ) (k : ℕ) → FitsSigned w64 z → unsigned_abs z < 10 ^ 18 → k ≤ 18 → r ≡ pos (10 ^ k) → to_z w128 (of_z w128 (product z r)) ≡ z *ℤ pos (10 ^ k)
product_is z r k f s h e = ap (λ y. to_z w128 (of_z w128 y)) (product_value z r k f h e) ∙ to_z-of_z w128 (z *ℤ pos (10 ^ k)) (exact_fits z k s h)

pub compared : (a b c d : ℤ) → a ≡ b → c ≡ d → int_cmp a c ≡ int_cmp b d
compared a b c d p q = ap (λ y. int_cmp y c) p ∙ ap (λ y. int_cmp b y) q
