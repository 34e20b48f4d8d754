-- A decimal in range has a small exponent, and the zeros at the end of its digits are counted in one way.
use Rattle.std.proofs.Common.{◌≡◌, ℕ, zero, suc, ◌+◌, ◌-◌, ◌*◌, ◌^◌, ◌%◌, ◌<◌, ◌≤◌, refl, sym, ap, ◌∙◌, inl, inr, arith, subst, Bool, true, false, ℤ, pos, negsuc, ◌+ℤ◌, ◌-ℤ◌, unsigned_abs}
use Rattle.std.proofs.lemmas.Bool.{cases_lt}
use Rattle.std.proofs.lemmas.Int.{ints}
use Rattle.std.proofs.Math.Nat.{mul-le-mul}
use Rattle.decimals.specs.Decimal.{IsNormal}
use Rattle.decimals.specs.Number.{signed, scaled}
use Rattle.decimals.proofs.NumberValue.{high_power, one_power, times_more, full_moved}

pub abs-signed : (m : Bool) (n : ℕ) → unsigned_abs (signed m n) ≡ n
abs-signed true zero = refl
abs-signed true (suc n) = refl
abs-signed false n = refl

pub record Near (k a b : ℕ) : Type 0 where
  pub small : k < 10 ^ 18
  pub above : a < b + 18
  pub below : b ≤ a + 18

pub normal_near : (minus : Bool) (k a b : ℕ) → 0 < k → IsNormal (scaled minus k (pos a -ℤ pos b)) → Near k a b
normal_near minus k a b h n = elim (cases_lt a b) [
  | inl l ↦
      let e : pos a -ℤ pos b ≡ negsuc (b - a - 1) = omega (arith, ints) in
      let m : IsNormal (scaled minus k (negsuc (b - a - 1))) = subst (λ x. IsNormal (scaled minus k x)) e n in
      let s = m.small in
      let f = m.fine in
      let u = abs-signed minus k in
      record { small = omega arith; above = omega arith; below = omega arith }
  | inr l ↦
      let e : pos a -ℤ pos b ≡ pos (a - b) = omega (arith, ints) in
      let m : IsNormal (scaled minus k (pos (a - b))) = subst (λ x. IsNormal (scaled minus k x)) e n in
      let s = m.small in
      let u = abs-signed minus (k * 10 ^ (a - b)) in
      let power = one_power (a - b) in
      let r : k ≤ k = omega arith in
      let less : k * 1 ≤ k * 10 ^ (a - b) = mul-le-mul r power in
      let more = times_more k (10 ^ (a - b)) h in
      let near : a - b < 18 = elim (cases_lt (a - b) 18) [
        | inl q ↦ q
        | inr q ↦ let far = high_power (a - b) q in absurd (omega arith)
      ] in
      record { small = omega arith; above = omega arith; below = omega arith }
]

-- the power of 10 of a number with z zeros at its end, f digits behind the point and the exponent e
abbrev pub place : Bool → ℕ → ℕ → ℕ → ℤ
place true e f z = pos z -ℤ pos (f + e)
place false e f z = pos (z + e) -ℤ pos f

pub place-is : (down : Bool) (e f z : ℕ) → (signed down e -ℤ pos f) +ℤ pos z ≡ place down e f z
place-is true e f z = omega (arith, ints)
place-is false e f z = omega (arith, ints)

-- the exponent of a decimal in range is small
pub exponent_near : (minus down : Bool) (k e f z : ℕ) → 0 < k → f < 2 ^ 64 → z < 2 ^ 66 → IsNormal (scaled minus k (place down e f z)) → (k < 10 ^ 18) × (e < 10 ^ 30)
exponent_near minus true k e f z h lf lz n = let near = normal_near minus k z (f + e) h n in let s = near.small in let b = near.below in (s, omega arith)
exponent_near minus false k e f z h lf lz n = let near = normal_near minus k (z + e) f h n in let s = near.small in let a = near.above in (s, omega arith)

-- a number that is no multiple of 10, and the zeros behind it
times_ten : (a i b : ℕ) → (a % 10 ≡ 0 → ⊥) → a ≡ b * 10 ^ (i + 1) → ⊥
times_ten a i b h e = let m = full_moved b i in h (omega arith)

cut : (a b i j : ℕ) → a * 10 ^ (i + 1) ≡ b * 10 ^ (j + 1) → a * 10 ^ i ≡ b * 10 ^ j
cut a b i j e = let m = full_moved a i in let n = full_moved b j in omega arith

pub stripped-unique : (a b i j : ℕ) → (a % 10 ≡ 0 → ⊥) → (b % 10 ≡ 0 → ⊥) → a * 10 ^ i ≡ b * 10 ^ j → (a ≡ b) × (i ≡ j)
stripped-unique a b zero zero h g e = (omega arith, refl)
stripped-unique a b zero (suc j) h g e = let n : j + 1 ≡ suc j = omega arith in let f : a ≡ b * 10 ^ (j + 1) = omega arith ∙ e ∙ ap (λ x. b * 10 ^ x) (sym n) in absurd (times_ten a j b h f)
stripped-unique a b (suc i) zero h g e = let n : i + 1 ≡ suc i = omega arith in let f : b ≡ a * 10 ^ (i + 1) = omega arith ∙ sym e ∙ ap (λ x. a * 10 ^ x) (sym n) in absurd (times_ten b i a g f)
stripped-unique a b (suc i) (suc j) h g e =
    let n : i + 1 ≡ suc i = omega arith in
    let m : j + 1 ≡ suc j = omega arith in
    let r = stripped-unique a b i j h g (cut a b i j (ap (λ x. a * 10 ^ x) n ∙ e ∙ ap (λ x. b * 10 ^ x) (sym m))) in
    (r.0, ap suc r.1)
