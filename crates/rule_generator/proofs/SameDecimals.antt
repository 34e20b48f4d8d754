-- Decimals in their one form are the same number where they have the same units and the same scale.
use Rattle.std.proofs.Common.{◌≡◌, ℕ, zero, suc, ◌+◌, ◌-◌, ◌*◌, ◌%◌, ◌^◌, ◌/◌, ◌<◌, Bool, true, false, ℤ, pos, negsuc, ◌*ℤ◌, unsigned_abs, refl, sym, ap, ap₂, ◌∙◌, inl, inr, arith, true≢false, mul-one, mul_assoc, mul-div_cancel, pow-suc}
use Rattle.std.specs.Prelude.{◌&&◌, nat_eq}
use Rattle.std.specs.Ordering.{int_eq, is_eq}
use Rattle.std.proofs.lemmas.Bool.{cases_lt}
use Rattle.std.proofs.lemmas.Bool.Decides.{Decides-int_eq, nat_tests}
use Rattle.std.proofs.lemmas.Int.{ints, unsigned_abs-mul}
use Rattle.decimals.specs.Decimal.{Decimal, IsNormal, order}
use Rattle.rule_generator.proofs.Distinct.{tested}

cancel : (p q m : ℕ) → 0 < m → p * m ≡ q * m → p ≡ q
cancel p q m h e = sym (mul-div_cancel p h) ∙ ap (λ n. n / m) e ∙ mul-div_cancel q h

power-some : (n : ℕ) → 0 < 10 ^ n
power-some zero = omega arith
power-some (suc n) = let r = power-some n in let e : 10 ^ suc n ≡ 10 ^ n * 10 = pow-suc 10 n in omega arith

-- units at one scale
units-same : (x y : ℤ) (m : ℕ) → 0 < m → x *ℤ pos m ≡ y *ℤ pos m → x ≡ y
units-same (pos p) (pos q) m h e = ap pos (cancel p q m h (omega (arith, ints, e)))
units-same (pos p) (negsuc q) m h e = absurd (omega (arith, ints, e))
units-same (negsuc p) (pos q) m h e = absurd (omega (arith, ints, e))
units-same (negsuc p) (negsuc q) m h e = let k : suc p ≡ suc q = cancel (suc p) (suc q) m h (omega (arith, ints, e)) in let l : p ≡ q = omega arith in ap negsuc l

power-more : (k s : ℕ) → 10 ^ (suc k + s) ≡ 10 ^ k * 10 * 10 ^ s
power-more k zero =
    let z : suc k + 0 ≡ suc k = omega arith in
    let one : 10 ^ 0 ≡ 1 = refl in
    ap (λ n. 10 ^ n) z ∙ pow-suc 10 k ∙ times-one (10 ^ k * 10) (10 ^ 0) one
  where
    times-one : (w m : ℕ) → m ≡ 1 → w ≡ w * m
    times-one w m e = sym (ap (λ x. w * x) e ∙ mul-one w)
power-more k (suc s) =
    let z : suc k + suc s ≡ suc (suc k + s) = omega arith in
    ap (λ n. 10 ^ n) z ∙ pow-suc 10 (suc k + s) ∙ ap (λ n. n * 10) (power-more k s) ∙ mul_assoc (10 ^ k * 10) (10 ^ s) 10 ∙ ap (λ n. 10 ^ k * 10 * n) (sym (pow-suc 10 s))

-- units at a greater scale end in a zero
ends-in-zero : (x y : ℤ) (s t : ℕ) → s < t → x *ℤ pos (10 ^ t) ≡ y *ℤ pos (10 ^ s) → unsigned_abs y % 10 ≡ 0
ends-in-zero x y s t h e =
    let k : ℕ = t - s - 1 in
    let n : unsigned_abs x * 10 ^ t ≡ unsigned_abs y * 10 ^ s =
    sym (unsigned_abs-mul x (pos (10 ^ t))) ∙ ap unsigned_abs e ∙ unsigned_abs-mul y (pos (10 ^ s)) in
    let split : suc k + s ≡ t = omega arith in
    let p : 10 ^ t ≡ 10 ^ k * 10 * 10 ^ s = ap (λ n. 10 ^ n) (sym split) ∙ power-more k s in
    let q : unsigned_abs x * (10 ^ k * 10) * 10 ^ s ≡ unsigned_abs y * 10 ^ s =
    mul_assoc (unsigned_abs x) (10 ^ k * 10) (10 ^ s) ∙ ap (λ m. unsigned_abs x * m) (sym p) ∙ n in
    let r : unsigned_abs x * (10 ^ k * 10) ≡ unsigned_abs y = cancel (unsigned_abs x * (10 ^ k * 10)) (unsigned_abs y) (10 ^ s) (power-some s) q in
    let u : unsigned_abs x * 10 ^ k * 10 ≡ unsigned_abs y = mul_assoc (unsigned_abs x) (10 ^ k) 10 ∙ r in
    times-ten (unsigned_abs x * 10 ^ k) (unsigned_abs y) u
  where
    times-ten : (w y : ℕ) → w * 10 ≡ y → y % 10 ≡ 0
    times-ten w y e = omega arith

one-form : (a b : Decimal) → IsNormal a → IsNormal b → a.units *ℤ pos (10 ^ b.scale) ≡ b.units *ℤ pos (10 ^ a.scale) → (a.units ≡ b.units) × (a.scale ≡ b.scale)
one-form a b na nb e = elim (cases_lt a.scale b.scale) [
  | inl h ↦ absurd (nb.short (omega arith) (ends-in-zero a.units b.units a.scale b.scale h e))
  | inr h ↦ elim (cases_lt b.scale a.scale) [
    | inl g ↦ absurd (na.short (omega arith) (ends-in-zero b.units a.units b.scale a.scale g (sym e)))
    | inr g ↦
        let same : a.scale ≡ b.scale = omega arith in
        (units-same a.units b.units (10 ^ b.scale) (power-some b.scale) (e ∙ ap (λ n. b.units *ℤ pos (10 ^ n)) same), same)
  ]
]

both-true : (a b : Bool) → a ≡ true → b ≡ true → (a && b) ≡ true
both-true a b e f = ap₂ (λ (x y : Bool). x && y) e f

first-true : (a b : Bool) → (a && b) ≡ true → a ≡ true
first-true true b e = refl
first-true false b e = absurd (true≢false (sym e))

second-true : (a b : Bool) → (a && b) ≡ true → b ≡ true
second-true true b e = e
second-true false b e = absurd (true≢false (sym e))

pub decimals-same : (a b : Decimal) → IsNormal a → IsNormal b → (int_eq a.units b.units && nat_eq a.scale b.scale) ≡ is_eq (order a b)
decimals-same a b na nb = elim (tested (is_eq (order a b))) [
  | inl e ↦
      let same = one-form a b na nb ((Decides-int_eq (a.units *ℤ pos (10 ^ b.scale)) (b.units *ℤ pos (10 ^ a.scale))).0 e) in
      both-true (int_eq a.units b.units) (nat_eq a.scale b.scale) ((Decides-int_eq a.units b.units).1 same.0) (same-scale a.scale b.scale same.1) ∙ sym e
  | inr e ↦ elim (tested (int_eq a.units b.units && nat_eq a.scale b.scale)) [
    | inl f ↦
        let units : a.units ≡ b.units = (Decides-int_eq a.units b.units).0 (first-true (int_eq a.units b.units) (nat_eq a.scale b.scale) f) in
        let scale : a.scale ≡ b.scale = one-scale a.scale b.scale (second-true (int_eq a.units b.units) (nat_eq a.scale b.scale) f) in
        let products : a.units *ℤ pos (10 ^ b.scale) ≡ b.units *ℤ pos (10 ^ a.scale) = ap₂ (λ (x : ℤ) (n : ℕ). x *ℤ pos (10 ^ n)) units (sym scale) in
        absurd (true≢false (sym ((Decides-int_eq (a.units *ℤ pos (10 ^ b.scale)) (b.units *ℤ pos (10 ^ a.scale))).1 products) ∙ e))
    | inr f ↦ f ∙ sym e
  ]
]
  where
    same-scale : (s t : ℕ) → s ≡ t → nat_eq s t ≡ true
    same-scale s t e = grind (arith, nat_tests)

    one-scale : (s t : ℕ) → nat_eq s t ≡ true → s ≡ t
    one-scale s t e = grind (arith, nat_tests)
