-- What a number's digits are worth, however many they are.
use Rattle.std.proofs.Common.{◌≡◌, ℕ, ◌+◌, ◌-◌, ◌*◌, ◌^◌, ◌<◌, ◌≤◌, min, List, [], ◌∷◌, ◌++◌, length, refl, sym, ap, ◌∙◌, inl, inr, arith, subst, true, get_or, drop, add-one}
use Rattle.std.proofs.lemmas.Bool.{cases_lt}
use Rattle.std.proofs.lemmas.Grind.{pow_more}
use Rattle.std.proofs.Math.Nat.{pow-le-pow_right, mul-le-mul, mul_assoc}
use Rattle.std.proofs.Math.Seq.{drop-cons}
use Rattle.decimals.specs.Number.{is_digit, AreDigits, number_behind}
use Rattle.decimals.specs.code.Reading.{cap, IsHeld}

le_behind : (n : ℕ) (ds : List ℕ) → n ≤ number_behind n ds
le_behind n [] = omega arith
le_behind n (b ∷ ds) = let h = le_behind (n * 10 + (b - 48)) ds in omega arith

-- a capped number goes on as the number does
pub cap-behind : (n : ℕ) (ds : List ℕ) → cap (number_behind (cap n) ds) ≡ cap (number_behind n ds)
cap-behind n [] = omega arith
cap-behind n (b ∷ ds) = elim (cases_lt n (10 ^ 30)) [
  | inl h ↦ let e : cap n ≡ n = omega arith in ap (λ x. cap (number_behind (x * 10 + (b - 48)) ds)) e
  | inr h ↦
      let e : cap n ≡ 10 ^ 30 = omega arith in
      let p = le_behind (cap n * 10 + (b - 48)) ds in
      let q = le_behind (n * 10 + (b - 48)) ds in
      omega arith
]

-- one digit more, from the list
pub number-drop : (n i : ℕ) (ds : List ℕ) → i < length ds → number_behind n (drop i ds) ≡ number_behind (n * 10 + (get_or ds i 0 - 48)) (drop (i + 1) ds)
number-drop n i ds l = ap (number_behind n) (drop-cons ds i 0 l) ∙ ap (λ j. number_behind (n * 10 + (get_or ds i 0 - 48)) (drop j ds)) (sym (add-one i))

pub one_power : (z : ℕ) → 1 ≤ 10 ^ z
one_power z = pow-le-pow_right {n = 10} (omega arith) {i = 0} {j = z} (omega arith)

pub far_power : (z : ℕ) → 18 ≤ z → 10 ^ 18 ≤ 10 ^ (z + 1)
far_power z h = pow-le-pow_right {n = 10} (omega arith) {i = 18} {j = z + 1} (omega arith)

pub high_power : (z : ℕ) → 18 ≤ z → 10 ^ 18 ≤ 10 ^ z
high_power z h = pow-le-pow_right {n = 10} (omega arith) {i = 18} {j = z} h

pub times_more : (k p : ℕ) → 1 ≤ k → p ≤ k * p
times_more k p h = let r : p ≤ p = omega arith in let m : 1 * p ≤ k * p = mul-le-mul h r in omega arith

pub full_moved : (full z : ℕ) → full * 10 ^ (z + 1) ≡ full * 10 ^ z * 10
full_moved full z = ap (λ x. full * x) (pow_more 10 z) ∙ sym (mul_assoc full (10 ^ z) 10)

pub IsHeld-zero : (m kept z : ℕ) → IsHeld m kept z → IsHeld (m * 10 + 0) kept (z + 1)
IsHeld-zero m kept z h = let e = full_moved h.full z in let s = h.same in record { full = h.full; same = omega arith; last = h.last; capped = h.capped }

cap_grow : (full p d l : ℕ) → 1 ≤ p → min (min full l * p + d) l ≡ min (full * p + d) l
cap_grow full p d l h = elim (cases_lt full l) [
  | inl k ↦ let e : min full l ≡ full = omega arith in ap (λ x. min (x * p + d) l) e
  | inr k ↦
      let e : min full l ≡ l = omega arith in
      let a : min (min full l * p + d) l ≡ min (l * p + d) l = ap (λ x. min (x * p + d) l) e in
      let r : l ≤ l = omega arith in
      let b : l * 1 ≤ l * p = mul-le-mul r h in
      let c : l * 1 ≤ full * p = mul-le-mul k h in
      omega arith
]

pub IsHeld-digit : (m kept z d r : ℕ) → d < 10 → 0 < d → r ≡ min (kept * 10 ^ (z + 1) + d) (10 ^ 18) → IsHeld m kept z → IsHeld (m * 10 + d) r 0
IsHeld-digit m kept z d r h p e w =
    let moved = full_moved w.full z in
    let s = w.same in
    let f : ℕ = w.full * 10 ^ (z + 1) + d in
    let same : m * 10 + d ≡ f = omega arith in
    record {
      full = f;
      same = omega arith;
      last = λ none. absurd (omega arith);
      capped = e ∙ ap (λ k. min (k * 10 ^ (z + 1) + d) (10 ^ 18)) w.capped ∙ cap_grow w.full (10 ^ (z + 1)) d (10 ^ 18) (one_power (z + 1));
    }

pub IsHeld-nothing : IsHeld 0 0 0
IsHeld-nothing = record { full = 0; same = refl; last = λ _. refl; capped = refl }

pub digit_at : (i : ℕ) (ds : List ℕ) → AreDigits (drop i ds) → i < length ds → (is_digit (get_or ds i 0) ≡ true) × AreDigits (drop (i + 1) ds)
digit_at i ds d l = subst (λ j. (is_digit (get_or ds i 0) ≡ true) × AreDigits (drop j ds)) (sym (add-one i)) (subst AreDigits (drop-cons ds i 0 l) d)

-- digits behind digits
pub number-append : (n : ℕ) (a b : List ℕ) → number_behind n (a ++ b) ≡ number_behind (number_behind n a) b
number-append n [] b = refl
number-append n (x ∷ a) b = number-append (n * 10 + (x - 48)) a b
