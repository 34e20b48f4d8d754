-- The digits of a number spell it, with zeros in front and a point among them.
use Rattle.std.proofs.Common.{◌≡◌, ℕ, zero, suc, ◌+◌, ◌-◌, ◌*◌, ◌^◌, ◌%◌, ◌/◌, ◌<◌, ◌≤◌, true, List, [], ◌∷◌, ◌++◌, length, get_or, take, drop, decimal, refl, sym, ap, ◌∙◌, subst, arith, inl, inr, ◌⊎◌, length-drop}
use Rattle.std.specs.Prelude.{◌==◌, nat_le}
use Rattle.std.specs.Char.{digit_value}
use Rattle.std.specs.Str.Parse.{AllDigits, digits_value_after}
use Rattle.std.proofs.lemmas.Bool.Decides.{nat_tests}
use Rattle.std.proofs.lemmas.Fmt.{decimal_is_IsNumeral, decimal_digit, first_decimal}
use Rattle.std.proofs.lemmas.List.{take-append-drop}
use Rattle.std.proofs.lemmas.Nat.{div-add-mod'}
use Rattle.std.proofs.lemmas.Str.{digit_value_digit}
use Rattle.std.proofs.lemmas.Str.Parse.{digit_from_value}
use Rattle.decimals.specs.Number.{is_digit, AreDigits, number, number_behind, IsWholePart, IsStripped}
use Rattle.decimals.proofs.NumberValue.{full_moved}
use Rattle.guard_lexer.proofs.Lists.{tested, same_byte, other_byte}
use Rattle.rule_meaning.specs.Functions.{filled}
use Rattle.rule_spelling.proofs.Zeros.{zeros, filled_long, filled_length, filled_short}

less_by : (v c : ℕ) → v + 48 ≡ c → v ≡ c - 48
less_by v c e = omega arith

in_digits : (c : ℕ) → 48 ≤ c → c ≤ 57 → is_digit c ≡ true
in_digits c low high = grind (arith, nat_tests)

digit_facts : (c : ℕ) → digit_value c < 10 → (is_digit c ≡ true) × (digit_value c ≡ c - 48)
digit_facts c h = let r = digit_from_value c h in (in_digits c r.0 r.1, less_by (digit_value c) c (digit_value_digit c r))

are_digits : (ds : List ℕ) → AllDigits 10 ds → AreDigits ds
are_digits [] d = tt
are_digits (c ∷ ds) d = ((digit_facts c d.0).0, are_digits ds d.1)

same_number : (n : ℕ) (ds : List ℕ) → AllDigits 10 ds → number_behind n ds ≡ digits_value_after 10 n ds
same_number n [] d = refl
same_number n (c ∷ ds) d = ap (λ v. number_behind (n * 10 + v) ds) (sym (digit_facts c d.0).1) ∙ same_number (n * 10 + digit_value c) ds d.1

pub decimal_digits : (n : ℕ) → n < 2 ^ 64 → AreDigits (decimal n)
decimal_digits n h = are_digits (decimal n) (decimal_is_IsNumeral n h).0.1

pub decimal_number : (n : ℕ) → n < 2 ^ 64 → number (decimal n) ≡ n
decimal_number n h = same_number 0 (decimal n) (decimal_is_IsNumeral n h).0.1 ∙ (decimal_is_IsNumeral n h).1

led : (ds : List ℕ) → 0 < length ds → AreDigits ds → 48 < get_or ds 0 0 → IsWholePart ds
led [] some d f = absurd (omega arith)
led (b ∷ ds) some (e, d) f = (e, d, λ h. absurd (omega arith))

zero_whole : IsWholePart (48 ∷ [])
zero_whole = (refl, tt, λ h. refl)

pub decimal_whole : (n : ℕ) → n < 2 ^ 64 → IsWholePart (decimal n)
decimal_whole zero h = subst IsWholePart (sym (decimal_digit 0 (omega arith))) zero_whole
decimal_whole (suc n) h = led (decimal (suc n)) (decimal_is_IsNumeral (suc n) h).0.0 (decimal_digits (suc n) h) (first_decimal (suc n) (omega arith) h)

-- ---- digits in two parts

joined_digits : (w f : List ℕ) → AreDigits w → AreDigits f → AreDigits (w ++ f)
joined_digits [] f d e = e
joined_digits (b ∷ w) f (h, d) e = (h, joined_digits w f d e)

front_digits : (w f : List ℕ) → AreDigits (w ++ f) → AreDigits w
front_digits [] f d = tt
front_digits (b ∷ w) f (h, d) = (h, front_digits w f d)

back_digits : (w f : List ℕ) → AreDigits (w ++ f) → AreDigits f
back_digits [] f d = d
back_digits (b ∷ w) f (h, d) = back_digits w f d

zeros_digits : (n : ℕ) → AreDigits (zeros n)
zeros_digits zero = tt
zeros_digits (suc n) = (refl, zeros_digits n)

zeros_number : (n : ℕ) (ds : List ℕ) → number (zeros n ++ ds) ≡ number ds
zeros_number zero ds = refl
zeros_number (suc n) ds = zeros_number n ds

pub filled_digits : (n : ℕ) (ds : List ℕ) → AreDigits ds → AreDigits (filled n ds)
filled_digits n ds d = joined_digits (zeros (n - length ds)) ds (zeros_digits (n - length ds)) d

pub filled_number : (n : ℕ) (ds : List ℕ) → number (filled n ds) ≡ number ds
filled_number n ds = zeros_number (n - length ds) ds

-- digits cut so that so many stand behind
pub record Cut (k : ℕ) (ds whole fraction : List ℕ) : Type 0 where
  pub joined : whole ++ fraction ≡ ds
  pub wholes : IsWholePart whole
  pub digits : AreDigits fraction
  pub size : length fraction ≡ k

first_taken : (i : ℕ) (ds : List ℕ) → 0 < i → 0 < length ds → AreDigits (take i ds) → 48 < get_or ds 0 0 → IsWholePart (take i ds)
first_taken zero ds some long d f = absurd (omega arith)
first_taken (suc i) [] some long d f = absurd (omega arith)
first_taken (suc i) (b ∷ ds) some long (e, d) f = (e, d, λ h. absurd (omega arith))

cut_at : (k : ℕ) (ds : List ℕ) → k < length ds → AreDigits ds → IsWholePart (take (length ds - k) ds) → Cut k ds (take (length ds - k) ds) (drop (length ds - k) ds)
cut_at k ds h d w = record {
  joined = take-append-drop (length ds - k) ds;
  wholes = w;
  digits = back_digits (take (length ds - k) ds) (drop (length ds - k) ds) (subst AreDigits (sym (take-append-drop (length ds - k) ds)) d);
  size = length-drop (length ds - k) ds ∙ omega arith;
}

taken_digits : (i : ℕ) (ds : List ℕ) → AreDigits ds → AreDigits (take i ds)
taken_digits i ds d = front_digits (take i ds) (drop i ds) (subst AreDigits (sym (take-append-drop i ds)) d)

long_cut : (k : ℕ) (ds : List ℕ) → k < length ds → AreDigits ds → 48 < get_or ds 0 0 → IsWholePart (take (length ds - k) ds)
long_cut k ds h d f = first_taken (length ds - k) ds (omega arith) (omega arith) (taken_digits (length ds - k) ds d) f

-- the digits of a number that is not 0, filled up to one more than stand behind the point
abbrev pub whole_of : ℕ → List ℕ → List ℕ
whole_of k ds = take (length (filled (suc k) ds) - k) (filled (suc k) ds)

abbrev pub fraction_of : ℕ → List ℕ → List ℕ
fraction_of k ds = drop (length (filled (suc k) ds) - k) (filled (suc k) ds)

whole_is : (k : ℕ) (ds : List ℕ) → AreDigits ds → 48 < get_or ds 0 0 → (length ds ≤ k) ⊎ (k < length ds) → IsWholePart (whole_of k ds)
whole_is k ds d f (inl h) =
    let size = filled_length (suc k) ds (omega arith) in
    let one : length (filled (suc k) ds) - k ≡ 1 = omega arith in
    subst IsWholePart (sym (ap (λ i. take i (filled (suc k) ds)) one ∙ ap (take 1) (filled_short k ds h))) zero_whole
whole_is k ds d f (inr h) = subst (λ x. IsWholePart (take (length x - k) x)) (sym (filled_long (suc k) ds (omega arith))) (long_cut k ds h d f)

sides : (n k : ℕ) → (n ≤ k) ⊎ (k < n)
sides n k = elim (tested (nat_le n k)) [
  | inl t ↦ inl (grind (arith, nat_tests))
  | inr t ↦ inr (grind (arith, nat_tests))
]

some_filled : (k : ℕ) (ds : List ℕ) → (length ds ≤ k) ⊎ (k < length ds) → k < length (filled (suc k) ds)
some_filled k ds (inl h) = let size = filled_length (suc k) ds (omega arith) in omega arith
some_filled k ds (inr h) = subst (λ x. k < length x) (sym (filled_long (suc k) ds (omega arith))) h

pub pointed : (k n : ℕ) → 0 < n → n < 2 ^ 64 → Cut k (filled (suc k) (decimal n)) (whole_of k (decimal n)) (fraction_of k (decimal n))
pointed k n some h =
    let d = decimal_digits n h in
    let s = sides (length (decimal n)) k in
    cut_at k (filled (suc k) (decimal n)) (some_filled k (decimal n) s) (filled_digits (suc k) (decimal n) d) (whole_is k (decimal n) d (first_decimal n some h) s)

pub pointed_number : (k n : ℕ) → 0 < n → n < 2 ^ 64 → number (whole_of k (decimal n) ++ fraction_of k (decimal n)) ≡ n
pointed_number k n some h = ap number (pointed k n some h).joined ∙ filled_number (suc k) (decimal n) ∙ decimal_number n h

-- ---- a number without the zeros at its end

pub record Stripped (m : ℕ) : Type 0 where
  pub kept : ℕ
  pub zeros : ℕ
  pub is : IsStripped m kept zeros

ten_times : (m q kept z : ℕ) → m ≡ q * 10 → q ≡ kept * 10 ^ z → m ≡ kept * 10 ^ (z + 1)
ten_times m q kept z e f = e ∙ ap (λ x. x * 10) f ∙ sym (full_moved kept z)

one_times : (m : ℕ) → m ≡ m * 10 ^ 0
one_times m = omega arith

pub stripped : (fuel m : ℕ) → m ≤ fuel → 0 < m → Stripped m
stripped zero m h some = absurd (omega arith)
stripped (suc fuel) m h some = elim (tested (m % 10 == 0)) [
  | inl t ↦
      let split = div-add-mod' m 10 in
      let last : m % 10 ≡ 0 = same_byte (m % 10) 0 t in
      let e : m ≡ m / 10 * 10 = omega arith in
      let s = stripped fuel (m / 10) (omega arith) (omega arith) in
      record { kept = s.kept; zeros = s.zeros + 1; is = record { same = ten_times m (m / 10) s.kept s.zeros e s.is.same; last = s.is.last } }
  | inr t ↦ record { kept = m; zeros = 0; is = record { same = one_times m; last = other_byte (m % 10) 0 t } }
]

-- a zero more at the end
pub zero_stripped : (m kept z : ℕ) → IsStripped m kept z → IsStripped (m * 10) kept (z + 1)
zero_stripped m kept z s = record { same = ten_times (m * 10) m kept z refl s.same; last = s.last }
