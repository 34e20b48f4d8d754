-- Numbers are read from just what spells them.
use Rattle.std.proofs.Common.{suc, zero, ◌≡◌, ◌<◌, ◌≤◌, ◌^◌, ◌+◌, ◌-◌, ◌*◌, ◌⊎◌, inl, inr, ℕ, Bool, true, false, List, [], ◌∷◌, Some, None, length, get_or, take, cond, not, eqb, ltb, decimal, refl, sym, ap, subst, ◌∙◌, arith, rules}
use Rattle.std.specs.Char.{is_ascii_digit, digit_value}
use Rattle.std.specs.List.{list_all}
use Rattle.std.specs.Str.Parse.{digits_value}
use Rattle.std.proofs.lemmas.Bool.{and_parts, and_from, both_ways, eq-eqb, leb-true, ne_eqb, not-true, ltb-true, lt-ltb, le-ltb, not_from_false}
use Rattle.std.proofs.lemmas.Fmt.{digits_decimal, digits_value-decimal, decimal-digits_value, decimal_digit, first_decimal, decimal_nonempty}
use Rattle.std.proofs.lemmas.Int.Digits.{digits_value_more}
use Rattle.std.proofs.lemmas.List.{get_or_default}
use Rattle.std.proofs.lemmas.Option.{cond_some, none-some}
use Rattle.std.proofs.lemmas.Str.{digit_value_digit}
use Rattle.std.proofs.lemmas.Str.Parse.{IsNumeralModel, numerals_by_value, digit_at, digits_value-take-le}
use Rattle.evidence_text.specs.code.Reading.{count_in, digits_in, place_in, if_place, is_numeral, sized_in}
use Rattle.evidence_text.proofs.Bounds.{From}
use Rattle.evidence_text.proofs.Cuts.{Free, chained}

abbrev IsDigits : List ℕ → Type 0
IsDigits ds = list_all is_ascii_digit ds ≡ true

own : IsNumeralModel IsDigits (digits_value 10)
own = numerals_by_value IsDigits (search rules)

-- ---- the loop over digits

-- the bytes of digits
digit_range : (c : ℕ) → is_ascii_digit c ≡ true → (48 ≤ c) × (c ≤ 57)
digit_range c is = let ends = and_parts _ _ is in (leb-true 48 c ends.0, leb-true c 57 ends.1)

pub digit_step : (ds : List ℕ) (i : ℕ) → i < length ds → is_ascii_digit (get_or ds i 0) ≡ true
    → digits_value 10 (take (i + 1) ds) ≡ digits_value 10 (take i ds) * 10 + (get_or ds i 0 - 48)
digit_step ds i within digit =
    let value = digit_value_digit (get_or ds i 0) (digit_range (get_or ds i 0) digit) in
    digits_value_more 10 ds i within ∙ ap (λ n. digits_value 10 (take i ds) * 10 + n) (less (digit_value (get_or ds i 0)) (get_or ds i 0) value)
  where
    less : (v c : ℕ) → v + 48 ≡ c → v ≡ c - 48
    less v c e = omega arith

-- bytes that are read as nothing even if they are digits
unread : (ds : List ℕ) → None ≡ sized_in ds → None ≡ digits_in ds
unread ds none = by_digits (list_all is_ascii_digit ds)
  where
    by_digits : (all : Bool) → None ≡ cond all (sized_in ds) None
    by_digits true = none
    by_digits false = refl

-- digits of which a front is too great already
too_great : (ds : List ℕ) (i : ℕ) → 2 ^ 64 ≤ digits_value 10 (take i ds) → None ≡ digits_in ds
too_great ds i great =
    let more = digits_value-take-le 10 ds i (omega arith) in
    let e : ltb (digits_value 10 ds) (2 ^ 64) ≡ false = le-ltb _ _ (joined (digits_value 10 (take i ds)) (digits_value 10 ds) great more) in
    unread ds (rw e refl)
  where
    joined : (front whole : ℕ) → 2 ^ 64 ≤ front → front ≤ whole → 2 ^ 64 ≤ whole
    joined front whole p q = omega arith

-- one digit more: `ten` is ten times the number of the digits before, and `digit` the value of this one
pub one_more : (ds : List ℕ) (i n ten digit : ℕ) → i < length ds → is_ascii_digit (get_or ds i 0) ≡ true → n ≡ digits_value 10 (take i ds)
    → ten ≡ n * 10 → digit ≡ get_or ds i 0 - 48 → ten + digit ≡ digits_value 10 (take (i + 1) ds)
one_more ds i n ten digit within is_digit is ten_is digit_is =
    let step = digit_step ds i within is_digit in
    let P : ℕ → Type 0 = λ v. v * 10 + (get_or ds i 0 - 48) ≡ digits_value 10 (take (i + 1) ds) in
    let here : n * 10 + (get_or ds i 0 - 48) ≡ digits_value 10 (take (i + 1) ds) = subst P (sym is) (sym step) in
    rw (ten_is, digit_is) here

pub ten_too_great : (ds : List ℕ) (i n : ℕ) → i < length ds → is_ascii_digit (get_or ds i 0) ≡ true → n ≡ digits_value 10 (take i ds)
    → ((n * 10 < 2 ^ 64) → ⊥) → None ≡ digits_in ds
ten_too_great ds i n within is_digit is great =
    let more = one_more ds i n (n * 10) (get_or ds i 0 - 48) within is_digit is refl refl in
    too_great ds (i + 1) (reached (n * 10) (get_or ds i 0 - 48) (digits_value 10 (take (i + 1) ds)) more great)
  where
    reached : (ten digit whole : ℕ) → ten + digit ≡ whole → ((ten < 2 ^ 64) → ⊥) → 2 ^ 64 ≤ whole
    reached ten digit whole e great = omega arith

pub sum_too_great : (ds : List ℕ) (i n ten digit : ℕ) → i < length ds → is_ascii_digit (get_or ds i 0) ≡ true → n ≡ digits_value 10 (take i ds)
    → ten ≡ n * 10 → digit ≡ get_or ds i 0 - 48 → ((ten + digit < 2 ^ 64) → ⊥) → None ≡ digits_in ds
sum_too_great ds i n ten digit within is_digit is ten_is digit_is great =
    let more = one_more ds i n ten digit within is_digit is ten_is digit_is in
    too_great ds (i + 1) (reached (ten + digit) (digits_value 10 (take (i + 1) ds)) more great)
  where
    reached : (sum whole : ℕ) → sum ≡ whole → ((sum < 2 ^ 64) → ⊥) → 2 ^ 64 ≤ whole
    reached sum whole e great = omega arith

sized : (ds : List ℕ) (n : ℕ) → n ≡ digits_value 10 ds → n < 2 ^ 64 → Some n ≡ sized_in ds
sized ds n is small =
    let P : ℕ → Type 0 = λ v. Some n ≡ cond (ltb v (2 ^ 64)) (Some v) None in
    let e : ltb n (2 ^ 64) ≡ true = lt-ltb _ _ small in
    let here : P n = rw e refl in
    subst P is here

-- ---- numerals

numeral_from : (ds : List ℕ) → IsDigits ds → 0 < length ds → (get_or ds 0 0 ≡ 48 → length ds ≡ 1) → is_numeral ds ≡ true
numeral_from [] digits some first = absurd (omega arith)
numeral_from (c ∷ []) digits some first = (and_parts _ _ digits).0
numeral_from (c ∷ d ∷ ds) digits some first =
    and_from _ _ (not_from_false _ (ne_eqb c 48 (λ e. absurd (omega (arith, first e))))) digits

numeral_parts : (ds : List ℕ) → is_numeral ds ≡ true → IsDigits ds × (0 < length ds) × (get_or ds 0 0 ≡ 48 → length ds ≡ 1)
numeral_parts [] is = absurd cc
numeral_parts (c ∷ []) is = (and_from _ _ is refl, omega arith, λ e. omega arith)
numeral_parts (c ∷ d ∷ ds) is =
    let parts = and_parts (not (eqb c 48)) (list_all is_ascii_digit (c ∷ d ∷ ds)) is in
    (parts.1, omega arith, λ e. absurd (both_ways (eqb c 48) (not-true _ parts.0) (eq-eqb c 48 e)))

numeral_decimal : (n : ℕ) → n < 2 ^ 64 → is_numeral (decimal n) ≡ true
numeral_decimal n small =
    numeral_from (decimal n) (digits_decimal own n small) (decimal_nonempty n small) (one n small)
  where
    one : (n : ℕ) → n < 2 ^ 64 → get_or (decimal n) 0 0 ≡ 48 → length (decimal n) ≡ 1
    one zero small e = ap length (decimal_digit 0 (omega arith))
    one (suc n) small e = absurd (omega (arith, first_decimal (suc n) (omega arith) small, e))

-- ---- a number is read from its spelling, and from nothing else

pub count_decimal : (n : ℕ) → n < 2 ^ 64 → count_in (decimal n) ≡ Some n
count_decimal n small = rw (numeral_decimal n small) (sym (sized (decimal n) n (sym (digits_value-decimal own n small)) small))

pub count_some : (bytes : List ℕ) (n : ℕ) → count_in bytes ≡ Some n → (n < 2 ^ 64) × (decimal n ≡ bytes)
count_some bytes n e = by_numeral bytes n (is_numeral bytes) refl e
  where
    by_numeral : (bytes : List ℕ) (n : ℕ) (b : Bool) → is_numeral bytes ≡ b → cond b (sized_in bytes) None ≡ Some n → (n < 2 ^ 64) × (decimal n ≡ bytes)
    by_numeral bytes n false is e = absurd (none-some _ e)
    by_numeral bytes n true is e =
        let size = cond_some _ _ _ e in
        let small = ltb-true _ _ size.0 in
        let numeral = numeral_parts bytes is in
        let P : ℕ → Type 0 = λ v. (v < 2 ^ 64) × (decimal v ≡ bytes) in
        subst P size.1 (small, decimal-digits_value own bytes numeral.0 numeral.1 numeral.2 small)

pub place_decimal : (n : ℕ) → n < 2 ^ 32 → place_in (decimal n) ≡ Some n
place_decimal n small =
    let e : ltb n (2 ^ 32) ≡ true = lt-ltb _ _ small in
    rw (count_decimal n (omega arith), e) refl

pub place_some : (bytes : List ℕ) (n : ℕ) → place_in bytes ≡ Some n → (n < 2 ^ 32) × (decimal n ≡ bytes)
place_some bytes n e =
    let read = chained if_place (count_in bytes) n e in
    let size = cond_some _ _ _ read.2 in
    let whole = count_some bytes read.0 read.1 in
    let P : ℕ → Type 0 = λ v. (v < 2 ^ 32) × (decimal v ≡ bytes) in
    subst P size.1 (ltb-true _ _ size.0, whole.1)

-- ---- the bytes of a number

digits_from : (ds : List ℕ) → IsDigits ds → From 48 ds
digits_from [] digits = refl
digits_from (c ∷ ds) digits =
    let parts = and_parts (is_ascii_digit c) (list_all is_ascii_digit ds) digits in
    and_from _ _ (and_parts _ _ parts.0).0 (digits_from ds parts.1)

pub decimal_from : (n : ℕ) → n < 2 ^ 64 → From 48 (decimal n)
decimal_from n small = digits_from (decimal n) (digits_decimal own n small)

digit_within : (ds : List ℕ) (i : ℕ) → i < length ds → IsDigits ds → (48 ≤ get_or ds i 0) × (get_or ds i 0 ≤ 57)
digit_within ds i within digits = digit_at ds i (own.to ds digits) within

-- a byte that is no digit does not stand in a number
pub decimal_free : (s n : ℕ) → (s < 48) ⊎ (57 < s) → n < 2 ^ 64 → Free s (decimal n)
decimal_free s n apart small = λ k d h.
    let range = digit_within (decimal n) k h (digits_decimal own n small) in
    let P : ℕ → Type 0 = λ v. eqb v s ≡ false in
    subst P (get_or_default (decimal n) k 0 d h) (ne_eqb _ _ (outside (get_or (decimal n) k 0) s apart range))
  where
    outside : (c s : ℕ) → (s < 48) ⊎ (57 < s) → (48 ≤ c) × (c ≤ 57) → c ≡ s → ⊥
    outside c s (inl below) range e = omega (arith, range.0, range.1)
    outside c s (inr above) range e = omega (arith, range.0, range.1)
