-- What `parse` answers for the text of a count: the digits of a numeral are what it reads.
use Rattle.std.proofs.Common.{◌≡◌, ◌≢◌, ◌<◌, ◌&&◌, ◌^◌, ℕ, Bool, true, false, [], ◌∷◌, length, get_or, Some, None, cond, refl, subst, arith, nat_le}
use Rattle.std.specs.List.{list_all}
use Rattle.std.specs.Char.{is_ascii_digit, digit_value}
use Rattle.std.specs.Str.Parse.{AllDigits, IsNumeral, digits_value, without_leading_plus}
use Rattle.std.proofs.lemmas.Str.Parse.{without_leading_plus_none}
use Rattle.std.proofs.lemmas.Bool.Decides.{nat_tests}
use Rattle.guard_words.specs.Request.{Text, is_numeral, count_in}

both : (a b : Bool) → (a && b) ≡ true → (a ≡ true) × (b ≡ true)
both true b e = (refl, e)
both false b e = absurd cc

digit_below : (b : ℕ) → is_ascii_digit b ≡ true → digit_value b < 10
digit_below b is = grind (arith, nat_tests, is)

not_plus : (b : ℕ) → is_ascii_digit b ≡ true → b ≢ 43
not_plus b is = λ e. let bad : is_ascii_digit 43 ≡ true = subst (λ n. is_ascii_digit n ≡ true) e is in absurd cc

all_digits : (text : Text) → list_all is_ascii_digit text ≡ true → AllDigits 10 text
all_digits [] is = tt
all_digits (b ∷ text) is = let parts = both _ _ is in (digit_below b parts.0, all_digits text parts.1)

-- a numeral is digits, and not empty
digits_of_numeral : (text : Text) → is_numeral text ≡ true → (0 < length text) × (list_all is_ascii_digit text ≡ true)
digits_of_numeral [] is = absurd cc
digits_of_numeral (b ∷ []) is = (omega arith, rw is refl)
digits_of_numeral (b ∷ d ∷ text) is = (omega arith, (both _ _ is).1)

no_plus : (text : Text) → list_all is_ascii_digit text ≡ true → get_or text 0 0 ≢ 43
no_plus [] is = λ e. absurd (omega (arith, e))
no_plus (b ∷ text) is = not_plus b (both _ _ is).0

-- what `parse` does not read is no count
pub no_count : (text : Text) → is_numeral text ≡ true
    → ((IsNumeral 10 (without_leading_plus text) × (digits_value 10 (without_leading_plus text) < 2 ^ 32)) → ⊥) → None ≡ count_in text
no_count text is fails =
    let digits = digits_of_numeral text is in
    let plain : without_leading_plus text ≡ text = without_leading_plus_none text (no_plus text digits.1) in
    rw is (by_size (nat_le (digits_value 10 text) 100000) refl (digits.0, all_digits text digits.1) (subst (λ t. (IsNumeral 10 t × (digits_value 10 t < 2 ^ 32)) → ⊥) plain fails))
  where
    by_size : (b : Bool) → nat_le (digits_value 10 text) 100000 ≡ b → IsNumeral 10 text → ((IsNumeral 10 text × (digits_value 10 text < 2 ^ 32)) → ⊥)
        → None ≡ cond b (Some (digits_value 10 text)) None
    by_size false e numeral none = refl
    by_size true e numeral none = absurd (none (numeral, grind (arith, nat_tests, e)))
