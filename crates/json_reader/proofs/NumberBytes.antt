-- The bytes of number texts.
use Rattle.std.proofs.Common.{◌≡◌, ℕ, ◌<◌, ◌⊎◌, Bool, true, false, List, [], ◌∷◌, ◌++◌, refl, sym, ap, inl, inr, subst, arith}
use Rattle.std.proofs.lemmas.Bool.Decides.{nat_tests}
use Rattle.decimals.specs.Number.{is_digit, AreDigits, Parts, minus_text, IsWholePart, fraction_text, IsPowerText, IsSpelled}
use Rattle.json_reader.specs.declared.bytes.Class.TheVariants.{Minus, Zero, Digit}
use Rattle.json_reader.specs.Json.{is_space, Each}
use Rattle.json_reader.specs.code.Reading.{class_of, is_number_byte, begins_number}

pub no_space : (b : ℕ) → is_space b ≡ true → is_number_byte b ≡ true → ⊥
no_space b s h = grind (arith, nat_tests)

pub number_class : (b : ℕ) → begins_number b ≡ true → (class_of b ≡ Minus) ⊎ ((class_of b ≡ Zero) ⊎ (class_of b ≡ Digit))
number_class b h = grind (arith, nat_tests)

abbrev pub BeginsNumber : List ℕ → Type 0
BeginsNumber [] = ⊥
BeginsNumber (b ∷ bs) = begins_number b ≡ true

Each-append : (p : ℕ → Bool) (a b : List ℕ) → Each p a → Each p b → Each p (a ++ b)
Each-append p [] b x y = y
Each-append p (c ∷ a) b x y = (x.0, Each-append p a b x.1 y)

digit_byte_is : (b : ℕ) → is_digit b ≡ true → is_number_byte b ≡ true
digit_byte_is b h = grind (arith, nat_tests)

digits_bytes : (ds : List ℕ) → AreDigits ds → Each is_number_byte ds
digits_bytes [] h = tt
digits_bytes (b ∷ ds) h = (digit_byte_is b h.0, digits_bytes ds h.1)

minus_bytes : (m : Bool) → Each is_number_byte (minus_text m)
minus_bytes true = (refl, tt)
minus_bytes false = tt

whole_bytes : (ds : List ℕ) → IsWholePart ds → Each is_number_byte ds
whole_bytes [] h = elim h [ ]
whole_bytes (b ∷ ds) h = (digit_byte_is b h.0, digits_bytes ds h.1)

fraction_bytes : (ds : List ℕ) → AreDigits ds → Each is_number_byte (fraction_text ds)
fraction_bytes [] h = tt
fraction_bytes (b ∷ ds) h = (refl, digits_bytes (b ∷ ds) h)

e_byte : (e : ℕ) → (e ≡ 101) ⊎ (e ≡ 69) → is_number_byte e ≡ true
e_byte e (inl h) = ap is_number_byte h
e_byte e (inr h) = ap is_number_byte h

power_bytes : (down : Bool) (ds text : List ℕ) → AreDigits ds → IsPowerText down ds text → Each is_number_byte text
power_bytes down [] text h p = subst (Each is_number_byte) (sym p.1) tt
power_bytes true (b ∷ ds) text h (e, i, t) = subst (Each is_number_byte) (sym t) (e_byte e i, (refl, digits_bytes (b ∷ ds) h))
power_bytes false (b ∷ ds) text h (e, i, inl t) = subst (Each is_number_byte) (sym t) (e_byte e i, digits_bytes (b ∷ ds) h)
power_bytes false (b ∷ ds) text h (e, i, inr t) = subst (Each is_number_byte) (sym t) (e_byte e i, (refl, digits_bytes (b ∷ ds) h))

pub number_ascii : (b : ℕ) → is_number_byte b ≡ true → b < 128
number_ascii b h = grind (arith, nat_tests)

pub begins_ascii : (b : ℕ) → begins_number b ≡ true → b < 128
begins_ascii b h = grind (arith, nat_tests)

pub begins_is : (b : ℕ) → begins_number b ≡ true → is_number_byte b ≡ true
begins_is b h = grind (arith, nat_tests)

pub number_bytes : (bytes : List ℕ) (p : Parts) → IsSpelled bytes p → Each is_number_byte bytes
number_bytes bytes p s = subst (Each is_number_byte) (sym s.joined) (Each-append is_number_byte (minus_text p.minus) (p.whole ++ (fraction_text p.fraction ++ s.exponent)) (minus_bytes p.minus) (Each-append is_number_byte p.whole (fraction_text p.fraction ++ s.exponent) (whole_bytes p.whole s.whole) (Each-append is_number_byte (fraction_text p.fraction) s.exponent (fraction_bytes p.fraction s.fraction) (power_bytes p.down p.power s.exponent s.power s.exponent_is))))

digit_begins : (b : ℕ) → is_digit b ≡ true → begins_number b ≡ true
digit_begins b h = grind (arith, nat_tests)

begins_so : (m : Bool) (ds r : List ℕ) → IsWholePart ds → BeginsNumber (minus_text m ++ (ds ++ r))
begins_so true ds r h = refl
begins_so false [] r h = elim h [ ]
begins_so false (b ∷ ds) r h = digit_begins b h.0

pub begins_with_number : (bytes : List ℕ) (p : Parts) → IsSpelled bytes p → BeginsNumber bytes
begins_with_number bytes p s = subst BeginsNumber (sym s.joined) (begins_so p.minus p.whole (fraction_text p.fraction ++ s.exponent) s.whole)
