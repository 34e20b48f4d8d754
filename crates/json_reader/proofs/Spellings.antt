-- What single bytes are, and what digits and characters make.
use Rattle.std.proofs.Common.{◌≡◌, ℕ, zero, suc, ◌+◌, ◌-◌, ◌*◌, ◌≤◌, ◌⊎◌, Bool, true, false, List, [], ◌∷◌, ◌++◌, length, refl, sym, ap, inl, inr, ◌∙◌, subst, arith, Option, Some, None, cond, lit<}
use Rattle.std.specs.Prelude.{nat_eq, nat_lt, ℤ, pos, negsuc}
use Rattle.std.proofs.lemmas.Bool.{lt-ltb, ltb-true}
use Rattle.std.proofs.lemmas.Bool.Decides.{nat_tests}
use Rattle.doc_values.specs.declared.kind.Kind.TheVariants as kind
use Rattle.decimals.specs.Number.{is_digit, AreDigits, number_behind, number, IsWholePart, signed}
use Rattle.json_reader.specs.Json.{is_space, is_unescaped, past, IsInRange}
use Rattle.json_reader.specs.declared.bytes.Class.TheVariants.{Space, Quote, Open, Close, OpenList, CloseList, Colon, Comma, Minus, Zero, Digit, LetterN, LetterT, LetterF}
use Rattle.json_reader.specs.code.Reading.{class_of}
use Rattle.json_reader.specs.code.Numbers.{whole_of}

pub space_class : (b : ℕ) → is_space b ≡ true → class_of b ≡ Space
space_class b h = rw h refl

pub digit_class : (b : ℕ) → is_digit b ≡ true → ((class_of b ≡ Zero) × (b ≡ 48)) ⊎ ((class_of b ≡ Digit) × (nat_eq b 48 ≡ false))
digit_class b h = grind (arith, nat_tests)

pub unescaped_not_quote : (b : ℕ) → is_unescaped b ≡ true → nat_eq b 34 ≡ false
unescaped_not_quote b h = grind (arith, nat_tests)

pub past-append : (at : ℕ) (a b : List ℕ) → past at (a ++ b) ≡ past (past at a) b
past-append at [] b = refl
past-append at (x ∷ a) b = past-append (suc at) a b

pub past-length : (at : ℕ) (k : List ℕ) → past at k ≡ at + length k
past-length at [] = omega arith
past-length at (b ∷ k) = let h = past-length (suc at) k in omega arith

pub number_grows : (n : ℕ) (ds : List ℕ) → n ≤ number_behind n ds
number_grows n [] = omega arith
number_grows n (b ∷ ds) = let h = number_grows (n * 10 + (b - 48)) ds in omega arith

pub whole_fits : (minus : Bool) (n : ℕ) (z : ℤ) → whole_of minus n ≡ Some z → n ≤ 9223372036854775808
whole_fits false n z h = grind (arith, nat_tests)
whole_fits true zero z h = omega arith
whole_fits true (suc n) z h = grind (arith, nat_tests)

pub space_byte : (b : ℕ) → class_of b ≡ Space → is_space b ≡ true
space_byte b h = grind (arith, nat_tests)

pub quote_byte : (b : ℕ) → class_of b ≡ Quote → b ≡ 34
quote_byte b h = grind (arith, nat_tests)

pub open_byte : (b : ℕ) → class_of b ≡ Open → b ≡ 123
open_byte b h = grind (arith, nat_tests)

pub close_byte : (b : ℕ) → class_of b ≡ Close → b ≡ 125
close_byte b h = grind (arith, nat_tests)

pub open_list_byte : (b : ℕ) → class_of b ≡ OpenList → b ≡ 91
open_list_byte b h = grind (arith, nat_tests)

pub close_list_byte : (b : ℕ) → class_of b ≡ CloseList → b ≡ 93
close_list_byte b h = grind (arith, nat_tests)

pub n_byte : (b : ℕ) → class_of b ≡ LetterN → b ≡ 110
n_byte b h = grind (arith, nat_tests)

pub t_byte : (b : ℕ) → class_of b ≡ LetterT → b ≡ 116
t_byte b h = grind (arith, nat_tests)

pub f_byte : (b : ℕ) → class_of b ≡ LetterF → b ≡ 102
f_byte b h = grind (arith, nat_tests)

pub colon_byte : (b : ℕ) → class_of b ≡ Colon → b ≡ 58
colon_byte b h = grind (arith, nat_tests)

pub comma_byte : (b : ℕ) → class_of b ≡ Comma → b ≡ 44
comma_byte b h = grind (arith, nat_tests)

pub minus_byte : (b : ℕ) → class_of b ≡ Minus → b ≡ 45
minus_byte b h = grind (arith, nat_tests)

pub zero_byte : (b : ℕ) → class_of b ≡ Zero → b ≡ 48
zero_byte b h = grind (arith, nat_tests)

pub digit_byte : (b : ℕ) → class_of b ≡ Digit → (is_digit b ≡ true) × (nat_eq b 48 ≡ false)
digit_byte b h = grind (arith, nat_tests)

pub chosen : {X : Type 0} (b : Bool) (x y z : X) → cond b x y ≡ z → ((b ≡ true) × (x ≡ z)) ⊎ ((b ≡ false) × (y ≡ z))
chosen true x y z h = inl (refl, h)
chosen false x y z h = inr (refl, h)

pub number_first : (d : ℕ) (ds : List ℕ) → number (d ∷ ds) ≡ number_behind (d - 48) ds
number_first d ds = let e : 0 * 10 + (d - 48) ≡ d - 48 = omega arith in ap (λ n. number_behind n ds) e

no_zero : (d : ℕ) (ds : List ℕ) → nat_eq d 48 ≡ false → d ≡ 48 → ds ≡ []
no_zero d ds h e = let y : nat_eq d 48 ≡ true = ap (λ n. nat_eq n 48) e in let x : true ≡ false = sym y ∙ h in absurd (cc)

-- the digits behind a first one that is not zero
pub digits_whole : (d : ℕ) (ds : List ℕ) → is_digit d ≡ true → nat_eq d 48 ≡ false → AreDigits ds → IsWholePart (d ∷ ds)
digits_whole d ds h n e = (h, e, no_zero d ds n)

-- a size in range is what is read, and what is read is in range
pub whole_in_range : (minus : Bool) (n : ℕ) → IsInRange (kind.Whole (signed minus n)) → whole_of minus n ≡ Some (signed minus n)
whole_in_range false n r = ap (λ q. cond q (Some (pos n)) None) (lt-ltb n 9223372036854775808 r.sfits)
whole_in_range true zero r = refl
whole_in_range true (suc n) r = ap (λ q. cond q (Some (negsuc n)) None) (lt-ltb n 9223372036854775808 r.sfits)

pub whole_read : (minus : Bool) (n : ℕ) (z : ℤ) → whole_of minus n ≡ Some z → (z ≡ signed minus n) × IsInRange (kind.Whole z)
whole_read false n z h = elim (chosen (nat_lt n 9223372036854775808) (Some (pos n)) None (Some z) h) [
  | inl k ↦ let e : pos n ≡ z = let s : Some (pos n) ≡ Some z = k.1 in cc in (sym e, subst (λ (y : ℤ). IsInRange (kind.Whole y)) e (record { sfits = ltb-true n 9223372036854775808 k.0 }))
  | inr k ↦ absurd (let s : ◌≡◌ {A = Option ℤ} None (Some z) = k.1 in cc)
]
whole_read true zero z h = let e : pos 0 ≡ z = cc in (sym e, subst (λ (y : ℤ). IsInRange (kind.Whole y)) e (record { sfits = lit< tt }))
whole_read true (suc n) z h = elim (chosen (nat_lt n 9223372036854775808) (Some (negsuc n)) None (Some z) h) [
  | inl k ↦ let e : negsuc n ≡ z = let s : Some (negsuc n) ≡ Some z = k.1 in cc in (sym e, subst (λ (y : ℤ). IsInRange (kind.Whole y)) e (record { sfits = ltb-true n 9223372036854775808 k.0 }))
  | inr k ↦ absurd (let s : ◌≡◌ {A = Option ℤ} None (Some z) = k.1 in cc)
]
