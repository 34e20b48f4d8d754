-- What the digits of an escape mean.
use Rattle.std.proofs.Common.{◌≡◌, ℕ, ◌+◌, ◌-◌, ◌*◌, ◌^◌, ◌<◌, Bool, true, false, Option, List, refl, ◌∷◌, length, drop, get_or, sym, ap, ap₂, subst, ◌∙◌, arith, cond}
use Rattle.std.specs.Prelude.{not, nat_eq, encode_utf8}
use Rattle.std.proofs.lemmas.Bool.Decides.{nat_tests}
use Rattle.std.proofs.lemmas.List.{drop-drop}
use Rattle.yaml_scalars.specs.declared.escape.Meaning.{Meaning}
use Rattle.yaml_scalars.specs.declared.escape.Wanted.TheVariants.{FirstUnit, SecondUnit}
use Rattle.yaml_scalars.specs.Quoted.{Piece, Means, Number, is_high, is_low, is_character, digits, of_low, of_pair, of_unit, of_letter, letter, escape}
use Rattle.yaml_scalars.specs.code.QuotedSteps.{IsMeaning}
use Rattle.yaml_scalars.proofs.EscapeDigits.{ahead}

-- a meaning of a piece is one of an equal piece
pub meaning_so : (p q : Piece) (m : Meaning) → p ≡ q → IsMeaning q m → IsMeaning p m
meaning_so p q m e h = subst (λ x. IsMeaning x m) (sym e) h

-- two surrogates spell a character
pub two_units : (high low : ℕ) → is_high high ≡ true → is_low low ≡ true → is_character (65536 + (high - 55296) * 1024 + (low - 56320)) ≡ true
two_units high low h l = grind (arith, nat_tests)

-- and so does a unit that is none
pub one_unit : (n : ℕ) → n < 16 ^ 4 → is_high n ≡ false → not (is_low n) ≡ true → is_character n ≡ true
one_unit n l h g = let m : n < 65536 = l in grind (arith, nat_tests)

-- the escape of the second one is ahead
pub pair_is : (bytes : List ℕ) (at high : ℕ) → at + 6 < length bytes → get_or bytes (at + 5) 0 ≡ 92 → get_or bytes (at + 6) 0 ≡ 117 → of_pair high (drop (at + 5) bytes) ≡ of_low high (digits SecondUnit 4 0 7 (drop (at + 7) bytes))
pair_is bytes at high l v w =
    let m : at + 5 < length bytes = omega arith in
    let e : at + 5 + 1 ≡ at + 6 = omega arith in
    let f : at + 6 + 1 ≡ at + 7 = omega arith in
    ap (of_pair high) (ahead bytes (at + 5) m ∙ ap₂ (λ b k. b ∷ drop k bytes) v e ∙ ap (λ t. 92 ∷ t) (ahead bytes (at + 6) l ∙ ap₂ (λ b k. b ∷ drop k bytes) w f))

-- one unit
pub unit_high : (n : ℕ) (more : List ℕ) → is_high n ≡ true → of_unit (Number n) more ≡ of_pair n more
unit_high n more e = ap (λ q. cond q (of_pair n more) (Means 5 (encode_utf8 n))) e

pub unit_single : (n : ℕ) (more : List ℕ) → is_high n ≡ false → of_unit (Number n) more ≡ Means 5 (encode_utf8 n)
unit_single n more e = ap (λ q. cond q (of_pair n more) (Means 5 (encode_utf8 n))) e

-- what is ahead, by its first byte
pub byte_ahead : (bytes : List ℕ) (at b : ℕ) → at < length bytes → get_or bytes at 0 ≡ b → escape (drop at bytes) ≡ escape (b ∷ drop (at + 1) bytes)
byte_ahead bytes at b l h = ap escape (ahead bytes at l ∙ ap (λ x. x ∷ drop (at + 1) bytes) h)

by_letter : (p q r s : Bool) (a b c d e : Piece) → p ≡ false → q ≡ false → r ≡ false → s ≡ false → cond p a (cond q b (cond r c (cond s d e))) ≡ e
by_letter p q r s a b c d e hp hq hr hs =
    ap (λ x. cond x a (cond q b (cond r c (cond s d e)))) hp ∙ ap (λ x. cond x b (cond r c (cond s d e))) hq ∙ ap (λ x. cond x c (cond s d e)) hr ∙ ap (λ x. cond x d e) hs

differs : (a b : ℕ) → (a ≡ b → ⊥) → nat_eq a b ≡ false
differs a b h = grind (arith, nat_tests)

-- a byte is ahead that says its character alone, or none
pub letter_ahead : (bytes : List ℕ) (at : ℕ) (o : Option ℕ) → at < length bytes → (get_or bytes at 0 ≡ 13 → ⊥) → (get_or bytes at 0 ≡ 120 → ⊥) → (get_or bytes at 0 ≡ 117 → ⊥) → (get_or bytes at 0 ≡ 85 → ⊥)
    → o ≡ letter (get_or bytes at 0) → escape (drop at bytes) ≡ of_letter o
letter_ahead bytes at o l returns x small_u large_u h =
    let b = get_or bytes at 0 in
    byte_ahead bytes at b l refl
    ∙ by_letter (nat_eq b 13) (nat_eq b 120) (nat_eq b 117) (nat_eq b 85) _ _ _ _ (of_letter (letter b)) (differs b 13 returns) (differs b 120 x) (differs b 117 small_u) (differs b 85 large_u)
    ∙ ap of_letter (sym h)

-- the letter `u` is ahead
pub unit_ahead : (bytes : List ℕ) (at : ℕ) → at < length bytes → get_or bytes at 0 ≡ 117 → escape (drop at bytes) ≡ of_unit (digits FirstUnit 4 0 1 (drop (at + 1) bytes)) (drop (at + 5) bytes)
unit_ahead bytes at l h =
    let e : at + 1 + 4 ≡ at + 5 = omega arith in
    byte_ahead bytes at 117 l h
    ∙ ap (of_unit (digits FirstUnit 4 0 1 (drop (at + 1) bytes))) (drop-drop 4 (at + 1) bytes ∙ ap (λ k. drop k bytes) e)
