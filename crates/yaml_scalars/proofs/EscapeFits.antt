-- The bytes that a piece takes stand on its line, and the one that shows a fault stands there or ends the line.
use Rattle.std.proofs.Common.{◌≡◌, ℕ, zero, suc, ◌+◌, ◌*◌, ◌<◌, ◌≤◌, Bool, true, false, List, [], ◌∷◌, length, drop, refl, subst, arith, cond, length-drop}
use Rattle.std.specs.Prelude.{nat_eq, ◌&&◌, Option, Some, None, encode_utf8}
use Rattle.yaml_scalars.specs.declared.escape.Wanted.{Wanted}
use Rattle.yaml_scalars.specs.declared.escape.Wanted.TheVariants.{Character, FirstUnit, SecondUnit}
use Rattle.yaml_scalars.specs.Lines.{begins_with}
use Rattle.yaml_scalars.specs.Quoted.{Piece, Itself, Closes, Means, Joins, Returns, Wrong, Digits, Number, Short, is_hex, hex, is_high, may_go_on, digits, of_digits, of_low, of_pair, of_unit, letter, of_letter, escape, double, single, piece}
use Rattle.yaml_scalars.proofs.EscapeLines.{digits_long}

abbrev pub IsWithin : ℕ → Piece → Type 0
IsWithin size Itself = Unit {0}
IsWithin size Closes = Unit {0}
IsWithin size (Means taken t) = taken ≤ size
IsWithin size Joins = Unit {0}
IsWithin size (Returns n) = n ≤ size
IsWithin size (Wrong n) = (0 < n) × (n ≤ suc size)

either : (size : ℕ) (q : Bool) (p r : Piece) → IsWithin size p → IsWithin size r → IsWithin size (cond q p r)
either size true p r h g = h
either size false p r h g = g

-- how many digits are found
pub digits_short : (w : Wanted) (k n c j : ℕ) (xs : List ℕ) → digits w k n c xs ≡ Short j → (c ≤ j) × (j ≤ c + length xs)
digits_short w zero n c j xs h = absurd (cc)
digits_short w (suc k) n c j [] h = let e : c ≡ j = cc in (omega (arith, e), omega (arith, e))
digits_short w (suc k) n c j (x ∷ xs) h = by_digit (is_hex x && may_go_on w k (n * 16 + hex x)) h (λ e. digits_short w k (n * 16 + hex x) (suc c) j xs e) where
  by_digit : (q : Bool) → cond q (digits w k (n * 16 + hex x) (suc c) xs) (Short c) ≡ Short j → (digits w k (n * 16 + hex x) (suc c) xs ≡ Short j → (suc c ≤ j) × (j ≤ suc c + length xs)) → (c ≤ j) × (j ≤ c + suc (length xs))
  by_digit true e f = let l = f e in (omega (arith, l.0), omega (arith, l.1))
  by_digit false e f = let l : c ≡ j = cc in (omega (arith, l), omega (arith, l))

digits_within : (size taken : ℕ) (d : Digits) → 0 < taken → ((n : ℕ) → d ≡ Number n → taken ≤ size) → ((j : ℕ) → d ≡ Short j → j ≤ size) → IsWithin size (of_digits taken d)
digits_within size taken (Number n) p l s = l n refl
digits_within size taken (Short j) p l s = let m = s j refl in (omega arith, omega (arith, m))

low_within : (size high : ℕ) (d : Digits) → ((n : ℕ) → d ≡ Number n → 11 ≤ size) → ((j : ℕ) → d ≡ Short j → j ≤ size) → IsWithin size (of_low high d)
low_within size high (Number n) l s = l n refl
low_within size high (Short j) l s = let m = s j refl in (omega arith, omega (arith, m))

pair_within : (size high : ℕ) (xs : List ℕ) → 5 + length xs ≤ size → IsWithin size (of_pair high xs)
pair_within size high [] l = (omega arith, omega arith)
pair_within size high (v ∷ []) l = either size (nat_eq v 92) (Wrong 7) (Wrong 6) (omega arith, omega arith) (omega arith, omega arith)
pair_within size high (v ∷ w ∷ xs) l =
    let d = digits SecondUnit 4 0 7 xs in
    either size (nat_eq v 92) (cond (nat_eq w 117) (of_low high d) (Wrong 7)) (Wrong 6)
    (either size (nat_eq w 117) (of_low high d) (Wrong 7) (low_within size high d (λ n e. let m = digits_long SecondUnit 4 0 7 n xs e in omega arith) (λ j e. let m = digits_short SecondUnit 4 0 7 j xs e in omega (arith, m.1))) (omega arith, omega arith)) (omega arith, omega arith)

unit_within : (xs : List ℕ) (d : Digits) → digits FirstUnit 4 0 1 xs ≡ d → IsWithin (suc (length xs)) (of_unit d (drop 4 xs))
unit_within xs (Number n) e =
    let m = digits_long FirstUnit 4 0 1 n xs e in
    either (suc (length xs)) (is_high n) (of_pair n (drop 4 xs)) (Means 5 (encode_utf8 n)) (pair_within (suc (length xs)) n (drop 4 xs) (omega (arith, length-drop 4 xs))) (omega arith)
unit_within xs (Short j) e = let m = digits_short FirstUnit 4 0 1 j xs e in (omega arith, omega (arith, m.1))

letter_within : (size : ℕ) (o : Option ℕ) → IsWithin (suc size) (of_letter o)
letter_within size (Some n) = omega arith
letter_within size None = (omega arith, omega arith)

escape_within : (xs : List ℕ) → IsWithin (length xs) (escape xs)
escape_within [] = tt
escape_within (b ∷ xs) =
    let size = suc (length xs) in
    let others = of_letter (letter b) in
    let eight = of_digits 9 (digits Character 8 0 1 xs) in
    let unit = of_unit (digits FirstUnit 4 0 1 xs) (drop 4 xs) in
    let two = of_digits 3 (digits Character 2 0 1 xs) in
    either size (nat_eq b 13) (Returns 1) (cond (nat_eq b 120) two (cond (nat_eq b 117) unit (cond (nat_eq b 85) eight others))) (omega arith)
    (either size (nat_eq b 120) two (cond (nat_eq b 117) unit (cond (nat_eq b 85) eight others)) (digits_within size 3 (digits Character 2 0 1 xs) (omega arith) (λ n e. let m = digits_long Character 2 0 1 n xs e in omega arith) (λ j e. let m = digits_short Character 2 0 1 j xs e in omega (arith, m.1)))
    (either size (nat_eq b 117) unit (cond (nat_eq b 85) eight others) (unit_within xs (digits FirstUnit 4 0 1 xs) refl)
    (either size (nat_eq b 85) eight others (digits_within size 9 (digits Character 8 0 1 xs) (omega arith) (λ n e. let m = digits_long Character 8 0 1 n xs e in omega arith) (λ j e. let m = digits_short Character 8 0 1 j xs e in omega (arith, m.1))) (letter_within (length xs) (letter b)))))

quotes_within : (xs : List ℕ) → IsWithin (length xs) (cond (begins_with 39 xs) (Means 1 (39 ∷ [])) Closes)
quotes_within [] = tt
quotes_within (x ∷ xs) = either (suc (length xs)) (nat_eq x 39) (Means 1 (39 ∷ [])) Closes (omega arith) tt

pub piece_within : (quote b : ℕ) (xs : List ℕ) → IsWithin (length xs) (piece quote b xs)
piece_within quote b xs =
    let size = length xs in
    let quotes = cond (begins_with 39 xs) (Means 1 (39 ∷ [])) Closes in
    either size (nat_eq b 13) (Returns 0) (cond (nat_eq quote 34) (double b xs) (single b xs)) (omega arith)
    (either size (nat_eq quote 34) (double b xs) (single b xs)
    (either size (nat_eq b 34) Closes (cond (nat_eq b 92) (escape xs) Itself) tt (either size (nat_eq b 92) (escape xs) Itself (escape_within xs) tt))
    (either size (nat_eq b 39) quotes Itself (quotes_within xs) tt))

pub means_fits : (quote b : ℕ) (xs : List ℕ) (taken : ℕ) (text : List ℕ) → piece quote b xs ≡ Means taken text → taken ≤ length xs
means_fits quote b xs taken text e = subst (λ p. IsWithin (length xs) p) e (piece_within quote b xs)
