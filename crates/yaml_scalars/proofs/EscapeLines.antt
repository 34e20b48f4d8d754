-- An escape is the same whether the text goes on behind its line or not, and how many bytes it takes.
use Rattle.std.proofs.Common.{◌≡◌, ℕ, zero, suc, ◌+◌, ◌*◌, ◌<◌, ◌≤◌, ◌⊎◌, Bool, true, false, List, [], ◌∷◌, length, drop, refl, sym, ap, inl, inr, ◌∙◌, arith, cond}
use Rattle.std.specs.Prelude.{nat_eq, ◌||◌, ◌&&◌, encode_utf8}
use Rattle.std.proofs.lemmas.Bool.Decides.{nat_tests}
use Rattle.yaml_scalars.specs.declared.escape.Wanted.{Wanted}
use Rattle.yaml_scalars.specs.declared.escape.Wanted.TheVariants.{Character, FirstUnit, SecondUnit}
use Rattle.yaml_scalars.specs.Lines.{begins_with, begins_break}
use Rattle.yaml_scalars.specs.code.Walk.{line_at}
use Rattle.yaml_scalars.specs.Quoted.{Piece, Digits, Number, Short, Means, Returns, Wrong, is_hex, hex, is_high, may_go_on, digits, of_digits, of_low, of_pair, of_unit, letter, of_letter, escape}
use Rattle.yaml_scalars.proofs.Places.{line_drop}

-- a break begins with a line feed or a carriage return
pub break_byte : (x : ℕ) (xs : List ℕ) → begins_break x xs ≡ true → (x ≡ 10) ⊎ (x ≡ 13)
break_byte x xs h = by_feed (nat_eq x 10) (nat_eq x 13) (begins_with 10 xs) (λ e. grind (arith, nat_tests)) (λ e. grind (arith, nat_tests)) h where
  by_feed : (p q r : Bool) → (p ≡ true → x ≡ 10) → (q ≡ true → x ≡ 13) → (p || (q && r)) ≡ true → (x ≡ 10) ⊎ (x ≡ 13)
  by_feed true q r f g e = inl (f refl)
  by_feed false true r f g e = inr (g refl)
  by_feed false false r f g e = absurd (cc)

-- which is no digit
break_no_digit : (x : ℕ) (xs : List ℕ) → begins_break x xs ≡ true → is_hex x ≡ false
break_no_digit x xs h = elim (break_byte x xs h) [ inl e ↦ ap is_hex e | inr e ↦ ap is_hex e ]

break_no_byte : (x c : ℕ) (xs : List ℕ) → begins_break x xs ≡ true → 13 < c → nat_eq x c ≡ false
break_no_byte x c xs h l = elim (break_byte x xs h) [ inl e ↦ grind (arith, nat_tests) | inr e ↦ grind (arith, nat_tests) ]

digits_line : (w : Wanted) (k n c : ℕ) (xs : List ℕ) → digits w k n c (line_at xs) ≡ digits w k n c xs
digits_line w zero n c xs = refl
digits_line w (suc k) n c [] = refl
digits_line w (suc k) n c (x ∷ xs) = by_break (begins_break x xs) (λ h. break_no_digit x xs h) (digits_line w k (n * 16 + hex x) (suc c) xs) where
  by_break : (q : Bool) → (q ≡ true → is_hex x ≡ false) → digits w k (n * 16 + hex x) (suc c) (line_at xs) ≡ digits w k (n * 16 + hex x) (suc c) xs
      → digits w (suc k) n c (cond q [] (x ∷ line_at xs)) ≡ cond (is_hex x && may_go_on w k (n * 16 + hex x)) (digits w k (n * 16 + hex x) (suc c) xs) (Short c)
  by_break true f h = sym (ap (λ q. cond (q && may_go_on w k (n * 16 + hex x)) (digits w k (n * 16 + hex x) (suc c) xs) (Short c)) (f refl))
  by_break false f h = ap (λ d. cond (is_hex x && may_go_on w k (n * 16 + hex x)) d (Short c)) h

-- digits that spell a number are there
short_number : (c m : ℕ) → Short c ≡ Number m → ⊥
short_number c m h = cc

pub digits_long : (w : Wanted) (k n c m : ℕ) (xs : List ℕ) → digits w k n c xs ≡ Number m → k ≤ length xs
digits_long w zero n c m xs h = omega arith
digits_long w (suc k) n c m [] h = absurd (short_number c m h)
digits_long w (suc k) n c m (x ∷ xs) h = by_digit (is_hex x && may_go_on w k (n * 16 + hex x)) h (λ e. digits_long w k (n * 16 + hex x) (suc c) m xs e) where
  by_digit : (q : Bool) → cond q (digits w k (n * 16 + hex x) (suc c) xs) (Short c) ≡ Number m → (digits w k (n * 16 + hex x) (suc c) xs ≡ Number m → k ≤ length xs) → suc k ≤ suc (length xs)
  by_digit true e f = let l = f e in omega arith
  by_digit false e f = absurd (short_number c m e)

pair_line : (high : ℕ) (xs : List ℕ) → of_pair high (line_at xs) ≡ of_pair high xs
pair_line high [] = refl
pair_line high (v ∷ []) = by_break (begins_break v []) (λ h. break_no_byte v 92 [] h (omega arith)) where
  by_break : (q : Bool) → (q ≡ true → nat_eq v 92 ≡ false) → of_pair high (cond q [] (v ∷ [])) ≡ cond (nat_eq v 92) (Wrong 7) (Wrong 6)
  by_break true f = sym (ap (λ q. cond q (Wrong 7) (Wrong 6)) (f refl))
  by_break false f = refl
pair_line high (v ∷ w ∷ xs) = by_breaks (begins_break v (w ∷ xs)) (begins_break w xs) (λ h. break_no_byte v 92 (w ∷ xs) h (omega arith)) (λ h. break_no_byte w 117 xs h (omega arith)) (digits_line SecondUnit 4 0 7 xs) where
  by_breaks : (q r : Bool) → (q ≡ true → nat_eq v 92 ≡ false) → (r ≡ true → nat_eq w 117 ≡ false) → digits SecondUnit 4 0 7 (line_at xs) ≡ digits SecondUnit 4 0 7 xs
      → of_pair high (cond q [] (v ∷ cond r [] (w ∷ line_at xs))) ≡ cond (nat_eq v 92) (cond (nat_eq w 117) (of_low high (digits SecondUnit 4 0 7 xs)) (Wrong 7)) (Wrong 6)
  by_breaks true r f g h = sym (ap (λ q. cond q (cond (nat_eq w 117) (of_low high (digits SecondUnit 4 0 7 xs)) (Wrong 7)) (Wrong 6)) (f refl))
  by_breaks false true f g h = sym (ap (λ q. cond (nat_eq v 92) (cond q (of_low high (digits SecondUnit 4 0 7 xs)) (Wrong 7)) (Wrong 6)) (g refl))
  by_breaks false false f g h = ap (λ d. cond (nat_eq v 92) (cond (nat_eq w 117) (of_low high d) (Wrong 7)) (Wrong 6)) h

unit_line : (xs : List ℕ) → of_unit (digits FirstUnit 4 0 1 (line_at xs)) (drop 4 (line_at xs)) ≡ of_unit (digits FirstUnit 4 0 1 xs) (drop 4 xs)
unit_line xs = by_digits (digits FirstUnit 4 0 1 (line_at xs)) refl ∙ ap (λ d. of_unit d (drop 4 xs)) (digits_line FirstUnit 4 0 1 xs) where
  by_digits : (d : Digits) → digits FirstUnit 4 0 1 (line_at xs) ≡ d → of_unit d (drop 4 (line_at xs)) ≡ of_unit d (drop 4 xs)
  by_digits (Number n) e = ap (λ o. cond (is_high n) o (Means 5 (encode_utf8 n))) (ap (of_pair n) (line_drop 4 xs (digits_long FirstUnit 4 0 1 n (line_at xs) e)) ∙ pair_line n (drop 4 xs))
  by_digits (Short c) e = refl

-- by the bytes of its line, and by all that follow
pub escape_line : (b : ℕ) (xs : List ℕ) → escape (b ∷ line_at xs) ≡ escape (b ∷ xs)
escape_line b xs =
    let by = λ (two unit eight : Piece). cond (nat_eq b 13) (Returns 1) (cond (nat_eq b 120) two (cond (nat_eq b 117) unit (cond (nat_eq b 85) eight (of_letter (letter b))))) in
    ap (λ d. by (of_digits 3 d) (of_unit (digits FirstUnit 4 0 1 (line_at xs)) (drop 4 (line_at xs))) (of_digits 9 (digits Character 8 0 1 (line_at xs)))) (digits_line Character 2 0 1 xs)
    ∙ ap (λ p. by (of_digits 3 (digits Character 2 0 1 xs)) p (of_digits 9 (digits Character 8 0 1 (line_at xs)))) (unit_line xs)
    ∙ ap (λ d. by (of_digits 3 (digits Character 2 0 1 xs)) (of_unit (digits FirstUnit 4 0 1 xs) (drop 4 xs)) (of_digits 9 d)) (digits_line Character 8 0 1 xs)
