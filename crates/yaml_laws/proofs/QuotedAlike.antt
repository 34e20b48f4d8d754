-- A piece between quotes is the same in two lines that agree so far, or its last byte stands further on.
use Rattle.std.proofs.Common.{◌≡◌, ℕ, zero, suc, ◌+◌, ◌*◌, ◌<◌, ◌≤◌, ◌⊎◌, Bool, true, false, List, [], ◌∷◌, ◌++◌, length, drop, refl, sym, ap, inl, inr, subst, ◌∙◌, arith, cond}
use Rattle.std.specs.Prelude.{nat_eq, nat_lt, ◌&&◌, Option, Some, None, encode_utf8}
use Rattle.std.proofs.lemmas.Bool.Decides.{nat_tests}
use Rattle.yaml_scalars.specs.declared.escape.Wanted.{Wanted}
use Rattle.yaml_scalars.specs.declared.escape.Wanted.TheVariants.{Character, FirstUnit, SecondUnit}
use Rattle.yaml_scalars.specs.Lines.{begins_with}
use Rattle.yaml_scalars.specs.Quoted.{Piece, Itself, Closes, Means, Joins, Returns, Wrong, Digits, Number, Short, is_hex, hex, is_high, may_go_on, digits, of_digits, of_low, of_pair, of_unit, letter, of_letter, escape, double, single, piece}
use Rattle.yaml_laws.proofs.Agree.{IsReturn, drop_before, drop_size}
use Rattle.yaml_scalars.proofs.EscapeFits.{digits_short}
use Rattle.yaml_scalars.proofs.EscapeLines.{digits_long}

-- more than so many bytes behind it show what it is
abbrev pub IsFar : ℕ → Piece → Type 0
IsFar n Itself = ⊥
IsFar n Closes = Unit {0}
IsFar n (Means taken t) = n < taken
IsFar n Joins = Unit {0}
IsFar n (Returns m) = n < m
IsFar n (Wrong m) = n < m

abbrev IsFarDigits : ℕ → ℕ → ℕ → Digits → Type 0
IsFarDigits k c n (Number m) = n < k
IsFarDigits k c n (Short j) = c + n ≤ j

far_cond : (n : ℕ) (q : Bool) (p r : Piece) → IsFar n p → IsFar n r → IsFar n (cond q p r)
far_cond n true p r h g = h
far_cond n false p r h g = g

-- alike, or far
abbrev pub IsAlike : ℕ → Piece → Piece → Type 0
IsAlike n p q = (p ≡ q) ⊎ IsFar n p

alike_cond : (n : ℕ) (b : Bool) (p q r s : Piece) → IsAlike n p q → IsAlike n r s → IsAlike n (cond b p r) (cond b q s)
alike_cond n true p q r s h g = h
alike_cond n false p q r s h g = g

digits_alike : (w : Wanted) (k n c : ℕ) (f x y : List ℕ) → (digits w k n c (f ++ x) ≡ digits w k n c (f ++ y)) ⊎ IsFarDigits k c (length f) (digits w k n c (f ++ x))
digits_alike w zero n c f x y = inl refl
digits_alike w (suc k) n c [] x y = inr (by_digits (digits w (suc k) n c x) refl) where
  by_digits : (d : Digits) → digits w (suc k) n c x ≡ d → IsFarDigits (suc k) c 0 d
  by_digits (Number m) e = omega arith
  by_digits (Short j) e = let s = digits_short w (suc k) n c j x e in omega (arith, s.0)
digits_alike w (suc k) n c (b ∷ f) x y = by_digit (is_hex b && may_go_on w k (n * 16 + hex b)) (digits_alike w k (n * 16 + hex b) (suc c) f x y) where
  further : (d : Digits) → IsFarDigits k (suc c) (length f) d → IsFarDigits (suc k) c (suc (length f)) d
  further (Number m) l = omega arith
  further (Short j) l = omega arith

  by_digit : (q : Bool) → (digits w k (n * 16 + hex b) (suc c) (f ++ x) ≡ digits w k (n * 16 + hex b) (suc c) (f ++ y)) ⊎ IsFarDigits k (suc c) (length f) (digits w k (n * 16 + hex b) (suc c) (f ++ x))
      → (cond q (digits w k (n * 16 + hex b) (suc c) (f ++ x)) (Short c) ≡ cond q (digits w k (n * 16 + hex b) (suc c) (f ++ y)) (Short c)) ⊎ IsFarDigits (suc k) c (suc (length f)) (cond q (digits w k (n * 16 + hex b) (suc c) (f ++ x)) (Short c))
  by_digit true (inl e) = inl e
  by_digit true (inr l) = inr (further (digits w k (n * 16 + hex b) (suc c) (f ++ x)) l)
  by_digit false h = inl refl

-- by so many digits behind a letter
number_alike : (k : ℕ) (f x y : List ℕ) → IsAlike (suc (length f)) (of_digits (suc k) (digits Character k 0 1 (f ++ x))) (of_digits (suc k) (digits Character k 0 1 (f ++ y)))
number_alike k f x y = elim (digits_alike Character k 0 1 f x y) [ inl e ↦ inl (ap (of_digits (suc k)) e) | inr l ↦ inr (by_digits (digits Character k 0 1 (f ++ x)) l) ] where
  by_digits : (d : Digits) → IsFarDigits k 1 (length f) d → IsFar (suc (length f)) (of_digits (suc k) d)
  by_digits (Number m) l = omega arith
  by_digits (Short j) l = omega arith

low_alike : (high : ℕ) (f x y : List ℕ) → IsAlike (7 + length f) (of_low high (digits SecondUnit 4 0 7 (f ++ x))) (of_low high (digits SecondUnit 4 0 7 (f ++ y)))
low_alike high f x y = elim (digits_alike SecondUnit 4 0 7 f x y) [ inl e ↦ inl (ap (of_low high) e) | inr l ↦ inr (by_digits (digits SecondUnit 4 0 7 (f ++ x)) l) ] where
  by_digits : (d : Digits) → IsFarDigits 4 7 (length f) d → IsFar (7 + length f) (of_low high d)
  by_digits (Number m) l = omega arith
  by_digits (Short j) l = omega arith

far_low : (high : ℕ) (xs : List ℕ) → IsFar 6 (of_low high (digits SecondUnit 4 0 7 xs))
far_low high xs = by_digits (digits SecondUnit 4 0 7 xs) refl where
  by_digits : (d : Digits) → digits SecondUnit 4 0 7 xs ≡ d → IsFar 6 (of_low high d)
  by_digits (Number m) e = omega arith
  by_digits (Short j) e = let s = digits_short SecondUnit 4 0 7 j xs e in omega (arith, s.0)

nearer : (n m : ℕ) (p : Piece) → m ≤ n → IsFar n p → IsFar m p
nearer n m Itself l h = h
nearer n m Closes l h = tt
nearer n m (Means taken t) l h = omega arith
nearer n m Joins l h = tt
nearer n m (Returns k) l h = omega arith
nearer n m (Wrong k) l h = omega arith

far_pair : (high : ℕ) (xs : List ℕ) → IsFar 5 (of_pair high xs)
far_pair high [] = omega arith
far_pair high (v ∷ []) = far_cond 5 (nat_eq v 92) (Wrong 7) (Wrong 6) (omega arith) (omega arith)
far_pair high (v ∷ w ∷ xs) = far_cond 5 (nat_eq v 92) (cond (nat_eq w 117) (of_low high (digits SecondUnit 4 0 7 xs)) (Wrong 7)) (Wrong 6) (far_cond 5 (nat_eq w 117) (of_low high (digits SecondUnit 4 0 7 xs)) (Wrong 7) (nearer 6 5 (of_low high (digits SecondUnit 4 0 7 xs)) (omega arith) (far_low high xs)) (omega arith)) (omega arith)

pair_alike : (high : ℕ) (f x y : List ℕ) → IsAlike (5 + length f) (of_pair high (f ++ x)) (of_pair high (f ++ y))
pair_alike high [] x y = inr (far_pair high x)
pair_alike high (v ∷ []) x y = by_byte (nat_eq v 92) refl where
  more : (q : Bool) (xs : List ℕ) → nat_eq v 92 ≡ q → of_pair high (v ∷ xs) ≡ cond q (of_pair high (92 ∷ xs)) (Wrong 6)
  more true [] e = ap (λ q. cond q (Wrong 7) (Wrong 6)) e
  more true (w ∷ xs) e = ap (λ q. cond q (cond (nat_eq w 117) (of_low high (digits SecondUnit 4 0 7 xs)) (Wrong 7)) (Wrong 6)) e
  more false [] e = ap (λ q. cond q (Wrong 7) (Wrong 6)) e
  more false (w ∷ xs) e = ap (λ q. cond q (cond (nat_eq w 117) (of_low high (digits SecondUnit 4 0 7 xs)) (Wrong 7)) (Wrong 6)) e

  far : (xs : List ℕ) → IsFar 6 (of_pair high (92 ∷ xs))
  far [] = omega arith
  far (w ∷ xs) = far_cond 6 (nat_eq w 117) (of_low high (digits SecondUnit 4 0 7 xs)) (Wrong 7) (far_low high xs) (omega arith)

  by_byte : (q : Bool) → nat_eq v 92 ≡ q → IsAlike 6 (of_pair high (v ∷ x)) (of_pair high (v ∷ y))
  by_byte true e = inr (subst (λ p. IsFar 6 p) (sym (more true x e)) (far x))
  by_byte false e = inl (more false x e ∙ sym (more false y e))
pair_alike high (v ∷ w ∷ f) x y =
    let n : 7 + length f ≡ 5 + suc (suc (length f)) = omega arith in
    subst (λ k. IsAlike k (of_pair high (v ∷ w ∷ (f ++ x))) (of_pair high (v ∷ w ∷ (f ++ y)))) n
    (alike_cond (7 + length f) (nat_eq v 92) (cond (nat_eq w 117) (of_low high (digits SecondUnit 4 0 7 (f ++ x))) (Wrong 7)) (cond (nat_eq w 117) (of_low high (digits SecondUnit 4 0 7 (f ++ y))) (Wrong 7)) (Wrong 6) (Wrong 6)
    (alike_cond (7 + length f) (nat_eq w 117) (of_low high (digits SecondUnit 4 0 7 (f ++ x))) (of_low high (digits SecondUnit 4 0 7 (f ++ y))) (Wrong 7) (Wrong 7) (low_alike high f x y) (inl refl)) (inl refl))

unit_alike : (f x y : List ℕ) → IsAlike (suc (length f)) (of_unit (digits FirstUnit 4 0 1 (f ++ x)) (drop 4 (f ++ x))) (of_unit (digits FirstUnit 4 0 1 (f ++ y)) (drop 4 (f ++ y)))
unit_alike f x y = elim (digits_alike FirstUnit 4 0 1 f x y) [ inl e ↦ by_size (nat_lt (length f) 4) refl e | inr l ↦ inr (by_digits (digits FirstUnit 4 0 1 (f ++ x)) l) ] where
  by_digits : (d : Digits) → IsFarDigits 4 1 (length f) d → IsFar (suc (length f)) (of_unit d (drop 4 (f ++ x)))
  by_digits (Number m) l = far_cond (suc (length f)) (is_high m) (of_pair m (drop 4 (f ++ x))) (Means 5 (encode_utf8 m)) (nearer 5 (suc (length f)) (of_pair m (drop 4 (f ++ x))) (omega arith) (far_pair m (drop 4 (f ++ x)))) (omega arith)
  by_digits (Short j) l = omega arith

  short : nat_lt (length f) 4 ≡ true → length f < 4
  short h = grind (arith, nat_tests)

  long : nat_lt (length f) 4 ≡ false → 4 ≤ length f
  long h = grind (arith, nat_tests)

  near : length f < 4 → (d : Digits) → digits FirstUnit 4 0 1 (f ++ x) ≡ d → digits FirstUnit 4 0 1 (f ++ y) ≡ d → IsAlike (suc (length f)) (of_unit d (drop 4 (f ++ x))) (of_unit d (drop 4 (f ++ y)))
  near l (Number m) e g = inr (far_cond (suc (length f)) (is_high m) (of_pair m (drop 4 (f ++ x))) (Means 5 (encode_utf8 m)) (nearer 5 (suc (length f)) (of_pair m (drop 4 (f ++ x))) (omega arith) (far_pair m (drop 4 (f ++ x)))) (omega arith))
  near l (Short j) e g = inl refl

  behind : 4 ≤ length f → (d : Digits) → IsAlike (suc (length f)) (of_unit d (drop 4 (f ++ x))) (of_unit d (drop 4 (f ++ y)))
  behind l (Number m) =
      let n : 5 + length (drop 4 f) ≡ suc (length f) = let s = drop_size 4 f l in omega (arith, s) in
      let p = pair_alike m (drop 4 f) x y in
      let p2 = subst (λ z. IsAlike (5 + length (drop 4 f)) (of_pair m z) (of_pair m (drop 4 f ++ y))) (sym (drop_before 4 f x l)) p in
      let p3 = subst (λ z. IsAlike (5 + length (drop 4 f)) (of_pair m (drop 4 (f ++ x))) (of_pair m z)) (sym (drop_before 4 f y l)) p2 in
      alike_cond (suc (length f)) (is_high m) (of_pair m (drop 4 (f ++ x))) (of_pair m (drop 4 (f ++ y))) (Means 5 (encode_utf8 m)) (Means 5 (encode_utf8 m)) (subst (λ k. IsAlike k (of_pair m (drop 4 (f ++ x))) (of_pair m (drop 4 (f ++ y)))) n p3) (inl refl)
  behind l (Short j) = inl refl

  by_size : (q : Bool) → nat_lt (length f) 4 ≡ q → digits FirstUnit 4 0 1 (f ++ x) ≡ digits FirstUnit 4 0 1 (f ++ y) → IsAlike (suc (length f)) (of_unit (digits FirstUnit 4 0 1 (f ++ x)) (drop 4 (f ++ x))) (of_unit (digits FirstUnit 4 0 1 (f ++ y)) (drop 4 (f ++ y)))
  by_size true h e = subst (λ d. IsAlike (suc (length f)) (of_unit (digits FirstUnit 4 0 1 (f ++ x)) (drop 4 (f ++ x))) (of_unit d (drop 4 (f ++ y)))) e (near (short h) (digits FirstUnit 4 0 1 (f ++ x)) refl (sym e))
  by_size false h e = subst (λ d. IsAlike (suc (length f)) (of_unit (digits FirstUnit 4 0 1 (f ++ x)) (drop 4 (f ++ x))) (of_unit d (drop 4 (f ++ y)))) e (behind (long h) (digits FirstUnit 4 0 1 (f ++ x)))

far_letter : (o : Option ℕ) → IsFar 0 (of_letter o)
far_letter (Some n) = omega arith
far_letter None = omega arith

far_digits : (k : ℕ) (d : Digits) → IsFar 0 (of_digits (suc k) d)
far_digits k (Number n) = omega arith
far_digits k (Short j) = omega arith

far_unit : (d : Digits) (xs : List ℕ) → IsFar 0 (of_unit d xs)
far_unit (Number n) xs = far_cond 0 (is_high n) (of_pair n xs) (Means 5 (encode_utf8 n)) (nearer 5 0 (of_pair n xs) (omega arith) (far_pair n xs)) (omega arith)
far_unit (Short j) xs = omega arith

far_escape : (xs : List ℕ) → IsFar 0 (escape xs)
far_escape [] = tt
far_escape (b ∷ xs) =
    let others = of_letter (letter b) in
    let eight = of_digits 9 (digits Character 8 0 1 xs) in
    let unit = of_unit (digits FirstUnit 4 0 1 xs) (drop 4 xs) in
    let two = of_digits 3 (digits Character 2 0 1 xs) in
    far_cond 0 (nat_eq b 13) (Returns 1) (cond (nat_eq b 120) two (cond (nat_eq b 117) unit (cond (nat_eq b 85) eight others))) (omega arith)
    (far_cond 0 (nat_eq b 120) two (cond (nat_eq b 117) unit (cond (nat_eq b 85) eight others)) (far_digits 2 (digits Character 2 0 1 xs))
    (far_cond 0 (nat_eq b 117) unit (cond (nat_eq b 85) eight others) (far_unit (digits FirstUnit 4 0 1 xs) (drop 4 xs))
    (far_cond 0 (nat_eq b 85) eight others (far_digits 8 (digits Character 8 0 1 xs)) (far_letter (letter b)))))

escape_alike : (f x y : List ℕ) → IsAlike (length f) (escape (f ++ x)) (escape (f ++ y))
escape_alike [] x y = inr (far_escape x)
escape_alike (b ∷ f) x y =
    let size = suc (length f) in
    let others = of_letter (letter b) in
    let eight = of_digits 9 (digits Character 8 0 1 (f ++ x)) in
    let eights = of_digits 9 (digits Character 8 0 1 (f ++ y)) in
    let unit = of_unit (digits FirstUnit 4 0 1 (f ++ x)) (drop 4 (f ++ x)) in
    let units = of_unit (digits FirstUnit 4 0 1 (f ++ y)) (drop 4 (f ++ y)) in
    let two = of_digits 3 (digits Character 2 0 1 (f ++ x)) in
    let twos = of_digits 3 (digits Character 2 0 1 (f ++ y)) in
    alike_cond size (nat_eq b 13) (Returns 1) (Returns 1) (cond (nat_eq b 120) two (cond (nat_eq b 117) unit (cond (nat_eq b 85) eight others))) (cond (nat_eq b 120) twos (cond (nat_eq b 117) units (cond (nat_eq b 85) eights others))) (inl refl)
    (alike_cond size (nat_eq b 120) two twos (cond (nat_eq b 117) unit (cond (nat_eq b 85) eight others)) (cond (nat_eq b 117) units (cond (nat_eq b 85) eights others)) (number_alike 2 f x y)
    (alike_cond size (nat_eq b 117) unit units (cond (nat_eq b 85) eight others) (cond (nat_eq b 85) eights others) (unit_alike f x y)
    (alike_cond size (nat_eq b 85) eight eights others others (number_alike 8 f x y) (inl refl))))

quotes_alike : (f x y : List ℕ) → IsAlike (length f) (cond (begins_with 39 (f ++ x)) (Means 1 (39 ∷ [])) Closes) (cond (begins_with 39 (f ++ y)) (Means 1 (39 ∷ [])) Closes)
quotes_alike [] x y = inr (far_cond 0 (begins_with 39 x) (Means 1 (39 ∷ [])) Closes (omega arith) tt)
quotes_alike (b ∷ f) x y = inl refl

pub piece_alike : (quote b : ℕ) (f x y : List ℕ) → IsAlike (length f) (piece quote b (f ++ x)) (piece quote b (f ++ y))
piece_alike quote b f x y =
    let size = length f in
    alike_cond size (nat_eq b 13) (Returns 0) (Returns 0) (cond (nat_eq quote 34) (double b (f ++ x)) (single b (f ++ x))) (cond (nat_eq quote 34) (double b (f ++ y)) (single b (f ++ y))) (inl refl)
    (alike_cond size (nat_eq quote 34) (double b (f ++ x)) (double b (f ++ y)) (single b (f ++ x)) (single b (f ++ y))
    (alike_cond size (nat_eq b 34) Closes Closes (cond (nat_eq b 92) (escape (f ++ x)) Itself) (cond (nat_eq b 92) (escape (f ++ y)) Itself) (inl refl) (alike_cond size (nat_eq b 92) (escape (f ++ x)) (escape (f ++ y)) Itself Itself (escape_alike f x y) (inl refl)))
    (alike_cond size (nat_eq b 39) (cond (begins_with 39 (f ++ x)) (Means 1 (39 ∷ [])) Closes) (cond (begins_with 39 (f ++ y)) (Means 1 (39 ∷ [])) Closes) Itself Itself (quotes_alike f x y) (inl refl)))

-- a carriage return or the line's end behind more than the backslash is the same fault
digits_return : (w : Wanted) (k n c : ℕ) (f x : List ℕ) → IsReturn x → digits w k n c (f ++ x) ≡ digits w k n c f
digits_return w zero n c f x r = refl
digits_return w (suc k) n c [] [] r = refl
digits_return w (suc k) n c [] (b ∷ x) r = ap (λ b. cond (is_hex b && may_go_on w k (n * 16 + hex b)) (digits w k (n * 16 + hex b) (suc c) x) (Short c)) r
digits_return w (suc k) n c (b ∷ f) x r = ap (λ d. cond (is_hex b && may_go_on w k (n * 16 + hex b)) d (Short c)) (digits_return w k (n * 16 + hex b) (suc c) f x r)

pair_return : (high : ℕ) (f x : List ℕ) → IsReturn x → of_pair high (f ++ x) ≡ of_pair high f
pair_return high [] [] r = refl
pair_return high [] (b ∷ []) r = ap (λ b. cond (nat_eq b 92) (Wrong 7) (Wrong 6)) r
pair_return high [] (b ∷ w ∷ x) r = ap (λ b. cond (nat_eq b 92) (cond (nat_eq w 117) (of_low high (digits SecondUnit 4 0 7 x)) (Wrong 7)) (Wrong 6)) r
pair_return high (v ∷ []) [] r = refl
pair_return high (v ∷ []) (b ∷ x) r = ap (λ b. cond (nat_eq v 92) (cond (nat_eq b 117) (of_low high (digits SecondUnit 4 0 7 x)) (Wrong 7)) (Wrong 6)) r
pair_return high (v ∷ w ∷ f) x r = ap (λ d. cond (nat_eq v 92) (cond (nat_eq w 117) (of_low high d) (Wrong 7)) (Wrong 6)) (digits_return SecondUnit 4 0 7 f x r)

unit_return : (f x : List ℕ) → IsReturn x → of_unit (digits FirstUnit 4 0 1 (f ++ x)) (drop 4 (f ++ x)) ≡ of_unit (digits FirstUnit 4 0 1 f) (drop 4 f)
unit_return f x r = ap (λ d. of_unit d (drop 4 (f ++ x))) (digits_return FirstUnit 4 0 1 f x r) ∙ by_digits (digits FirstUnit 4 0 1 f) refl where
  by_digits : (d : Digits) → digits FirstUnit 4 0 1 f ≡ d → of_unit d (drop 4 (f ++ x)) ≡ of_unit d (drop 4 f)
  by_digits (Number n) e = ap (λ o. cond (is_high n) o (Means 5 (encode_utf8 n))) (ap (of_pair n) (drop_before 4 f x (digits_long FirstUnit 4 0 1 n f e)) ∙ pair_return n (drop 4 f) x r)
  by_digits (Short j) e = refl

escape_return : (b : ℕ) (f x : List ℕ) → IsReturn x → escape (b ∷ (f ++ x)) ≡ escape (b ∷ f)
escape_return b f x r =
    let by = λ (two unit eight : Piece). cond (nat_eq b 13) (Returns 1) (cond (nat_eq b 120) two (cond (nat_eq b 117) unit (cond (nat_eq b 85) eight (of_letter (letter b))))) in
    ap (λ d. by (of_digits 3 d) (of_unit (digits FirstUnit 4 0 1 (f ++ x)) (drop 4 (f ++ x))) (of_digits 9 (digits Character 8 0 1 (f ++ x)))) (digits_return Character 2 0 1 f x r)
    ∙ ap (λ p. by (of_digits 3 (digits Character 2 0 1 f)) p (of_digits 9 (digits Character 8 0 1 (f ++ x)))) (unit_return f x r)
    ∙ ap (λ d. by (of_digits 3 (digits Character 2 0 1 f)) (of_unit (digits FirstUnit 4 0 1 f) (drop 4 f)) (of_digits 9 d)) (digits_return Character 8 0 1 f x r)

pub piece_return : (quote c b : ℕ) (f x : List ℕ) → IsReturn x → piece quote c (b ∷ (f ++ x)) ≡ piece quote c (b ∷ f)
piece_return quote c b f x r = ap (λ e. cond (nat_eq c 13) (Returns 0) (cond (nat_eq quote 34) (cond (nat_eq c 34) Closes (cond (nat_eq c 92) e Itself)) (single c (b ∷ f)))) (escape_return b f x r)

-- and so is one behind the backslash alone: the line ends there, or the byte shows its own fault
abbrev pub IsOpen : Piece → Type 0
IsOpen Itself = ⊥
IsOpen Closes = ⊥
IsOpen (Means taken t) = ⊥
IsOpen Joins = Unit {0}
IsOpen (Returns n) = Unit {0}
IsOpen (Wrong n) = ⊥

abbrev at_end : ℕ → ℕ → Piece → Piece
at_end quote c o = cond (nat_eq c 13) (Returns 0) (cond (nat_eq quote 34) (cond (nat_eq c 34) Closes (cond (nat_eq c 92) o Itself)) (cond (nat_eq c 39) Closes Itself))

end_piece : (quote c : ℕ) (x : List ℕ) → IsReturn x → (o : Piece) × IsOpen o × (piece quote c x ≡ at_end quote c o)
end_piece quote c [] r = (Joins, tt, refl)
end_piece quote c (b ∷ x) r =
    (Returns 1, tt, ap (λ b. cond (nat_eq c 13) (Returns 0) (cond (nat_eq quote 34) (cond (nat_eq c 34) Closes (cond (nat_eq c 92) (cond (nat_eq b 13) (Returns 1) (cond (nat_eq b 120) (of_digits 3 (digits Character 2 0 1 x)) (cond (nat_eq b 117) (of_unit (digits FirstUnit 4 0 1 x) (drop 4 x)) (cond (nat_eq b 85) (of_digits 9 (digits Character 8 0 1 x)) (of_letter (letter b)))))) Itself)) (cond (nat_eq c 39) (cond (nat_eq b 39) (Means 1 (39 ∷ [])) Closes) Itself))) r)

open_same : (p q d e g : Bool) (o u : Piece) → IsOpen u → IsOpen (cond p (Returns 0) (cond q (cond d Closes (cond e o Itself)) (cond g Closes Itself))) → IsOpen (cond p (Returns 0) (cond q (cond d Closes (cond e u Itself)) (cond g Closes Itself)))
open_same true q d e g o u w h = tt
open_same false true true e g o u w h = h
open_same false true false true g o u w h = w
open_same false true false false g o u w h = h
open_same false false d e true o u w h = h
open_same false false d e false o u w h = h

pub open_return : (quote c : ℕ) (x y : List ℕ) → IsReturn x → IsReturn y → IsOpen (piece quote c x) → IsOpen (piece quote c y)
open_return quote c x y r s h =
    let a = end_piece quote c x r in
    let b = end_piece quote c y s in
    subst (λ p. IsOpen p) (sym b.2) (open_same (nat_eq c 13) (nat_eq quote 34) (nat_eq c 34) (nat_eq c 92) (nat_eq c 39) a.0 b.0 b.1 (subst (λ p. IsOpen p) a.2 h))

no_wrong : (p q d e g : Bool) (o : Piece) (m : ℕ) → IsOpen o → cond p (Returns 0) (cond q (cond d Closes (cond e o Itself)) (cond g Closes Itself)) ≡ Wrong m → ⊥
no_wrong true q d e g o m w h = cc
no_wrong false true true e g o m w h = cc
no_wrong false true false true g o m w h = subst (λ p. IsOpen p) h w
no_wrong false true false false g o m w h = cc
no_wrong false false d e true o m w h = cc
no_wrong false false d e false o m w h = cc

pub wrong_return : (quote c : ℕ) (x : List ℕ) (m : ℕ) → IsReturn x → piece quote c x ≡ Wrong m → ⊥
wrong_return quote c x m r h = let a = end_piece quote c x r in no_wrong (nat_eq c 13) (nat_eq quote 34) (nat_eq c 34) (nat_eq c 92) (nat_eq c 39) a.0 m a.1 (sym a.2 ∙ h)

-- a carriage return is its own fault, and nothing else is one at once
pub return_piece : (quote c : ℕ) (xs : List ℕ) → c ≡ 13 → piece quote c xs ≡ Returns 0
return_piece quote c xs e = ap (λ c. cond (nat_eq c 13) (Returns 0) (cond (nat_eq quote 34) (cond (nat_eq c 34) Closes (cond (nat_eq c 92) (escape xs) Itself)) (cond (nat_eq c 39) (cond (begins_with 39 xs) (Means 1 (39 ∷ [])) Closes) Itself))) e

pub at_once : (quote c : ℕ) (xs : List ℕ) → piece quote c xs ≡ Returns 0 → c ≡ 13
at_once quote c xs h = by_tests (nat_eq c 13) (λ e. grind (arith, nat_tests)) (nat_eq quote 34) (nat_eq c 34) (nat_eq c 92) (nat_eq c 39) h where
  zero_far : (p : Piece) → IsFar 0 p → p ≡ Returns 0 → ⊥
  zero_far p f e = let l : 0 < 0 = subst (λ p. IsFar 0 p) e f in omega arith

  by_quotes : (q : Bool) → cond q (Means 1 (39 ∷ [])) Closes ≡ Returns 0 → ⊥
  by_quotes true e = cc
  by_quotes false e = cc

  by_tests : (p : Bool) → (p ≡ true → c ≡ 13) → (q d e g : Bool) → cond p (Returns 0) (cond q (cond d Closes (cond e (escape xs) Itself)) (cond g (cond (begins_with 39 xs) (Means 1 (39 ∷ [])) Closes) Itself)) ≡ Returns 0 → c ≡ 13
  by_tests true f q d e g h = f refl
  by_tests false f true true e g h = absurd (cc)
  by_tests false f true false true g h = absurd (zero_far (escape xs) (far_escape xs) h)
  by_tests false f true false false g h = absurd (cc)
  by_tests false f false d e true h = absurd (by_quotes (begins_with 39 xs) h)
  by_tests false f false d e false h = absurd (cc)
