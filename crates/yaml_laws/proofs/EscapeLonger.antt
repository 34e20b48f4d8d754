-- Where an escape is cut off by the text's end, other bytes complete it.
use Rattle.std.proofs.Common.{◌≡◌, ℕ, zero, suc, ◌+◌, ◌-◌, ◌*◌, ◌⊎◌, Bool, true, false, List, [], ◌∷◌, ◌++◌, length, drop, refl, sym, ap, inl, inr, ◌∙◌, arith, cond, append_assoc, length-append, Option, Some, None}
use Rattle.std.specs.Prelude.{nat_eq, nat_lt, not, ◌||◌, ◌&&◌, encode_utf8}
use Rattle.yaml_scalars.specs.declared.escape.Wanted.{Wanted}
use Rattle.yaml_scalars.specs.declared.escape.Wanted.TheVariants.{Character, FirstUnit, SecondUnit}
use Rattle.yaml_scalars.specs.Lines.{begins_with, is_white, each}
use Rattle.yaml_scalars.specs.Quoted.{Piece, Itself, Closes, Means, Joins, Returns, Wrong, Digits, Number, Short, is_hex, hex, is_high, is_low, is_character, least, may_go_on, digits, of_digits, of_low, of_pair, of_unit, letter, of_letter, escape, piece}
use Rattle.yaml_laws.proofs.Agree.{drop_before, drop_size}
use Rattle.yaml_scalars.proofs.EscapeLines.{digits_long}

-- a byte of ASCII that is no white space, no part of a break and no part of a mark, and ends no escape of a dot
abbrev pub is_fit : ℕ → Bool
is_fit b = nat_lt b 128 && not (nat_eq b 10 || nat_eq b 13 || is_white b || nat_eq b 45 || nat_eq b 46 || nat_eq b 69 || nat_eq b 101)

abbrev pub AllFit : List ℕ → Type 0
AllFit w = each is_fit w ≡ true

pub fit_append : (v w : List ℕ) → AllFit v → AllFit w → AllFit (v ++ w)
fit_append [] w h g = g
fit_append (b ∷ v) w h g = by_byte (is_fit b) h (λ i. fit_append v w i g) where
  by_byte : (q : Bool) → cond q (each is_fit v) false ≡ true → (AllFit v → AllFit (v ++ w)) → cond q (each is_fit (v ++ w)) false ≡ true
  by_byte true h r = r h
  by_byte false h r = absurd (cc)

-- digits that complete a number that may go on
abbrev fill_of : Wanted → ℕ
fill_of Character = 48
fill_of FirstUnit = 48
fill_of SecondUnit = 102

abbrev copies : ℕ → ℕ → List ℕ
copies zero b = []
copies (suc k) b = b ∷ copies k b

copies_length : (k b : ℕ) → length (copies k b) ≡ k
copies_length zero b = refl
copies_length (suc k) b = ap suc (copies_length k b)

copies_fit : (k b : ℕ) → is_fit b ≡ true → AllFit (copies k b)
copies_fit zero b h = refl
copies_fit (suc k) b h = ap (λ q. cond q (each is_fit (copies k b)) false) h ∙ copies_fit k b h

fill_fit : (w : Wanted) → is_fit (fill_of w) ≡ true
fill_fit Character = refl
fill_fit FirstUnit = refl
fill_fit SecondUnit = refl

fill_step : (w : Wanted) (k n : ℕ) → may_go_on w (suc k) n ≡ true → (is_hex (fill_of w) && may_go_on w k (n * 16 + hex (fill_of w))) ≡ true
fill_step Character k n h = let e : n * 16 + 0 ≡ n * 16 = omega arith in ap (λ m. is_character (least k m)) e ∙ h
fill_step FirstUnit k n h = let e : n * 16 + 0 ≡ n * 16 = omega arith in ap (λ m. not (is_low (least k m))) e ∙ h
fill_step SecondUnit k n h = h

second : (p q : Bool) → (p && q) ≡ true → q ≡ true
second true q h = h
second false q h = absurd (cc)

fills : (w : Wanted) (k n c : ℕ) (tail : List ℕ) → may_go_on w k n ≡ true → (m : ℕ) × (digits w k n c (copies k (fill_of w) ++ tail) ≡ Number m)
fills w zero n c tail h = (n, refl)
fills w (suc k) n c tail h =
    let s = fill_step w k n h in
    let next = n * 16 + hex (fill_of w) in
    let r = fills w k next (suc c) tail (second (is_hex (fill_of w)) (may_go_on w k next) s) in
    (r.0, ap (λ q. cond q (digits w k next (suc c) (copies k (fill_of w) ++ tail)) (Short c)) s ∙ r.1)

cut_fill : (w : Wanted) (k n c : ℕ) (f tail : List ℕ) → may_go_on w k n ≡ true → digits w k n c f ≡ Short (c + length f) → (j m : ℕ) × (digits w k n c (f ++ (copies j (fill_of w) ++ tail)) ≡ Number m) × (j + length f ≡ k)
cut_fill w zero n c f tail h e = absurd (cc)
cut_fill w (suc k) n c [] tail h e = let r = fills w (suc k) n c tail h in (suc k, r.0, r.1, omega arith)
cut_fill w (suc k) n c (b ∷ f) tail h e = by_digit (is_hex b && may_go_on w k (n * 16 + hex b)) (λ q. second (is_hex b) (may_go_on w k (n * 16 + hex b)) q) e (λ g i. cut_fill w k (n * 16 + hex b) (suc c) f tail g i) where
  next : ℕ
  next = n * 16 + hex b

  by_digit : (q : Bool) → (q ≡ true → may_go_on w k next ≡ true) → cond q (digits w k next (suc c) f) (Short c) ≡ Short (c + suc (length f))
      → (may_go_on w k next ≡ true → digits w k next (suc c) f ≡ Short (suc c + length f) → (j m : ℕ) × (digits w k next (suc c) (f ++ (copies j (fill_of w) ++ tail)) ≡ Number m) × (j + length f ≡ k))
      → (j m : ℕ) × (cond q (digits w k next (suc c) (f ++ (copies j (fill_of w) ++ tail))) (Short c) ≡ Number m) × (j + suc (length f) ≡ suc k)
  by_digit true g e r = let n : c + suc (length f) ≡ suc c + length f = omega arith in let s = r (g refl) (e ∙ ap Short n) in (s.0, s.1, s.2, (let z = s.3 in omega (arith, z)))
  by_digit false g e r = absurd (let z : c ≡ c + suc (length f) = cc in omega (arith, z))

digits_more : (w : Wanted) (k n c m : ℕ) (f y : List ℕ) → digits w k n c f ≡ Number m → digits w k n c (f ++ y) ≡ Number m
digits_more w zero n c m f y h = h
digits_more w (suc k) n c m [] y h = absurd (cc)
digits_more w (suc k) n c m (b ∷ f) y h = by_digit (is_hex b && may_go_on w k (n * 16 + hex b)) h (λ g. digits_more w k (n * 16 + hex b) (suc c) m f y g) where
  by_digit : (q : Bool) → cond q (digits w k (n * 16 + hex b) (suc c) f) (Short c) ≡ Number m → (digits w k (n * 16 + hex b) (suc c) f ≡ Number m → digits w k (n * 16 + hex b) (suc c) (f ++ y) ≡ Number m) → cond q (digits w k (n * 16 + hex b) (suc c) (f ++ y)) (Short c) ≡ Number m
  by_digit true h r = r h
  by_digit false h r = absurd (cc)

-- what two surrogates spell
abbrev low_text : ℕ → ℕ → List ℕ
low_text high n = encode_utf8 (65536 + (high - 55296) * 1024 + (n - 56320))

-- bytes that complete a piece behind its letter, before a closing quote
abbrev pub Fills : ℕ → List ℕ → (List ℕ → Piece) → Type 0
Fills front bs F = (w t : List ℕ) × AllFit w × (F (bs ++ (w ++ (34 ∷ []))) ≡ Means (front + length bs + length w) t)

number_fills : (k : ℕ) (bs : List ℕ) → may_go_on Character k 0 ≡ true → of_digits (suc k) (digits Character k 0 1 bs) ≡ Wrong (suc (suc (length bs))) → Fills 1 bs (λ xs. of_digits (suc k) (digits Character k 0 1 xs))
number_fills k bs may h = by_digits (digits Character k 0 1 bs) refl h where
  by_digits : (d : Digits) → digits Character k 0 1 bs ≡ d → of_digits (suc k) d ≡ Wrong (suc (suc (length bs))) → Fills 1 bs (λ xs. of_digits (suc k) (digits Character k 0 1 xs))
  by_digits (Number n) e h = absurd (cc)
  by_digits (Short j) e h =
      let n : suc j ≡ suc (suc (length bs)) = cc in
      let i : j ≡ 1 + length bs = omega (arith, n) in
      let r = cut_fill Character k 0 1 bs (34 ∷ []) may (e ∙ ap Short i) in
      let s = r.3 in
      let l = copies_length r.0 48 in
      let size : suc k ≡ 1 + length bs + length (copies r.0 48) = omega (arith, s, l) in
      (copies r.0 48, encode_utf8 r.1, copies_fit r.0 48 refl, ap (of_digits (suc k)) r.2 ∙ ap (λ m. Means m (encode_utf8 r.1)) size)

-- the second of two surrogates
low_fills : (high : ℕ) (xs : List ℕ) → of_low high (digits SecondUnit 4 0 7 xs) ≡ Wrong (8 + length xs) → Fills 7 xs (λ ys. of_low high (digits SecondUnit 4 0 7 ys))
low_fills high [] h = (100 ∷ 102 ∷ 102 ∷ 102 ∷ [], _, refl, refl)
low_fills high (b ∷ xs) h = by_digit (is_hex b && may_go_on SecondUnit 3 (0 * 16 + hex b)) (λ q. second (is_hex b) (may_go_on SecondUnit 3 (0 * 16 + hex b)) q) h where
  next : ℕ
  next = 0 * 16 + hex b

  by_digits : (d : Digits) → digits SecondUnit 3 next 8 xs ≡ d → may_go_on SecondUnit 3 next ≡ true → of_low high d ≡ Wrong (8 + suc (length xs)) → Fills 7 (b ∷ xs) (λ ys. of_low high (digits SecondUnit 3 next 8 (drop 1 ys)))
  by_digits (Number n) e may h = absurd (cc)
  by_digits (Short j) e may h =
      let n : suc j ≡ 8 + suc (length xs) = cc in
      let i : j ≡ 8 + length xs = omega (arith, n) in
      let r = cut_fill SecondUnit 3 next 8 xs (34 ∷ []) may (e ∙ ap Short i) in
      let s = r.3 in
      let l = copies_length r.0 102 in
      let size : 11 ≡ 7 + suc (length xs) + length (copies r.0 102) = omega (arith, s, l) in
      (copies r.0 102, _, copies_fit r.0 102 refl, ap (of_low high) r.2 ∙ ap (λ m. Means m (low_text high r.1)) size)

  by_digit : (q : Bool) → (q ≡ true → may_go_on SecondUnit 3 next ≡ true) → of_low high (cond q (digits SecondUnit 3 next 8 xs) (Short 7)) ≡ Wrong (8 + suc (length xs)) → Fills 7 (b ∷ xs) (λ ys. of_low high (cond q (digits SecondUnit 3 next 8 (drop 1 ys)) (Short 7)))
  by_digit true g h = by_digits (digits SecondUnit 3 next 8 xs) refl (g refl) h
  by_digit false g h = absurd (let n : 8 ≡ 8 + suc (length xs) = cc in omega (arith, n))

pair_fills : (high : ℕ) (v : List ℕ) → of_pair high v ≡ Wrong (6 + length v) → Fills 5 v (of_pair high)
pair_fills high [] h = (92 ∷ 117 ∷ 100 ∷ 102 ∷ 102 ∷ 102 ∷ [], _, refl, refl)
pair_fills high (x ∷ []) h = by_slash (nat_eq x 92) refl h where
  by_slash : (q : Bool) → nat_eq x 92 ≡ q → cond q (Wrong 7) (Wrong 6) ≡ Wrong 7 → Fills 5 (x ∷ []) (of_pair high)
  by_slash true e h = (117 ∷ 100 ∷ 102 ∷ 102 ∷ 102 ∷ [], low_text high 57343, refl, ap (λ q. cond q (Means 11 (low_text high 57343)) (Wrong 6)) e)
  by_slash false e h = absurd (cc)
pair_fills high (x ∷ y ∷ xs) h = by_bytes (nat_eq x 92) (nat_eq y 117) h where
  by_bytes : (p q : Bool) → cond p (cond q (of_low high (digits SecondUnit 4 0 7 xs)) (Wrong 7)) (Wrong 6) ≡ Wrong (6 + suc (suc (length xs)))
      → Fills 5 (x ∷ y ∷ xs) (λ ys. cond p (cond q (of_low high (digits SecondUnit 4 0 7 (drop 2 ys))) (Wrong 7)) (Wrong 6))
  by_bytes true true h =
      let n : 6 + suc (suc (length xs)) ≡ 8 + length xs = omega arith in
      let r = low_fills high xs (h ∙ ap Wrong n) in
      let m : 7 + length xs + length r.0 ≡ 5 + suc (suc (length xs)) + length r.0 = omega arith in
      (r.0, r.1, r.2, r.3 ∙ ap (λ k. Means k r.1) m)
  by_bytes true false h = absurd (let n : 7 ≡ 6 + suc (suc (length xs)) = cc in omega (arith, n))
  by_bytes false q h = absurd (let n : 6 ≡ 6 + suc (suc (length xs)) = cc in omega (arith, n))

abbrev units : List ℕ → Piece
units xs = of_unit (digits FirstUnit 4 0 1 xs) (drop 4 xs)

unit_fills : (bs : List ℕ) → of_unit (digits FirstUnit 4 0 1 bs) (drop 4 bs) ≡ Wrong (suc (suc (length bs))) → Fills 1 bs (λ xs. of_unit (digits FirstUnit 4 0 1 xs) (drop 4 xs))
unit_fills bs h = by_digits (digits FirstUnit 4 0 1 bs) refl h where
  -- a number of four digits, and more
  number : (m : ℕ) (a y : List ℕ) → digits FirstUnit 4 0 1 a ≡ Number m → units (a ++ y) ≡ cond (is_high m) (of_pair m (drop 4 a ++ y)) (Means 5 (encode_utf8 m))
  number m a y e = ap (λ d. of_unit d (drop 4 (a ++ y))) (digits_more FirstUnit 4 0 1 m a y e) ∙ ap (λ v. cond (is_high m) (of_pair m v) (Means 5 (encode_utf8 m))) (drop_before 4 a y (digits_long FirstUnit 4 0 1 m a e))

  four : (m : ℕ) (w : List ℕ) → AllFit w → digits FirstUnit 4 0 1 (bs ++ w) ≡ Number m → length bs + length w ≡ 4 → (q : Bool) → is_high m ≡ q → Fills 1 bs units
  four m w fit e size true q =
      let pair : List ℕ = 92 ∷ 117 ∷ 100 ∷ 102 ∷ 102 ∷ 102 ∷ [] in
      let whole : bs ++ ((w ++ pair) ++ (34 ∷ [])) ≡ (bs ++ w) ++ (pair ++ (34 ∷ [])) = ap (λ t. bs ++ t) (append_assoc w pair (34 ∷ [])) ∙ sym (append_assoc bs w (pair ++ (34 ∷ []))) in
      let none : drop 4 (bs ++ w) ≡ [] = all_dropped (bs ++ w) (omega (arith, size, length-append bs w)) in
      let l = length-append w pair in
      let taken : 11 ≡ 1 + length bs + length (w ++ pair) = omega (arith, size, l) in
      (w ++ pair, low_text m 57343, fit_append w pair fit refl, ap units whole ∙ number m (bs ++ w) (pair ++ (34 ∷ [])) e ∙ ap (λ r. cond r (of_pair m (drop 4 (bs ++ w) ++ (pair ++ (34 ∷ [])))) (Means 5 (encode_utf8 m))) q ∙ ap (λ v. of_pair m (v ++ (pair ++ (34 ∷ [])))) none ∙ ap (λ k. Means k (low_text m 57343)) taken) where
        all_dropped : (a : List ℕ) → length a ≡ 4 → drop 4 a ≡ []
        all_dropped [] l = refl
        all_dropped (a ∷ []) l = refl
        all_dropped (a ∷ b ∷ []) l = refl
        all_dropped (a ∷ b ∷ c ∷ []) l = refl
        all_dropped (a ∷ b ∷ c ∷ d ∷ []) l = refl
        all_dropped (a ∷ b ∷ c ∷ d ∷ f ∷ r) l = absurd (omega (arith, l))
  four m w fit e size false q =
      let taken : 5 ≡ 1 + length bs + length w = omega (arith, size) in
      (w, encode_utf8 m, fit, ap units (sym (append_assoc bs w (34 ∷ []))) ∙ number m (bs ++ w) (34 ∷ []) e ∙ ap (λ r. cond r (of_pair m (drop 4 (bs ++ w) ++ (34 ∷ []))) (Means 5 (encode_utf8 m))) q ∙ ap (λ k. Means k (encode_utf8 m)) taken)

  by_high : (m : ℕ) → digits FirstUnit 4 0 1 bs ≡ Number m → (q : Bool) → is_high m ≡ q → cond q (of_pair m (drop 4 bs)) (Means 5 (encode_utf8 m)) ≡ Wrong (suc (suc (length bs))) → Fills 1 bs units
  by_high m e true q h =
      let long = drop_size 4 bs (digits_long FirstUnit 4 0 1 m bs e) in
      let n : suc (suc (length bs)) ≡ 6 + length (drop 4 bs) = omega (arith, long) in
      let r = pair_fills m (drop 4 bs) (h ∙ ap Wrong n) in
      let taken : 5 + length (drop 4 bs) + length r.0 ≡ 1 + length bs + length r.0 = omega (arith, long) in
      (r.0, r.1, r.2, number m bs (r.0 ++ (34 ∷ [])) e ∙ ap (λ p. cond p (of_pair m (drop 4 bs ++ (r.0 ++ (34 ∷ [])))) (Means 5 (encode_utf8 m))) q ∙ r.3 ∙ ap (λ k. Means k r.1) taken)
  by_high m e false q h = absurd (cc)

  by_digits : (d : Digits) → digits FirstUnit 4 0 1 bs ≡ d → of_unit d (drop 4 bs) ≡ Wrong (suc (suc (length bs))) → Fills 1 bs units
  by_digits (Number m) e h = by_high m e (is_high m) refl h
  by_digits (Short j) e h =
      let n : suc j ≡ suc (suc (length bs)) = cc in
      let i : j ≡ 1 + length bs = omega (arith, n) in
      let r = cut_fill FirstUnit 4 0 1 bs [] refl (e ∙ ap Short i) in
      let s = r.3 in
      let l = copies_length r.0 48 in
      let k = length-append (copies r.0 48) [] in
      four r.1 (copies r.0 48 ++ []) (fit_append (copies r.0 48) [] (copies_fit r.0 48 refl) refl) r.2 (omega (arith, s, l, k)) (is_high r.1) refl

escape_fills : (g : List ℕ) → escape g ≡ Wrong (suc (length g)) → Fills 0 g escape
escape_fills [] h = absurd (cc)
escape_fills (b ∷ bs) h =
    let r = by_tests (nat_eq b 13) (nat_eq b 120) (nat_eq b 117) (nat_eq b 85) (letter b) h in
    let n : 1 + length bs + length r.0 ≡ 0 + suc (length bs) + length r.0 = omega arith in
    (r.0, r.1, r.2, r.3 ∙ ap (λ k. Means k r.1) n) where
      by_letter : (o : Option ℕ) → of_letter o ≡ Wrong (suc (suc (length bs))) → ⊥
      by_letter (Some n) h = cc
      by_letter None h = let n : 1 ≡ suc (suc (length bs)) = cc in omega (arith, n)

      by_tests : (p q r s : Bool) (o : Option ℕ) → cond p (Returns 1) (cond q (of_digits 3 (digits Character 2 0 1 bs)) (cond r (of_unit (digits FirstUnit 4 0 1 bs) (drop 4 bs)) (cond s (of_digits 9 (digits Character 8 0 1 bs)) (of_letter o)))) ≡ Wrong (suc (suc (length bs)))
          → Fills 1 bs (λ xs. cond p (Returns 1) (cond q (of_digits 3 (digits Character 2 0 1 xs)) (cond r (of_unit (digits FirstUnit 4 0 1 xs) (drop 4 xs)) (cond s (of_digits 9 (digits Character 8 0 1 xs)) (of_letter o)))))
      by_tests true q r s o h = absurd (cc)
      by_tests false true r s o h = number_fills 2 bs refl h
      by_tests false false true s o h = unit_fills bs h
      by_tests false false false true o h = number_fills 8 bs refl h
      by_tests false false false false o h = absurd (by_letter o h)

pub piece_fills : (quote b : ℕ) (g : List ℕ) → piece quote b g ≡ Wrong (suc (length g)) → (nat_eq quote 34 ≡ true) × Fills 0 g (piece quote b)
piece_fills quote b g h = by_tests (nat_eq b 13) (nat_eq quote 34) (nat_eq b 34) (nat_eq b 92) (nat_eq b 39) (begins_with 39 g) h where
  by_tests : (p q d e f s : Bool) → cond p (Returns 0) (cond q (cond d Closes (cond e (escape g) Itself)) (cond f (cond s (Means 1 (39 ∷ [])) Closes) Itself)) ≡ Wrong (suc (length g))
      → (q ≡ true) × Fills 0 g (λ xs. cond p (Returns 0) (cond q (cond d Closes (cond e (escape xs) Itself)) (cond f (cond (begins_with 39 xs) (Means 1 (39 ∷ [])) Closes) Itself)))
  by_tests true q d e f s h = absurd (cc)
  by_tests false true true e f s h = absurd (cc)
  by_tests false true false true f s h = (refl, escape_fills g h)
  by_tests false true false false f s h = absurd (cc)
  by_tests false false d e true true h = absurd (cc)
  by_tests false false d e true false h = absurd (cc)
  by_tests false false d e false s h = absurd (cc)

-- where a line goes on behind its end, and where a carriage return stands
abbrev pub Shape : ℕ → ℕ → List ℕ → Piece → Type 0
Shape quote b g Joins = (g ≡ []) × (nat_eq b 92 ≡ true) × (nat_eq quote 34 ≡ true)
Shape quote b g (Returns n) = ((n ≡ 0) × (nat_eq b 13 ≡ true)) ⊎ ((n ≡ 1) × (begins_with 13 g ≡ true))
Shape quote b g Itself = Unit {0}
Shape quote b g Closes = Unit {0}
Shape quote b g (Means n t) = Unit {0}
Shape quote b g (Wrong n) = Unit {0}

-- means another text, or is no part of a scalar
abbrev IsFirm : Piece → Type 0
IsFirm (Means n t) = Unit {0}
IsFirm (Wrong n) = Unit {0}
IsFirm Itself = ⊥
IsFirm Closes = ⊥
IsFirm Joins = ⊥
IsFirm (Returns n) = ⊥

firm_cond : (q : Bool) (p r : Piece) → IsFirm p → IsFirm r → IsFirm (cond q p r)
firm_cond true p r h g = h
firm_cond false p r h g = g

firm_digits : (k : ℕ) (d : Digits) → IsFirm (of_digits k d)
firm_digits k (Number n) = tt
firm_digits k (Short j) = tt

firm_low : (high : ℕ) (d : Digits) → IsFirm (of_low high d)
firm_low high (Number n) = tt
firm_low high (Short j) = tt

firm_pair : (high : ℕ) (v : List ℕ) → IsFirm (of_pair high v)
firm_pair high [] = tt
firm_pair high (x ∷ []) = firm_cond (nat_eq x 92) (Wrong 7) (Wrong 6) tt tt
firm_pair high (x ∷ y ∷ xs) = firm_cond (nat_eq x 92) (cond (nat_eq y 117) (of_low high (digits SecondUnit 4 0 7 xs)) (Wrong 7)) (Wrong 6) (firm_cond (nat_eq y 117) (of_low high (digits SecondUnit 4 0 7 xs)) (Wrong 7) (firm_low high (digits SecondUnit 4 0 7 xs)) tt) tt

firm_unit : (d : Digits) (v : List ℕ) → IsFirm (of_unit d v)
firm_unit (Number n) v = firm_cond (is_high n) (of_pair n v) (Means 5 (encode_utf8 n)) (firm_pair n v) tt
firm_unit (Short j) v = tt

firm_letter : (o : Option ℕ) → IsFirm (of_letter o)
firm_letter (Some n) = tt
firm_letter None = tt

firm_shape : (quote b : ℕ) (g : List ℕ) (p : Piece) → IsFirm p → Shape quote b g p
firm_shape quote b g Itself h = tt
firm_shape quote b g Closes h = tt
firm_shape quote b g (Means n t) h = tt
firm_shape quote b g Joins h = absurd h
firm_shape quote b g (Returns n) h = absurd h
firm_shape quote b g (Wrong n) h = tt

escape_shape : (quote b : ℕ) (g : List ℕ) → nat_eq b 92 ≡ true → nat_eq quote 34 ≡ true → Shape quote b g (escape g)
escape_shape quote b [] s q = (refl, s, q)
escape_shape quote b (c ∷ g) s q = by_return (nat_eq c 13) refl where
  two : Piece
  two = of_digits 3 (digits Character 2 0 1 g)

  unit : Piece
  unit = of_unit (digits FirstUnit 4 0 1 g) (drop 4 g)

  eight : Piece
  eight = of_digits 9 (digits Character 8 0 1 g)

  others : Piece
  others = cond (nat_eq c 120) two (cond (nat_eq c 117) unit (cond (nat_eq c 85) eight (of_letter (letter c))))

  by_return : (p : Bool) → nat_eq c 13 ≡ p → Shape quote b (c ∷ g) (cond p (Returns 1) others)
  by_return true e = inr (refl, e)
  by_return false e =
      firm_shape quote b (c ∷ g) others (firm_cond (nat_eq c 120) two (cond (nat_eq c 117) unit (cond (nat_eq c 85) eight (of_letter (letter c)))) (firm_digits 3 (digits Character 2 0 1 g))
      (firm_cond (nat_eq c 117) unit (cond (nat_eq c 85) eight (of_letter (letter c))) (firm_unit (digits FirstUnit 4 0 1 g) (drop 4 g)) (firm_cond (nat_eq c 85) eight (of_letter (letter c)) (firm_digits 9 (digits Character 8 0 1 g)) (firm_letter (letter c)))))

pub piece_shape : (quote b : ℕ) (g : List ℕ) → Shape quote b g (piece quote b g)
piece_shape quote b g = by_tests (nat_eq b 13) (nat_eq quote 34) (nat_eq b 34) (nat_eq b 92) (nat_eq b 39) (begins_with 39 g) refl refl refl where
  by_tests : (p q d e f s : Bool) → nat_eq b 13 ≡ p → nat_eq quote 34 ≡ q → nat_eq b 92 ≡ e → Shape quote b g (cond p (Returns 0) (cond q (cond d Closes (cond e (escape g) Itself)) (cond f (cond s (Means 1 (39 ∷ [])) Closes) Itself)))
  by_tests true q d e f s x y z = inl (refl, x)
  by_tests false true true e f s x y z = tt
  by_tests false true false true f s x y z = escape_shape quote b g z y
  by_tests false true false false f s x y z = tt
  by_tests false false d e true true x y z = tt
  by_tests false false d e true false x y z = tt
  by_tests false false d e false s x y z = tt
