-- Where what a piece of a quoted scalar stands for has no dot, none stands among its bytes.
use Rattle.std.proofs.Common.{◌≡◌, ℕ, zero, suc, ◌+◌, ◌*◌, Bool, true, false, ◌||◌, ◌&&◌, not, cond, nat_eq, nat_lt, arith, List, [], ◌∷◌, Option, Some, None, drop, refl, sym, ap, ◌∙◌, subst, true≢false}
use Rattle.std.specs.Char.{encode_utf8}
use Rattle.std.proofs.lemmas.Bool.Decides.{nat_tests}
use Rattle.yaml_scalars.specs.declared.escape.Wanted.{Wanted}
use Rattle.yaml_scalars.specs.declared.escape.Wanted.TheVariants.{Character, FirstUnit, SecondUnit}
use Rattle.yaml_scalars.specs.Lines.{each, begins_with}
use Rattle.yaml_scalars.specs.Quoted.{Piece, Itself, Closes, Means, Joins, Returns, Wrong, Digits, Number, Short, hex, is_high, may_go_on, digits, of_digits, of_low, of_pair, of_unit, letter, of_letter, escape, piece}
use Rattle.yaml_laws.specs.code.Dots.{is_dotless, begins_digits, spells_dot, undotted}
use Rattle.yaml_laws.proofs.DotEscapes.{IsFree, past_digits, step}
use Rattle.yaml_laws.proofs.DotFilled.{left, right, both}
use Rattle.yaml_laws.proofs.EscapeLonger.{is_fit}
use Rattle.yaml_laws.proofs.EscapeWanted.{is_wanted}

encoded_dot : each is_dotless (encode_utf8 46) ≡ false
unfolding encode_utf8
encoded_dot = refl

same_byte : (b c : ℕ) → nat_eq b c ≡ true → b ≡ c
same_byte b c h = grind (arith, nat_tests, h)

zeros : ℕ → List ℕ
zeros zero = 50 ∷ []
zeros (suc k) = 48 ∷ zeros k

last_hex : (b : ℕ) → (nat_eq b 101 || nat_eq b 69) ≡ true → hex b ≡ 14
last_hex b h = grind (arith, nat_tests, h)

-- the digits of a dot spell one
spelt_dot : (w : Wanted) (k c m : ℕ) (xs : List ℕ) → digits w (suc (suc k)) 0 c xs ≡ Number m → begins_digits (zeros k) xs ≡ true → m ≡ 46
unfolding zeros
spelt_dot w zero c m xs h g =
    let r = step w 1 0 c m xs h in
    let s = step w 0 (0 * 16 + hex r.0) (suc c) m r.1 r.4 in
    let whole : (nat_eq r.0 50 && (nat_eq s.0 101 || nat_eq s.0 69)) ≡ true = sym (ap (begins_digits (50 ∷ [])) (r.2 ∙ ap (λ t. r.0 ∷ t) s.2)) ∙ g in
    let two : hex r.0 ≡ 2 = ap hex (same_byte r.0 50 (left (nat_eq r.0 50) (nat_eq s.0 101 || nat_eq s.0 69) whole)) in
    let last = last_hex s.0 (right (nat_eq r.0 50) (nat_eq s.0 101 || nat_eq s.0 69) whole) in
    let sum : (0 * 16 + hex r.0) * 16 + hex s.0 ≡ m = number s.4 in
    omega (arith, sum, two, last) where
      number : {n : ℕ} → Number n ≡ Number m → n ≡ m
      number h = cc
spelt_dot w (suc k) c m xs h g =
    let r = step w (suc (suc k)) 0 c m xs h in
    let whole : (nat_eq r.0 48 && begins_digits (zeros k) r.1) ≡ true = sym (ap (begins_digits (48 ∷ zeros k)) r.2) ∙ g in
    let none : hex r.0 ≡ 0 = ap hex (same_byte r.0 48 (left (nat_eq r.0 48) (begins_digits (zeros k) r.1) whole)) in
    spelt_dot w k (suc c) m r.1 (ap (λ n. digits w (suc (suc k)) n (suc c) r.1) (zero_is (hex r.0) none) ∙ r.4) (right (nat_eq r.0 48) (begins_digits (zeros k) r.1) whole) where
      zero_is : (n : ℕ) → n ≡ 0 → 0 ≡ 0 * 16 + n
      zero_is n e = omega (arith, e)

-- ---- escapes

-- the bytes behind a backslash have no dot, if what they mean and those behind them have none
abbrev Spells : List ℕ → Piece → Type 0
Spells bs (Means n t) = IsFree t → undotted true false (drop n bs) ≡ true → (not (spells_dot bs) && undotted true true bs) ≡ true
Spells bs Itself = Unit {0}
Spells bs Closes = Unit {0}
Spells bs Joins = Unit {0}
Spells bs (Returns n) = Unit {0}
Spells bs (Wrong n) = Unit {0}

no_dot : (q : Bool) → (q ≡ true → ⊥) → q ≡ false
no_dot true h = absurd (h refl)
no_dot false h = refl

apart : (b c d : ℕ) → (c ≡ d → ⊥) → nat_eq b c ≡ true → nat_eq b d ≡ true → ⊥
apart b c d n e f = n (sym (same_byte b c e) ∙ same_byte b d f)

unspelt : (b : ℕ) (bs : List ℕ) → (nat_eq b 120 ≡ true → begins_digits (50 ∷ []) bs ≡ true → ⊥) → (nat_eq b 117 ≡ true → begins_digits (48 ∷ 48 ∷ 50 ∷ []) bs ≡ true → ⊥) → (nat_eq b 85 ≡ true → begins_digits (48 ∷ 48 ∷ 48 ∷ 48 ∷ 48 ∷ 48 ∷ 50 ∷ []) bs ≡ true → ⊥)
    → not (spells_dot (b ∷ bs)) ≡ true
unspelt b bs f g h = by_tests (nat_eq b 120) (begins_digits (50 ∷ []) bs) (nat_eq b 117) (begins_digits (48 ∷ 48 ∷ 50 ∷ []) bs) (nat_eq b 85) (begins_digits (48 ∷ 48 ∷ 48 ∷ 48 ∷ 48 ∷ 48 ∷ 50 ∷ []) bs) f g h where
  by_tests : (p x q y r z : Bool) → (p ≡ true → x ≡ true → ⊥) → (q ≡ true → y ≡ true → ⊥) → (r ≡ true → z ≡ true → ⊥) → not ((p && x) || (q && y) || (r && z)) ≡ true
  by_tests p x q y r z f g h = ap (λ a. not (a || (q && y) || (r && z))) (no_dot (p && x) (λ e. f (left p x e) (right p x e))) ∙ ap (λ a. not (a || (r && z))) (no_dot (q && y) (λ e. g (left q y e) (right q y e))) ∙ ap not (no_dot (r && z) (λ e. h (left r z e) (right r z e)))

differ : (m n : ℕ) → nat_lt m n ≡ true → m ≡ n → ⊥
differ m n l e = grind (arith, nat_tests, l, e)

-- a number that is no dot
dot_not : (m : ℕ) → IsFree (encode_utf8 m) → m ≡ 46 → ⊥
dot_not m f e = true≢false (sym (subst (λ n. IsFree (encode_utf8 n)) e f) ∙ encoded_dot)

pair_spells : (high b m : ℕ) (cs : List ℕ) → digits FirstUnit 4 0 1 cs ≡ Number m → not (spells_dot (b ∷ cs)) ≡ true → Spells (b ∷ cs) (of_pair high (drop 4 cs))
unfolding zeros
pair_spells high b m cs d un =
    let ra = step FirstUnit 3 0 1 m cs d in
    let rb = step FirstUnit 2 (0 * 16 + hex ra.0) 2 m ra.1 ra.4 in
    let rc = step FirstUnit 1 ((0 * 16 + hex ra.0) * 16 + hex rb.0) 3 m rb.1 rb.4 in
    let rd = step FirstUnit 0 (((0 * 16 + hex ra.0) * 16 + hex rb.0) * 16 + hex rc.0) 4 m rc.1 rc.4 in
    let whole : cs ≡ ra.0 ∷ rb.0 ∷ rc.0 ∷ rd.0 ∷ rd.1 = ra.2 ∙ ap (λ t. ra.0 ∷ t) (rb.2 ∙ ap (λ t. rb.0 ∷ t) (rc.2 ∙ ap (λ t. rc.0 ∷ t) rd.2)) in
    by_bytes ra.0 rb.0 rc.0 rd.0 rd.1 whole where
      by_bytes : (p q r s : ℕ) (vs : List ℕ) → cs ≡ p ∷ q ∷ r ∷ s ∷ vs → Spells (b ∷ cs) (of_pair high (drop 4 cs))
      by_bytes p q r s vs w = subst (λ t. Spells (b ∷ cs) (of_pair high (drop 4 t))) (sym w) (by_rest vs (past_digits true FirstUnit 4 0 1 m cs d) (ap (λ t. drop 4 t) w) (ap (λ t. drop 10 t) w)) where
        by_rest : (vs : List ℕ) → undotted true false (drop 4 cs) ≡ undotted true false cs → drop 4 cs ≡ vs → drop 10 cs ≡ drop 6 vs → Spells (b ∷ cs) (of_pair high vs)
        by_rest [] same four ten = tt
        by_rest (x ∷ []) same four ten = by_slash (nat_eq x 92) where
          by_slash : (z : Bool) → Spells (b ∷ cs) (cond z (Wrong 7) (Wrong 6))
          by_slash true = tt
          by_slash false = tt
        by_rest (x ∷ y ∷ xs) same four ten = by_tests (nat_eq x 92) (nat_eq y 117) refl refl where
          by_low : nat_eq x 92 ≡ true → nat_eq y 117 ≡ true → (g : Digits) → digits SecondUnit 4 0 7 xs ≡ g → Spells (b ∷ cs) (of_low high g)
          by_low e f (Short j) i = tt
          by_low e f (Number n) i = λ free past.
              let low : may_go_on SecondUnit 0 n ≡ true = (is_wanted SecondUnit 4 0 7 n xs (omega arith) i).1 in
              let un2 : not (spells_dot (y ∷ xs)) ≡ true =
              unspelt y xs (λ z. absurd (apart y 117 120 (differ 117 120 refl) f z)) (λ z w. true≢false (sym low ∙ ap (λ k. may_go_on SecondUnit 0 k) (dot46 w))) (λ z. absurd (apart y 85 117 (differ 85 117 refl) z f)) in
              let tail : undotted true false xs ≡ true = sym (past_digits true SecondUnit 4 0 7 n xs i) ∙ ap (undotted true false) (sym ten) ∙ past in
              let pair : undotted true false (92 ∷ y ∷ xs) ≡ true = both (not (spells_dot (y ∷ xs))) (undotted true false xs) un2 tail in
              let here : undotted true false cs ≡ true = sym same ∙ ap (undotted true false) (four ∙ ap (λ k. k ∷ y ∷ xs) (same_byte x 92 e)) ∙ pair in
              both (not (spells_dot (b ∷ cs))) (undotted true false cs) un here where
                dot46 : begins_digits (48 ∷ 48 ∷ 50 ∷ []) xs ≡ true → n ≡ 46
                dot46 w = spelt_dot SecondUnit 2 7 n xs i w

          by_tests : (z w : Bool) → nat_eq x 92 ≡ z → nat_eq y 117 ≡ w → Spells (b ∷ cs) (cond z (cond w (of_low high (digits SecondUnit 4 0 7 xs)) (Wrong 7)) (Wrong 6))
          by_tests true true e f = by_low e f (digits SecondUnit 4 0 7 xs) refl
          by_tests true false e f = tt
          by_tests false w e f = tt

escape_spells : (bs : List ℕ) → Spells bs (escape bs)
unfolding zeros
escape_spells [] = tt
escape_spells (b ∷ bs) = by_tests (nat_eq b 13) (nat_eq b 120) (nat_eq b 117) (nat_eq b 85) (letter b) refl refl refl where
  two : nat_eq b 120 ≡ true → (d : Digits) → digits Character 2 0 1 bs ≡ d → Spells (b ∷ bs) (of_digits 3 d)
  two e (Short j) i = tt
  two e (Number m) i = λ free past.
      both (not (spells_dot (b ∷ bs))) (undotted true false bs)
      (unspelt b bs (λ z w. dot_not m free (spelt_dot Character 0 1 m bs i w)) (λ z. absurd (apart b 117 120 (differ 117 120 refl) z e)) (λ z. absurd (apart b 85 120 (differ 85 120 refl) z e)))
      (sym (past_digits true Character 2 0 1 m bs i) ∙ past)

  eight : nat_eq b 85 ≡ true → (d : Digits) → digits Character 8 0 1 bs ≡ d → Spells (b ∷ bs) (of_digits 9 d)
  eight e (Short j) i = tt
  eight e (Number m) i = λ free past.
      both (not (spells_dot (b ∷ bs))) (undotted true false bs)
      (unspelt b bs (λ z. absurd (apart b 85 120 (differ 85 120 refl) e z)) (λ z. absurd (apart b 85 117 (differ 85 117 refl) e z)) (λ z w. dot_not m free (spelt_dot Character 6 1 m bs i w)))
      (sym (past_digits true Character 8 0 1 m bs i) ∙ past)

  four : nat_eq b 117 ≡ true → (d : Digits) → digits FirstUnit 4 0 1 bs ≡ d → Spells (b ∷ bs) (of_unit d (drop 4 bs))
  four e (Short j) i = tt
  four e (Number m) i = by_high (is_high m) refl where
    others : (begins_digits (48 ∷ 48 ∷ 50 ∷ []) bs ≡ true → ⊥) → not (spells_dot (b ∷ bs)) ≡ true
    others n = unspelt b bs (λ z. absurd (apart b 117 120 (differ 117 120 refl) e z)) (λ z w. n w) (λ z. absurd (apart b 85 117 (differ 85 117 refl) z e))

    by_high : (q : Bool) → is_high m ≡ q → Spells (b ∷ bs) (cond q (of_pair m (drop 4 bs)) (Means 5 (encode_utf8 m)))
    by_high true h = pair_spells m b m bs i (others (λ w. true≢false (sym h ∙ ap is_high (spelt_dot FirstUnit 2 1 m bs i w))))
    by_high false h = λ free past. both (not (spells_dot (b ∷ bs))) (undotted true false bs) (others (λ w. dot_not m free (spelt_dot FirstUnit 2 1 m bs i w))) (sym (past_digits true FirstUnit 4 0 1 m bs i) ∙ past)

  one : nat_eq b 120 ≡ false → nat_eq b 117 ≡ false → nat_eq b 85 ≡ false → (o : Option ℕ) → Spells (b ∷ bs) (of_letter o)
  one e f g None = tt
  one e f g (Some n) = λ free past. both (not (spells_dot (b ∷ bs))) (undotted true false bs) (unspelt b bs (λ z. absurd (true≢false (sym z ∙ e))) (λ z. absurd (true≢false (sym z ∙ f))) (λ z. absurd (true≢false (sym z ∙ g)))) past

  by_tests : (p q r s : Bool) (o : Option ℕ) → nat_eq b 120 ≡ q → nat_eq b 117 ≡ r → nat_eq b 85 ≡ s
      → Spells (b ∷ bs) (cond p (Returns 1) (cond q (of_digits 3 (digits Character 2 0 1 bs)) (cond r (of_unit (digits FirstUnit 4 0 1 bs) (drop 4 bs)) (cond s (of_digits 9 (digits Character 8 0 1 bs)) (of_letter o)))))
  by_tests true q r s o e f g = tt
  by_tests false true r s o e f g = two e (digits Character 2 0 1 bs) refl
  by_tests false false true s o e f g = four f (digits FirstUnit 4 0 1 bs) refl
  by_tests false false false true o e f g = eight g (digits Character 8 0 1 bs) refl
  by_tests false false false false o e f g = one e f g o

-- none stands for itself, and none closes
abbrev Firm : Piece → Type 0
Firm Itself = ⊥
Firm Closes = ⊥
Firm (Means n t) = Unit {0}
Firm Joins = Unit {0}
Firm (Returns n) = Unit {0}
Firm (Wrong n) = Unit {0}

firm_cond : (q : Bool) (p r : Piece) → Firm p → Firm r → Firm (cond q p r)
firm_cond true p r h g = h
firm_cond false p r h g = g

escape_firm : (bs : List ℕ) → Firm (escape bs)
escape_firm [] = tt
escape_firm (b ∷ bs) =
    firm_cond (nat_eq b 13) (Returns 1) (cond (nat_eq b 120) (of_digits 3 (digits Character 2 0 1 bs)) others) tt (firm_cond (nat_eq b 120) (of_digits 3 (digits Character 2 0 1 bs)) others (numbers 3 (digits Character 2 0 1 bs))
    (firm_cond (nat_eq b 117) (of_unit (digits FirstUnit 4 0 1 bs) (drop 4 bs)) last (unit (digits FirstUnit 4 0 1 bs) (drop 4 bs)) (firm_cond (nat_eq b 85) (of_digits 9 (digits Character 8 0 1 bs)) (of_letter (letter b)) (numbers 9 (digits Character 8 0 1 bs)) (letters (letter b))))) where
      last : Piece
      last = cond (nat_eq b 85) (of_digits 9 (digits Character 8 0 1 bs)) (of_letter (letter b))

      others : Piece
      others = cond (nat_eq b 117) (of_unit (digits FirstUnit 4 0 1 bs) (drop 4 bs)) (cond (nat_eq b 85) (of_digits 9 (digits Character 8 0 1 bs)) (of_letter (letter b)))

      numbers : (k : ℕ) (d : Digits) → Firm (of_digits k d)
      numbers k (Number n) = tt
      numbers k (Short j) = tt

      letters : (o : Option ℕ) → Firm (of_letter o)
      letters (Some n) = tt
      letters None = tt

      low : (high : ℕ) (d : Digits) → Firm (of_low high d)
      low high (Number n) = tt
      low high (Short j) = tt

      pair : (high : ℕ) (v : List ℕ) → Firm (of_pair high v)
      pair high [] = tt
      pair high (x ∷ []) = firm_cond (nat_eq x 92) (Wrong 7) (Wrong 6) tt tt
      pair high (x ∷ y ∷ xs) = firm_cond (nat_eq x 92) (cond (nat_eq y 117) (of_low high (digits SecondUnit 4 0 7 xs)) (Wrong 7)) (Wrong 6) (firm_cond (nat_eq y 117) (of_low high (digits SecondUnit 4 0 7 xs)) (Wrong 7) (low high (digits SecondUnit 4 0 7 xs)) tt) tt

      unit : (d : Digits) (v : List ℕ) → Firm (of_unit d v)
      unit (Number n) v = firm_cond (is_high n) (of_pair n v) (Means 5 (encode_utf8 n)) (pair n v) tt
      unit (Short j) v = tt

-- ---- pieces

abbrev pub PieceBack : Bool → ℕ → List ℕ → Piece → Type 0
PieceBack e b bs Itself = (e && nat_eq b 92) ≡ false
PieceBack e b bs Closes = is_fit b ≡ true
PieceBack e b bs (Means n t) = IsFree t → undotted e false (drop n bs) ≡ true → undotted e false (b ∷ bs) ≡ true
PieceBack e b bs Joins = Unit {0}
PieceBack e b bs (Returns n) = Unit {0}
PieceBack e b bs (Wrong n) = Unit {0}

pub piece_back : (quote b : ℕ) (bs : List ℕ) → PieceBack (nat_eq quote 34) b bs (piece quote b bs)
piece_back quote b bs = by_tests (nat_eq b 13) (nat_eq quote 34) (nat_eq b 34) (nat_eq b 92) (nat_eq b 39) refl refl refl where
  alone : nat_eq b 39 ≡ true → (s : Bool) → begins_with 39 bs ≡ s → PieceBack false b bs (cond s (Means 1 (39 ∷ [])) Closes)
  alone e true i = λ free past. both (is_dotless b) (undotted false false bs) (ap is_dotless (same_byte b 39 e)) (quotes bs i past) where
    quotes : (bs : List ℕ) → begins_with 39 bs ≡ true → undotted false false (drop 1 bs) ≡ true → undotted false false bs ≡ true
    quotes [] i past = refl
    quotes (c ∷ cs) i past = both (is_dotless c) (undotted false false cs) (ap is_dotless (same_byte c 39 i)) past
  alone e false i = ap is_fit (same_byte b 39 e)

  by_tests : (p q d e f : Bool) → nat_eq b 34 ≡ d → nat_eq b 92 ≡ e → nat_eq b 39 ≡ f
      → PieceBack q b bs (cond p (Returns 0) (cond q (cond d Closes (cond e (escape bs) Itself)) (cond f (cond (begins_with 39 bs) (Means 1 (39 ∷ [])) Closes) Itself)))
  by_tests true q d e f x y z = tt
  by_tests false true true e f x y z = ap is_fit (same_byte b 34 x)
  by_tests false true false true f x y z = escaped (escape bs) (escape_firm bs) (escape_spells bs) where
    escaped : (p : Piece) → Firm p → Spells bs p → PieceBack true b bs p
    escaped Itself n h = absurd n
    escaped Closes n h = absurd n
    escaped (Means m t) n h = λ free past. ap (λ c. undotted true false (c ∷ bs)) (same_byte b 92 y) ∙ h free past
    escaped Joins n h = tt
    escaped (Returns m) n h = tt
    escaped (Wrong m) n h = tt
  by_tests false true false false f x y z = y
  by_tests false false d e true x y z = alone z (begins_with 39 bs) refl
  by_tests false false d e false x y z = refl
