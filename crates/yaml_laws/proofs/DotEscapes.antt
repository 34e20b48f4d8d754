-- What escapes stand for has no dot, where none spells one.
use Rattle.std.proofs.Common.{◌≡◌, ℕ, zero, suc, ◌+◌, ◌-◌, ◌*◌, ◌≤◌, Bool, true, false, ◌||◌, ◌&&◌, not, cond, nat_eq, arith, List, [], ◌∷◌, Option, Some, None, drop, refl, sym, ap, ◌∙◌, subst, true≢false}
use Rattle.std.specs.Char.{encode_utf8}
use Rattle.std.proofs.lemmas.Bool.Decides.{nat_tests}
use Rattle.yaml_scalars.specs.declared.escape.Wanted.{Wanted}
use Rattle.yaml_scalars.specs.declared.escape.Wanted.TheVariants.{Character, FirstUnit, SecondUnit}
use Rattle.yaml_scalars.specs.Lines.{each, begins_with}
use Rattle.yaml_scalars.specs.Quoted.{Piece, Itself, Closes, Means, Joins, Returns, Wrong, Digits, Number, Short, is_hex, hex, is_high, least, may_go_on, digits, of_digits, of_low, of_pair, of_unit, letter, of_letter, escape, piece}
use Rattle.yaml_laws.specs.code.Dots.{is_dotless, begins_digits, spells_dot, undotted}

abbrev pub IsFree : List ℕ → Type 0
IsFree t = each is_dotless t ≡ true

first : (p q : Bool) → (p && q) ≡ true → p ≡ true
first true q h = refl
first false q h = absurd (true≢false (sym h))

second : (p q : Bool) → (p && q) ≡ true → q ≡ true
second true q h = h
second false q h = absurd (true≢false (sym h))

-- a character that is no dot
pub encoded_free : (n : ℕ) → nat_eq n 46 ≡ false → IsFree (encode_utf8 n)
unfolding encode_utf8
encoded_free n h = grind (arith, nat_tests, h)

-- ---- digits

hex_zero : (b : ℕ) → is_hex b ≡ true → hex b ≡ 0 → b ≡ 48
hex_zero b h e = grind (arith, nat_tests, h, e)

hex_two : (b : ℕ) → is_hex b ≡ true → hex b ≡ 2 → b ≡ 50
hex_two b h e = grind (arith, nat_tests, h, e)

hex_last : (b : ℕ) → is_hex b ≡ true → hex b ≡ 14 → (nat_eq b 101 || nat_eq b 69) ≡ true
hex_last b h e = grind (arith, nat_tests, h, e)

hex_most : (b : ℕ) → is_hex b ≡ true → hex b ≤ 15
hex_most b h = grind (arith, nat_tests, h)

least_up : (k n : ℕ) → n ≤ least k n
least_up zero n = omega arith
least_up (suc k) n = let r = least_up k (n * 16) in omega (arith, r)

low : (w : Wanted) (k n c m : ℕ) (xs : List ℕ) → digits w k n c xs ≡ Number m → least k n ≤ m
low w zero n c m xs h = let e : n ≡ m = cc in omega (arith, e)
low w (suc k) n c m [] h = absurd (cc)
low w (suc k) n c m (b ∷ xs) h = by_digit (is_hex b && may_go_on w k (n * 16 + hex b)) h (λ g. low w k (n * 16 + hex b) (suc c) m xs g) where
  rises : (k n m : ℕ) → n ≤ m → least k n ≤ least k m
  rises zero n m l = l
  rises (suc k) n m l = rises k (n * 16) (m * 16) (omega (arith, l))

  by_digit : (q : Bool) → cond q (digits w k (n * 16 + hex b) (suc c) xs) (Short c) ≡ Number m → (digits w k (n * 16 + hex b) (suc c) xs ≡ Number m → least k (n * 16 + hex b) ≤ m) → least k (n * 16) ≤ m
  by_digit true g r = let a = r g in let z = rises k (n * 16) (n * 16 + hex b) (omega arith) in omega (arith, a, z)
  by_digit false g r = absurd (cc)

-- a digit, and those behind it
pub step : (w : Wanted) (k n c m : ℕ) (xs : List ℕ) → digits w (suc k) n c xs ≡ Number m → (b : ℕ) × (bs : List ℕ) × (xs ≡ b ∷ bs) × (is_hex b ≡ true) × (digits w k (n * 16 + hex b) (suc c) bs ≡ Number m)
step w k n c m [] h = absurd (cc)
step w k n c m (b ∷ xs) h = by_digit (is_hex b && may_go_on w k (n * 16 + hex b)) (λ e. first (is_hex b) (may_go_on w k (n * 16 + hex b)) e) h where
  by_digit : (q : Bool) → (q ≡ true → is_hex b ≡ true) → cond q (digits w k (n * 16 + hex b) (suc c) xs) (Short c) ≡ Number m → (d : ℕ) × (ds : List ℕ) × (b ∷ xs ≡ d ∷ ds) × (is_hex d ≡ true) × (digits w k (n * 16 + hex d) (suc c) ds ≡ Number m)
  by_digit true f g = (b, xs, refl, f refl, g)
  by_digit false f g = absurd (cc)

zeros : ℕ → List ℕ
zeros zero = 50 ∷ []
zeros (suc k) = 48 ∷ zeros k

-- the digits of a dot
spelt : (w : Wanted) (k c : ℕ) (xs : List ℕ) → digits w (suc (suc k)) 0 c xs ≡ Number 46 → begins_digits (zeros k) xs ≡ true
unfolding zeros
spelt w zero c xs h =
    let r = step w 1 0 c 46 xs h in
    let s = step w 0 (0 * 16 + hex r.0) (suc c) 46 r.1 r.4 in
    let sum : (0 * 16 + hex r.0) * 16 + hex s.0 ≡ 46 = number (s.4) in
    let most = hex_most s.0 s.3 in
    let most2 = hex_most r.0 r.3 in
    let two : hex r.0 ≡ 2 = omega (arith, sum, most, most2) in
    let last : hex s.0 ≡ 14 = omega (arith, sum, two) in
    let a : nat_eq r.0 50 ≡ true = ap (λ n. nat_eq n 50) (hex_two r.0 r.3 two) in
    ap (begins_digits (50 ∷ [])) (r.2 ∙ ap (λ t. r.0 ∷ t) s.2) ∙ ap (λ q. q && (nat_eq s.0 101 || nat_eq s.0 69)) a ∙ hex_last s.0 s.3 last where
      number : {n : ℕ} → Number n ≡ Number 46 → n ≡ 46
      number h = cc
spelt w (suc k) c xs h =
    let r = step w (suc (suc k)) 0 c 46 xs h in
    let up = low w (suc (suc k)) (0 * 16 + hex r.0) (suc c) 46 r.1 r.4 in
    let more = least_up k ((0 * 16 + hex r.0) * 16 * 16) in
    let none : hex r.0 ≡ 0 = omega (arith, up, more) in
    let a : nat_eq r.0 48 ≡ true = ap (λ n. nat_eq n 48) (hex_zero r.0 r.3 none) in
    ap (begins_digits (48 ∷ zeros k)) r.2 ∙ ap (λ q. q && begins_digits (zeros k) r.1) a ∙ spelt w k (suc c) r.1 (ap (λ n. digits w (suc (suc k)) n (suc c) r.1) (zero_is (hex r.0) none) ∙ r.4) where
      zero_is : (n : ℕ) → n ≡ 0 → 0 ≡ 0 * 16 + n
      zero_is n e = omega (arith, e)

-- digits are no dots and no backslashes
hex_plain : (e : Bool) (b : ℕ) (bs : List ℕ) → is_hex b ≡ true → undotted e false (b ∷ bs) ≡ undotted e false bs
hex_plain e b bs h =
    let dot : is_dotless b ≡ true = grind (arith, nat_tests, h) in
    let slash : nat_eq b 92 ≡ false = grind (arith, nat_tests, h) in
    ap (λ q. q && cond (e && nat_eq b 92) (not (spells_dot bs) && undotted e true bs) (undotted e false bs)) dot ∙ ap (λ q. cond (e && q) (not (spells_dot bs) && undotted e true bs) (undotted e false bs)) slash ∙ neither e where
      neither : (e : Bool) → cond (e && false) (not (spells_dot bs) && undotted e true bs) (undotted e false bs) ≡ undotted e false bs
      neither true = refl
      neither false = refl

pub past_digits : (e : Bool) (w : Wanted) (k n c m : ℕ) (xs : List ℕ) → digits w k n c xs ≡ Number m → undotted e false (drop k xs) ≡ undotted e false xs
past_digits e w zero n c m xs h = refl
past_digits e w (suc k) n c m xs h =
    let r = step w k n c m xs h in
    ap (λ t. undotted e false (drop (suc k) t)) r.2 ∙ past_digits e w k (n * 16 + hex r.0) (suc c) m r.1 r.4 ∙ sym (hex_plain e r.0 r.1 r.3) ∙ ap (undotted e false) (sym r.2)

-- ---- pieces

abbrev pub PieceFree : Bool → ℕ → List ℕ → Piece → Type 0
PieceFree e b bs Itself = IsFree (b ∷ []) × (undotted e false bs ≡ true)
PieceFree e b bs Closes = Unit {0}
PieceFree e b bs (Means n t) = IsFree t × (undotted e false (drop n bs) ≡ true)
PieceFree e b bs Joins = Unit {0}
PieceFree e b bs (Returns n) = Unit {0}
PieceFree e b bs (Wrong n) = Unit {0}

other_number : (n : ℕ) → (n ≡ 46 → ⊥) → nat_eq n 46 ≡ false
other_number n h = by_test (nat_eq n 46) refl where
  by_test : (q : Bool) → nat_eq n 46 ≡ q → q ≡ false
  by_test true e = absurd (h (grind (arith, nat_tests, e)))
  by_test false e = refl

-- x and U
number_free : (k c : ℕ) (b : ℕ) (bs : List ℕ) → begins_digits (zeros k) bs ≡ false → undotted true false bs ≡ true → PieceFree true 92 (b ∷ bs) (of_digits (suc (suc (suc k))) (digits Character (suc (suc k)) 0 1 bs))
number_free k c b bs n u = by_digits (digits Character (suc (suc k)) 0 1 bs) refl where
  by_digits : (d : Digits) → digits Character (suc (suc k)) 0 1 bs ≡ d → PieceFree true 92 (b ∷ bs) (of_digits (suc (suc (suc k))) d)
  by_digits (Number m) e = (
    encoded_free m (other_number m (λ z. true≢false (sym (spelt Character k 1 bs (e ∙ ap Number z)) ∙ n))),
    past_digits true Character (suc (suc k)) 0 1 m bs e ∙ u,
  )
  by_digits (Short j) e = tt

-- two surrogates
pair_free : (high b : ℕ) (cs : List ℕ) (m : ℕ) → digits FirstUnit 4 0 1 cs ≡ Number m → undotted true false (drop 4 cs) ≡ true → PieceFree true 92 (b ∷ cs) (of_pair high (drop 4 cs))
pair_free high b cs m d u =
    let ra = step FirstUnit 3 0 1 m cs d in
    let rb = step FirstUnit 2 (0 * 16 + hex ra.0) 2 m ra.1 ra.4 in
    let rc = step FirstUnit 1 ((0 * 16 + hex ra.0) * 16 + hex rb.0) 3 m rb.1 rb.4 in
    let rd = step FirstUnit 0 (((0 * 16 + hex ra.0) * 16 + hex rb.0) * 16 + hex rc.0) 4 m rc.1 rc.4 in
    let whole : cs ≡ ra.0 ∷ rb.0 ∷ rc.0 ∷ rd.0 ∷ rd.1 = ra.2 ∙ ap (λ t. ra.0 ∷ t) (rb.2 ∙ ap (λ t. rb.0 ∷ t) (rc.2 ∙ ap (λ t. rc.0 ∷ t) rd.2)) in
    subst (λ t. PieceFree true 92 (b ∷ t) (of_pair high (drop 4 t))) (sym whole) (by_bytes ra.0 rb.0 rc.0 rd.0 rd.1 (ap (λ t. undotted true false (drop 4 t)) (sym whole) ∙ u)) where
      by_bytes : (p q r s : ℕ) (vs : List ℕ) → undotted true false vs ≡ true → PieceFree true 92 (b ∷ p ∷ q ∷ r ∷ s ∷ vs) (of_pair high vs)
      by_bytes p q r s [] u = tt
      by_bytes p q r s (x ∷ []) u = by_slash (nat_eq x 92) where
        by_slash : (z : Bool) → PieceFree true 92 (b ∷ p ∷ q ∷ r ∷ s ∷ x ∷ []) (cond z (Wrong 7) (Wrong 6))
        by_slash true = tt
        by_slash false = tt
      by_bytes p q r s (x ∷ y ∷ xs) u = by_tests (nat_eq x 92) (nat_eq y 117) refl where
        by_low : undotted true false xs ≡ true → (d : Digits) → digits SecondUnit 4 0 7 xs ≡ d → PieceFree true 92 (b ∷ p ∷ q ∷ r ∷ s ∷ x ∷ y ∷ xs) (of_low high d)
        by_low v (Number n) e = (encoded_free (65536 + (high - 55296) * 1024 + (n - 56320)) (large ((high - 55296) * 1024) (n - 56320)), past_digits true SecondUnit 4 0 7 n xs e ∙ v) where
          large : (n m : ℕ) → nat_eq (65536 + n + m) 46 ≡ false
          large n m = grind (arith, nat_tests)
        by_low v (Short j) e = tt

        by_tests : (z w : Bool) → nat_eq x 92 ≡ z → PieceFree true 92 (b ∷ p ∷ q ∷ r ∷ s ∷ x ∷ y ∷ xs) (cond z (cond w (of_low high (digits SecondUnit 4 0 7 xs)) (Wrong 7)) (Wrong 6))
        by_tests true true e =
            let is : x ≡ 92 = grind (arith, nat_tests, e) in
            by_low (second (not (spells_dot (y ∷ xs))) (undotted true false xs) (ap (λ n. undotted true false (n ∷ y ∷ xs)) (sym is) ∙ u)) (digits SecondUnit 4 0 7 xs) refl
        by_tests true false e = tt
        by_tests false w e = tt

unit_free : (b : ℕ) (bs : List ℕ) → begins_digits (zeros 2) bs ≡ false → undotted true false bs ≡ true → PieceFree true 92 (b ∷ bs) (of_unit (digits FirstUnit 4 0 1 bs) (drop 4 bs))
unit_free b bs n u = by_digits (digits FirstUnit 4 0 1 bs) refl where
  by_high : (m : ℕ) → digits FirstUnit 4 0 1 bs ≡ Number m → (q : Bool) → PieceFree true 92 (b ∷ bs) (cond q (of_pair m (drop 4 bs)) (Means 5 (encode_utf8 m)))
  by_high m e true = pair_free m b bs m e (past_digits true FirstUnit 4 0 1 m bs e ∙ u)
  by_high m e false = (
    encoded_free m (other_number m (λ z. true≢false (sym (spelt FirstUnit 2 1 bs (e ∙ ap Number z)) ∙ n))),
    past_digits true FirstUnit 4 0 1 m bs e ∙ u,
  )

  by_digits : (d : Digits) → digits FirstUnit 4 0 1 bs ≡ d → PieceFree true 92 (b ∷ bs) (of_unit d (drop 4 bs))
  by_digits (Number m) e = by_high m e (is_high m)
  by_digits (Short j) e = tt

letter_free : (b : ℕ) (bs : List ℕ) → undotted true false bs ≡ true → PieceFree true 92 (b ∷ bs) (of_letter (letter b))
letter_free b bs u = by_number (letter b) refl where
  by_number : (o : Option ℕ) → letter b ≡ o → PieceFree true 92 (b ∷ bs) (of_letter o)
  by_number None e = tt
  by_number (Some n) e = (encoded_free n (no_dot (nat_eq b 48) (nat_eq b 97) (nat_eq b 98) (nat_eq b 116 || nat_eq b 9) (nat_eq b 110) (nat_eq b 118) (nat_eq b 102) (nat_eq b 114) (nat_eq b 101) (nat_eq b 32) (nat_eq b 34) (nat_eq b 47) (nat_eq b 92) (nat_eq b 78) (nat_eq b 95) (nat_eq b 76) (nat_eq b 80) e), u) where
    some : (k : ℕ) → nat_eq k 46 ≡ false → Some k ≡ Some n → nat_eq n 46 ≡ false
    some k a g = let z : k ≡ n = cc in ap (λ t. nat_eq t 46) (sym z) ∙ a

    no_dot : (q1 q2 q3 q4 q5 q6 q7 q8 q9 q10 q11 q12 q13 q14 q15 q16 q17 : Bool)
        → cond q1 (Some 0) (cond q2 (Some 7) (cond q3 (Some 8) (cond q4 (Some 9) (cond q5 (Some 10) (cond q6 (Some 11) (cond q7 (Some 12) (cond q8 (Some 13) (cond q9 (Some 27) (cond q10 (Some 32) (cond q11 (Some 34) (cond q12 (Some 47) (cond q13 (Some 92) (cond q14 (Some 133) (cond q15 (Some 160) (cond q16 (Some 8232) (cond q17 (Some 8233) None)))))))))))))))) ≡ Some n
        → nat_eq n 46 ≡ false
    no_dot true a b c d e f g h i j k l m o p q z = some 0 refl z
    no_dot false true b c d e f g h i j k l m o p q z = some 7 refl z
    no_dot false false true c d e f g h i j k l m o p q z = some 8 refl z
    no_dot false false false true d e f g h i j k l m o p q z = some 9 refl z
    no_dot false false false false true e f g h i j k l m o p q z = some 10 refl z
    no_dot false false false false false true f g h i j k l m o p q z = some 11 refl z
    no_dot false false false false false false true g h i j k l m o p q z = some 12 refl z
    no_dot false false false false false false false true h i j k l m o p q z = some 13 refl z
    no_dot false false false false false false false false true i j k l m o p q z = some 27 refl z
    no_dot false false false false false false false false false true j k l m o p q z = some 32 refl z
    no_dot false false false false false false false false false false true k l m o p q z = some 34 refl z
    no_dot false false false false false false false false false false false true l m o p q z = some 47 refl z
    no_dot false false false false false false false false false false false false true m o p q z = some 92 refl z
    no_dot false false false false false false false false false false false false false true o p q z = some 133 refl z
    no_dot false false false false false false false false false false false false false false true p q z = some 160 refl z
    no_dot false false false false false false false false false false false false false false false true q z = some 8232 refl z
    no_dot false false false false false false false false false false false false false false false false true z = some 8233 refl z
    no_dot false false false false false false false false false false false false false false false false false z = absurd (cc)

-- an escape that spells no dot
escape_free : (bs : List ℕ) → spells_dot bs ≡ false → undotted true true bs ≡ true → PieceFree true 92 bs (escape bs)
unfolding zeros
escape_free [] n u = tt
escape_free (b ∷ bs) n u = by_tests (nat_eq b 13) (nat_eq b 120) (nat_eq b 117) (nat_eq b 85) refl refl refl refl where
  neither : (p q r : Bool) → (p || q || r) ≡ false → (p ≡ false) × (q ≡ false) × (r ≡ false)
  neither true q r h = absurd (true≢false h)
  neither false true r h = absurd (true≢false h)
  neither false false r h = (refl, refl, h)

  behind : (p q : Bool) → p ≡ true → (p && q) ≡ false → q ≡ false
  behind true q e h = h
  behind false q e h = absurd (true≢false (sym e))

  by_tests : (p q r s : Bool) → nat_eq b 13 ≡ p → nat_eq b 120 ≡ q → nat_eq b 117 ≡ r → nat_eq b 85 ≡ s
      → PieceFree true 92 (b ∷ bs) (cond p (Returns 1) (cond q (of_digits 3 (digits Character 2 0 1 bs)) (cond r (of_unit (digits FirstUnit 4 0 1 bs) (drop 4 bs)) (cond s (of_digits 9 (digits Character 8 0 1 bs)) (of_letter (letter b))))))
  by_tests true q r s e f g h = tt
  by_tests false true r s e f g h = number_free 0 1 b bs (behind (nat_eq b 120) (begins_digits (50 ∷ []) bs) f (neither (begins_digits (120 ∷ 50 ∷ []) (b ∷ bs)) (begins_digits (117 ∷ 48 ∷ 48 ∷ 50 ∷ []) (b ∷ bs)) (begins_digits (85 ∷ 48 ∷ 48 ∷ 48 ∷ 48 ∷ 48 ∷ 48 ∷ 50 ∷ []) (b ∷ bs)) n).0) u
  by_tests false false true s e f g h = unit_free b bs (behind (nat_eq b 117) (begins_digits (48 ∷ 48 ∷ 50 ∷ []) bs) g (neither (begins_digits (120 ∷ 50 ∷ []) (b ∷ bs)) (begins_digits (117 ∷ 48 ∷ 48 ∷ 50 ∷ []) (b ∷ bs)) (begins_digits (85 ∷ 48 ∷ 48 ∷ 48 ∷ 48 ∷ 48 ∷ 48 ∷ 50 ∷ []) (b ∷ bs)) n).1) u
  by_tests false false false true e f g h = number_free 6 1 b bs (behind (nat_eq b 85) (begins_digits (48 ∷ 48 ∷ 48 ∷ 48 ∷ 48 ∷ 48 ∷ 50 ∷ []) bs) h (neither (begins_digits (120 ∷ 50 ∷ []) (b ∷ bs)) (begins_digits (117 ∷ 48 ∷ 48 ∷ 50 ∷ []) (b ∷ bs)) (begins_digits (85 ∷ 48 ∷ 48 ∷ 48 ∷ 48 ∷ 48 ∷ 48 ∷ 50 ∷ []) (b ∷ bs)) n).2) u
  by_tests false false false false e f g h = letter_free b bs u

pub piece_free : (quote b : ℕ) (bs : List ℕ) → undotted (nat_eq quote 34) false (b ∷ bs) ≡ true → PieceFree (nat_eq quote 34) b bs (piece quote b bs)
piece_free quote b bs u = by_tests (nat_eq b 13) (nat_eq quote 34) (nat_eq b 34) (nat_eq b 92) (nat_eq b 39) refl u where
  byte_free : is_dotless b ≡ true → IsFree (b ∷ [])
  byte_free h = ap (λ q. cond q true false) h

  quotes : (bs : List ℕ) → begins_with 39 bs ≡ true → undotted false false bs ≡ true → undotted false false (drop 1 bs) ≡ true
  quotes [] e u = refl
  quotes (c ∷ cs) e u = second (is_dotless c) (undotted false false cs) u

  alone : (s : Bool) → begins_with 39 bs ≡ s → undotted false false bs ≡ true → PieceFree false b bs (cond s (Means 1 (39 ∷ [])) Closes)
  alone true e u = (refl, quotes bs e u)
  alone false e u = tt

  by_tests : (p q d e f : Bool) → nat_eq b 92 ≡ e → (is_dotless b && cond (q && e) (not (spells_dot bs) && undotted q true bs) (undotted q false bs)) ≡ true
      → PieceFree q b bs (cond p (Returns 0) (cond q (cond d Closes (cond e (escape bs) Itself)) (cond f (cond (begins_with 39 bs) (Means 1 (39 ∷ [])) Closes) Itself)))
  by_tests true q d e f z u = tt
  by_tests false true true e f z u = tt
  by_tests false true false true f z u =
      let both = second (is_dotless b) (not (spells_dot bs) && undotted true true bs) u in
      escaped (escape bs) (escape_free bs (unspelled (spells_dot bs) (first (not (spells_dot bs)) (undotted true true bs) both)) (second (not (spells_dot bs)) (undotted true true bs) both)) where
        unspelled : (q : Bool) → not q ≡ true → q ≡ false
        unspelled true h = absurd (true≢false (sym h))
        unspelled false h = refl

        escaped : (p : Piece) → PieceFree true 92 bs p → PieceFree true b bs p
        escaped Itself h = (byte_free (first (is_dotless b) (not (spells_dot bs) && undotted true true bs) u), h.1)
        escaped Closes h = tt
        escaped (Means n t) h = h
        escaped Joins h = tt
        escaped (Returns n) h = tt
        escaped (Wrong n) h = tt
  by_tests false true false false f z u = (byte_free (first (is_dotless b) (undotted true false bs) u), second (is_dotless b) (undotted true false bs) u)
  by_tests false false d e true z u = alone (begins_with 39 bs) refl (second (is_dotless b) (undotted false false bs) u)
  by_tests false false d e false z u = (byte_free (first (is_dotless b) (undotted false false bs) u), second (is_dotless b) (undotted false false bs) u)
