-- Nothing that has a form and begins bytes is longer than the functions reach.
use Rattle.std.proofs.Common.{◌≡◌, ◌≢◌, ℕ, suc, ◌+◌, ◌≤◌, Bool, true, false, List, [], ◌∷◌, ◌++◌, length, Some, refl, sym, ap, ◌∙◌, subst, arith, inl, inr, ◌⊎◌, ◌||◌, ◌&&◌}
use Rattle.std.specs.Prelude.{◌==◌, option_map}
use Rattle.std.proofs.lemmas.Bool.Decides.{nat_tests}
use Rattle.std.proofs.lemmas.List.{append-nil}
use Rattle.decimals.specs.Number.{is_digit, IsWholePart, minus_text, fraction_text}
use Rattle.guard_lexer.specs.declared.token.Mark.{Mark}
use Rattle.guard_lexer.specs.declared.token.Mark.TheVariants as m
use Rattle.guard_lexer.specs.Bytes.{is_letter, is_word, Each}
use Rattle.guard_lexer.specs.Forms.{IsName, AreParts, IsVar, Closes, IsStr, IsPat, EndsNote, IsNote, IsNumeral, mark_text, Form, Name, TypeName, Var, Str, Pat, Numeral, Note, Sign, HasForm}
use Rattle.guard_lexer.specs.Lexes.{IsLongest}
use Rattle.guard_lexer.specs.code.Reach.{run, in_name, closing, note_end, opened, sign_reach, is_single, is_doubled, begins_numeral, reach}
use Rattle.guard_lexer.proofs.Lists.{tested, same_byte, is_byte, not_byte}
use Rattle.guard_lexer.proofs.Numerals.{numeral_le}

-- ---- names

word_step : (b : ℕ) (bs : List ℕ) → is_word b ≡ true → in_name (b ∷ bs) ≡ suc (in_name bs)
word_step b [] e = rw e refl
word_step b (c ∷ []) e = rw e refl
word_step b (c ∷ d ∷ bs) e = rw e refl

colon_step : (d : ℕ) (bs : List ℕ) → is_letter d ≡ true → in_name (58 ∷ 58 ∷ d ∷ bs) ≡ suc (suc (suc (in_name bs)))
colon_step d bs e = rw e refl

pub parts_le : (ns : List (List ℕ)) (w rest r : List ℕ) → Each is_word w → AreParts ns rest → length (w ++ rest) ≤ in_name ((w ++ rest) ++ r)
parts_le ns (b ∷ w) rest r (e, h) k = rw (word_step b ((w ++ rest) ++ r) e) (let i = parts_le ns w rest r h k in omega arith)
parts_le [] [] rest r h k = let e : length rest ≡ 0 = ap (λ (z : List ℕ). length z) k in omega arith
parts_le ([] ∷ ns) [] rest r h (rest2, e, name, parts) = absurd name
parts_le ((c ∷ n) ∷ ns) [] rest r h (rest2, e, (letter, each), parts) =
    subst (λ z. length z ≤ in_name (z ++ r)) (sym e) (rw (colon_step c ((n ++ rest2) ++ r) letter) (let i = parts_le ns n rest2 r each parts in omega arith))

letter_word : (b : ℕ) → is_letter b ≡ true → is_word b ≡ true
letter_word b e = rw e refl

suc_le : (n k : ℕ) → n ≤ k → suc n ≤ suc k
suc_le n k h = omega arith

name_le : (dot : Bool) (m r : List ℕ) → IsName m → length m ≤ reach dot (m ++ r)
name_le dot [] r h = absurd h
name_le dot (b ∷ w) r (e, h) =
    let i : length w ≤ in_name (w ++ r) = subst (λ z. length z ≤ in_name (z ++ r)) (append-nil w) (parts_le [] w [] r h refl) in
    rw e (suc_le (length w) (in_name (w ++ r)) i)

type_name_le : (dot : Bool) (m r first rest : List ℕ) (ns : List (List ℕ)) → m ≡ first ++ rest → IsName first → AreParts ns rest → length m ≤ reach dot (m ++ r)
type_name_le dot m r [] rest ns e h k = absurd h
type_name_le dot m r (b ∷ w) rest ns e (l, h) k =
    subst (λ z. length z ≤ reach dot (z ++ r)) (sym e) (rw l (suc_le (length (w ++ rest)) (in_name ((w ++ rest) ++ r)) (parts_le ns w rest r h k)))

each_le : (f : ℕ → Bool) (m r : List ℕ) → Each f m → length m ≤ run f (m ++ r)
each_le f [] r h = omega arith
each_le f (b ∷ m) r (e, h) = let i = each_le f m r h in rw e (omega arith)

var_le : (dot : Bool) (m r : List ℕ) → IsVar m → length m ≤ reach dot (m ++ r)
var_le dot [] r h = absurd h
var_le dot (b ∷ []) r (e, h) = absurd h
var_le dot (b ∷ c ∷ w) r (e, (l, h)) =
    subst (λ z. suc (suc (length w)) ≤ reach dot (z ∷ c ∷ (w ++ r))) (sym e) (rw l (suc_le _ _ (suc_le _ _ (each_le is_word w r h))))

-- ---- quotes

pub no_end : (q : ℕ) (c : ℕ) (x : List ℕ) (v : Bool) → c ≢ q → closing q v (c ∷ x) ≡ option_map (λ n. suc n) (closing q (c == 92) x)
no_end q c x v h = rw (not_byte c q h) refl

pub closes_is : (q : ℕ) (m r : List ℕ) → q ≢ 92 → Closes q m → closing q false (m ++ r) ≡ Some (length m)
closes_is q [] r n h = absurd h
closes_is q (b ∷ []) r n h = rw (is_byte b q h) refl
closes_is q (b ∷ c ∷ m) r n (inl (e, d, h)) =
    no_end q b (c ∷ (m ++ r)) false (λ x. n (sym x ∙ e))
    ∙ ap (λ v. option_map (λ k. suc k) (closing q v (c ∷ (m ++ r)))) (is_byte b 92 e)
    ∙ ap (option_map (λ k. suc k)) (escaped (is_byte c q d) ∙ ap (λ v. option_map (λ k. suc k) (closing q v (m ++ r))) (not_byte c 92 (λ x. n (sym d ∙ x))) ∙ ap (option_map (λ k. suc k)) (closes_is q m r n h))
  where
    escaped : (c == q) ≡ true → closing q true (c ∷ (m ++ r)) ≡ option_map (λ k. suc k) (closing q (c == 92) (m ++ r))
    escaped t = rw t refl
closes_is q (b ∷ c ∷ m) r n (inr (e, d, h)) = no_end q b (c ∷ (m ++ r)) false e ∙ ap (option_map (λ k. suc k)) (plain (tested (b == 92)) ∙ closes_is q (c ∷ m) r n h)
  where
    plain : (((b == 92) ≡ true) ⊎ ((b == 92) ≡ false)) → closing q (b == 92) (c ∷ (m ++ r)) ≡ closing q false (c ∷ (m ++ r))
    plain (inl t) = let f = d (same_byte b 92 t) in no_end q c (m ++ r) (b == 92) f ∙ sym (no_end q c (m ++ r) false f)
    plain (inr t) = ap (λ v. closing q v (c ∷ (m ++ r))) t

pub below : (q : ℕ) → q ≤ 91 → q ≢ 92
below q h e = omega arith

closed_le : (k : ℕ) (q : ℕ) (m r : List ℕ) → q ≢ 92 → Closes q m → opened k (closing q false (m ++ r)) ≡ k + length m
closed_le k q m r n h = ap (opened k) (closes_is q m r n h)

at_most : (n k : ℕ) → k ≡ 1 + n → suc n ≤ k
at_most n k e = omega arith

str_le : (dot : Bool) (m r : List ℕ) → IsStr m → length m ≤ reach dot (m ++ r)
str_le dot [] r h = absurd h
str_le dot (b ∷ m) r (inl e, h) =
    subst (λ z. suc (length m) ≤ reach dot (z ∷ (m ++ r))) (sym e) (at_most (length m) _ (closed_le 1 34 m r (below 34 (omega arith)) (subst (λ z. Closes z m) e h)))
str_le dot (b ∷ m) r (inr e, h) =
    subst (λ z. suc (length m) ≤ reach dot (z ∷ (m ++ r))) (sym e) (at_most (length m) _ (closed_le 1 39 m r (below 39 (omega arith)) (subst (λ z. Closes z m) e h)))

pat_le : (dot : Bool) (m r : List ℕ) → IsPat m → length m ≤ reach dot (m ++ r)
pat_le dot [] r h = absurd h
pat_le dot (b ∷ m) r (e, h) = subst (λ z. suc (length m) ≤ reach dot (z ∷ (m ++ r))) (sym e) (at_most (length m) _ (closed_le 1 47 m r (below 47 (omega arith)) h))

-- ---- notes

note_step : (b c : ℕ) (x : List ℕ) → (b ≡ 62 → c ≢ 62) → note_end (b == 62) (c ∷ x) ≡ option_map (λ n. suc n) (note_end (c == 62) x)
note_step b c x h = elim (tested (c == 62)) [
  | inl t ↦ let f : (b == 62) ≡ false = not_byte b 62 (λ e. h e (same_byte c 62 t)) in rw (f, t) refl
  | inr t ↦ rw t refl
]

note_more : (b c : ℕ) (m r : List ℕ) → EndsNote (b ∷ c ∷ m) → note_end (b == 62) ((c ∷ m) ++ r) ≡ Some (suc (length m))
note_more b c [] r (e, d) = rw (is_byte b 62 e, is_byte c 62 d) refl
note_more b c (d ∷ m) r (e, h) = note_step b c ((d ∷ m) ++ r) e ∙ ap (option_map (λ n. suc n)) (note_more c d m r h)

pub note_is : (m r : List ℕ) → EndsNote m → note_end false (m ++ r) ≡ Some (length m)
note_is [] r h = absurd h
note_is (b ∷ []) r h = absurd h
note_is (b ∷ c ∷ m) r h = first ∙ ap (option_map (λ n. suc n)) (note_more b c m r h)
  where
    first : note_end false (b ∷ ((c ∷ m) ++ r)) ≡ option_map (λ n. suc n) (note_end (b == 62) ((c ∷ m) ++ r))
    first = elim (tested (b == 62)) [ inl t ↦ rw t refl | inr t ↦ rw t refl ]

note_le : (dot : Bool) (m r : List ℕ) → IsNote m → length m ≤ reach dot (m ++ r)
note_le dot m r (rest, e, h) =
    let i : opened 0 (note_end false (rest ++ r)) ≡ 0 + length rest = ap (opened 0) (note_is rest r h) in
    subst (λ z. length z ≤ reach dot (z ++ r)) (sym e) (suc_le _ _ (suc_le _ _ (let j : length rest ≤ opened 0 (note_end false (rest ++ r)) = omega arith in j)))

-- ---- numbers and marks

digit_class : (b : ℕ) → is_digit b ≡ true → (is_letter b ≡ false) × (begins_numeral b ≡ true)
digit_class b e = (grind (arith, nat_tests), ap (λ q. q || (b == 45)) e)

pub numeral_class : (dot : Bool) (b : ℕ) (m : List ℕ) → IsNumeral dot (b ∷ m) → (is_letter b ≡ false) × (begins_numeral b ≡ true)
numeral_class true b m (e, d, z) = digit_class b e
numeral_class false b m (p, s) = spelled_class p.minus p.whole (fraction_text p.fraction ++ s.exponent) s.whole s.joined
  where
    spelled_class : (minus : Bool) (w y : List ℕ) → IsWholePart w → b ∷ m ≡ minus_text minus ++ (w ++ y) → (is_letter b ≡ false) × (begins_numeral b ≡ true)
    spelled_class true w y h e = let d : b ≡ 45 = cc in (ap is_letter d, ap begins_numeral d)
    spelled_class false [] y h e = absurd h
    spelled_class false (c ∷ w) y h e = let d : b ≡ c = cc in digit_class b (ap is_digit d ∙ h.0)

pub no_numeral : (dot : Bool) → IsNumeral dot [] → ⊥
no_numeral true h = h
no_numeral false (p, s) = spelled_none p.minus p.whole (fraction_text p.fraction ++ s.exponent) s.whole s.joined
  where
    spelled_none : (minus : Bool) (w y : List ℕ) → IsWholePart w → [] ≡ minus_text minus ++ (w ++ y) → ⊥
    spelled_none true w y h e = cc
    spelled_none false [] y h e = h
    spelled_none false (c ∷ w) y h e = cc

numeral_form_le : (dot : Bool) (m r : List ℕ) → IsNumeral dot m → length m ≤ reach dot (m ++ r)
numeral_form_le dot [] r h = omega arith
numeral_form_le dot (b ∷ m) r h = let c = numeral_class dot b m h in rw (c.0, c.1) (numeral_le dot (b ∷ m) r h)

one_or_two : (b c : ℕ) (x : List ℕ) → is_single b ≡ true → 1 ≤ sign_reach b (c ∷ x)
one_or_two b c x e = elim (tested (b == 60 && c == 60)) [
  | inl t ↦ rw t (omega arith)
  | inr t ↦ rw t (elim (tested (c == 61 && is_doubled b)) [ inl u ↦ rw u (omega arith) | inr u ↦ rw (u, e) (omega arith) ])
]

single_le : (b : ℕ) (r : List ℕ) → is_single b ≡ true → 1 ≤ sign_reach b r
single_le b [] e = rw e (omega arith)
single_le b (c ∷ x) e = one_or_two b c x e

mark_le : (dot : Bool) (mark : Mark) (r : List ℕ) → length (mark_text mark) ≤ reach dot (mark_text mark ++ r)
mark_le dot m.LBrace r = single_le 123 r refl
mark_le dot m.RBrace r = single_le 125 r refl
mark_le dot m.LParen r = single_le 40 r refl
mark_le dot m.RParen r = single_le 41 r refl
mark_le dot m.LBracket r = single_le 91 r refl
mark_le dot m.RBracket r = single_le 93 r refl
mark_le dot m.Comma r = single_le 44 r refl
mark_le dot m.Bar r = single_le 124 r refl
mark_le dot m.Dot r = single_le 46 r refl
mark_le dot m.Star r = single_le 42 r refl
mark_le dot m.Colon r = single_le 58 r refl
mark_le dot m.Equals r = single_le 61 r refl
mark_le dot m.Define r = omega arith
mark_le dot m.Same r = omega arith
mark_le dot m.Differs r = omega arith
mark_le dot m.Bang r = single_le 33 r refl
mark_le dot m.Less r = single_le 60 r refl
mark_le dot m.LessEq r = omega arith
mark_le dot m.Greater r = single_le 62 r refl
mark_le dot m.GreaterEq r = omega arith

pub reach_le : (dot : Bool) (form : Form) (text r : List ℕ) → HasForm dot form text → length text ≤ reach dot (text ++ r)
reach_le dot Name text r h = name_le dot text r h
reach_le dot TypeName text r (first, rest, ns, e, h, some, k) = type_name_le dot text r first rest ns e h k
reach_le dot Var text r h = var_le dot text r h
reach_le dot Str text r h = str_le dot text r h
reach_le dot Pat text r h = pat_le dot text r h
reach_le dot Numeral text r h = numeral_form_le dot text r h
reach_le dot Note text r h = note_le dot text r h
reach_le dot (Sign mark) text r h = subst (λ z. length z ≤ reach dot (z ++ r)) (sym h) (mark_le dot mark r)

-- so a text as long as is reached is the longest
pub is_longest : (dot : Bool) (bytes text rest : List ℕ) → bytes ≡ text ++ rest → reach dot bytes ≡ length text → IsLongest dot text rest
is_longest dot bytes text rest e n form more behind j h = subst (λ k. length more ≤ k) (ap (reach dot) (j ∙ sym e) ∙ n) (reach_le dot form more behind h)

mark_some : (mark : Mark) → [] ≡ mark_text mark → ⊥
mark_some m.LBrace e = cc
mark_some m.RBrace e = cc
mark_some m.LParen e = cc
mark_some m.RParen e = cc
mark_some m.LBracket e = cc
mark_some m.RBracket e = cc
mark_some m.Comma e = cc
mark_some m.Bar e = cc
mark_some m.Dot e = cc
mark_some m.Star e = cc
mark_some m.Colon e = cc
mark_some m.Equals e = cc
mark_some m.Define e = cc
mark_some m.Same e = cc
mark_some m.Differs e = cc
mark_some m.Bang e = cc
mark_some m.Less e = cc
mark_some m.LessEq e = cc
mark_some m.Greater e = cc
mark_some m.GreaterEq e = cc

-- no form is empty
pub some_form : (dot : Bool) (form : Form) → HasForm dot form [] → ⊥
some_form dot Name h = h
some_form dot TypeName ([], rest, ns, e, h, some, k) = h
some_form dot TypeName (b ∷ w, rest, ns, e, h, some, k) = cc
some_form dot Var h = h
some_form dot Str h = h
some_form dot Pat h = h
some_form dot Numeral h = no_numeral dot h
some_form dot Note (rest, e, h) = cc
some_form dot (Sign mark) h = mark_some mark h

empty_front : (dot : Bool) (form : Form) (text : List ℕ) → length text ≤ 0 → HasForm dot form text → ⊥
empty_front dot form [] i h = some_form dot form h
empty_front dot form (b ∷ text) i h = omega arith

-- where nothing is reached no form begins
pub no_form : (dot : Bool) (bytes : List ℕ) → reach dot bytes ≡ 0 → (form : Form) (text rest : List ℕ) → bytes ≡ text ++ rest → HasForm dot form text → ⊥
no_form dot bytes z form text rest e h = empty_front dot form text (subst (λ k. length text ≤ k) (ap (reach dot) (sym e) ∙ z) (reach_le dot form text rest h)) h
