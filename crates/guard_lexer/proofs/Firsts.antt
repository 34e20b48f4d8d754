-- What stands in front of bytes, by the class of the first.
use Rattle.std.proofs.Common.{◌≡◌, ◌≢◌, ℕ, suc, ◌+◌, Bool, true, false, List, [], ◌∷◌, ◌++◌, length, Some, None, Ok, take, drop, refl, sym, ap, ◌∙◌, subst, arith, inl, inr, ◌⊎◌, ◌||◌}
use Rattle.std.specs.Prelude.{◌==◌}
use Rattle.std.proofs.lemmas.Bool.{true≢false}
use Rattle.std.proofs.lemmas.Bool.Decides.{nat_tests}
use Rattle.std.proofs.lemmas.Option.{none-some}
use Rattle.std.proofs.lemmas.List.{append-nil, take-append-drop}
use Rattle.guard_lexer.specs.declared.token.Mark.{Mark}
use Rattle.guard_lexer.specs.declared.token.Token.{Token}
use Rattle.guard_lexer.specs.declared.token.TokenKind.{TokenKind}
use Rattle.guard_lexer.specs.declared.token.TokenKind.TheVariants as k
use Rattle.guard_lexer.specs.declared.token.LexRefusal.TheVariants as r
use Rattle.guard_lexer.specs.Bytes.{is_letter, is_word, is_white, Each}
use Rattle.guard_lexer.specs.Forms.{AreParts, Closes, Form, Name, TypeName, Var, Str, Pat, Numeral, Note, Sign, HasForm, form_of, IsWorth}
use Rattle.guard_lexer.specs.Lexes.{IsOpening, IsUnclosed, BeginsWord, IsToken, IsFault}
use Rattle.guard_lexer.specs.code.Reach.{run, in_name, typed, var_reach, closing, opened, is_quote, is_blank, reach}
use Rattle.guard_lexer.specs.code.Firsts.{IsFirst, word_kind, quote_kind}
use Rattle.guard_lexer.proofs.Lists.{tested, no_clash, same_byte, other_byte, head_is, tail_is, on_true, on_false}
use Rattle.guard_lexer.proofs.Reaches.{below, closes_is, is_longest, no_form}
use Rattle.guard_lexer.proofs.Ends.{has_items, name_form, run_each, run_size, closed_form}

-- the token of a kind with so many bytes
abbrev pub Found : Bool → TokenKind → List ℕ → ℕ → Type 0
Found dot kind bytes n = (text rest : List ℕ) × (bytes ≡ text ++ rest) × (length text ≡ n) × IsToken dot kind text rest

pub is_first : (dot : Bool) (at : ℕ) (bytes : List ℕ) (t : Token) (kind : TokenKind) (n : ℕ) → t.kind ≡ kind → t.from ≡ at → t.to ≡ at + n → Found dot kind bytes n → IsFirst dot at bytes (Ok t)
is_first dot at bytes t kind n e f g (text, rest, j, s, is) = (text, rest, j, f, g ∙ ap (λ x. at + x) (sym s), subst (λ x. IsToken dot x text rest) (sym e) is)

pub found : (dot : Bool) (kind : TokenKind) (bytes text rest : List ℕ) (n : ℕ) → bytes ≡ text ++ rest → length text ≡ n → reach dot bytes ≡ n → HasForm dot (form_of kind) text → IsWorth kind text →
    (IsUnclosed bytes → ⊥) → (form_of kind ≡ Numeral → BeginsWord rest → ⊥) → Found dot kind bytes n
found dot kind bytes text rest n j s i form worth closed apart = (
  text,
  rest,
  j,
  s,
  record { form = form; worth = worth; longest = is_longest dot bytes text rest j (i ∙ sym s); closed = λ u. closed (subst IsUnclosed (sym j) u); apart = apart },
)

-- ---- openings

pub opening_is : (b : ℕ) (bs : List ℕ) (form : Form) → IsOpening (b ∷ bs) form → (is_quote b ≡ true) ⊎ ((c : ℕ) × (cs : List ℕ) × (b ≡ 60) × (bs ≡ c ∷ cs) × (c ≡ 60))
opening_is b bs Str (rest, inl e) = inl (ap is_quote (head_is b 34 bs rest e))
opening_is b bs Str (rest, inr e) = inl (ap is_quote (head_is b 39 bs rest e))
opening_is b bs Pat (rest, e) = inl (ap is_quote (head_is b 47 bs rest e))
opening_is b bs Note (rest, e) = inr (60, rest, head_is b 60 bs (60 ∷ rest) e, tail_is b 60 bs (60 ∷ rest) e, refl)
opening_is b bs Name h = absurd h
opening_is b bs TypeName h = absurd h
opening_is b bs Var h = absurd h
opening_is b bs Numeral h = absurd h
opening_is b bs (Sign mark) h = absurd h

pub not_open : (b : ℕ) (bs : List ℕ) → is_quote b ≡ false → ((c : ℕ) (cs : List ℕ) → b ≡ 60 → bs ≡ c ∷ cs → c ≡ 60 → ⊥) → IsUnclosed (b ∷ bs) → ⊥
not_open b bs q n (form, o, none) = elim (opening_is b bs form o) [
  | inl e ↦ no_clash e q
  | inr (c, cs, e, f, g) ↦ n c cs e f g
]

-- ---- names

letter_class : (b : ℕ) → is_letter b ≡ true → (is_quote b ≡ false) × (b ≡ 60 → ⊥)
letter_class b e = (grind (arith, nat_tests), λ h. true≢false (sym e ∙ ap is_letter h))

word_form : (dot : Bool) (b : ℕ) (word parts : List ℕ) (ns : List (List ℕ)) → is_letter b ≡ true → Each is_word word → AreParts ns parts → HasForm dot (form_of (word_kind (has_items ns))) ((b ∷ word) ++ parts)
word_form dot b word parts [] e h p = (e, subst (Each is_word) (sym (append-nil word) ∙ ap (λ x. word ++ x) (sym p)) h)
word_form dot b word parts (n ∷ ns) e h p = (b ∷ word, parts, n ∷ ns, refl, (e, h), (λ x. cc), p)

word_worth : (v : Bool) (text : List ℕ) → IsWorth (word_kind v) text
word_worth true text = tt
word_worth false text = tt

word_apart : (v : Bool) → form_of (word_kind v) ≡ Numeral → ⊥
word_apart true e = cc
word_apart false e = cc

pub word_found : (dot : Bool) (b : ℕ) (bs : List ℕ) → is_letter b ≡ true → Found dot (word_kind (typed bs)) (b ∷ bs) (suc (in_name bs))
word_found dot b bs e =
    let n = name_form bs in
    let c = letter_class b e in
    subst (λ v. Found dot (word_kind v) (b ∷ bs) (suc (in_name bs))) (sym n.typed_is)
    (found dot (word_kind (has_items n.names)) (b ∷ bs) ((b ∷ n.word) ++ n.parts) n.rest (suc (in_name bs)) (ap (λ x. b ∷ x) n.joined) (ap suc n.size)
    (on_true (is_letter b) (suc (in_name bs)) _ e) (word_form dot b n.word n.parts n.names e n.each n.are) (word_worth (has_items n.names) ((b ∷ n.word) ++ n.parts))
    (not_open b bs c.0 (λ _ _ h _ _. c.1 h)) (λ h _. word_apart (has_items n.names) h))

-- ---- variables

var_name : (dot : Bool) (c : ℕ) (cs : List ℕ) → is_letter c ≡ true → Found dot k.Var (37 ∷ c ∷ cs) (suc (suc (run is_word cs)))
var_name dot c cs e =
    found dot k.Var (37 ∷ c ∷ cs) (37 ∷ c ∷ take (run is_word cs) cs) (drop (run is_word cs) cs) (suc (suc (run is_word cs))) (ap (λ x. 37 ∷ c ∷ x) (sym (take-append-drop (run is_word cs) cs)))
    (ap (λ n. suc (suc n)) (run_size is_word cs)) (on_true (is_letter c) (suc (suc (run is_word cs))) 0 e) (refl, (e, run_each is_word cs)) tt (not_open 37 (c ∷ cs) refl (λ _ _ h _ _. other_byte 37 60 refl h)) (λ h _. cc)

pub var_found : (dot : Bool) (bs : List ℕ) → (var_reach bs ≡ 0 → ⊥) → Found dot k.Var (37 ∷ bs) (var_reach bs)
var_found dot [] n = absurd (n refl)
var_found dot (c ∷ cs) n = elim (tested (is_letter c)) [
  | inl e ↦ subst (λ m. Found dot k.Var (37 ∷ c ∷ cs) m) (sym (on_true (is_letter c) (suc (suc (run is_word cs))) 0 e)) (var_name dot c cs e)
  | inr e ↦ absurd (n (on_false (is_letter c) (suc (suc (run is_word cs))) 0 e))
]

-- ---- faults

white_parts : (b : ℕ) → is_blank b ≡ false → (is_white b ≡ false) × (b ≡ 35 → ⊥)
white_parts b e = elim (tested (is_white b)) [
  | inl w ↦ absurd (no_clash (ap (λ q. q || (b == 35)) w) e)
  | inr w ↦ (w, λ h. true≢false (sym (ap is_blank h) ∙ e))
]

pub bad_first : (dot : Bool) (at b : ℕ) (bs : List ℕ) → is_blank b ≡ false → reach dot (b ∷ bs) ≡ 0 → (IsUnclosed (b ∷ bs) → ⊥) → IsFault dot at (b ∷ bs) (r.BadByte at)
bad_first dot at b bs w z u = let p = white_parts b w in inl (refl, (b, bs, refl, p.0, p.1), u, no_form dot (b ∷ bs) z)

pub var_bad : (dot : Bool) (at : ℕ) (bs : List ℕ) → var_reach bs ≡ 0 → IsFault dot at (37 ∷ bs) (r.BadByte at)
var_bad dot at bs z = bad_first dot at 37 bs refl z (not_open 37 bs refl (λ _ _ h _ _. other_byte 37 60 refl h))

-- ---- texts and patterns

pub quote_class : (q : ℕ) → is_quote q ≡ true → (q ≡ 34) ⊎ ((q ≡ 39) ⊎ (q ≡ 47))
quote_class q e = elim (tested (q == 34)) [
  | inl a ↦ inl (same_byte q 34 a)
  | inr a ↦ elim (tested (q == 39)) [
    | inl b ↦ inr (inl (same_byte q 39 b))
    | inr b ↦ inr (inr (same_byte q 47 (sym (ap (λ x. x || q == 39 || q == 47) a ∙ ap (λ x. x || q == 47) b) ∙ e)))
  ]
]

closed_here : (q : ℕ) (m r : List ℕ) (n : ℕ) → q ≢ 92 → Closes q m → length m ≡ n → opened 1 (closing q false (m ++ r)) ≡ suc n
closed_here q m r n h c s = ap (opened 1) (closes_is q m r h c) ∙ one (length m) ∙ ap suc s
  where
    one : (x : ℕ) → 1 + x ≡ suc x
    one x = omega arith

str_open : (q : ℕ) (m r : List ℕ) → (q ≡ 34) ⊎ (q ≡ 39) → Closes q m → IsUnclosed (q ∷ (m ++ r)) → ⊥
str_open q m r e c (Str, o, none) = none (q ∷ m) r refl (e, c)
str_open q m r (inl e) c (Pat, (x, f), none) = other_byte 34 47 refl (sym e ∙ head_is q 47 (m ++ r) x f)
str_open q m r (inr e) c (Pat, (x, f), none) = other_byte 39 47 refl (sym e ∙ head_is q 47 (m ++ r) x f)
str_open q m r (inl e) c (Note, (x, f), none) = other_byte 34 60 refl (sym e ∙ head_is q 60 (m ++ r) (60 ∷ x) f)
str_open q m r (inr e) c (Note, (x, f), none) = other_byte 39 60 refl (sym e ∙ head_is q 60 (m ++ r) (60 ∷ x) f)
str_open q m r e c (Name, o, none) = o
str_open q m r e c (TypeName, o, none) = o
str_open q m r e c (Var, o, none) = o
str_open q m r e c (Numeral, o, none) = o
str_open q m r e c (Sign mark, o, none) = o

pat_open : (m r : List ℕ) → Closes 47 m → IsUnclosed (47 ∷ (m ++ r)) → ⊥
pat_open m r c (Str, (x, inl f), none) = other_byte 47 34 refl (head_is 47 34 (m ++ r) x f)
pat_open m r c (Str, (x, inr f), none) = other_byte 47 39 refl (head_is 47 39 (m ++ r) x f)
pat_open m r c (Pat, o, none) = none (47 ∷ m) r refl (refl, c)
pat_open m r c (Note, (x, f), none) = other_byte 47 60 refl (head_is 47 60 (m ++ r) (60 ∷ x) f)
pat_open m r c (Name, o, none) = o
pat_open m r c (TypeName, o, none) = o
pat_open m r c (Var, o, none) = o
pat_open m r c (Numeral, o, none) = o
pat_open m r c (Sign mark, o, none) = o

str_found : (dot : Bool) (q : ℕ) (m r : List ℕ) (n : ℕ) → (q ≡ 34) ⊎ (q ≡ 39) → q ≢ 92 → Closes q m → length m ≡ n → reach dot (q ∷ (m ++ r)) ≡ suc n → Found dot k.Str (q ∷ (m ++ r)) (suc n)
str_found dot q m r n e h c s i = found dot k.Str (q ∷ (m ++ r)) (q ∷ m) r (suc n) refl (ap suc s) i (e, c) tt (str_open q m r e c) (λ x _. cc)

-- patterns and marks are no numbers
pat_apart : Pat ≡ Numeral → ⊥
pat_apart e = cc

pub sign_apart : (mark : Mark) → Sign mark ≡ Numeral → ⊥
sign_apart mark e = cc

pat_found : (dot : Bool) (m r : List ℕ) (n : ℕ) → Closes 47 m → length m ≡ n → reach dot (47 ∷ (m ++ r)) ≡ suc n → Found dot k.Pat (47 ∷ (m ++ r)) (suc n)
pat_found dot m r n c s i = found dot k.Pat (47 ∷ (m ++ r)) (47 ∷ m) r (suc n) refl (ap suc s) i (refl, c) tt (pat_open m r c) (λ x _. pat_apart x)

double_quoted : (dot : Bool) (bs : List ℕ) (n : ℕ) → closing 34 false bs ≡ Some n → Found dot k.Str (34 ∷ bs) (suc n)
double_quoted dot bs n e = let f = closed_form 34 bs n (below 34 (omega arith)) e in
    subst (λ x. Found dot k.Str (34 ∷ x) (suc n)) (sym f.joined) (str_found dot 34 f.text f.rest n (inl refl) (below 34 (omega arith)) f.is f.size (closed_here 34 f.text f.rest n (below 34 (omega arith)) f.is f.size))

single_quoted : (dot : Bool) (bs : List ℕ) (n : ℕ) → closing 39 false bs ≡ Some n → Found dot k.Str (39 ∷ bs) (suc n)
single_quoted dot bs n e = let f = closed_form 39 bs n (below 39 (omega arith)) e in
    subst (λ x. Found dot k.Str (39 ∷ x) (suc n)) (sym f.joined) (str_found dot 39 f.text f.rest n (inr refl) (below 39 (omega arith)) f.is f.size (closed_here 39 f.text f.rest n (below 39 (omega arith)) f.is f.size))

slashed : (dot : Bool) (bs : List ℕ) (n : ℕ) → closing 47 false bs ≡ Some n → Found dot k.Pat (47 ∷ bs) (suc n)
slashed dot bs n e = let f = closed_form 47 bs n (below 47 (omega arith)) e in
    subst (λ x. Found dot k.Pat (47 ∷ x) (suc n)) (sym f.joined) (pat_found dot f.text f.rest n f.is f.size (closed_here 47 f.text f.rest n (below 47 (omega arith)) f.is f.size))

pub quote_found : (dot : Bool) (q : ℕ) (bs : List ℕ) (n : ℕ) → is_quote q ≡ true → closing q false bs ≡ Some n → Found dot (quote_kind q) (q ∷ bs) (suc n)
quote_found dot q bs n e f = by (quote_class q e)
  where
    by : (q ≡ 34) ⊎ ((q ≡ 39) ⊎ (q ≡ 47)) → Found dot (quote_kind q) (q ∷ bs) (suc n)
    by (inl h) = subst (λ x. Found dot (quote_kind x) (x ∷ bs) (suc n)) (sym h) (double_quoted dot bs n (subst (λ x. closing x false bs ≡ Some n) h f))
    by (inr (inl h)) = subst (λ x. Found dot (quote_kind x) (x ∷ bs) (suc n)) (sym h) (single_quoted dot bs n (subst (λ x. closing x false bs ≡ Some n) h f))
    by (inr (inr h)) = subst (λ x. Found dot (quote_kind x) (x ∷ bs) (suc n)) (sym h) (slashed dot bs n (subst (λ x. closing x false bs ≡ Some n) h f))

never_closes : (q : ℕ) (bs m r : List ℕ) → q ≢ 92 → closing q false bs ≡ None → bs ≡ m ++ r → Closes q m → ⊥
never_closes q bs m r n e j c = none-some _ (sym e ∙ ap (closing q false) j ∙ closes_is q m r n c)

unclosed_str : (q : ℕ) (bs text rest : List ℕ) → q ≢ 92 → closing q false bs ≡ None → q ∷ bs ≡ text ++ rest → HasForm false Str text → ⊥
unclosed_str q bs [] rest n e j h = h
unclosed_str q bs (b ∷ m) rest n e j (o, c) = never_closes q bs m rest n e (tail_is q b bs (m ++ rest) j) (subst (λ x. Closes x m) (sym (head_is q b bs (m ++ rest) j)) c)

unclosed_pat : (bs text rest : List ℕ) → closing 47 false bs ≡ None → 47 ∷ bs ≡ text ++ rest → HasForm false Pat text → ⊥
unclosed_pat bs [] rest e j h = h
unclosed_pat bs (b ∷ m) rest e j (o, c) = never_closes 47 bs m rest (below 47 (omega arith)) e (tail_is 47 b bs (m ++ rest) j) c

pub quote_open : (q : ℕ) (bs : List ℕ) → is_quote q ≡ true → closing q false bs ≡ None → IsUnclosed (q ∷ bs)
quote_open q bs e f = by (quote_class q e)
  where
    by : (q ≡ 34) ⊎ ((q ≡ 39) ⊎ (q ≡ 47)) → IsUnclosed (q ∷ bs)
    by (inl h) = subst (λ x. IsUnclosed (x ∷ bs)) (sym h) (Str, (bs, inl refl), λ text rest j c. unclosed_str 34 bs text rest (below 34 (omega arith)) (subst (λ x. closing x false bs ≡ None) h f) j c)
    by (inr (inl h)) = subst (λ x. IsUnclosed (x ∷ bs)) (sym h) (Str, (bs, inr refl), λ text rest j c. unclosed_str 39 bs text rest (below 39 (omega arith)) (subst (λ x. closing x false bs ≡ None) h f) j c)
    by (inr (inr h)) = subst (λ x. IsUnclosed (x ∷ bs)) (sym h) (Pat, (bs, refl), λ text rest j c. unclosed_pat bs text rest (subst (λ x. closing x false bs ≡ None) h f) j c)
