-- A token begins and ends where characters do: by its form, whose first and last byte are ASCII; by recursion on the bytes.
use Rattle.std.proofs.Common.{◌≡◌, ◌⊎◌, inl, inr, ℕ, suc, ◌+◌, ◌-◌, ◌<◌, ◌≤◌, Bool, true, List, [], ◌∷◌, ◌++◌, length, get_or, drop, refl, sym, ap, ◌∙◌, subst, arith, length-drop, ◌&&◌, true≢false, false}
use Rattle.std.specs.Prelude.{slice_range, IsUtf8, ◌==◌}
use Rattle.guard_lexer.specs.declared.token.Token.{Token}
use Rattle.guard_lexer.specs.declared.token.TokenKind.{TokenKind}
use Rattle.guard_lexer.specs.declared.token.TokenKind.TheVariants as k
use Rattle.std.specs.Str.{IsCharBoundary}
use Rattle.std.proofs.lemmas.Bool.Decides.{nat_tests}
use Rattle.std.proofs.lemmas.List.{append-nil, get_or-take, get_or-drop, length-take}
use Rattle.std.proofs.lemmas.Str.{IsCharBoundary-before_ascii, IsCharBoundary-after_ascii}
use Rattle.guard_lexer.specs.Bytes.{is_letter, is_word, is_white, Each}
use Rattle.guard_lexer.specs.Forms.{IsName, IsTypeName, AreParts, IsVar, IsStr, IsPat, IsNote, Closes, EndsNote, HasForm, form_of}
use Rattle.literal_parser.specs.code.Cuts.{IsCut, IsEdged, IsFramed, IsTokenIn, is_said}
use Rattle.literal_parser.proofs.Texts.{second_is}

-- ---- the last byte of a form

-- the last byte is ASCII
abbrev Ends : List ℕ → Type 0
Ends [] = ⊥
Ends (b ∷ []) = b < 128
Ends (b ∷ c ∷ bs) = Ends (c ∷ bs)

last_small : (bs : List ℕ) → Ends bs → get_or bs (length bs - 1) 0 < 128
last_small [] h = absurd h
last_small (b ∷ []) h = h
last_small (b ∷ c ∷ bs) h = let e : suc (length (c ∷ bs) - 1) ≡ length (b ∷ c ∷ bs) - 1 = omega arith in subst (λ i. get_or (b ∷ c ∷ bs) i 0 < 128) e (last_small (c ∷ bs) h)

edged : (b : ℕ) (bs : List ℕ) → b < 128 → Ends (b ∷ bs) → IsEdged (b ∷ bs)
edged b bs small h = record { some = omega arith; first = small; last = last_small (b ∷ bs) h }

letter_small : (b : ℕ) → is_letter b ≡ true → b < 128
letter_small b e = grind (arith, nat_tests)

word_small : (b : ℕ) → is_word b ≡ true → b < 128
word_small b e = grind (arith, nat_tests)

pub white_small : (b : ℕ) → is_white b ≡ true → b < 128
white_small b e = grind (arith, nat_tests)

behind_ends : (a bs : List ℕ) → Ends bs → Ends (a ++ bs)
behind_ends [] bs h = h
behind_ends (b ∷ []) [] h = absurd h
behind_ends (b ∷ []) (c ∷ bs) h = h
behind_ends (b ∷ c ∷ a) bs h = behind_ends (c ∷ a) bs h

words_end : (b : ℕ) (bs : List ℕ) → b < 128 → Each is_word bs → Ends (b ∷ bs)
words_end b [] small h = small
words_end b (c ∷ bs) small h = words_end c bs (word_small c h.0) h.1

name_ends : (bytes : List ℕ) → IsName bytes → Ends bytes
name_ends [] h = absurd h
name_ends (b ∷ bs) h = words_end b bs (letter_small b h.0) h.1

parts_end : (n : List ℕ) (ns : List (List ℕ)) (bytes : List ℕ) → AreParts (n ∷ ns) bytes → Ends bytes
parts_end n [] bytes (rest, e, h, none) = subst Ends (sym (e ∙ ap (λ (r : List ℕ). 58 ∷ 58 ∷ (n ++ r)) none ∙ ap (λ (r : List ℕ). 58 ∷ 58 ∷ r) (append-nil n))) (behind_ends (58 ∷ 58 ∷ []) n (name_ends n h))
parts_end n (m ∷ ns) bytes (rest, e, h, more) = subst Ends (sym e) (behind_ends (58 ∷ 58 ∷ n) rest (parts_end m ns rest more))

quote_ends : (q : ℕ) (bs : List ℕ) → q < 128 → Closes q bs → Ends bs
quote_ends q [] small h = absurd h
quote_ends q (b ∷ []) small h = subst (λ x. x < 128) (sym h) small
quote_ends q (b ∷ c ∷ bs) small (inl (e, f, h)) = behind_ends (b ∷ c ∷ []) bs (quote_ends q bs small h)
quote_ends q (b ∷ c ∷ bs) small (inr (e, f, h)) = quote_ends q (c ∷ bs) small h

-- ---- the first and the last byte

pub name_edged : (bytes : List ℕ) → IsName bytes → IsEdged bytes
name_edged [] h = absurd h
name_edged (b ∷ bs) h = edged b bs (letter_small b h.0) (words_end b bs (letter_small b h.0) h.1)

named_first : (bytes first rest : List ℕ) → bytes ≡ first ++ rest → IsName first → Ends bytes → IsEdged bytes
named_first bytes [] rest e h ends = absurd h
named_first bytes (b ∷ bs) rest e h ends = subst IsEdged (sym e) (edged b (bs ++ rest) (letter_small b h.0) (subst Ends e ends))

pub type_edged : (bytes : List ℕ) → IsTypeName bytes → IsEdged bytes
type_edged bytes (first, rest, [], e, h, some, parts) = absurd (some refl)
type_edged bytes (first, rest, n ∷ ns, e, h, some, parts) = named_first bytes first rest e h (subst Ends (sym e) (behind_ends first rest (parts_end n ns rest parts)))

pub var_edged : (bytes : List ℕ) → IsVar bytes → IsEdged bytes
var_edged [] h = absurd h
var_edged (b ∷ bs) h = edged b bs (let e = h.0 in omega arith) (behind_ends (b ∷ []) bs (name_ends bs h.1))

quote_small : (b : ℕ) → (b ≡ 34) ⊎ (b ≡ 39) → b < 128
quote_small b (inl e) = omega arith
quote_small b (inr e) = omega arith

pub str_edged : (bytes : List ℕ) → IsStr bytes → IsEdged bytes
str_edged [] h = absurd h
str_edged (b ∷ bs) h = edged b bs (quote_small b h.0) (behind_ends (b ∷ []) bs (quote_ends b bs (quote_small b h.0) h.1))

pub pat_edged : (bytes : List ℕ) → IsPat bytes → IsEdged bytes
pat_edged [] h = absurd h
pat_edged (b ∷ bs) h = edged b bs (let e = h.0 in omega arith) (behind_ends (b ∷ []) bs (quote_ends 47 bs (omega arith) h.1))

-- the last two bytes are ASCII
abbrev Shuts : List ℕ → Type 0
Shuts [] = ⊥
Shuts (b ∷ []) = ⊥
Shuts (b ∷ c ∷ []) = (b < 128) × (c < 128)
Shuts (b ∷ c ∷ d ∷ bs) = Shuts (c ∷ d ∷ bs)

note_shuts : (bs : List ℕ) → EndsNote bs → Shuts bs
note_shuts [] h = absurd h
note_shuts (b ∷ []) h = absurd h
note_shuts (b ∷ c ∷ []) h = let x = h.0 in let y = h.1 in (omega arith, omega arith)
note_shuts (b ∷ c ∷ d ∷ bs) h = note_shuts (c ∷ d ∷ bs) h.1

shuts_ends : (bs : List ℕ) → Shuts bs → Ends bs
shuts_ends [] h = absurd h
shuts_ends (b ∷ []) h = absurd h
shuts_ends (b ∷ c ∷ []) h = h.1
shuts_ends (b ∷ c ∷ d ∷ bs) h = shuts_ends (c ∷ d ∷ bs) h

shuts_long : (bs : List ℕ) → Shuts bs → 2 ≤ length bs
shuts_long [] h = absurd h
shuts_long (b ∷ []) h = absurd h
shuts_long (b ∷ c ∷ bs) h = omega arith

shut_small : (bs : List ℕ) → Shuts bs → get_or bs (length bs - 2) 0 < 128
shut_small [] h = absurd h
shut_small (b ∷ []) h = absurd h
shut_small (b ∷ c ∷ []) h = h.0
shut_small (b ∷ c ∷ d ∷ bs) h = let e : suc (length (c ∷ d ∷ bs) - 2) ≡ length (b ∷ c ∷ d ∷ bs) - 2 = omega arith in subst (λ i. get_or (b ∷ c ∷ d ∷ bs) i 0 < 128) e (shut_small (c ∷ d ∷ bs) h)

framed : (rest : List ℕ) → Shuts rest → Shuts (60 ∷ 60 ∷ rest)
framed [] h = absurd h
framed (b ∷ []) h = absurd h
framed (b ∷ c ∷ bs) h = h

pub note_framed : (bytes : List ℕ) → IsNote bytes → IsFramed bytes
note_framed bytes (rest, e, h) = subst IsFramed (sym e) (let s = note_shuts rest h in let all = framed rest s in record {
  long = let l = shuts_long rest s in omega arith;
  edges = edged 60 (60 ∷ rest) (omega arith) (shuts_ends (60 ∷ 60 ∷ rest) all);
  second = omega arith;
  shut = shut_small (60 ∷ 60 ∷ rest) all;
})

-- ---- places of a text

pub part_at : (text : List ℕ) (from to i : ℕ) → i < to - from → get_or (slice_range text from to) i 0 ≡ get_or text (from + i) 0
part_at text from to i less = get_or-take (to - from) (drop from text) i 0 less ∙ get_or-drop from text i 0

pub part_length : (text : List ℕ) (from to : ℕ) → to ≤ length text → length (slice_range text from to) ≡ to - from
part_length text from to within = omega (arith, length-take (to - from) (drop from text), length-drop from text)

pub ascii_cut : (text : List ℕ) (from to : ℕ) → IsUtf8 text → to ≤ length text → IsEdged (slice_range text from to) → IsCut text from to
ascii_cut text from to utf8 within h =
    let some = h.some in
    let long : length (slice_range text from to) ≡ to - from = part_length text from to within in
    let front : get_or text from 0 < 128 = let zero : from + 0 ≡ from = omega arith in
    subst (λ i. get_or text i 0 < 128) zero (subst (λ b. b < 128) (part_at text from to 0 (omega arith)) h.first) in
    let place : from + (to - from - 1) ≡ to - 1 = omega arith in
    let back : get_or text (to - 1) 0 < 128 = subst (λ i. get_or text i 0 < 128) place
    (subst (λ b. b < 128) (part_at text from to (to - from - 1) (omega arith)) (subst (λ n. get_or (slice_range text from to) (n - 1) 0 < 128) long h.last)) in
    let next : to - 1 + 1 ≡ to = omega arith in record {
      forward = omega arith;
      front = IsCharBoundary-before_ascii text from (omega arith) front;
      back = subst (λ i. IsCharBoundary text i) next (IsCharBoundary-after_ascii text (to - 1) utf8 (omega arith) back);
    }

-- ---- a token and its part

-- by its form, which is that of its kind
pub form_edged : (dot : Bool) (kind : TokenKind) (bytes : List ℕ) → HasForm dot (form_of kind) bytes → is_said kind ≡ true → IsEdged bytes
form_edged dot k.Name bytes h said = name_edged bytes h
form_edged dot k.TypeName bytes h said = type_edged bytes h
form_edged dot k.Var bytes h said = var_edged bytes h
form_edged dot k.Str bytes h said = str_edged bytes h
form_edged dot k.Pat bytes h said = pat_edged bytes h
form_edged dot k.Note bytes h said = (note_framed bytes h).edges
form_edged dot (k.Whole n) bytes h said = absurd (true≢false (sym said))
form_edged dot (k.Fraction d) bytes h said = absurd (true≢false (sym said))
form_edged dot (k.Mark mark) bytes h said = absurd (true≢false (sym said))

pub form_framed : (dot : Bool) (kind : TokenKind) (bytes : List ℕ) → HasForm dot (form_of kind) bytes → kind ≡ k.Note → IsFramed bytes
form_framed dot kind bytes h e = note_framed bytes (subst (λ (c : TokenKind). HasForm dot (form_of c) bytes) e h)

-- a kind that says something is given by name
pub said_edged : (text : List ℕ) (t : Token) (kind : TokenKind) → IsTokenIn text t → t.kind ≡ kind → is_said kind ≡ true → IsEdged (slice_range text t.from t.to)
said_edged text t kind h e said = h.edges (ap is_said e ∙ said)

pub said_cut : (text : List ℕ) (t : Token) (kind : TokenKind) → IsUtf8 text → IsTokenIn text t → t.kind ≡ kind → is_said kind ≡ true → IsCut text t.from t.to
said_cut text t kind utf8 h e said = ascii_cut text t.from t.to utf8 h.within (said_edged text t kind h e said)

pub quoted_edged : (text : List ℕ) (t : Token) → IsTokenIn text t → (t.kind ≡ k.Str) ⊎ (t.kind ≡ k.Pat) → IsEdged (slice_range text t.from t.to)
quoted_edged text t h (inl e) = said_edged text t k.Str h e refl
quoted_edged text t h (inr e) = said_edged text t k.Pat h e refl

pub quoted_cut : (text : List ℕ) (t : Token) → IsUtf8 text → IsTokenIn text t → (t.kind ≡ k.Str) ⊎ (t.kind ≡ k.Pat) → IsCut text t.from t.to
quoted_cut text t utf8 h e = ascii_cut text t.from t.to utf8 h.within (quoted_edged text t h e)

-- ---- places within a part

-- behind the sign of a variable, and behind a quote
pub behind_first : (bytes : List ℕ) → IsUtf8 bytes → IsEdged bytes → IsCharBoundary bytes 1
behind_first bytes utf8 h = IsCharBoundary-after_ascii bytes 0 utf8 h.some h.first

pub behind_signs : (bytes : List ℕ) → IsUtf8 bytes → IsFramed bytes → IsCharBoundary bytes 2
behind_signs bytes utf8 h = let l = h.long in IsCharBoundary-after_ascii bytes 1 utf8 (omega arith) h.second

pub before_signs : (bytes : List ℕ) → IsFramed bytes → IsCharBoundary bytes (length bytes - 2)
before_signs bytes h = let l = h.long in IsCharBoundary-before_ascii bytes (length bytes - 2) (omega arith) h.shut

-- behind white space, and before it
pub behind_white : (bytes : List ℕ) (n : ℕ) → IsUtf8 bytes → n ≤ length bytes → (0 < n → get_or bytes (n - 1) 0 < 128) → 0 < n → IsCharBoundary bytes n
behind_white bytes n utf8 within small some = let next : n - 1 + 1 ≡ n = omega arith in
    subst (λ i. IsCharBoundary bytes i) next (IsCharBoundary-after_ascii bytes (n - 1) utf8 (omega arith) (small some))

pub before_white : (bytes : List ℕ) (n : ℕ) → n ≤ length bytes → (n < length bytes → get_or bytes n 0 < 128) → IsCharBoundary bytes n
before_white bytes n within small = (within, λ less high. let l = small less in absurd (omega arith))

-- a backslash before its quote, and the quote
escape_is : (a b q : ℕ) → (a == 92 && b == q) ≡ true → (a ≡ 92) × (b ≡ q)
escape_is a b q e = by (a == 92) refl where
  by : (v : Bool) → (a == 92) ≡ v → (a ≡ 92) × (b ≡ q)
  by true h = (grind (arith, nat_tests), second_is a b q e)
  by false h = absurd (true≢false (sym e ∙ ap (λ v. v && b == q) h))

pub before_escape : (bytes : List ℕ) (at : ℕ) → at + 1 < length bytes → (get_or bytes at 0 == 92 && get_or bytes (at + 1) 0 == get_or bytes 0 0) ≡ true → IsCharBoundary bytes at
before_escape bytes at less e = let h = (escape_is (get_or bytes at 0) (get_or bytes (at + 1) 0) (get_or bytes 0 0) e).0 in IsCharBoundary-before_ascii bytes at (omega arith) (omega arith)

pub before_quote : (bytes : List ℕ) (at : ℕ) → get_or bytes 0 0 < 128 → at + 1 < length bytes → (get_or bytes at 0 == 92 && get_or bytes (at + 1) 0 == get_or bytes 0 0) ≡ true → IsCharBoundary bytes (at + 1)
before_quote bytes at small less e = let h = (escape_is (get_or bytes at 0) (get_or bytes (at + 1) 0) (get_or bytes 0 0) e).1 in IsCharBoundary-before_ascii bytes (at + 1) less (omega arith)

-- the closing quote, or the end
pub before_end : (bytes : List ℕ) (at : ℕ) → IsEdged bytes → at ≤ length bytes → length bytes ≤ at + 1 → IsCharBoundary bytes at
before_end bytes at h within far = before_white bytes at within (λ less. let e : length bytes - 1 ≡ at = omega arith in subst (λ i. get_or bytes i 0 < 128) e h.last)
