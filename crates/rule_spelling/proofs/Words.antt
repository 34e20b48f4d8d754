-- Texts, patterns, keywords, variables and notes are read from their spellings.
use Rattle.std.proofs.Common.{◌≡◌, ◌≢◌, ℕ, suc, ◌+◌, ◌-◌, ◌≤◌, Bool, true, false, List, [], ◌∷◌, ◌++◌, Some, length, take, refl, sym, ap, ◌∙◌, subst, arith, inl, inr, ◌&&◌, append_assoc, length-append}
use Rattle.std.specs.Prelude.{◌==◌, slice_range, codes}
use Rattle.std.specs.List.{list_all}
use Rattle.std.proofs.lemmas.Bool.{true≢false}
use Rattle.std.proofs.lemmas.List.{take_at, append-nil}
use Rattle.guard_lexer.specs.declared.token.TokenKind.TheVariants as k
use Rattle.guard_lexer.specs.Bytes.{is_letter, is_white, is_word, Each}
use Rattle.guard_lexer.specs.Forms.{IsName, EndsNote, HasForm, Name, Var, Str, Pat, Note}
use Rattle.guard_lexer.proofs.Lists.{tested, other_byte, is_byte, on_true, on_false}
use Rattle.guard_lexer.proofs.Reaches.{below}
use Rattle.literal_parser.specs.declared.keyword.Keyword.{Keyword}
use Rattle.literal_parser.specs.declared.keyword.Keyword.TheVariants as kw
use Rattle.literal_parser.specs.Lexemes.{front_trimmed, back_trimmed, note_within, keyword_of, name_word, word_of}
use Rattle.literal_parser.specs.Lexemes as word
use Rattle.literal_parser.proofs.Texts.{back_white}
use Rattle.rule_spelling.specs.Spelling.{ends_in_backslash, quoted, pattern_text}
use Rattle.rule_spelling.specs.code.Pieces.{keyword_text, note_spelling, closes_note}
use Rattle.rule_spelling.proofs.NumeralEnds.{neither}
use Rattle.rule_spelling.proofs.Quotes.{closes, reads}

-- ---- texts and patterns

pub text_word : (dot : Bool) (text : List ℕ) → ends_in_backslash text ≡ false → HasForm dot Str (quoted text) × (word_of k.Str (quoted text) ≡ word.Str text)
text_word dot text e = ((inl refl, closes 34 text (below 34 (omega arith)) e), ap (λ x. word.Str x) (reads 34 text (below 34 (omega arith)) e))

pub pattern_word : (dot : Bool) (text : List ℕ) → ends_in_backslash text ≡ false → HasForm dot Pat (pattern_text text) × (word_of k.Pat (pattern_text text) ≡ word.Pat text)
pattern_word dot text e = ((refl, closes 47 text (below 47 (omega arith)) e), ap (λ x. word.Pat x) (reads 47 text (below 47 (omega arith)) e))

-- ---- keywords

each : (bytes : List ℕ) → list_all is_word bytes ≡ true → Each is_word bytes
each [] e = tt
each (b ∷ bytes) e = elim (tested (is_word b)) [
  | inl t ↦ (t, each bytes (sym (ap (λ v. v && list_all is_word bytes) t) ∙ e))
  | inr t ↦ absurd (true≢false (sym e ∙ ap (λ v. v && list_all is_word bytes) t))
]

-- the test of a name
abbrev pub is_name : List ℕ → Bool
is_name [] = false
is_name (b ∷ bytes) = is_letter b && list_all is_word bytes

pub named : (bytes : List ℕ) → is_name bytes ≡ true → IsName bytes
named [] e = absurd (true≢false (sym e))
named (b ∷ bytes) e = elim (tested (is_letter b)) [
  | inl t ↦ (t, each bytes (sym (ap (λ v. v && list_all is_word bytes) t) ∙ e))
  | inr t ↦ absurd (true≢false (sym e ∙ ap (λ v. v && list_all is_word bytes) t))
]

pub keyword_name : (keyword : Keyword) → IsName (keyword_text keyword)
keyword_name kw.Let = named (codes "let") refl
keyword_name kw.Rule = named (codes "rule") refl
keyword_name kw.True = named (codes "true") refl
keyword_name kw.False = named (codes "false") refl
keyword_name kw.Null = named (codes "null") refl
keyword_name kw.When = named (codes "when") refl
keyword_name kw.Some = named (codes "some") refl
keyword_name kw.Or = named (codes "or") refl
keyword_name kw.Not = named (codes "not") refl
keyword_name kw.Keys = named (codes "keys") refl
keyword_name kw.This = named (codes "this") refl
keyword_name kw.In = named (codes "IN") refl
keyword_name kw.Exists = named (codes "exists") refl
keyword_name kw.Empty = named (codes "empty") refl
keyword_name kw.IsString = named (codes "is_string") refl
keyword_name kw.IsList = named (codes "is_list") refl
keyword_name kw.IsStruct = named (codes "is_struct") refl
keyword_name kw.IsBool = named (codes "is_bool") refl
keyword_name kw.IsInt = named (codes "is_int") refl
keyword_name kw.IsFloat = named (codes "is_float") refl
keyword_name kw.IsNull = named (codes "is_null") refl

pub keyword_found : (keyword : Keyword) → keyword_of (keyword_text keyword) ≡ Some keyword
unfolding keyword_of
keyword_found kw.Let = refl
keyword_found kw.Rule = refl
keyword_found kw.True = refl
keyword_found kw.False = refl
keyword_found kw.Null = refl
keyword_found kw.When = refl
keyword_found kw.Some = refl
keyword_found kw.Or = refl
keyword_found kw.Not = refl
keyword_found kw.Keys = refl
keyword_found kw.This = refl
keyword_found kw.In = refl
keyword_found kw.Exists = refl
keyword_found kw.Empty = refl
keyword_found kw.IsString = refl
keyword_found kw.IsList = refl
keyword_found kw.IsStruct = refl
keyword_found kw.IsBool = refl
keyword_found kw.IsInt = refl
keyword_found kw.IsFloat = refl
keyword_found kw.IsNull = refl

pub keyword_word : (dot : Bool) (keyword : Keyword) → HasForm dot Name (keyword_text keyword) × (word_of k.Name (keyword_text keyword) ≡ word.Reserved keyword (keyword_text keyword))
keyword_word dot keyword = (keyword_name keyword, ap (λ o. name_word o (keyword_text keyword)) (keyword_found keyword))

-- ---- variables

pub whole : (n : ℕ) (bytes : List ℕ) → n ≡ length bytes → take n bytes ≡ bytes
whole n bytes e = ap (take n) (sym (append-nil bytes)) ∙ take_at bytes [] n (sym e)

pub variable_word : (dot : Bool) (name : List ℕ) → IsName name → HasForm dot Var (37 ∷ name) × (word_of k.Var (37 ∷ name) ≡ word.Var name)
variable_word dot name h = ((refl, h), ap (λ x. word.Var x) (whole (suc (length name) - 1) name (omega arith)))

-- ---- notes

note_more : (b c : ℕ) (rest : List ℕ) → (b ≡ 62 → c ≢ 62) → EndsNote (c ∷ rest) → EndsNote (b ∷ c ∷ rest)
note_more b c [] d h = absurd h
note_more b c (e ∷ rest) d h = (d, h)

note_ends : (b : ℕ) (text : List ℕ) → closes_note (b ∷ text) ≡ false → EndsNote (b ∷ (text ++ (32 ∷ 62 ∷ 62 ∷ [])))
note_ends b [] e = ((λ h. other_byte 32 62 refl), ((λ h. absurd (other_byte 32 62 refl h)), (refl, refl)))
note_ends b (c ∷ text) e =
    let n = neither (b == 62 && c == 62) (closes_note (c ∷ text)) e in
    note_more b c (text ++ (32 ∷ 62 ∷ 62 ∷ [])) (λ h d. true≢false (sym (ap (λ v. v && c == 62) (is_byte b 62 h) ∙ is_byte c 62 d) ∙ n.0)) (note_ends c text n.1)

blank_more : (text : List ℕ) → closes_note text ≡ false → closes_note (32 ∷ text) ≡ false
blank_more [] e = refl
blank_more (c ∷ text) e = e

-- a text without white space in front has none in front of what stands behind it
shorter : (bytes : List ℕ) (b : ℕ) (text : List ℕ) → front_trimmed bytes ≡ bytes → bytes ≡ b ∷ text → is_white b ≡ false
shorter bytes b text e f = elim (tested (is_white b)) [
  | inl t ↦ absurd (not_shorter text (sym (on_true (is_white b) (front_trimmed text) (b ∷ text) t) ∙ ap front_trimmed (sym f) ∙ e ∙ f))
  | inr t ↦ t
]
  where
    open_size : (text : List ℕ) → length (front_trimmed text) ≤ length text
    open_size [] = omega arith
    open_size (c ∷ text) = elim (tested (is_white c)) [
      | inl t ↦ subst (λ x. length x ≤ suc (length text)) (sym (on_true (is_white c) (front_trimmed text) (c ∷ text) t)) (let i = open_size text in omega arith)
      | inr t ↦ subst (λ x. length x ≤ suc (length text)) (sym (on_false (is_white c) (front_trimmed text) (c ∷ text) t)) (omega arith)
    ]

    not_shorter : (text : List ℕ) → front_trimmed text ≡ b ∷ text → ⊥
    not_shorter text h = let i = open_size text in let n : length (front_trimmed text) ≡ suc (length text) = ap (λ (x : List ℕ). length x) h in omega arith

-- the same bytes with a space in front and behind
trimmed : (text : List ℕ) → front_trimmed text ≡ text → back_trimmed text ≡ text → back_trimmed (front_trimmed (32 ∷ (text ++ (32 ∷ [])))) ≡ text
trimmed [] f e = refl
trimmed (b ∷ text) f e =
    ap back_trimmed (on_false (is_white b) (front_trimmed (text ++ (32 ∷ []))) (b ∷ (text ++ (32 ∷ []))) (shorter (b ∷ text) b text f refl))
    ∙ back_white (b ∷ text) 32 refl ∙ e

inner : (text : List ℕ) → slice_range (note_spelling text) 2 (length (note_spelling text) - 2) ≡ 32 ∷ (text ++ (32 ∷ []))
inner text =
    let size : length (text ++ (32 ∷ 62 ∷ 62 ∷ [])) ≡ length text + 3 = length-append text (32 ∷ 62 ∷ 62 ∷ []) in
    let short : length (text ++ (32 ∷ [])) ≡ length text + 1 = length-append text (32 ∷ []) in
    let joined : text ++ (32 ∷ 62 ∷ 62 ∷ []) ≡ (text ++ (32 ∷ [])) ++ (62 ∷ 62 ∷ []) = sym (append_assoc text (32 ∷ []) (62 ∷ 62 ∷ [])) in
    let n : length (note_spelling text) - 2 - 2 ≡ suc (length (text ++ (32 ∷ []))) = omega arith in
    ap (λ i. take i (32 ∷ (text ++ (32 ∷ 62 ∷ 62 ∷ [])))) n
    ∙ ap (λ x. take (suc (length (text ++ (32 ∷ [])))) (32 ∷ x)) joined
    ∙ ap (λ x. 32 ∷ x) (take_at (text ++ (32 ∷ [])) (62 ∷ 62 ∷ []) (length (text ++ (32 ∷ []))) refl)

pub note_is : (dot : Bool) (text : List ℕ) → closes_note text ≡ false → front_trimmed text ≡ text → back_trimmed text ≡ text → HasForm dot Note (note_spelling text) × (word_of k.Note (note_spelling text) ≡ word.Note text)
note_is dot text c f e =
    ((32 ∷ (text ++ (32 ∷ 62 ∷ 62 ∷ [])), refl, note_ends 32 text (blank_more text c)), ap (λ x. word.Note (back_trimmed (front_trimmed x))) (inner text) ∙ ap (λ x. word.Note x) (trimmed text f e))
