-- What the lexemes of a text have can be written again; by induction on its tokens.
use Rattle.std.proofs.Common.{◌≡◌, ℕ, zero, suc, ◌-◌, ◌^◌, ◌<◌, ◌≤◌, Bool, true, false, List, [], ◌∷◌, ◌++◌, length, map, take, drop, Option, Some, None, refl, sym, ap, ◌∙◌, subst, arith, inl, inr, pos, negsuc, ℤ}
use Rattle.std.specs.Prelude.{◌==◌, slice_range, slice_index_or, FitsSigned, nat_lt, codes, if◌then◌else◌, ◌||◌}
use Rattle.std.specs.Str.{bytes_eq}
use mir.Syntax.{w64}
use Rattle.std.proofs.lemmas.Bool.{true≢false}
use Rattle.std.proofs.lemmas.Bool.Decides.{nat_tests}
use Rattle.std.proofs.lemmas.List.{take_at, drop_at, drop-drop}
use Rattle.decimals.specs.declared.decimal.Num.TheVariants as num
use Rattle.decimals.specs.Number.{is_digit}
use Rattle.doc_values.specs.Tree.{Label}
use Rattle.guard_lexer.specs.declared.token.Mark.{Mark}
use Rattle.guard_lexer.specs.declared.token.Mark.TheVariants as m
use Rattle.guard_lexer.specs.declared.token.LexRefusal.{LexRefusal}
use Rattle.guard_lexer.specs.declared.token.Token.{Token}
use Rattle.guard_lexer.specs.declared.token.TokenKind.{TokenKind}
use Rattle.guard_lexer.specs.declared.token.TokenKind.TheVariants as k
use Rattle.guard_lexer.specs.Bytes.{is_word, Each}
use Rattle.guard_lexer.specs.Forms.{IsName, IsTypeName, HasForm, IsWorth, form_of}
use Rattle.guard_lexer.specs.Lexes.{Takes, Reads, Starts, IsTokenList, is_dot}
use Rattle.literal_parser.specs.declared.keyword.Keyword.{Keyword}
use Rattle.literal_parser.specs.declared.keyword.Keyword.TheVariants as kw
use Rattle.literal_parser.specs.Forms.{word_form, name_form, mark_form, keyword_form, whole_form, is_index_number, is_name, is_rule_name, is_any_name, is_type_name, is_var, is_index, is_note, is_key, is_first_key, text_in, magnitude, whole_in, number_in}
use Rattle.literal_parser.specs.Lexemes.{Word, Name, Reserved, TypeName, Var, Str, Pat, Whole, Fraction, Note, Sign, End, Lexeme, keyword_of, name_word, word_of, lexeme_of, lexemes, ending}
use Rattle.literal_parser.specs.Literal.{constant_kind, scalar_kind, scalar_text, scalar}
use Rattle.rule_spelling.specs.code.Pieces.{IsInRange, IsNoted}
use Rattle.rule_spelling.proofs.MeantWords.{text_meant, pattern_meant, note_meant, variable_meant, number_meant}
use Rattle.rule_printer.specs.code.Spellable.{IsKey, IsValue}

abbrev pub IsSound : Word → Type 0
IsSound (Name text) = IsName text
IsSound (Reserved keyword text) = IsName text
IsSound (TypeName text) = IsTypeName text
IsSound (Var text) = IsName text
IsSound (Str text) = IsKey text
IsSound (Pat text) = IsKey text
IsSound (Whole n) = IsInRange (num.Whole n)
IsSound (Fraction d) = IsInRange (num.Fraction d)
IsSound (Note text) = IsNoted text
IsSound (Sign mark) = Unit {0}
IsSound End = Unit {0}

-- ---- by the token's form

name_sound : (o : Option Keyword) (text : List ℕ) → IsName text → IsSound (name_word o text)
name_sound None text h = h
name_sound (Some keyword) text h = h

word_sound : (dot : Bool) (kind : TokenKind) (bytes : List ℕ) → HasForm dot (form_of kind) bytes → IsWorth kind bytes → IsSound (word_of kind bytes)
word_sound dot k.Name bytes h w = name_sound (keyword_of bytes) bytes h
word_sound dot k.TypeName bytes h w = h
word_sound dot k.Var bytes h w = variable_meant dot bytes h
word_sound dot k.Str bytes h w = text_meant dot bytes h
word_sound dot k.Pat bytes h w = pattern_meant dot bytes h
word_sound dot (k.Whole n) bytes h w = number_meant (num.Whole n) bytes w
word_sound dot (k.Fraction d) bytes h w = number_meant (num.Fraction d) bytes w
word_sound dot k.Note bytes h w = note_meant dot bytes h
word_sound dot (k.Mark mark) bytes h w = tt

-- ---- token by token

module _ (text : List ℕ) where
  module _ (dot : Bool) (at : ℕ) (bytes : List ℕ) (t : Token) (rest : List ℕ) (stands : drop at text ≡ bytes) (h : Takes dot at bytes t rest) where
    here : drop t.from text ≡ h.text ++ rest
    here = ap (λ n. drop n text) h.from ∙ sym (drop-drop (length h.gap) at text) ∙ ap (drop (length h.gap)) (stands ∙ h.joined) ∙ drop_at h.gap (h.text ++ rest) (length h.gap) refl

    part : slice_range text t.from t.to ≡ h.text
    part = let to = h.to in ap (take (t.to - t.from)) here ∙ take_at h.text rest (t.to - t.from) (let l : length h.text ≡ t.to - t.from = omega arith in l)

    behind : drop t.to text ≡ rest
    behind = ap (λ n. drop n text) h.to ∙ sym (drop-drop (length h.text) t.from text) ∙ ap (drop (length h.text)) here ∙ drop_at h.text rest (length h.text) refl

    token_sound : IsSound (lexeme_of text t).word
    token_sound = subst (λ x. IsSound (word_of t.kind x)) (sym part) (word_sound dot t.kind h.text h.is.form h.is.worth)

  reads_sound : (dot : Bool) (at : ℕ) (bytes : List ℕ) (ts : List Token) (end : Option LexRefusal) → drop at text ≡ bytes → Reads dot at bytes ts end → (i : ℕ) (other : Lexeme) → IsSound other.word
      → IsSound (slice_index_or (map (lexeme_of text) ts) i other).word
  reads_sound dot at bytes [] end stands reads zero other o = o
  reads_sound dot at bytes [] end stands reads (suc i) other o = o
  reads_sound dot at bytes (t ∷ ts) end stands (rest, h, more) zero other o = token_sound dot at bytes t rest stands h
  reads_sound dot at bytes (t ∷ ts) end stands (rest, h, more) (suc i) other o = reads_sound (is_dot t.kind) t.to rest ts end (behind dot at bytes t rest stands h) more i other o

  starts_at : (at : ℕ) (bytes : List ℕ) → Starts text at bytes → drop at text ≡ bytes
  starts_at at bytes (inl (a, e)) = ap (λ n. drop n text) a ∙ ap (drop 3) e
  starts_at at bytes (inr (a, e, none)) = ap (λ n. drop n text) a ∙ e

pub lexeme_sound : (text : List ℕ) (tokens : List Token) → IsTokenList text tokens → (i : ℕ) → IsSound (lexemes text tokens i).word
lexeme_sound text tokens (at, bytes, starts, reads) i = reads_sound text false at bytes tokens None (starts_at text at bytes starts) reads i (ending text) tt

-- ---- what a test of a lexeme says of it

mark_range : (mark : Mark) → (10 ≤ mark_form mark) × (mark_form mark ≤ 29)
mark_range m.LBrace = (omega arith, omega arith)
mark_range m.RBrace = (omega arith, omega arith)
mark_range m.LParen = (omega arith, omega arith)
mark_range m.RParen = (omega arith, omega arith)
mark_range m.LBracket = (omega arith, omega arith)
mark_range m.RBracket = (omega arith, omega arith)
mark_range m.Comma = (omega arith, omega arith)
mark_range m.Bar = (omega arith, omega arith)
mark_range m.Dot = (omega arith, omega arith)
mark_range m.Star = (omega arith, omega arith)
mark_range m.Colon = (omega arith, omega arith)
mark_range m.Equals = (omega arith, omega arith)
mark_range m.Define = (omega arith, omega arith)
mark_range m.Same = (omega arith, omega arith)
mark_range m.Differs = (omega arith, omega arith)
mark_range m.Bang = (omega arith, omega arith)
mark_range m.Less = (omega arith, omega arith)
mark_range m.LessEq = (omega arith, omega arith)
mark_range m.Greater = (omega arith, omega arith)
mark_range m.GreaterEq = (omega arith, omega arith)

keyword_range : (keyword : Keyword) → (30 ≤ keyword_form keyword) × (keyword_form keyword ≤ 50)
keyword_range kw.Let = (omega arith, omega arith)
keyword_range kw.Rule = (omega arith, omega arith)
keyword_range kw.True = (omega arith, omega arith)
keyword_range kw.False = (omega arith, omega arith)
keyword_range kw.Null = (omega arith, omega arith)
keyword_range kw.When = (omega arith, omega arith)
keyword_range kw.Some = (omega arith, omega arith)
keyword_range kw.Or = (omega arith, omega arith)
keyword_range kw.Not = (omega arith, omega arith)
keyword_range kw.Keys = (omega arith, omega arith)
keyword_range kw.This = (omega arith, omega arith)
keyword_range kw.In = (omega arith, omega arith)
keyword_range kw.Exists = (omega arith, omega arith)
keyword_range kw.Empty = (omega arith, omega arith)
keyword_range kw.IsString = (omega arith, omega arith)
keyword_range kw.IsList = (omega arith, omega arith)
keyword_range kw.IsStruct = (omega arith, omega arith)
keyword_range kw.IsBool = (omega arith, omega arith)
keyword_range kw.IsInt = (omega arith, omega arith)
keyword_range kw.IsFloat = (omega arith, omega arith)
keyword_range kw.IsNull = (omega arith, omega arith)

clash : (b : Bool) → b ≡ true → b ≡ false → ⊥
clash b e f = true≢false (sym e ∙ f)

whole_no : (f : ℕ → Bool) (n : ℤ) → f 6 ≡ false → f 9 ≡ false → f (whole_form n) ≡ true → ⊥
whole_no f n six nine e = by (is_index_number n) e
  where
    by : (v : Bool) → f (if v then 6 else 9) ≡ true → ⊥
    by true e = clash (f 6) e six
    by false e = clash (f 9) e nine

-- a test that no mark, and one that no keyword passes
abbrev NoMark : (ℕ → Bool) → Type 0
NoMark f = (n : ℕ) → 10 ≤ n → n ≤ 29 → f n ≡ false

abbrev NoKeyword : (ℕ → Bool) → Type 0
NoKeyword f = (n : ℕ) → 30 ≤ n → n ≤ 50 → f n ≡ false

mark_no : (f : ℕ → Bool) → NoMark f → (mark : Mark) → f (mark_form mark) ≡ true → ⊥
mark_no f none mark e = let r = mark_range mark in clash (f (mark_form mark)) e (none (mark_form mark) r.0 r.1)

keyword_no : (f : ℕ → Bool) → NoKeyword f → (keyword : Keyword) → f (keyword_form keyword) ≡ true → ⊥
keyword_no f none keyword e = let r = keyword_range keyword in clash (f (keyword_form keyword)) e (none (keyword_form keyword) r.0 r.1)

no_mark_name : NoMark is_name
no_mark_name n low high = grind (arith, nat_tests)

no_mark_any : NoMark is_any_name
no_mark_any n low high = grind (arith, nat_tests)

no_keyword_name : NoKeyword is_name
no_keyword_name n low high = grind (arith, nat_tests)

no_mark_type : NoMark is_type_name
no_mark_type n low high = grind (arith, nat_tests)

no_keyword_type : NoKeyword is_type_name
no_keyword_type n low high = grind (arith, nat_tests)

no_mark_var : NoMark is_var
no_mark_var n low high = grind (arith, nat_tests)

no_keyword_var : NoKeyword is_var
no_keyword_var n low high = grind (arith, nat_tests)

no_mark_note : NoMark is_note
no_mark_note n low high = grind (arith, nat_tests)

no_keyword_note : NoKeyword is_note
no_keyword_note n low high = grind (arith, nat_tests)

no_mark_key : NoMark is_key
no_mark_key n low high = grind (arith, nat_tests)

no_mark_first : NoMark is_first_key
no_mark_first n low high = grind (arith, nat_tests)

no_keyword_first : NoKeyword is_first_key
no_keyword_first n low high = grind (arith, nat_tests)

name_no : (f : ℕ → Bool) (text : List ℕ) → f 1 ≡ false → f 60 ≡ false → f 61 ≡ false → f (name_form text) ≡ true → ⊥
name_no f text one r default e = by (bytes_eq text (codes "r")) (bytes_eq text (codes "default")) e
  where
    by : (v w : Bool) → f (if v then 60 else (if w then 61 else 1)) ≡ true → ⊥
    by true w e = clash (f 60) e r
    by false true e = clash (f 61) e default
    by false false e = clash (f 1) e one

pub name_has : (w : Word) → IsSound w → is_name (word_form w) ≡ true → IsName (text_in w)
name_has (Name text) h e = h
name_has (Reserved keyword text) h e = absurd (keyword_no is_name no_keyword_name keyword e)
name_has (TypeName text) h e = absurd cc
name_has (Var text) h e = absurd cc
name_has (Str text) h e = absurd cc
name_has (Pat text) h e = absurd cc
name_has (Whole n) h e = absurd (whole_no is_name n refl refl e)
name_has (Fraction d) h e = absurd cc
name_has (Note text) h e = absurd cc
name_has (Sign mark) h e = absurd (mark_no is_name no_mark_name mark e)
name_has End h e = absurd cc

pub any_name_has : (w : Word) → IsSound w → is_any_name (word_form w) ≡ true → IsName (text_in w)
any_name_has (Name text) h e = h
any_name_has (Reserved keyword text) h e = h
any_name_has (TypeName text) h e = absurd cc
any_name_has (Var text) h e = absurd cc
any_name_has (Str text) h e = absurd cc
any_name_has (Pat text) h e = absurd cc
any_name_has (Whole n) h e = absurd (whole_no is_any_name n refl refl e)
any_name_has (Fraction d) h e = absurd cc
any_name_has (Note text) h e = absurd cc
any_name_has (Sign mark) h e = absurd (mark_no is_any_name no_mark_any mark e)
any_name_has End h e = absurd cc

pub type_has : (w : Word) → IsSound w → is_type_name (word_form w) ≡ true → IsTypeName (text_in w)
type_has (Name text) h e = absurd (name_no is_type_name text refl refl refl e)
type_has (Reserved keyword text) h e = absurd (keyword_no is_type_name no_keyword_type keyword e)
type_has (TypeName text) h e = h
type_has (Var text) h e = absurd cc
type_has (Str text) h e = absurd cc
type_has (Pat text) h e = absurd cc
type_has (Whole n) h e = absurd (whole_no is_type_name n refl refl e)
type_has (Fraction d) h e = absurd cc
type_has (Note text) h e = absurd cc
type_has (Sign mark) h e = absurd (mark_no is_type_name no_mark_type mark e)
type_has End h e = absurd cc

pub variable_has : (w : Word) → IsSound w → is_var (word_form w) ≡ true → IsName (text_in w)
variable_has (Name text) h e = absurd (name_no is_var text refl refl refl e)
variable_has (Reserved keyword text) h e = absurd (keyword_no is_var no_keyword_var keyword e)
variable_has (TypeName text) h e = absurd cc
variable_has (Var text) h e = h
variable_has (Str text) h e = absurd cc
variable_has (Pat text) h e = absurd cc
variable_has (Whole n) h e = absurd (whole_no is_var n refl refl e)
variable_has (Fraction d) h e = absurd cc
variable_has (Note text) h e = absurd cc
variable_has (Sign mark) h e = absurd (mark_no is_var no_mark_var mark e)
variable_has End h e = absurd cc

pub note_has : (w : Word) → IsSound w → is_note (word_form w) ≡ true → IsNoted (text_in w)
note_has (Name text) h e = absurd (name_no is_note text refl refl refl e)
note_has (Reserved keyword text) h e = absurd (keyword_no is_note no_keyword_note keyword e)
note_has (TypeName text) h e = absurd cc
note_has (Var text) h e = absurd cc
note_has (Str text) h e = absurd cc
note_has (Pat text) h e = absurd cc
note_has (Whole n) h e = absurd (whole_no is_note n refl refl e)
note_has (Fraction d) h e = absurd cc
note_has (Note text) h e = h
note_has (Sign mark) h e = absurd (mark_no is_note no_mark_note mark e)
note_has End h e = absurd cc

rule_is_name : (n : ℕ) → is_rule_name n ≡ true → is_name n ≡ true
rule_is_name n e = grind (arith, nat_tests)

pub rule_name_has : (w : Word) → IsSound w → is_rule_name (word_form w) ≡ true → IsName (text_in w)
rule_name_has w h e = name_has w h (rule_is_name (word_form w) e)

-- ---- keys

word_key : (bytes : List ℕ) → Each is_word bytes → IsKey bytes
word_key [] h = refl
word_key (b ∷ []) (e, h) = grind (arith, nat_tests)
word_key (b ∷ c ∷ bytes) (e, h) = word_key (c ∷ bytes) h

name_key : (bytes : List ℕ) → IsName bytes → IsKey bytes
name_key [] h = absurd h
name_key (b ∷ bytes) (l, h) = word_key (b ∷ bytes) (ap (λ v. v || is_digit b) l, h)

pub key_has : (w : Word) → IsSound w → is_key (word_form w) ≡ true → IsKey (text_in w)
key_has (Name text) h e = name_key text h
key_has (Reserved keyword text) h e = name_key text h
key_has (TypeName text) h e = absurd cc
key_has (Var text) h e = absurd cc
key_has (Str text) h e = h
key_has (Pat text) h e = absurd cc
key_has (Whole n) h e = absurd (whole_no is_key n refl refl e)
key_has (Fraction d) h e = absurd cc
key_has (Note text) h e = absurd cc
key_has (Sign mark) h e = absurd (mark_no is_key no_mark_key mark e)
key_has End h e = absurd cc

pub first_key_has : (w : Word) → IsSound w → is_first_key (word_form w) ≡ true → IsKey (text_in w)
first_key_has (Name text) h e = name_key text h
first_key_has (Reserved keyword text) h e = absurd (keyword_no is_first_key no_keyword_first keyword e)
first_key_has (TypeName text) h e = absurd cc
first_key_has (Var text) h e = absurd cc
first_key_has (Str text) h e = h
first_key_has (Pat text) h e = absurd cc
first_key_has (Whole n) h e = absurd (whole_no is_first_key n refl refl e)
first_key_has (Fraction d) h e = absurd cc
first_key_has (Note text) h e = absurd cc
first_key_has (Sign mark) h e = absurd (mark_no is_first_key no_mark_first mark e)
first_key_has End h e = absurd cc

-- ---- numbers

zero_fits : FitsSigned w64 (pos 0)
zero_fits = record { sfits = omega arith }

pub number_has : (w : Word) → IsSound w → IsInRange (number_in w)
number_has (Name text) h = zero_fits
number_has (Reserved keyword text) h = zero_fits
number_has (TypeName text) h = zero_fits
number_has (Var text) h = zero_fits
number_has (Str text) h = zero_fits
number_has (Pat text) h = zero_fits
number_has (Whole n) h = h
number_has (Fraction d) h = h
number_has (Note text) h = zero_fits
number_has (Sign mark) h = zero_fits
number_has End h = zero_fits

small : (n : ℕ) → nat_lt n 4294967296 ≡ true → n < 2 ^ 63
small n e = grind (arith, nat_tests)

index_small : (n : ℕ) (v : Bool) → nat_lt n 4294967296 ≡ v → ((if v then 6 else 9) == 6) ≡ true → n < 2 ^ 63
index_small n true e h = small n e
index_small n false e h = absurd cc

pub index_has : (w : Word) → is_index (word_form w) ≡ true → magnitude (whole_in w) < 2 ^ 63
index_has (Name text) e = omega arith
index_has (Reserved keyword text) e = omega arith
index_has (TypeName text) e = omega arith
index_has (Var text) e = omega arith
index_has (Str text) e = omega arith
index_has (Pat text) e = omega arith
index_has (Whole (pos n)) e = index_small n (nat_lt n 4294967296) refl e
index_has (Whole (negsuc n)) e = omega arith
index_has (Fraction d) e = omega arith
index_has (Note text) e = omega arith
index_has (Sign mark) e = omega arith
index_has End e = omega arith

-- ---- scalars

constant_value : (l : Label) (keyword : Keyword) → IsValue l (constant_kind keyword)
constant_value l kw.Let = tt
constant_value l kw.Rule = tt
constant_value l kw.True = tt
constant_value l kw.False = tt
constant_value l kw.Null = tt
constant_value l kw.When = tt
constant_value l kw.Some = tt
constant_value l kw.Or = tt
constant_value l kw.Not = tt
constant_value l kw.Keys = tt
constant_value l kw.This = tt
constant_value l kw.In = tt
constant_value l kw.Exists = tt
constant_value l kw.Empty = tt
constant_value l kw.IsString = tt
constant_value l kw.IsList = tt
constant_value l kw.IsStruct = tt
constant_value l kw.IsBool = tt
constant_value l kw.IsInt = tt
constant_value l kw.IsFloat = tt
constant_value l kw.IsNull = tt

pub scalar_has : (name : Option (List ℕ)) (x : Lexeme) → IsSound x.word → IsValue (scalar name x) (scalar name x).kind
scalar_has name x h = by x.word h
  where
    by : (w : Word) → IsSound w → IsValue (record { kind = scalar_kind w; text = scalar_text w; key = name; at = x.from }) (scalar_kind w)
    by (Name text) h = tt
    by (Reserved keyword text) h = constant_value (record { kind = constant_kind keyword; text = []; key = name; at = x.from }) keyword
    by (TypeName text) h = tt
    by (Var text) h = tt
    by (Str text) h = h
    by (Pat text) h = h
    by (Whole n) h = h
    by (Fraction d) h = h
    by (Note text) h = tt
    by (Sign mark) h = tt
    by End h = tt
