-- Words, keys and operators of a canonical text are read as those that they spell.
use Rattle.std.proofs.Common.{◌≡◌, inl, inr, ℕ, suc, Bool, true, false, ◌&&◌, ◌||◌, if◌then◌else◌, List, [], ◌++◌, Option, Some, None, is_none, pos, negsuc, codes, refl, sym, ap, ◌∙◌, subst, true≢false}
use Rattle.guard_lexer.specs.declared.token.Mark.{Mark}
use Rattle.guard_lexer.specs.declared.token.Mark.TheVariants as m
use Rattle.guard_lexer.specs.declared.token.TokenKind.TheVariants as k
use Rattle.guard_syntax.specs.declared.syntax.Op.{Op}
use Rattle.guard_syntax.specs.declared.syntax.Op.TheVariants as op
use Rattle.literal_parser.specs.declared.keyword.Keyword.{Keyword}
use Rattle.literal_parser.specs.declared.keyword.Keyword.TheVariants as kw
use Rattle.literal_parser.specs.Lexemes.{Lexeme, Word, Name, Reserved, TypeName, Var, Str, Pat, Whole, Fraction, Note, Sign, End, word_of, name_word, keyword_of}
use Rattle.literal_parser.specs.Forms.{form, word_form, whole_form, is_any_name, is_var, is_str, is_note, is_bar, begins_step, is_index, is_key, is_first_key, is_neg, is_sign, is_equality, is_operator_word, is_in, text_in, text_of, whole_in, magnitude, operator_in, operator_of, keyword_operator, sign_in, mark_operator}
use Rattle.literal_parser.specs.States.{State, past}
use Rattle.guard_parser.specs.Grammar.{IsNeg, IsOperator, IsKeysOperator, IsNote}
use Rattle.rule_spelling.specs.code.Pieces.{Piece}
use Rattle.rule_words.specs.WordText as printed
use Rattle.rule_words.specs.WordText.{operator_word, is_free_name}
use Rattle.rule_printer.specs.code.RulePieces.{name, str, operator_kind, operator, note, plain_operator, negated_operator, mark, space}
use Rattle.printer_laws.specs.code.Shown.{IsQuotable, IsReadBack, IsLevel, Shows, first_form}
use Rattle.printer_laws.proofs.Showing.{level_past, level_same, level_off, level_on, passes, fails, shown_form, any_name_word, no_mark, no_name, no_whole, no_keyword}

-- ---- words of the source as they are spelled

-- a name or a keyword
pub any_name_back : (w : Word) → IsReadBack w → is_any_name (word_form w) ≡ true → word_of k.Name (text_in w) ≡ w
any_name_back (Name own) h p = ap (λ (o : Option Keyword). name_word o own) h.0
any_name_back (Reserved keyword own) h p = ap (λ (o : Option Keyword). name_word o own) h.0
any_name_back (TypeName own) h p = absurd (true≢false (sym p))
any_name_back (Var own) h p = absurd (true≢false (sym p))
any_name_back (Str text) h p = absurd (true≢false (sym p))
any_name_back (Pat text) h p = absurd (true≢false (sym p))
any_name_back (Whole n) h p = absurd (no_whole is_any_name n refl p)
any_name_back (Fraction d) h p = absurd (true≢false (sym p))
any_name_back (Note text) h p = absurd (true≢false (sym p))
any_name_back (Sign sign) h p = absurd (no_mark is_any_name sign refl p)
any_name_back End h p = absurd (true≢false (sym p))

pub var_back : (w : Word) → IsReadBack w → is_var (word_form w) ≡ true → word_of k.Var (codes "%" ++ text_in w) ≡ Var (text_in w)
var_back (Var own) h p = h
var_back (Name own) h p = absurd (no_name is_var own refl p)
var_back (Reserved keyword own) h p = absurd (no_keyword is_var keyword own refl p)
var_back (TypeName own) h p = absurd (true≢false (sym p))
var_back (Str text) h p = absurd (true≢false (sym p))
var_back (Pat text) h p = absurd (true≢false (sym p))
var_back (Whole n) h p = absurd (no_whole is_var n refl p)
var_back (Fraction d) h p = absurd (true≢false (sym p))
var_back (Note text) h p = absurd (true≢false (sym p))
var_back (Sign sign) h p = absurd (no_mark is_var sign refl p)
var_back End h p = absurd (true≢false (sym p))

pub note_back : (w : Word) → IsReadBack w → is_note (word_form w) ≡ true → word_of k.Note (codes "<< " ++ (text_in w ++ codes " >>")) ≡ Note (text_in w)
note_back (Note text) h p = h
note_back (Name own) h p = absurd (no_name is_note own refl p)
note_back (Reserved keyword own) h p = absurd (no_keyword is_note keyword own refl p)
note_back (TypeName own) h p = absurd (true≢false (sym p))
note_back (Var own) h p = absurd (true≢false (sym p))
note_back (Str text) h p = absurd (true≢false (sym p))
note_back (Pat text) h p = absurd (true≢false (sym p))
note_back (Whole n) h p = absurd (no_whole is_note n refl p)
note_back (Fraction d) h p = absurd (true≢false (sym p))
note_back (Sign sign) h p = absurd (no_mark is_note sign refl p)
note_back End h p = absurd (true≢false (sym p))

-- an index is one again
pub index_back : (w : Word) → is_index (word_form w) ≡ true → is_index (whole_form (pos (magnitude (whole_in w)))) ≡ true
index_back (Whole (pos n)) p = p
index_back (Whole (negsuc n)) p = absurd (true≢false (sym p))
index_back (Name own) p = absurd (no_name is_index own refl p)
index_back (Reserved keyword own) p = absurd (no_keyword is_index keyword own refl p)
index_back (TypeName own) p = absurd (true≢false (sym p))
index_back (Var own) p = absurd (true≢false (sym p))
index_back (Str text) p = absurd (true≢false (sym p))
index_back (Pat text) p = absurd (true≢false (sym p))
index_back (Fraction d) p = absurd (true≢false (sym p))
index_back (Note text) p = absurd (true≢false (sym p))
index_back (Sign sign) p = absurd (no_mark is_index sign refl p)
index_back End p = absurd (true≢false (sym p))

-- a key that begins a query and is no text in quotes is spelled as a name
pub free_name : (w : Word) → IsReadBack w → is_first_key (word_form w) ≡ true → is_str (word_form w) ≡ false → is_free_name (text_in w) ≡ true
free_name (Name own) h p q = ap (λ (b : Bool). b && is_none (keyword_of own)) h.1 ∙ ap (λ (o : Option Keyword). is_none o) h.0
free_name (Str text) h p q = absurd (true≢false q)
free_name (Reserved keyword own) h p q = absurd (no_keyword is_first_key keyword own refl p)
free_name (TypeName own) h p q = absurd (true≢false (sym p))
free_name (Var own) h p q = absurd (true≢false (sym p))
free_name (Pat text) h p q = absurd (true≢false (sym p))
free_name (Whole n) h p q = absurd (no_whole is_first_key n refl p)
free_name (Fraction d) h p q = absurd (true≢false (sym p))
free_name (Note text) h p q = absurd (true≢false (sym p))
free_name (Sign sign) h p q = absurd (no_mark is_first_key sign refl p)
free_name End h p q = absurd (true≢false (sym p))

-- ---- keywords

pub some_word : word_of k.Name (codes "some") ≡ Reserved kw.Some (codes "some")
unfolding keyword_of
some_word = refl

pub not_word : word_of k.Name (codes "not") ≡ Reserved kw.Not (codes "not")
unfolding keyword_of
not_word = refl

pub or_word : word_of k.Name (codes "or") ≡ Reserved kw.Or (codes "or")
unfolding keyword_of
or_word = refl

pub when_word : word_of k.Name (codes "when") ≡ Reserved kw.When (codes "when")
unfolding keyword_of
when_word = refl

pub keys_word : word_of k.Name (codes "keys") ≡ Reserved kw.Keys (codes "keys")
unfolding keyword_of
keys_word = refl

pub this_word : word_of k.Name (codes "this") ≡ Reserved kw.This (codes "this")
unfolding keyword_of
this_word = refl

pub let_word : word_of k.Name (codes "let") ≡ Reserved kw.Let (codes "let")
unfolding keyword_of
let_word = refl

pub rule_word : word_of k.Name (codes "rule") ≡ Reserved kw.Rule (codes "rule")
unfolding keyword_of
rule_word = refl

-- ---- keys

second_of : (a b : Bool) → a && b ≡ true → b ≡ true
second_of true b e = e
second_of false b e = absurd (true≢false (sym e))

no_keyword_of : (o : Option Keyword) → is_none o ≡ true → o ≡ None
no_keyword_of None e = refl
no_keyword_of (Some keyword) e = absurd (true≢false (sym e))

-- a name that is no keyword
pub free_word : (text : List ℕ) → is_free_name text ≡ true → word_of k.Name text ≡ Name text
free_word text e = ap (λ (o : Option Keyword). name_word o text) (no_keyword_of (keyword_of text) (second_of (printed.is_name text) (is_none (keyword_of text)) e))

module _ (t : ℕ → Lexeme) where
  key_by : (b : Bool) (i at : ℕ) (text : List ℕ) (rest : List Piece) → IsQuotable text → Shows t i at (if b then name [] text rest else str [] text rest)
      → (is_key (form (t i)) ≡ true) × (text ≡ text_of (t i)) × Shows t (suc i) (t i).to rest
  key_by true i at text rest q h =
      let w = any_name_word (keyword_of text) text in
      (passes is_key (t i) (name_word (keyword_of text) text) h.0 (ap (λ (b : Bool). b || is_str (word_form (name_word (keyword_of text) text))) w.0), sym (ap text_in h.0 ∙ w.1), h.2)
  key_by false i at text rest q h = (passes is_key (t i) (Str text) (h.0 ∙ q) refl, sym (ap text_in (h.0 ∙ q)), h.2)

  pub key_shown : (i at : ℕ) (text : List ℕ) (rest : List Piece) → IsQuotable text → Shows t i at (if printed.is_name text then name [] text rest else str [] text rest)
      → (is_key (form (t i)) ≡ true) × (text ≡ text_of (t i)) × Shows t (suc i) (t i).to rest
  key_shown i at text rest q h = key_by (printed.is_name text) i at text rest q h

  -- what a key is read as that begins a query: a name or a text
  pub first_word : Bool → List ℕ → Word
  first_word true text = Name text
  first_word false text = Str text

  pub first_key_shown : (b : Bool) (gap : List ℕ) (i at : ℕ) (text : List ℕ) (rest : List Piece) → is_free_name text ≡ b → IsQuotable text → Shows t i at (if b then name gap text rest else str gap text rest)
      → ((t i).word ≡ (if b then Name text else Str text)) × Shows t (suc i) (t i).to rest
  first_key_shown true gap i at text rest e q h =
      (h.0 ∙ ap (λ (o : Option Keyword). name_word o text) (no_keyword_of (keyword_of text) (second_of (printed.is_name text) (is_none (keyword_of text)) e)), h.2)
  first_key_shown false gap i at text rest e q h = (h.0 ∙ q, h.2)

-- ---- operators

-- the word of an operator that is not negated
abbrev pub plain_word : Op → Word
plain_word op.Exists = Reserved kw.Exists (codes "exists")
plain_word op.Empty = Reserved kw.Empty (codes "empty")
plain_word op.IsString = Reserved kw.IsString (codes "is_string")
plain_word op.IsList = Reserved kw.IsList (codes "is_list")
plain_word op.IsStruct = Reserved kw.IsStruct (codes "is_struct")
plain_word op.IsBool = Reserved kw.IsBool (codes "is_bool")
plain_word op.IsInt = Reserved kw.IsInt (codes "is_int")
plain_word op.IsFloat = Reserved kw.IsFloat (codes "is_float")
plain_word op.IsNull = Reserved kw.IsNull (codes "is_null")
plain_word op.Eq = Sign m.Same
plain_word op.Lt = Sign m.Less
plain_word op.Le = Sign m.LessEq
plain_word op.Gt = Sign m.Greater
plain_word op.Ge = Sign m.GreaterEq
plain_word op.Within = Reserved kw.In (codes "IN")

pub plain_spelled : (o : Op) → word_of (operator_kind o) (operator_word o) ≡ plain_word o
unfolding keyword_of
plain_spelled op.Exists = refl
plain_spelled op.Empty = refl
plain_spelled op.IsString = refl
plain_spelled op.IsList = refl
plain_spelled op.IsStruct = refl
plain_spelled op.IsBool = refl
plain_spelled op.IsInt = refl
plain_spelled op.IsFloat = refl
plain_spelled op.IsNull = refl
plain_spelled op.Eq = refl
plain_spelled op.Lt = refl
plain_spelled op.Le = refl
plain_spelled op.Gt = refl
plain_spelled op.Ge = refl
plain_spelled op.Within = refl

-- operators that are a word, and those that are marks
abbrev pub is_worded : Op → Bool
is_worded op.Exists = true
is_worded op.Empty = true
is_worded op.IsString = true
is_worded op.IsList = true
is_worded op.IsStruct = true
is_worded op.IsBool = true
is_worded op.IsInt = true
is_worded op.IsFloat = true
is_worded op.IsNull = true
is_worded op.Eq = false
is_worded op.Lt = false
is_worded op.Le = false
is_worded op.Gt = false
is_worded op.Ge = false
is_worded op.Within = true

-- which operators can be negated
abbrev pub is_allowed : Op × Bool → Bool
is_allowed (op.Lt, true) = false
is_allowed (op.Le, true) = false
is_allowed (op.Gt, true) = false
is_allowed (op.Ge, true) = false
is_allowed x = true

mark_allowed : (mark : Mark) → is_allowed (mark_operator mark) ≡ true
mark_allowed m.LBrace = refl
mark_allowed m.RBrace = refl
mark_allowed m.LParen = refl
mark_allowed m.RParen = refl
mark_allowed m.LBracket = refl
mark_allowed m.RBracket = refl
mark_allowed m.Comma = refl
mark_allowed m.Bar = refl
mark_allowed m.Dot = refl
mark_allowed m.Star = refl
mark_allowed m.Colon = refl
mark_allowed m.Equals = refl
mark_allowed m.Define = refl
mark_allowed m.Bang = refl
mark_allowed m.Same = refl
mark_allowed m.Differs = refl
mark_allowed m.Less = refl
mark_allowed m.LessEq = refl
mark_allowed m.Greater = refl
mark_allowed m.GreaterEq = refl

sign_allowed : (w : Word) → is_allowed (sign_in w) ≡ true
sign_allowed (Sign sign) = mark_allowed sign
sign_allowed (Name own) = refl
sign_allowed (Reserved keyword own) = refl
sign_allowed (TypeName own) = refl
sign_allowed (Var own) = refl
sign_allowed (Str text) = refl
sign_allowed (Pat text) = refl
sign_allowed (Whole n) = refl
sign_allowed (Fraction d) = refl
sign_allowed (Note text) = refl
sign_allowed End = refl

keyword_worded : (keyword : Keyword) → is_worded (keyword_operator keyword) ≡ true
keyword_worded kw.Let = refl
keyword_worded kw.Rule = refl
keyword_worded kw.True = refl
keyword_worded kw.False = refl
keyword_worded kw.Null = refl
keyword_worded kw.When = refl
keyword_worded kw.Some = refl
keyword_worded kw.Or = refl
keyword_worded kw.Not = refl
keyword_worded kw.Keys = refl
keyword_worded kw.This = refl
keyword_worded kw.In = refl
keyword_worded kw.Exists = refl
keyword_worded kw.Empty = refl
keyword_worded kw.IsString = refl
keyword_worded kw.IsList = refl
keyword_worded kw.IsStruct = refl
keyword_worded kw.IsBool = refl
keyword_worded kw.IsInt = refl
keyword_worded kw.IsFloat = refl
keyword_worded kw.IsNull = refl

word_worded : (w : Word) → is_worded (operator_in w) ≡ true
word_worded (Reserved keyword own) = keyword_worded keyword
word_worded (Name own) = refl
word_worded (Sign sign) = refl
word_worded (TypeName own) = refl
word_worded (Var own) = refl
word_worded (Str text) = refl
word_worded (Pat text) = refl
word_worded (Whole n) = refl
word_worded (Fraction d) = refl
word_worded (Note text) = refl
word_worded End = refl

worded_allowed : (o : Op) (negated : Bool) → is_worded o ≡ true → is_allowed (o, negated) ≡ true
worded_allowed op.Exists true e = refl
worded_allowed op.Exists false e = refl
worded_allowed op.Empty true e = refl
worded_allowed op.Empty false e = refl
worded_allowed op.IsString true e = refl
worded_allowed op.IsString false e = refl
worded_allowed op.IsList true e = refl
worded_allowed op.IsList false e = refl
worded_allowed op.IsStruct true e = refl
worded_allowed op.IsStruct false e = refl
worded_allowed op.IsBool true e = refl
worded_allowed op.IsBool false e = refl
worded_allowed op.IsInt true e = refl
worded_allowed op.IsInt false e = refl
worded_allowed op.IsFloat true e = refl
worded_allowed op.IsFloat false e = refl
worded_allowed op.IsNull true e = refl
worded_allowed op.IsNull false e = refl
worded_allowed op.Eq true e = refl
worded_allowed op.Eq false e = refl
worded_allowed op.Lt true e = e
worded_allowed op.Lt false e = refl
worded_allowed op.Le true e = e
worded_allowed op.Le false e = refl
worded_allowed op.Gt true e = e
worded_allowed op.Gt false e = refl
worded_allowed op.Ge true e = e
worded_allowed op.Ge false e = refl
worded_allowed op.Within true e = refl
worded_allowed op.Within false e = refl

pub worded_test : (o : Op) → is_worded o ≡ true → (is_operator_word (word_form (plain_word o)) ≡ true) × (is_neg (word_form (plain_word o)) ≡ false) × (operator_in (plain_word o) ≡ o)
worded_test op.Exists e = (refl, refl, refl)
worded_test op.Empty e = (refl, refl, refl)
worded_test op.IsString e = (refl, refl, refl)
worded_test op.IsList e = (refl, refl, refl)
worded_test op.IsStruct e = (refl, refl, refl)
worded_test op.IsBool e = (refl, refl, refl)
worded_test op.IsInt e = (refl, refl, refl)
worded_test op.IsFloat e = (refl, refl, refl)
worded_test op.IsNull e = (refl, refl, refl)
worded_test op.Eq e = absurd (true≢false (sym e))
worded_test op.Lt e = absurd (true≢false (sym e))
worded_test op.Le e = absurd (true≢false (sym e))
worded_test op.Gt e = absurd (true≢false (sym e))
worded_test op.Ge e = absurd (true≢false (sym e))
worded_test op.Within e = (refl, refl, refl)

pub worded_negated : (o : Op) (rest : List Piece) → is_worded o ≡ true → negated_operator o rest ≡ mark space m.Bang (plain_operator [] o rest)
worded_negated op.Exists rest e = refl
worded_negated op.Empty rest e = refl
worded_negated op.IsString rest e = refl
worded_negated op.IsList rest e = refl
worded_negated op.IsStruct rest e = refl
worded_negated op.IsBool rest e = refl
worded_negated op.IsInt rest e = refl
worded_negated op.IsFloat rest e = refl
worded_negated op.IsNull rest e = refl
worded_negated op.Eq rest e = absurd (true≢false (sym e))
worded_negated op.Lt rest e = refl
worded_negated op.Le rest e = refl
worded_negated op.Gt rest e = refl
worded_negated op.Ge rest e = refl
worded_negated op.Within rest e = refl

-- the mark of an operator that is one
abbrev pub signed_word : Op → Bool → Word
signed_word op.Eq true = Sign m.Differs
signed_word o negated = plain_word o

pub signed_test : (o : Op) (negated : Bool) → is_worded o ≡ false → is_allowed (o, negated) ≡ true → (is_sign (word_form (signed_word o negated)) ≡ true) × (sign_in (signed_word o negated) ≡ (o, negated))
signed_test op.Exists negated e p = absurd (true≢false e)
signed_test op.Empty negated e p = absurd (true≢false e)
signed_test op.IsString negated e p = absurd (true≢false e)
signed_test op.IsList negated e p = absurd (true≢false e)
signed_test op.IsStruct negated e p = absurd (true≢false e)
signed_test op.IsBool negated e p = absurd (true≢false e)
signed_test op.IsInt negated e p = absurd (true≢false e)
signed_test op.IsFloat negated e p = absurd (true≢false e)
signed_test op.IsNull negated e p = absurd (true≢false e)
signed_test op.Eq false e p = (refl, refl)
signed_test op.Eq true e p = (refl, refl)
signed_test op.Lt false e p = (refl, refl)
signed_test op.Lt true e p = absurd (true≢false (sym p))
signed_test op.Le false e p = (refl, refl)
signed_test op.Le true e p = absurd (true≢false (sym p))
signed_test op.Gt false e p = (refl, refl)
signed_test op.Gt true e p = absurd (true≢false (sym p))
signed_test op.Ge false e p = (refl, refl)
signed_test op.Ge true e p = absurd (true≢false (sym p))
signed_test op.Within negated e p = absurd (true≢false e)

module _ (t : ℕ → Lexeme) where
  pub signed_shown : (o : Op) (negated : Bool) (i at : ℕ) (rest : List Piece) → is_worded o ≡ false → is_allowed (o, negated) ≡ true → Shows t i at (operator o negated rest)
      → ((t i).word ≡ signed_word o negated) × Shows t (suc i) (t i).to rest
  signed_shown op.Exists negated i at rest e p h = absurd (true≢false e)
  signed_shown op.Empty negated i at rest e p h = absurd (true≢false e)
  signed_shown op.IsString negated i at rest e p h = absurd (true≢false e)
  signed_shown op.IsList negated i at rest e p h = absurd (true≢false e)
  signed_shown op.IsStruct negated i at rest e p h = absurd (true≢false e)
  signed_shown op.IsBool negated i at rest e p h = absurd (true≢false e)
  signed_shown op.IsInt negated i at rest e p h = absurd (true≢false e)
  signed_shown op.IsFloat negated i at rest e p h = absurd (true≢false e)
  signed_shown op.IsNull negated i at rest e p h = absurd (true≢false e)
  signed_shown op.Eq false i at rest e p h = (h.0, h.2)
  signed_shown op.Eq true i at rest e p h = (h.0, h.2)
  signed_shown op.Lt false i at rest e p h = (h.0, h.2)
  signed_shown op.Lt true i at rest e p h = absurd (true≢false (sym p))
  signed_shown op.Le false i at rest e p h = (h.0, h.2)
  signed_shown op.Le true i at rest e p h = absurd (true≢false (sym p))
  signed_shown op.Gt false i at rest e p h = (h.0, h.2)
  signed_shown op.Gt true i at rest e p h = absurd (true≢false (sym p))
  signed_shown op.Ge false i at rest e p h = (h.0, h.2)
  signed_shown op.Ge true i at rest e p h = absurd (true≢false (sym p))
  signed_shown op.Within negated i at rest e p h = absurd (true≢false e)

  -- where an operator that is a word is spelled: a test of its own, and the operator
  pub worded_shown : (f : ℕ → Bool) (o : Op) (negated : Bool) (from : State) (at : ℕ) (rest : List Piece) → is_worded o ≡ true → f (word_form (plain_word o)) ≡ true → Shows t from.at at (operator o negated rest)
      → (to : State) × ((z : State) × IsNeg t negated from z × (f (form (t z.at)) ≡ true) × (o ≡ operator_of (t z.at)) × (to ≡ past z)) × ((b : State) → IsLevel b from → IsLevel b to) × (last : ℕ) × Shows t to.at last rest
  worded_shown f o false from at rest e p h =
      let w : (t from.at).word ≡ plain_word o = h.0 ∙ plain_spelled o in
      let test = worded_test o e in
      (past from, (from, (fails is_neg (t from.at) (plain_word o) w test.1, refl), passes f (t from.at) (plain_word o) w p, sym (ap operator_in w ∙ test.2), refl), (λ b level. level_on b from level), (t from.at).to, h.2)
  worded_shown f o true from at rest e p h =
      let g = subst (λ (ps : List Piece). Shows t from.at at ps) (worded_negated o rest e) h in
      let w : (t (suc from.at)).word ≡ plain_word o = g.2.0 ∙ plain_spelled o in
      let test = worded_test o e in (
        past (past from),
        (past from, (passes is_neg (t from.at) (Sign m.Bang) g.0 refl, refl), passes f (t (suc from.at)) (plain_word o) w p, sym (ap operator_in w ∙ test.2), refl),
        (λ b level. level_on b (past from) (level_on b from level)),
        (t (suc from.at)).to,
        g.2.2,
      )

module _ (s t : ℕ → Lexeme) where
  neg_level : (v : Bool) (a b c : State) → IsNeg s v a b → IsLevel a c → IsLevel b c
  neg_level true a b c h level = level_off a b c h.1 level
  neg_level false a b c h level = level_same a b c h.1 level

  operator_level : (o : Op) (negated : Bool) (a b c : State) → IsOperator s o negated a b → IsLevel a c → IsLevel b c
  operator_level o negated a b c (inl h) level = level_off a b c h.2 level
  operator_level o negated a b c (inr (z, h, g)) level = level_off z b c g.2 (neg_level negated a z c h level)

  pub operator_allowed : (o : Op) (negated : Bool) (a b : State) → IsOperator s o negated a b → is_allowed (o, negated) ≡ true
  operator_allowed o negated a b (inl h) = ap is_allowed h.1 ∙ sign_allowed (s a.at).word
  operator_allowed o negated a b (inr (z, h, g)) = worded_allowed o negated (ap is_worded g.1 ∙ word_worded (s z.at).word)

  pub operator_told : (o : Op) (negated : Bool) (a b from : State) (at : ℕ) (rest : List Piece) → IsOperator s o negated a b → Shows t from.at at (operator o negated rest) → IsLevel a from
      → (to : State) × IsOperator t o negated from to × IsLevel b to × (last : ℕ) × Shows t to.at last rest
  operator_told o negated a b from at rest h shows level = by (is_worded o) refl where
    by : (v : Bool) → is_worded o ≡ v → (to : State) × IsOperator t o negated from to × IsLevel b to × (last : ℕ) × Shows t to.at last rest
    by true e =
        let told = worded_shown t is_operator_word o negated from at rest e (worded_test o e).0 shows in
        let inner = told.1 in
        (told.0, inr (inner.0, inner.1, (inner.2, inner.3, inner.4)), told.2 b (operator_level o negated a b from h level), told.3, told.4)
    by false e =
        let allowed = operator_allowed o negated a b h in
        let told = signed_shown t o negated from.at at rest e allowed shows in
        let test = signed_test o negated e allowed in
        (past from, inl (passes is_sign (t from.at) (signed_word o negated) told.0 test.0, sym (ap sign_in told.0 ∙ test.1), refl), level_on b from (operator_level o negated a b from h level), (t from.at).to, told.1)

  -- ---- operators of keys

  keys_level : (o : Op) (negated : Bool) (a b c : State) → IsKeysOperator s o negated a b → IsLevel a c → IsLevel b c
  keys_level o negated a b c (inl h) level = level_off a b c h.2 level
  keys_level o negated a b c (inr (z, h, g)) level = level_off z b c g.2 (neg_level negated a z c h level)

-- the operators of keys
abbrev is_keyed : Op → Bool
is_keyed op.Eq = true
is_keyed op.Within = true
is_keyed o = false

equality_keyed : (mark : Mark) → is_equality (word_form (Sign mark)) ≡ true → is_keyed (mark_operator mark).0 ≡ true
equality_keyed m.LBrace e = refl
equality_keyed m.RBrace e = refl
equality_keyed m.LParen e = refl
equality_keyed m.RParen e = refl
equality_keyed m.LBracket e = refl
equality_keyed m.RBracket e = refl
equality_keyed m.Comma e = refl
equality_keyed m.Bar e = refl
equality_keyed m.Dot e = refl
equality_keyed m.Star e = refl
equality_keyed m.Colon e = refl
equality_keyed m.Equals e = refl
equality_keyed m.Define e = refl
equality_keyed m.Bang e = refl
equality_keyed m.Same e = refl
equality_keyed m.Differs e = refl
equality_keyed m.Less e = absurd (true≢false (sym e))
equality_keyed m.LessEq e = absurd (true≢false (sym e))
equality_keyed m.Greater e = absurd (true≢false (sym e))
equality_keyed m.GreaterEq e = absurd (true≢false (sym e))

sign_keyed : (w : Word) → is_equality (word_form w) ≡ true → is_keyed (sign_in w).0 ≡ true
sign_keyed (Sign sign) e = equality_keyed sign e
sign_keyed (Name own) e = refl
sign_keyed (Reserved keyword own) e = refl
sign_keyed (TypeName own) e = refl
sign_keyed (Var own) e = refl
sign_keyed (Str text) e = refl
sign_keyed (Pat text) e = refl
sign_keyed (Whole n) e = refl
sign_keyed (Fraction d) e = refl
sign_keyed (Note text) e = refl
sign_keyed End e = refl

in_keyed : (keyword : Keyword) → is_in (word_form (Reserved keyword [])) ≡ true → is_keyed (keyword_operator keyword) ≡ true
in_keyed kw.Let e = absurd (true≢false (sym e))
in_keyed kw.Rule e = absurd (true≢false (sym e))
in_keyed kw.True e = absurd (true≢false (sym e))
in_keyed kw.False e = absurd (true≢false (sym e))
in_keyed kw.Null e = absurd (true≢false (sym e))
in_keyed kw.When e = absurd (true≢false (sym e))
in_keyed kw.Some e = absurd (true≢false (sym e))
in_keyed kw.Or e = absurd (true≢false (sym e))
in_keyed kw.Not e = absurd (true≢false (sym e))
in_keyed kw.Keys e = absurd (true≢false (sym e))
in_keyed kw.This e = absurd (true≢false (sym e))
in_keyed kw.In e = refl
in_keyed kw.Exists e = absurd (true≢false (sym e))
in_keyed kw.Empty e = absurd (true≢false (sym e))
in_keyed kw.IsString e = absurd (true≢false (sym e))
in_keyed kw.IsList e = absurd (true≢false (sym e))
in_keyed kw.IsStruct e = absurd (true≢false (sym e))
in_keyed kw.IsBool e = absurd (true≢false (sym e))
in_keyed kw.IsInt e = absurd (true≢false (sym e))
in_keyed kw.IsFloat e = absurd (true≢false (sym e))
in_keyed kw.IsNull e = absurd (true≢false (sym e))

word_keyed : (w : Word) → is_in (word_form w) ≡ true → is_keyed (operator_in w) ≡ true
word_keyed (Reserved keyword own) e = in_keyed keyword e
word_keyed (Name own) e = absurd (no_name is_in own refl e)
word_keyed (Sign sign) e = absurd (no_mark is_in sign refl e)
word_keyed (Whole n) e = absurd (no_whole is_in n refl e)
word_keyed (TypeName own) e = absurd (true≢false (sym e))
word_keyed (Var own) e = absurd (true≢false (sym e))
word_keyed (Str text) e = absurd (true≢false (sym e))
word_keyed (Pat text) e = absurd (true≢false (sym e))
word_keyed (Fraction d) e = absurd (true≢false (sym e))
word_keyed (Note text) e = absurd (true≢false (sym e))
word_keyed End e = absurd (true≢false (sym e))

module _ (s t : ℕ → Lexeme) where
  keys_keyed : (o : Op) (negated : Bool) (a b : State) → IsKeysOperator s o negated a b → is_keyed o ≡ true
  keys_keyed o negated a b (inl h) = ap (λ (x : Op × Bool). is_keyed x.0) h.1 ∙ sign_keyed (s a.at).word h.0
  keys_keyed o negated a b (inr (z, h, g)) = ap is_keyed g.1 ∙ word_keyed (s z.at).word g.0

  pub keys_operator_told : (o : Op) (negated : Bool) (a b from : State) (at : ℕ) (rest : List Piece) → IsKeysOperator s o negated a b → Shows t from.at at (operator o negated rest) → IsLevel a from
      → (to : State) × IsKeysOperator t o negated from to × IsLevel b to × (last : ℕ) × Shows t to.at last rest
  keys_operator_told op.Eq false a b from at rest h shows level =
      (past from, inl (passes is_equality (t from.at) (Sign m.Same) shows.0 refl, sym (ap sign_in shows.0), refl), level_on b from (keys_level s t op.Eq false a b from h level), (t from.at).to, shows.2)
  keys_operator_told op.Eq true a b from at rest h shows level =
      (past from, inl (passes is_equality (t from.at) (Sign m.Differs) shows.0 refl, sym (ap sign_in shows.0), refl), level_on b from (keys_level s t op.Eq true a b from h level), (t from.at).to, shows.2)
  keys_operator_told op.Within negated a b from at rest h shows level =
      let told = worded_shown t is_in op.Within negated from at rest refl refl shows in
      let inner = told.1 in
      (told.0, inr (inner.0, inner.1, (inner.2, inner.3, inner.4)), told.2 b (keys_level s t op.Within negated a b from h level), told.3, told.4)
  keys_operator_told op.Exists negated a b from at rest h shows level = absurd (true≢false (sym (keys_keyed op.Exists negated a b h)))
  keys_operator_told op.Empty negated a b from at rest h shows level = absurd (true≢false (sym (keys_keyed op.Empty negated a b h)))
  keys_operator_told op.IsString negated a b from at rest h shows level = absurd (true≢false (sym (keys_keyed op.IsString negated a b h)))
  keys_operator_told op.IsList negated a b from at rest h shows level = absurd (true≢false (sym (keys_keyed op.IsList negated a b h)))
  keys_operator_told op.IsStruct negated a b from at rest h shows level = absurd (true≢false (sym (keys_keyed op.IsStruct negated a b h)))
  keys_operator_told op.IsBool negated a b from at rest h shows level = absurd (true≢false (sym (keys_keyed op.IsBool negated a b h)))
  keys_operator_told op.IsInt negated a b from at rest h shows level = absurd (true≢false (sym (keys_keyed op.IsInt negated a b h)))
  keys_operator_told op.IsFloat negated a b from at rest h shows level = absurd (true≢false (sym (keys_keyed op.IsFloat negated a b h)))
  keys_operator_told op.IsNull negated a b from at rest h shows level = absurd (true≢false (sym (keys_keyed op.IsNull negated a b h)))
  keys_operator_told op.Lt negated a b from at rest h shows level = absurd (true≢false (sym (keys_keyed op.Lt negated a b h)))
  keys_operator_told op.Le negated a b from at rest h shows level = absurd (true≢false (sym (keys_keyed op.Le negated a b h)))
  keys_operator_told op.Gt negated a b from at rest h shows level = absurd (true≢false (sym (keys_keyed op.Gt negated a b h)))
  keys_operator_told op.Ge negated a b from at rest h shows level = absurd (true≢false (sym (keys_keyed op.Ge negated a b h)))

  -- ---- notes

  pub note_told : (reads : (i : ℕ) → IsReadBack (s i).word) (message : Option (List ℕ)) (a b from : State) (at : ℕ) (rest : List Piece) → IsNote s message a b → Shows t from.at at (note message rest) → is_note (first_form rest) ≡ false → IsLevel a from
      → (to : State) × IsNote t message from to × IsLevel b to × (last : ℕ) × Shows t to.at last rest
  note_told reads None a b from at rest h shows quiet level = (from, (ap is_note (shown_form t from.at at rest shows) ∙ quiet, refl), level_same a b from h.1 level, at, shows)
  note_told reads (Some message) a b from at rest h shows quiet level =
      let spelled = subst (λ (x : List ℕ). word_of k.Note (codes "<< " ++ (x ++ codes " >>")) ≡ Note x) (sym h.1) (note_back (s a.at).word (reads a.at) h.0) in
      let w : (t from.at).word ≡ Note message = shows.0 ∙ spelled in
      (past from, (passes is_note (t from.at) (Note message) w refl, sym (ap text_in w), refl), level_past a b from h.2 level, (t from.at).to, shows.2)

plain_first : (o : Op) → (begins_step (word_form (plain_word o)) ≡ false) × (is_bar (word_form (plain_word o)) ≡ false)
plain_first op.Exists = (refl, refl)
plain_first op.Empty = (refl, refl)
plain_first op.IsString = (refl, refl)
plain_first op.IsList = (refl, refl)
plain_first op.IsStruct = (refl, refl)
plain_first op.IsBool = (refl, refl)
plain_first op.IsInt = (refl, refl)
plain_first op.IsFloat = (refl, refl)
plain_first op.IsNull = (refl, refl)
plain_first op.Eq = (refl, refl)
plain_first op.Lt = (refl, refl)
plain_first op.Le = (refl, refl)
plain_first op.Gt = (refl, refl)
plain_first op.Ge = (refl, refl)
plain_first op.Within = (refl, refl)

-- no step and no bar begins an operator
pub operator_first : (o : Op) (negated : Bool) (rest : List Piece) → (begins_step (first_form (operator o negated rest)) ≡ false) × (is_bar (first_form (operator o negated rest)) ≡ false)
operator_first o false rest = (ap (λ (w : Word). begins_step (word_form w)) (plain_spelled o) ∙ (plain_first o).0, ap (λ (w : Word). is_bar (word_form w)) (plain_spelled o) ∙ (plain_first o).1)
operator_first op.Exists true rest = (refl, refl)
operator_first op.Empty true rest = (refl, refl)
operator_first op.IsString true rest = (refl, refl)
operator_first op.IsList true rest = (refl, refl)
operator_first op.IsStruct true rest = (refl, refl)
operator_first op.IsBool true rest = (refl, refl)
operator_first op.IsInt true rest = (refl, refl)
operator_first op.IsFloat true rest = (refl, refl)
operator_first op.IsNull true rest = (refl, refl)
operator_first op.Eq true rest = (refl, refl)
operator_first op.Lt true rest = (refl, refl)
operator_first op.Le true rest = (refl, refl)
operator_first op.Gt true rest = (refl, refl)
operator_first op.Ge true rest = (refl, refl)
operator_first op.Within true rest = (refl, refl)
