-- A text in pieces: tokens, each behind white space; and when these are the tokens of the text.
use Rattle.std.specs.Prelude.{◌≡◌, ℕ, ◌+◌, Bool, true, false, not, ◌&&◌, ◌||◌, ◌==◌, List, [], ◌∷◌, ◌++◌, length, codes, FitsSigned}
use mir.Syntax.{w64}
use Rattle.decimals.specs.declared.decimal.Num.{Num}
use Rattle.decimals.specs.declared.decimal.Num.TheVariants as num
use Rattle.decimals.specs.Decimal.{IsNormal}
use Rattle.decimals.specs.Number.{is_digit}
use Rattle.guard_lexer.specs.declared.token.Mark.{Mark}
use Rattle.guard_lexer.specs.declared.token.Mark.TheVariants as m
use Rattle.guard_lexer.specs.declared.token.Token.{Token}
use Rattle.guard_lexer.specs.declared.token.TokenKind.{TokenKind}
use Rattle.guard_lexer.specs.declared.token.TokenKind.TheVariants as k
use Rattle.guard_lexer.specs.Bytes.{is_letter, is_word, is_white, Each}
use Rattle.guard_lexer.specs.Forms.{HasForm, form_of, IsWorth}
use Rattle.guard_lexer.specs.Lexes.{is_dot}
use Rattle.guard_lexer.specs.code.Firsts.{begins_word}
use Rattle.literal_parser.specs.declared.keyword.Keyword.{Keyword}
use Rattle.literal_parser.specs.declared.keyword.Keyword.TheVariants as kw
use Rattle.literal_parser.specs.Lexemes.{Lexeme, word_of, front_trimmed, back_trimmed}

-- the white space in front of a token, the token's kind, and its bytes
pub record Piece : Type 0 where
  pub gap : List ℕ
  pub kind : TokenKind
  pub text : List ℕ

-- pieces in a row, and what stands behind them
abbrev pub spelled : List Piece → List ℕ → List ℕ
spelled [] behind = behind
spelled (p ∷ ps) behind = p.gap ++ (p.text ++ spelled ps behind)

-- ---- the tokens and lexemes that pieces are, the first gap at a place

abbrev pub token_from : ℕ → Piece → Token
token_from at p = record { kind = p.kind; from = at + length p.gap; to = at + length p.gap + length p.text }

abbrev pub tokens_from : ℕ → List Piece → List Token
tokens_from at [] = []
tokens_from at (p ∷ ps) = token_from at p ∷ tokens_from (at + length p.gap + length p.text) ps

abbrev pub lexeme_from : ℕ → Piece → Lexeme
lexeme_from at p = record { word = word_of p.kind p.text; from = at + length p.gap; to = at + length p.gap + length p.text }

abbrev pub lexemes_from : ℕ → List Piece → List Lexeme
lexemes_from at [] = []
lexemes_from at (p ∷ ps) = lexeme_from at p ∷ lexemes_from (at + length p.gap + length p.text) ps

-- ---- which bytes go on with a token that ends before them

abbrev pub begins_with : ℕ → List ℕ → Bool
begins_with k [] = false
begins_with k (b ∷ bs) = b == k

-- a double colon and a letter go on with a name
abbrev pub begins_part : List ℕ → Bool
begins_part [] = false
begins_part (b ∷ []) = false
begins_part (b ∷ c ∷ []) = false
begins_part (b ∷ c ∷ d ∷ bs) = b == 58 && (c == 58 && is_letter d)

-- a point and a digit go on with a number, but not right behind a dot
abbrev pub begins_fraction : List ℕ → Bool
begins_fraction [] = false
begins_fraction (b ∷ []) = false
begins_fraction (b ∷ c ∷ bs) = b == 46 && is_digit c

abbrev pub mark_goes_on : Mark → List ℕ → Bool
mark_goes_on m.Less bytes = begins_with 60 bytes || begins_with 61 bytes
mark_goes_on m.Greater bytes = begins_with 61 bytes
mark_goes_on m.Equals bytes = begins_with 61 bytes
mark_goes_on m.Colon bytes = begins_with 61 bytes
mark_goes_on m.Bang bytes = begins_with 61 bytes
mark_goes_on _ bytes = false

-- the test tells whether the token stands right behind a dot
abbrev pub goes_on : Bool → TokenKind → List ℕ → Bool
goes_on dot k.Name bytes = begins_word bytes || begins_part bytes
goes_on dot k.TypeName bytes = begins_word bytes || begins_part bytes
goes_on dot k.Var bytes = begins_word bytes
goes_on dot k.Str bytes = false
goes_on dot k.Pat bytes = false
goes_on dot k.Note bytes = false
goes_on dot (k.Whole n) bytes = begins_word bytes || (not dot && begins_fraction bytes)
goes_on dot (k.Fraction d) bytes = begins_word bytes || (not dot && begins_fraction bytes)
goes_on dot (k.Mark mark) bytes = mark_goes_on mark bytes

-- no token goes on with bytes that begin with this one
abbrev pub is_apart : ℕ → Bool
is_apart b = not (begins_word (b ∷ []) || (b == 46 || (b == 58 || (b == 60 || b == 61))))

-- ---- pieces that fit

-- a piece with these bytes behind it; the test tells whether the token before is a dot
pub record IsFit (dot : Bool) (piece : Piece) (behind : List ℕ) : Type 0 where
  pub blank : Each is_white piece.gap
  pub form : HasForm dot (form_of piece.kind) piece.text
  pub worth : IsWorth piece.kind piece.text
  pub ends : goes_on dot piece.kind behind ≡ false

abbrev pub AreFit : Bool → List Piece → List ℕ → Type 0
AreFit dot [] behind = Unit {0}
AreFit dot (p ∷ ps) behind = IsFit dot p (spelled ps behind) × AreFit (is_dot p.kind) ps behind

-- whether the last of pieces is a dot; where there is none, what was before
abbrev pub ends_in_dot : Bool → List Piece → Bool
ends_in_dot dot [] = dot
ends_in_dot dot (p ∷ ps) = ends_in_dot (is_dot p.kind) ps

-- ---- pieces that keep apart, by the first byte of each

abbrev pub mark_keeps_apart : Mark → ℕ → Bool
mark_keeps_apart m.Less b = not (b == 60 || b == 61)
mark_keeps_apart m.Greater b = not (b == 61)
mark_keeps_apart m.Equals b = not (b == 61)
mark_keeps_apart m.Colon b = not (b == 61)
mark_keeps_apart m.Bang b = not (b == 61)
mark_keeps_apart _ b = true

-- no token of a kind goes on with a byte, whatever stands behind it
abbrev pub keeps_apart : Bool → TokenKind → ℕ → Bool
keeps_apart dot k.Name b = not (is_word b || b == 58)
keeps_apart dot k.TypeName b = not (is_word b || b == 58)
keeps_apart dot k.Var b = not (is_word b)
keeps_apart dot k.Str b = true
keeps_apart dot k.Pat b = true
keeps_apart dot k.Note b = true
keeps_apart dot (k.Whole n) b = not (is_word b || (not dot && b == 46))
keeps_apart dot (k.Fraction d) b = not (is_word b || (not dot && b == 46))
keeps_apart dot (k.Mark mark) b = mark_keeps_apart mark b

abbrev pub starts_apart : Bool → TokenKind → List ℕ → Bool
starts_apart dot kind [] = false
starts_apart dot kind (b ∷ bs) = keeps_apart dot kind b

-- the first of pieces, if there is one, keeps apart from a token before it
abbrev pub next_apart : Bool → TokenKind → List Piece → Bool
next_apart dot kind [] = true
next_apart dot kind (p ∷ ps) = starts_apart dot kind (p.gap ++ p.text)

-- what a piece has itself
pub record IsSound (dot : Bool) (piece : Piece) : Type 0 where
  pub blank : Each is_white piece.gap
  pub form : HasForm dot (form_of piece.kind) piece.text
  pub worth : IsWorth piece.kind piece.text

abbrev pub AreApart : Bool → List Piece → Type 0
AreApart dot [] = Unit {0}
AreApart dot (p ∷ ps) = IsSound dot p × (next_apart dot p.kind ps ≡ true) × AreApart (is_dot p.kind) ps

-- ---- the bytes of some words

-- a keyword in lower case, `in` in upper case
abbrev pub keyword_text : Keyword → List ℕ
keyword_text kw.Let = codes "let"
keyword_text kw.Rule = codes "rule"
keyword_text kw.True = codes "true"
keyword_text kw.False = codes "false"
keyword_text kw.Null = codes "null"
keyword_text kw.When = codes "when"
keyword_text kw.Some = codes "some"
keyword_text kw.Or = codes "or"
keyword_text kw.Not = codes "not"
keyword_text kw.Keys = codes "keys"
keyword_text kw.This = codes "this"
keyword_text kw.In = codes "IN"
keyword_text kw.Exists = codes "exists"
keyword_text kw.Empty = codes "empty"
keyword_text kw.IsString = codes "is_string"
keyword_text kw.IsList = codes "is_list"
keyword_text kw.IsStruct = codes "is_struct"
keyword_text kw.IsBool = codes "is_bool"
keyword_text kw.IsInt = codes "is_int"
keyword_text kw.IsFloat = codes "is_float"
keyword_text kw.IsNull = codes "is_null"

-- a note: the text between `<< ` and ` >>`
abbrev pub note_spelling : List ℕ → List ℕ
note_spelling text = codes "<< " ++ (text ++ codes " >>")

-- `>>` stands in it
abbrev pub closes_note : List ℕ → Bool
closes_note [] = false
closes_note (b ∷ []) = false
closes_note (b ∷ c ∷ bs) = (b == 62 && c == 62) || closes_note (c ∷ bs)

-- a text that a note has: no `>>` stands in it, and no white space at its ends
pub record IsNoted (text : List ℕ) : Type 0 where
  pub open_end : closes_note text ≡ false
  pub front : front_trimmed text ≡ text
  pub back : back_trimmed text ≡ text

-- a number that is read from some text
abbrev pub IsInRange : Num → Type 0
IsInRange (num.Whole n) = FitsSigned w64 n
IsInRange (num.Fraction d) = IsNormal d
