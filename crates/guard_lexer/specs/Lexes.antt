-- The tokens of a text, and why a text has none.
use Rattle.std.specs.Prelude.{◌≡◌, ◌≢◌, ℕ, ◌+◌, ◌≤◌, Bool, true, false, List, [], ◌∷◌, ◌++◌, ◌⊎◌, length, Option, Some, None}
use Rattle.decimals.specs.declared.decimal.Num.{Num}
use Rattle.decimals.specs.Number.{IsNumber}
use Rattle.guard_lexer.specs.declared.token.Mark.TheVariants as m
use Rattle.guard_lexer.specs.declared.token.Token.{Token}
use Rattle.guard_lexer.specs.declared.token.TokenKind.{TokenKind}
use Rattle.guard_lexer.specs.declared.token.TokenKind.TheVariants as k
use Rattle.guard_lexer.specs.declared.token.LexRefusal.{LexRefusal}
use Rattle.guard_lexer.specs.declared.token.LexRefusal.TheVariants as r
use Rattle.guard_lexer.specs.Bytes.{is_white, is_word}
use Rattle.guard_lexer.specs.Forms.{Form, Str, Pat, Note, Numeral, HasForm, form_of, IsWorth}

-- nothing that begins the bytes text ++ rest and has a form is longer than the text
abbrev pub IsLongest : Bool → List ℕ → List ℕ → Type 0
IsLongest dot text rest = (form : Form) (more behind : List ℕ) → more ++ behind ≡ text ++ rest → HasForm dot form more → length more ≤ length text

-- a quote, a slash or `<<` begins them, but no text, pattern or note does
abbrev pub IsOpening : List ℕ → Form → Type 0
IsOpening bytes Str = (rest : List ℕ) × ((bytes ≡ 34 ∷ rest) ⊎ (bytes ≡ 39 ∷ rest))
IsOpening bytes Pat = (rest : List ℕ) × (bytes ≡ 47 ∷ rest)
IsOpening bytes Note = (rest : List ℕ) × (bytes ≡ 60 ∷ 60 ∷ rest)
IsOpening bytes _ = ⊥

abbrev pub IsUnclosed : List ℕ → Type 0
IsUnclosed bytes = (form : Form) × IsOpening bytes form × ((text rest : List ℕ) → bytes ≡ text ++ rest → HasForm false form text → ⊥)

-- a letter, a digit or `_` begins them
abbrev pub BeginsWord : List ℕ → Type 0
BeginsWord [] = ⊥
BeginsWord (b ∷ bs) = is_word b ≡ true

-- the text is the token of this kind that begins text ++ rest: the longest, and a number with no letter, digit or `_` behind it
pub record IsToken (dot : Bool) (kind : TokenKind) (text rest : List ℕ) : Type 0 where
  pub form : HasForm dot (form_of kind) text
  pub worth : IsWorth kind text
  pub longest : IsLongest dot text rest
  pub closed : IsUnclosed (text ++ rest) → ⊥
  pub apart : form_of kind ≡ Numeral → BeginsWord rest → ⊥

-- the text is the number that begins text ++ rest, whatever it is worth
pub record IsFigure (dot : Bool) (text rest : List ℕ) : Type 0 where
  pub form : HasForm dot Numeral text
  pub longest : IsLongest dot text rest

-- the bytes, the first of which stands at a place, begin with what this refusal names
abbrev pub IsFault : Bool → ℕ → List ℕ → LexRefusal → Type 0
IsFault dot at bytes (r.Unclosed place) = (place ≡ at) × IsUnclosed bytes
IsFault dot at bytes (r.NumberRange place) = (place ≡ at)
    × ((text rest : List ℕ) × (bytes ≡ text ++ rest) × IsFigure dot text rest × ((n : Num) → IsNumber text n → ⊥))
IsFault dot at bytes (r.BadByte place) =
    ((place ≡ at) × ((b : ℕ) × (bs : List ℕ) × (bytes ≡ b ∷ bs) × (is_white b ≡ false) × (b ≢ 35))
    × (IsUnclosed bytes → ⊥) × ((form : Form) (text rest : List ℕ) → bytes ≡ text ++ rest → HasForm dot form text → ⊥))
    ⊎ ((text rest : List ℕ) × (bytes ≡ text ++ rest) × IsFigure dot text rest × ((n : Num) × IsNumber text n) × BeginsWord rest × (place ≡ at + length text))
IsFault dot at bytes r.NoMemory = ⊥

-- white space and comments: a comment runs from `#` to the next LF, or to the end where nothing is behind the gap
abbrev mutual
  pub IsGap : List ℕ → List ℕ → Type 0
  IsGap behind [] = Unit {0}
  IsGap behind (b ∷ bs) = ((is_white b ≡ true) × IsGap behind bs) ⊎ ((b ≡ 35) × IsComment behind bs)

  pub IsComment : List ℕ → List ℕ → Type 0
  IsComment behind [] = behind ≡ []
  IsComment behind (b ∷ bs) = ((b ≡ 10) × IsGap behind bs) ⊎ ((b ≢ 10) × IsComment behind bs)

-- a token behind a gap, and the bytes behind it
pub record Takes (dot : Bool) (at : ℕ) (bytes : List ℕ) (token : Token) (rest : List ℕ) : Type 0 where
  pub gap : List ℕ
  pub text : List ℕ
  pub joined : bytes ≡ gap ++ (text ++ rest)
  pub blank : IsGap (text ++ rest) gap
  pub from : token.from ≡ at + length gap
  pub to : token.to ≡ token.from + length text
  pub is : IsToken dot token.kind text rest

-- nothing but a gap; or a gap and then a fault
abbrev pub Ends : Bool → ℕ → List ℕ → Option LexRefusal → Type 0
Ends dot at bytes None = IsGap [] bytes
Ends dot at bytes (Some refusal) = (gap rest : List ℕ) × (bytes ≡ gap ++ rest) × IsGap rest gap × IsFault dot (at + length gap) rest refusal

abbrev pub is_dot : TokenKind → Bool
is_dot (k.Mark m.Dot) = true
is_dot _ = false

-- the tokens of the bytes in order, up to their end or up to a fault; the first byte stands at a place, and the test tells
-- whether the token before is a dot
abbrev pub Reads : Bool → ℕ → List ℕ → List Token → Option LexRefusal → Type 0
Reads dot at bytes [] end = Ends dot at bytes end
Reads dot at bytes (t ∷ ts) end = (rest : List ℕ) × Takes dot at bytes t rest × Reads (is_dot t.kind) t.to rest ts end

-- a byte order mark at the start is passed over
abbrev pub Starts : List ℕ → ℕ → List ℕ → Type 0
Starts text at bytes = ((at ≡ 3) × (text ≡ 239 ∷ 187 ∷ 191 ∷ bytes)) ⊎ ((at ≡ 0) × (text ≡ bytes) × ((rest : List ℕ) → text ≢ 239 ∷ 187 ∷ 191 ∷ rest))

-- the tokens of a text
abbrev pub IsTokenList : List ℕ → List Token → Type 0
IsTokenList text tokens = (at : ℕ) × (bytes : List ℕ) × Starts text at bytes × Reads false at bytes tokens None

-- the refusal of a text: behind some tokens the first thing that is none
abbrev pub IsRefused : List ℕ → LexRefusal → Type 0
IsRefused text refusal = (at : ℕ) × (bytes : List ℕ) × Starts text at bytes × ((tokens : List Token) × Reads false at bytes tokens (Some refusal))
