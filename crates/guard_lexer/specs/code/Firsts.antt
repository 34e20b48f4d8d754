-- What the functions of the crate answer of what stands in front of bytes.
use Rattle.std.specs.Prelude.{◌≡◌, ℕ, ◌+◌, ◌-◌, ◌<◌, ◌≤◌, Bool, true, false, List, [], ◌∷◌, ◌++◌, length, drop, Option, Some, None, Result, Ok, Err, if◌then◌else◌, ◌==◌}
use Rattle.guard_lexer.specs.declared.token.Mark.{Mark}
use Rattle.guard_lexer.specs.declared.token.Token.{Token}
use Rattle.guard_lexer.specs.declared.token.TokenKind.{TokenKind}
use Rattle.guard_lexer.specs.declared.token.TokenKind.TheVariants as k
use Rattle.guard_lexer.specs.declared.token.LexRefusal.{LexRefusal}
use Rattle.decimals.specs.declared.decimal.Num.{Num}
use Rattle.decimals.specs.declared.decimal.Num.TheVariants as num
use Rattle.guard_lexer.specs.Bytes.{is_letter, is_word}
use Rattle.guard_lexer.specs.Forms.{mark_text}
use Rattle.guard_lexer.specs.Lexes.{IsToken, IsFault, Takes, Ends}
use Rattle.guard_lexer.specs.code.Reach.{is_single, is_doubled, begins_numeral, is_quote, is_blank}

-- the token that begins the bytes, or the fault
abbrev pub IsFirst : Bool → ℕ → List ℕ → Result Token LexRefusal → Type 0
IsFirst dot at bytes (Ok t) = (text rest : List ℕ) × (bytes ≡ text ++ rest) × (t.from ≡ at) × (t.to ≡ at + length text) × IsToken dot t.kind text rest
IsFirst dot at bytes (Err r) = IsFault dot at bytes r

-- the token behind a gap, or that there is none, or the fault
abbrev pub IsNext : Bool → ℕ → List ℕ → Result (Option Token) LexRefusal → Type 0
IsNext dot at bytes (Ok None) = Ends dot at bytes None
IsNext dot at bytes (Ok (Some t)) = Takes dot at bytes t (drop (t.to - at) bytes) × (at < t.to) × (t.to ≤ at + length bytes)
IsNext dot at bytes (Err r) = Ends dot at bytes (Some r)

abbrev pub word_kind : Bool → TokenKind
word_kind true = k.TypeName
word_kind false = k.Name

abbrev pub number_kind : Num → TokenKind
number_kind (num.Whole n) = k.Whole n
number_kind (num.Fraction d) = k.Fraction d

abbrev pub quote_kind : ℕ → TokenKind
quote_kind q = if q == 47 then k.Pat else k.Str

abbrev pub begins_word : List ℕ → Bool
begins_word [] = false
begins_word (b ∷ bs) = is_word b

abbrev pub BeginsNumeral : List ℕ → Type 0
BeginsNumeral [] = ⊥
BeginsNumeral (b ∷ bs) = begins_numeral b ≡ true

-- the mark of one byte, and of a byte and `=`
abbrev pub IsSingle : ℕ → Option Mark → Type 0
IsSingle b None = is_single b ≡ false
IsSingle b (Some mark) = (is_single b ≡ true) × (mark_text mark ≡ b ∷ [])

abbrev pub IsDouble : ℕ → Option Mark → Type 0
IsDouble b None = is_doubled b ≡ false
IsDouble b (Some mark) = (is_doubled b ≡ true) × (mark_text mark ≡ b ∷ 61 ∷ [])

-- a byte that begins no name, number, variable, text or pattern
pub record IsOther (b : ℕ) : Type 0 where
  pub letter : is_letter b ≡ false
  pub numeral : begins_numeral b ≡ false
  pub percent : b ≡ 37 → ⊥
  pub quote : is_quote b ≡ false
  pub blank : is_blank b ≡ false
