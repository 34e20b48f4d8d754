-- Where a text may be cut for a token: at places where characters begin or end.
use Rattle.std.specs.Prelude.{◌≡◌, ℕ, ◌-◌, ◌<◌, ◌≤◌, Bool, true, false, List, length, slice_range, slice_index, slice_index_or}
use Rattle.std.specs.Str.{IsCharBoundary}
use Rattle.guard_lexer.specs.declared.token.Token.{Token}
use Rattle.guard_lexer.specs.declared.token.TokenKind.{TokenKind}
use Rattle.guard_lexer.specs.declared.token.TokenKind.TheVariants as k

-- a part of a text may be cut out
pub record IsCut (text : List ℕ) (from to : ℕ) : Type 0 where
  pub forward : from ≤ to
  pub front : IsCharBoundary text from
  pub back : IsCharBoundary text to

-- the first and the last byte are ASCII
pub record IsEdged (bytes : List ℕ) : Type 0 where
  pub some : 0 < length bytes
  pub first : slice_index bytes 0 < 128
  pub last : slice_index bytes (length bytes - 1) < 128

-- so are the first two and the last two, which are not the same
pub record IsFramed (bytes : List ℕ) : Type 0 where
  pub long : 4 ≤ length bytes
  pub edges : IsEdged bytes
  pub second : slice_index bytes 1 < 128
  pub shut : slice_index bytes (length bytes - 2) < 128

-- kinds of tokens that say something by their bytes
abbrev pub is_said : TokenKind → Bool
is_said k.Name = true
is_said k.TypeName = true
is_said k.Var = true
is_said k.Str = true
is_said k.Pat = true
is_said k.Note = true
is_said (k.Whole n) = false
is_said (k.Fraction d) = false
is_said (k.Mark mark) = false

-- what the form of a token says of both its ends
pub record IsTokenIn (text : List ℕ) (token : Token) : Type 0 where
  pub forward : token.from ≤ token.to
  pub within : token.to ≤ length text
  pub edges : is_said token.kind ≡ true → IsEdged (slice_range text token.from token.to)
  pub signs : token.kind ≡ k.Note → IsFramed (slice_range text token.from token.to)

abbrev pub AreTokensIn : List ℕ → List Token → Type 0
AreTokensIn text tokens = (i : ℕ) (other : Token) → i < length tokens → IsTokenIn text (slice_index_or tokens i other)
