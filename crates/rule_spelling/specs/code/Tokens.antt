-- One token in front of others, behind a gap.
use Rattle.std.specs.Prelude.{ℕ, List, [], ◌∷◌, ◌++◌, codes, decimal, pos}
use Rattle.decimals.specs.declared.decimal.Num.{Num}
use Rattle.decimals.specs.declared.decimal.Num.TheVariants as num
use Rattle.guard_lexer.specs.declared.token.Mark.{Mark}
use Rattle.guard_lexer.specs.declared.token.TokenKind.{TokenKind}
use Rattle.guard_lexer.specs.declared.token.TokenKind.TheVariants as k
use Rattle.guard_lexer.specs.Forms.{mark_text}
use Rattle.rule_spelling.specs.Spelling.{quoted, pattern_text, number_text}
use Rattle.rule_spelling.specs.code.Pieces.{Piece}

abbrev pub space : List ℕ
space = codes " "

abbrev pub name : List ℕ → List ℕ → List Piece → List Piece
name gap text rest = record { gap = gap; kind = k.Name; text = text } ∷ rest

abbrev pub type_name : List ℕ → List ℕ → List Piece → List Piece
type_name gap text rest = record { gap = gap; kind = k.TypeName; text = text } ∷ rest

abbrev pub variable : List ℕ → List ℕ → List Piece → List Piece
variable gap text rest = record { gap = gap; kind = k.Var; text = codes "%" ++ text } ∷ rest

abbrev pub str : List ℕ → List ℕ → List Piece → List Piece
str gap text rest = record { gap = gap; kind = k.Str; text = quoted text } ∷ rest

abbrev pub pattern : List ℕ → List ℕ → List Piece → List Piece
pattern gap text rest = record { gap = gap; kind = k.Pat; text = pattern_text text } ∷ rest

abbrev pub number_kind : Num → TokenKind
number_kind (num.Whole n) = k.Whole n
number_kind (num.Fraction d) = k.Fraction d

abbrev pub number : List ℕ → Num → List Piece → List Piece
number gap n rest = record { gap = gap; kind = number_kind n; text = number_text n } ∷ rest

-- the digits of an index, right behind a dot
abbrev pub index_number : ℕ → List Piece → List Piece
index_number i rest = record { gap = []; kind = k.Whole (pos i); text = decimal i } ∷ rest

abbrev pub mark : List ℕ → Mark → List Piece → List Piece
mark gap sign rest = record { gap = gap; kind = k.Mark sign; text = mark_text sign } ∷ rest
