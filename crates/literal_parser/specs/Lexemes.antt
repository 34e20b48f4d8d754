-- What the grammar sees of the tokens of a text.
use Rattle.std.specs.Prelude.{ℕ, ◌-◌, ◌&&◌, ◌==◌, List, [], ◌∷◌, length, map, find, slice_range, slice_index_or, codes, bytes_eq, ℤ, Option, Some, None, option_map, if◌then◌else◌}
use Rattle.std.specs.List.{list_all}
use Rattle.decimals.specs.Decimal.{Decimal}
use Rattle.guard_lexer.specs.Bytes.{is_white}
use Rattle.guard_lexer.specs.declared.token.Mark.{Mark}
use Rattle.guard_lexer.specs.declared.token.Token.{Token}
use Rattle.guard_lexer.specs.declared.token.TokenKind.{TokenKind}
use Rattle.guard_lexer.specs.declared.token.TokenKind.TheVariants as k
use Rattle.literal_parser.specs.declared.keyword.Keyword.{Keyword}
use Rattle.literal_parser.specs.declared.keyword.Keyword.TheVariants as kw

-- a name that is no keyword; a keyword and its bytes; a variable without its `%`; texts, patterns and notes as they are meant
pub data Word : Type 0 where
  Name : List ℕ → Word
  Reserved : Keyword → List ℕ → Word
  TypeName : List ℕ → Word
  Var : List ℕ → Word
  Str : List ℕ → Word
  Pat : List ℕ → Word
  Whole : ℤ → Word
  Fraction : Decimal → Word
  Note : List ℕ → Word
  Sign : Mark → Word
  End : Word

-- a word, the byte offset of its first byte, and that behind its last
pub record Lexeme : Type 0 where
  pub word : Word
  pub from : ℕ
  pub to : ℕ

-- the keywords: five as they are written, the others in lower or in upper case
abbrev pub reserved : List (List ℕ × Keyword)
reserved =
    (codes "let", kw.Let) ∷ (codes "rule", kw.Rule)
    ∷ (codes "true", kw.True) ∷ (codes "True", kw.True) ∷ (codes "false", kw.False) ∷ (codes "False", kw.False)
    ∷ (codes "null", kw.Null) ∷ (codes "NULL", kw.Null)
    ∷ (codes "when", kw.When) ∷ (codes "WHEN", kw.When) ∷ (codes "some", kw.Some) ∷ (codes "SOME", kw.Some)
    ∷ (codes "or", kw.Or) ∷ (codes "OR", kw.Or) ∷ (codes "not", kw.Not) ∷ (codes "NOT", kw.Not)
    ∷ (codes "keys", kw.Keys) ∷ (codes "KEYS", kw.Keys) ∷ (codes "this", kw.This) ∷ (codes "THIS", kw.This)
    ∷ (codes "in", kw.In) ∷ (codes "IN", kw.In) ∷ (codes "exists", kw.Exists) ∷ (codes "EXISTS", kw.Exists)
    ∷ (codes "empty", kw.Empty) ∷ (codes "EMPTY", kw.Empty)
    ∷ (codes "is_string", kw.IsString) ∷ (codes "IS_STRING", kw.IsString) ∷ (codes "is_list", kw.IsList) ∷ (codes "IS_LIST", kw.IsList)
    ∷ (codes "is_struct", kw.IsStruct) ∷ (codes "IS_STRUCT", kw.IsStruct) ∷ (codes "is_bool", kw.IsBool) ∷ (codes "IS_BOOL", kw.IsBool)
    ∷ (codes "is_int", kw.IsInt) ∷ (codes "IS_INT", kw.IsInt) ∷ (codes "is_float", kw.IsFloat) ∷ (codes "IS_FLOAT", kw.IsFloat)
    ∷ (codes "is_null", kw.IsNull) ∷ (codes "IS_NULL", kw.IsNull) ∷ []

-- the keyword of the first row of a table with this name
abbrev pub keyword_in : List (List ℕ × Keyword) → List ℕ → Option Keyword
keyword_in table name = option_map (λ (p : List ℕ × Keyword). p.1) (find (λ (p : List ℕ × Keyword). bytes_eq name p.0) table)

unfoldable pub keyword_of : List ℕ → Option Keyword
keyword_of name = keyword_in reserved name

abbrev pub name_word : Option Keyword → List ℕ → Word
name_word None name = Name name
name_word (Some keyword) name = Reserved keyword name

-- behind an opening quote: a backslash and the quote give the quote, the quote alone is the end, any other byte stands for itself
abbrev pub unquoted : ℕ → List ℕ → List ℕ
unquoted q [] = []
unquoted q (b ∷ []) = []
unquoted q (b ∷ c ∷ bs) = if b == 92 && c == q then q ∷ unquoted q bs else b ∷ unquoted q (c ∷ bs)

abbrev pub text_within : List ℕ → List ℕ
text_within [] = []
text_within (q ∷ bs) = unquoted q bs

-- without white space in front, and at the end
abbrev pub front_trimmed : List ℕ → List ℕ
front_trimmed [] = []
front_trimmed (b ∷ bs) = if is_white b then front_trimmed bs else b ∷ bs

abbrev pub back_trimmed : List ℕ → List ℕ
back_trimmed [] = []
back_trimmed (b ∷ bs) = if list_all is_white (b ∷ bs) then [] else b ∷ back_trimmed bs

-- what stands between `<<` and `>>`, without white space at both ends
abbrev pub note_within : List ℕ → List ℕ
note_within bytes = back_trimmed (front_trimmed (slice_range bytes 2 (length bytes - 2)))

-- the word of a token of a kind, whose bytes are these
abbrev pub word_of : TokenKind → List ℕ → Word
word_of k.Name bytes = name_word (keyword_of bytes) bytes
word_of k.TypeName bytes = TypeName bytes
word_of k.Var bytes = Var (slice_range bytes 1 (length bytes))
word_of k.Str bytes = Str (text_within bytes)
word_of k.Pat bytes = Pat (text_within bytes)
word_of (k.Whole n) bytes = Whole n
word_of (k.Fraction d) bytes = Fraction d
word_of k.Note bytes = Note (note_within bytes)
word_of (k.Mark mark) bytes = Sign mark

abbrev pub lexeme_of : List ℕ → Token → Lexeme
lexeme_of text t = record { word = word_of t.kind (slice_range text t.from t.to); from = t.from; to = t.to }

-- what stands behind the tokens
abbrev pub ending : List ℕ → Lexeme
ending text = record { word = End; from = length text; to = length text }

-- the lexemes of a text's tokens, and its end behind them
abbrev pub lexemes : List ℕ → List Token → ℕ → Lexeme
lexemes text tokens i = slice_index_or (map (lexeme_of text) tokens) i (ending text)
