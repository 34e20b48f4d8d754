-- Which bytes are a token of a form: the rows of the table of tokens.
use Rattle.std.specs.Prelude.{◌≡◌, ◌≢◌, ℕ, Bool, true, false, List, [], ◌∷◌, ◌++◌, ◌⊎◌}
use Rattle.decimals.specs.declared.decimal.Num.TheVariants as num
use Rattle.decimals.specs.Number.{IsSpelled, IsNumber, IsWholePart, Parts}
use Rattle.guard_lexer.specs.declared.token.Mark.{Mark}
use Rattle.guard_lexer.specs.declared.token.Mark.TheVariants as m
use Rattle.guard_lexer.specs.declared.token.TokenKind.{TokenKind}
use Rattle.guard_lexer.specs.declared.token.TokenKind.TheVariants as k
use Rattle.guard_lexer.specs.Bytes.{is_letter, is_word, Each}

-- a letter or `_`, then letters, digits and `_`
abbrev pub IsName : List ℕ → Type 0
IsName [] = ⊥
IsName (b ∷ bs) = (is_letter b ≡ true) × Each is_word bs

-- names, each behind `::`
abbrev pub AreParts : List (List ℕ) → List ℕ → Type 0
AreParts [] bytes = bytes ≡ []
AreParts (n ∷ ns) bytes = (rest : List ℕ) × (bytes ≡ 58 ∷ 58 ∷ (n ++ rest)) × IsName n × AreParts ns rest

-- two or more names, joined by `::`
abbrev pub IsTypeName : List ℕ → Type 0
IsTypeName bytes = (first rest : List ℕ) × (ns : List (List ℕ)) × (bytes ≡ first ++ rest) × IsName first × (ns ≢ []) × AreParts ns rest

-- `%` and at once a name
abbrev pub IsVar : List ℕ → Type 0
IsVar [] = ⊥
IsVar (b ∷ bs) = (b ≡ 37) × IsName bs

-- up to the next such quote and with it, where a backslash and the quote are no end; a backslash is nothing else
abbrev pub Closes : ℕ → List ℕ → Type 0
Closes q [] = ⊥
Closes q (b ∷ []) = b ≡ q
Closes q (b ∷ c ∷ bs) = ((b ≡ 92) × (c ≡ q) × Closes q bs) ⊎ ((b ≢ q) × ((b ≡ 92) → (c ≢ q)) × Closes q (c ∷ bs))

-- `"` to the next `"`, or `'` to the next `'`
abbrev pub IsStr : List ℕ → Type 0
IsStr [] = ⊥
IsStr (b ∷ bs) = ((b ≡ 34) ⊎ (b ≡ 39)) × Closes b bs

-- `/` to the next `/`
abbrev pub IsPat : List ℕ → Type 0
IsPat [] = ⊥
IsPat (b ∷ bs) = (b ≡ 47) × Closes 47 bs

-- up to the first `>>` and with it
abbrev pub EndsNote : List ℕ → Type 0
EndsNote [] = ⊥
EndsNote (b ∷ []) = ⊥
EndsNote (b ∷ c ∷ []) = (b ≡ 62) × (c ≡ 62)
EndsNote (b ∷ c ∷ d ∷ bs) = ((b ≡ 62) → (c ≢ 62)) × EndsNote (c ∷ d ∷ bs)

-- `<<` to the next `>>`
abbrev pub IsNote : List ℕ → Type 0
IsNote bytes = (rest : List ℕ) × (bytes ≡ 60 ∷ 60 ∷ rest) × EndsNote rest

-- a number text by RFC 8259, section 6; right behind a dot only digits, `0` or without a leading zero
abbrev pub IsNumeral : Bool → List ℕ → Type 0
IsNumeral false bytes = (p : Parts) × IsSpelled bytes p
IsNumeral true bytes = IsWholePart bytes

-- { } ( ) [ ] , | . * : = := == != ! < <= > >=
abbrev pub mark_text : Mark → List ℕ
mark_text m.LBrace = 123 ∷ []
mark_text m.RBrace = 125 ∷ []
mark_text m.LParen = 40 ∷ []
mark_text m.RParen = 41 ∷ []
mark_text m.LBracket = 91 ∷ []
mark_text m.RBracket = 93 ∷ []
mark_text m.Comma = 44 ∷ []
mark_text m.Bar = 124 ∷ []
mark_text m.Dot = 46 ∷ []
mark_text m.Star = 42 ∷ []
mark_text m.Colon = 58 ∷ []
mark_text m.Equals = 61 ∷ []
mark_text m.Define = 58 ∷ 61 ∷ []
mark_text m.Same = 61 ∷ 61 ∷ []
mark_text m.Differs = 33 ∷ 61 ∷ []
mark_text m.Bang = 33 ∷ []
mark_text m.Less = 60 ∷ []
mark_text m.LessEq = 60 ∷ 61 ∷ []
mark_text m.Greater = 62 ∷ []
mark_text m.GreaterEq = 62 ∷ 61 ∷ []

pub data Form : Type 0 where
  Name : Form
  TypeName : Form
  Var : Form
  Str : Form
  Pat : Form
  Numeral : Form
  Note : Form
  Sign : Mark → Form

-- these bytes have this form; the test tells whether they stand right behind a dot
abbrev pub HasForm : Bool → Form → List ℕ → Type 0
HasForm dot Name bytes = IsName bytes
HasForm dot TypeName bytes = IsTypeName bytes
HasForm dot Var bytes = IsVar bytes
HasForm dot Str bytes = IsStr bytes
HasForm dot Pat bytes = IsPat bytes
HasForm dot Numeral bytes = IsNumeral dot bytes
HasForm dot Note bytes = IsNote bytes
HasForm dot (Sign mark) bytes = bytes ≡ mark_text mark

-- the form of a kind
abbrev pub form_of : TokenKind → Form
form_of k.Name = Name
form_of k.TypeName = TypeName
form_of k.Var = Var
form_of k.Str = Str
form_of k.Pat = Pat
form_of (k.Whole n) = Numeral
form_of (k.Fraction d) = Numeral
form_of k.Note = Note
form_of (k.Mark mark) = Sign mark

-- a number's kind tells what its text is worth
abbrev pub IsWorth : TokenKind → List ℕ → Type 0
IsWorth (k.Whole n) bytes = IsNumber bytes (num.Whole n)
IsWorth (k.Fraction d) bytes = IsNumber bytes (num.Fraction d)
IsWorth _ bytes = Unit {0}
