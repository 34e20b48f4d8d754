-- How the lexemes of a canonical text go with those that its syntax was read of. The first lexemes are those of the source,
-- the others those of the text.
use Rattle.std.specs.Prelude.{◌≡◌, ℕ, suc, ◌+◌, ◌≤◌, Bool, true, false, List, [], ◌∷◌, ◌++◌, length, codes, Some, None, is_none}
use Rattle.guard_lexer.specs.declared.token.TokenKind.TheVariants as k
use Rattle.literal_parser.specs.Lexemes.{Lexeme, Word, Name, Reserved, TypeName, Var, Str, Pat, Whole, Fraction, Note, Sign, End, word_of, keyword_of}
use Rattle.literal_parser.specs.Forms.{word_form, is_bar, is_lparen, is_note, begins_step, goes_on}
use Rattle.literal_parser.specs.States.{State, Rel}
use Rattle.rule_spelling.specs.Spelling.{quoted, pattern_text}
use Rattle.rule_spelling.specs.code.Pieces.{Piece, note_spelling}
use Rattle.rule_words.specs.WordText.{is_name}

-- a text is read back from its quotes
abbrev pub IsQuotable : List ℕ → Type 0
IsQuotable text = word_of k.Str (quoted text) ≡ Str text

-- a word of the source is read back from how it is spelled
abbrev pub IsReadBack : Word → Type 0
IsReadBack (Name name) = (keyword_of name ≡ None) × (is_name name ≡ true) × IsQuotable name
IsReadBack (Reserved keyword name) = (keyword_of name ≡ Some keyword) × (is_name name ≡ true) × IsQuotable name
IsReadBack (Var name) = word_of k.Var (codes "%" ++ name) ≡ Var name
IsReadBack (Str text) = IsQuotable text
IsReadBack (Pat text) = word_of k.Pat (pattern_text text) ≡ Pat text
IsReadBack (Note text) = word_of k.Note (note_spelling text) ≡ Note text
IsReadBack (TypeName name) = Unit {0}
IsReadBack (Whole n) = Unit {0}
IsReadBack (Fraction d) = Unit {0}
IsReadBack (Sign mark) = Unit {0}
IsReadBack End = Unit {0}

-- the lexemes from a place on, the one before which ends at an offset, are those of pieces, and behind them is the first end, twice
abbrev pub Shows : (ℕ → Lexeme) → ℕ → ℕ → List Piece → Type 0
Shows t i at [] = ((t i).word ≡ End) × ((t (suc i)).word ≡ End) × ((j : ℕ) → (t j).word ≡ End → i ≤ j)
Shows t i at (p ∷ ps) = ((t i).word ≡ word_of p.kind p.text) × ((t i).from ≡ at + length p.gap) × Shows t (suc i) (t i).to ps

-- the form of the first lexeme of pieces, and of the second
abbrev pub first_form : List Piece → ℕ
first_form [] = 0
first_form (p ∷ ps) = word_form (word_of p.kind p.text)

abbrev pub second_form : List Piece → ℕ
second_form [] = 0
second_form (p ∷ ps) = first_form ps

-- states of both with as many sites, and a mixed range before them in both or in none
pub record IsLevel (a b : State) : Type 0 where
  pub sites : length b.places ≡ length a.places
  pub mixed : is_none b.mixed ≡ is_none a.mixed

-- from a state of the text on, its lexemes spell something that is the same as x in all but places, and behind it show the
-- pieces that are left
pub record Told {A : Type 0} (t : ℕ → Lexeme) (spells : A → Rel) (bare : A → A) (x : A) (behind : State) (from : State) (rest : List Piece) : Type 0 where
  pub value : A
  pub same : bare value ≡ bare x
  pub to : State
  pub spelled : spells value from to
  pub level : IsLevel behind to
  pub last : ℕ
  pub shown : Shows t to.at last rest

-- no list and no option of a part goes on with these two forms; the test tells whether blocks may stand
pub record IsQuiet (full : Bool) (v w : ℕ) : Type 0 where
  pub step : begins_step v ≡ false
  pub paren : is_lparen v ≡ false
  pub note : is_note v ≡ false
  pub bar : is_bar v ≡ false
  pub led : goes_on full v w ≡ false
