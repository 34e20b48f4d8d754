-- What the tokens of a text spell, and why they spell nothing.
use Rattle.std.specs.Prelude.{◌≡◌, ℕ, true, ◌≤◌, ◌+◌, List, ◌++◌, length, map, take, slice_index_or, Option, Some, None}
use Rattle.guard_lexer.specs.declared.token.Token.{Token}
use Rattle.guard_syntax.specs.Syntax.{File}
use Rattle.guard_parser.specs.declared.refusal.ParseRefusal.{ParseRefusal}
use Rattle.guard_parser.specs.declared.refusal.ParseRefusal.TheVariants as r
use Rattle.literal_parser.specs.Lexemes.{Lexeme, lexeme_of, ending, lexemes}
use Rattle.literal_parser.specs.Forms.{form, is_end, is_opening}
use Rattle.literal_parser.specs.Brackets.{open_before, IsShallowTo}
use Rattle.literal_parser.specs.States.{State, start}
use Rattle.guard_parser.specs.Grammar.{IsContents}

-- the first lexemes, so many, spell a file, whose sites begin at its places; the first range with a whole and a decimal bound, if there is one
abbrev pub IsSpelledBy : (ℕ → Lexeme) → ℕ → File → Option ℕ → Type 0
IsSpelledBy s n f mixed = (b : State) × IsContents s f.lets f.rules f.loose start b × (b.at ≡ n) × (f.places ≡ b.places) × (mixed ≡ b.mixed)

-- the tokens of a text, all of them, spell a file
abbrev pub IsSpelled : List ℕ → List Token → File → Option ℕ → Type 0
IsSpelled text tokens f mixed = IsSpelledBy (lexemes text tokens) (length tokens) f mixed

-- ---- brackets

-- a bracket opens while 128 are open: the first such one, at a byte offset
abbrev pub IsTooDeep : List ℕ → List Token → ℕ → Type 0
IsTooDeep text tokens at = (i : ℕ) × (is_opening (form (lexemes text tokens i)) ≡ true) × (128 ≤ open_before (lexemes text tokens) i)
    × IsShallowTo (lexemes text tokens) i × (at ≡ (lexemes text tokens i).from)

abbrev pub IsShallow : List ℕ → List Token → Type 0
IsShallow text tokens = IsShallowTo (lexemes text tokens) (length tokens)

-- ---- the contract of the reader

-- the grammar of rule files
abbrev pub Rules : List ℕ → List Token → File → Type 0
Rules text tokens f = IsShallow text tokens × IsSpelled text tokens f None

-- a rule file but for a range with a whole and a decimal bound: the first such one, at a byte offset
abbrev pub IsBadRange : List ℕ → List Token → ℕ → Type 0
IsBadRange text tokens at = IsShallow text tokens × ((f : File) × IsSpelled text tokens f (Some at))

-- lexemes in a row, and an end behind them
abbrev pub listed : List Lexeme → Lexeme → ℕ → Lexeme
listed xs end i = slice_index_or xs i end

-- the lexemes of a text's tokens, and some more in place of its end
abbrev pub going_on : List ℕ → List Token → List Lexeme → ℕ → Lexeme
going_on text tokens more = listed (map (lexeme_of text) tokens ++ more) (ending text)

-- the tokens and some lexemes more spell a file in which no bracket opens while 128 are open
abbrev pub MayGoOn : List ℕ → List Token → Type 0
MayGoOn text tokens = (more : List Lexeme) × (f : File) × (mixed : Option ℕ) × IsSpelledBy (going_on text tokens more) (length tokens + length more) f mixed
    × IsShallowTo (going_on text tokens more) (length tokens + length more)

-- the first lexeme, or the end of the text, with which no file goes on, at this byte offset: the tokens before it and some lexemes more spell a file;
-- whatever lexemes, with an end behind them, begin with those up to it and with it, they spell none in which no bracket opens while 128 are open
abbrev pub IsDeadEnd : List ℕ → List Token → ℕ → Type 0
IsDeadEnd text tokens at = IsShallow text tokens × ((k : ℕ) × ((at ≡ (lexemes text tokens k).from) × MayGoOn text (take k tokens))
    × ((xs : List Lexeme) (end : Lexeme) (f : File) (mixed : Option ℕ) → is_end (form end) ≡ true → ((i : ℕ) → i ≤ k → listed xs end i ≡ lexemes text tokens i)
    → IsSpelledBy (listed xs end) (length xs) f mixed → IsShallowTo (listed xs end) (length xs) → ⊥))

-- why tokens spell no rule file
abbrev pub IsRefused : List ℕ → List Token → ParseRefusal → Type 0
IsRefused text tokens (r.NestTooDeep at) = IsTooDeep text tokens at
IsRefused text tokens (r.Syntax at) = IsDeadEnd text tokens at
IsRefused text tokens (r.BadRange at) = IsBadRange text tokens at
IsRefused text tokens r.NoMemory = Unit {0}
