-- What a function that reads ensures.
use Rattle.std.specs.Prelude.{◌≡◌, ◌-◌, ◌^◌, ℕ, min, Result, Ok, Err, ⊤}
use Rattle.literal_parser.specs.declared.token_cursor.Cursor.{Cursor}
use Rattle.literal_parser.specs.declared.token_cursor.Tokens.{Tokens}
use Rattle.literal_parser.specs.declared.cursor.Halt.{Halt}
use Rattle.literal_parser.specs.declared.cursor.Halt.TheVariants.{Dead, NoMemory}
use Rattle.literal_parser.specs.Lexemes.{Lexeme, lexemes}
use Rattle.literal_parser.specs.States.{State}
use Rattle.literal_parser.specs.code.Parser.{Outcome, Read, Fail}

-- the state in which a cursor is
abbrev pub state_of : Cursor → State
state_of c = record { at = c.at; places = c.places.items; mixed = c.mixed }

-- a value that is seen as it is
abbrev pub itself : {A : Type 0} → A → A
itself x = x

-- the outcome is the value that was returned, as it is seen, with the cursor behind it; or no value, and the last token
-- that was looked at; unless memory ran out
abbrev pub Reads : {X A : Type 0} → (X → A) → Outcome A → Result X Halt → Cursor → Type 0
Reads see outcome (Ok x) c = outcome ≡ Read (see x) (state_of c) c.seen
Reads see outcome (Err NoMemory) c = ⊤
Reads see outcome (Err (Dead k)) c = outcome ≡ Fail k

-- the number of a site in the code, by how many there are before it; the last number stands for those beyond, which no
-- text within the limit has
abbrev pub site_of : ℕ → ℕ
site_of n = min n (2 ^ 32 - 1)

-- the lexemes of the tokens of a text
unfoldable pub source : Tokens → ℕ → Lexeme
source tokens = lexemes tokens.text.now tokens.items.now
