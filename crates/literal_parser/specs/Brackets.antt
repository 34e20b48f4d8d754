-- How many brackets are open before a lexeme.
use Rattle.std.specs.Prelude.{◌≡◌, ℕ, zero, suc, pred, true, ◌<◌, if◌then◌else◌}
use Rattle.literal_parser.specs.Lexemes.{Lexeme}
use Rattle.literal_parser.specs.Forms.{form, is_opening, is_closing}

-- how many brackets are open behind a lexeme, whatever their kinds
abbrev pub open_behind : ℕ → ℕ → ℕ
open_behind n open_count = if is_opening n then suc open_count else (if is_closing n then pred open_count else open_count)

-- how many are open before a place
abbrev pub open_before : (ℕ → Lexeme) → ℕ → ℕ
open_before s zero = 0
open_before s (suc i) = open_behind (form (s i)) (open_before s i)

-- no bracket before a place opens while 128 are open
abbrev pub IsShallowTo : (ℕ → Lexeme) → ℕ → Type 0
IsShallowTo s n = (i : ℕ) → i < n → is_opening (form (s i)) ≡ true → open_before s i < 128
