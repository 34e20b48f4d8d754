-- How bytes and places are spelled in the report.
use Rattle.std.specs.Prelude.{ℕ, ◌/◌, ◌%◌, Bool, ◌||◌, ◌==◌, List, [], ◌∷◌, ◌++◌, nat_lt, codes, decimal}
use Rattle.std.specs.Char.{digit_char}
use Rattle.doc_values.specs.Position.{line_at, column_at}

-- a byte that is no sign: one below 20 hex, or 7f
abbrev pub is_control : ℕ → Bool
is_control b = nat_lt b 32 || b == 127

-- the two lower-case hexadecimal digits of a byte
abbrev pub hex_pair : ℕ → List ℕ
hex_pair b = digit_char (b / 16) ∷ digit_char (b % 16) ∷ []

-- `line:column` of a byte offset in a file's bytes
abbrev pub place_text : List ℕ → ℕ → List ℕ
place_text bytes at = decimal (line_at bytes at) ++ codes ":" ++ decimal (column_at bytes at)
