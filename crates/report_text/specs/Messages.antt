-- The message of a part, as it is quoted.
use Rattle.std.specs.Prelude.{ℕ, ◌-◌, Bool, ◌||◌, ◌==◌, List, [], ◌∷◌, ◌++◌, Option, Some, None, codes, drop, take, length, if◌then◌else◌}
use Rattle.std.specs.List.{flat_map, prefix_len, suffix_len}
use Rattle.report_text.specs.Spelling.{is_control, hex_pair}

-- white space: a space, a tab, CR or LF
abbrev pub is_white : ℕ → Bool
is_white b = b == 32 || (b == 9 || (b == 13 || b == 10))

-- without the white space at the front
abbrev pub without_front : List ℕ → List ℕ
without_front text = drop (prefix_len is_white text) text

-- without the white space at the end
abbrev pub without_end : List ℕ → List ℕ
without_end text = take (length text - suffix_len is_white text) text

abbrev pub trimmed : List ℕ → List ℕ
trimmed text = without_end (without_front text)

-- a byte in quotes: `"` and `\` behind a `\`, and a control byte as `\u00` and its digits
abbrev pub quoted_byte : ℕ → List ℕ
quoted_byte b = if b == 34 then codes "\\\"" else (if b == 92 then codes "\\\\" else (if is_control b then codes "\\u00" ++ hex_pair b else b ∷ []))

abbrev pub quoted : List ℕ → List ℕ
quoted text = codes "\"" ++ flat_map quoted_byte (trimmed text) ++ codes "\""

-- a space and the message in quotes, where there is one
abbrev pub note_text : Option (List ℕ) → List ℕ
note_text None = []
note_text (Some note) = codes " " ++ quoted note
