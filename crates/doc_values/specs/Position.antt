-- Lines and columns, both from 1.
use Rattle.std.specs.Prelude.{ℕ, suc, ◌+◌, ◌||◌, ◌==◌, List, [], ◌∷◌, length, take, nat_lt, if◌then◌else◌}

-- how many newline bytes there are
abbrev pub newlines : List ℕ → ℕ
newlines [] = 0
newlines (b ∷ bs) = if b == 10 then suc (newlines bs) else newlines bs

-- the bytes behind the last newline byte, all of them where there is none
abbrev pub last_line : List ℕ → List ℕ
last_line [] = []
last_line (b ∷ bs) = if b == 10 || nat_lt 0 (newlines bs) then last_line bs else b ∷ bs

-- the line of an offset: 1 and the newline bytes before it
abbrev pub line_at : List ℕ → ℕ → ℕ
line_at bytes at = 1 + newlines (take at bytes)

-- the column: 1 and the bytes since the last newline byte or the start
abbrev pub column_at : List ℕ → ℕ → ℕ
column_at bytes at = 1 + length (last_line (take at bytes))
