-- What is said of the outside: counts of faults and the front of what was to come.
use Rattle.std.specs.Prelude.{◌≡◌, ◌⊎◌, ℕ, ◌+◌, ◌-◌, ◌<◌, ◌≤◌, ◌^◌, ◌++◌, min, List}

-- a count is greater than before, or stands at its last value; so a rise within a longer stretch,
-- in which no count falls, is a rise over the whole of it
abbrev pub FaultCounted : ℕ → ℕ → Type 0
FaultCounted before after = (before < after) ⊎ (2 ^ 64 - 1 ≤ after)

-- a counter of 64 bits after one more; it stays at its last value
abbrev pub one_more : ℕ → ℕ
one_more count = min (count + 1) (2 ^ 64 - 1)

-- the first list begins the second
abbrev pub IsPrefix : List ℕ → List ℕ → Type 0
IsPrefix front whole = (rest : List ℕ) × (front ++ rest ≡ whole)
