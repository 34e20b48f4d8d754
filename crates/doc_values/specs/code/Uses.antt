-- Where names stand among the rows, seen from the last row on: links lead from a row to an earlier one with its name.
use Rattle.std.specs.Prelude.{ℕ, ◌-◌, ◌<◌, ◌≤◌, List, length, slice_index}
use Rattle.doc_values.specs.code.Entries.{Entry, IsNameAt, under_at}

-- a place is right behind a row with a name, or in front of all rows
abbrev pub IsBehindName : List Entry → ℕ → ℕ → Type 0
IsBehindName es n b = (b ≤ length es) × (0 < b → IsNameAt es (b - 1) n)

-- the rows with a name between two places stand under higher numbers
abbrev pub AreDeeper : List Entry → ℕ → ℕ → ℕ → ℕ → Type 0
AreDeeper es n b e w = (i : ℕ) → b ≤ i → i < e → IsNameAt es i n → w < under_at es i

-- a row's link leads behind an earlier row with its name; those between stand deeper than the row
pub record IsLink (es : List Entry) (n : ℕ) (j l : ℕ) : Type 0 where
  pub behind : IsBehindName es n l
  pub before : l ≤ j
  pub deeper : AreDeeper es n l j (under_at es j)

-- each row with a name has a link
abbrev pub AreLinks : List Entry → List ℕ → Type 0
AreLinks es links = (j n : ℕ) → j < length es → IsNameAt es j n → IsLink es n j (slice_index links j)

-- the place behind the last row with a name
pub record IsLast (es : List Entry) (n : ℕ) (b : ℕ) : Type 0 where
  pub behind : IsBehindName es n b
  pub last : (i : ℕ) → b ≤ i → i < length es → IsNameAt es i n → ⊥

-- each row stands under a number that is no higher than its own
abbrev pub AreLow : List Entry → Type 0
AreLow es = (i : ℕ) → i < length es → under_at es i ≤ i

-- what stands under a number is open: all rows from that number on stand in it
pub record IsOpen (es : List Entry) (w : ℕ) : Type 0 where
  pub within : w ≤ length es
  pub inside : (i : ℕ) → w ≤ i → i < length es → w ≤ under_at es i
