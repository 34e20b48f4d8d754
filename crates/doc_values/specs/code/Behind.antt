-- Rows and nodes of a tree behind those of another.
use Rattle.std.specs.Prelude.{ℕ, ◌+◌, ◌<◌, ◌≡◌, List, length, nat_eq, if◌then◌else◌, slice_index, Option, Some, None}
use Rattle.doc_values.specs.code.Rows.{Row}
use Rattle.doc_values.specs.code.Entries.{Entry}

-- where a row stands behind others, below a root with so many entries and so many nodes: an entry stands behind these entries, all else under a higher number
abbrev pub under_behind : ℕ → ℕ → ℕ
under_behind nodes under = if nat_eq under 1 then 1 else under + nodes

abbrev pub index_behind : ℕ → ℕ → ℕ → ℕ
index_behind entries under index = if nat_eq under 1 then index + entries else index

abbrev pub row_behind : ℕ → ℕ → Row → Row
row_behind nodes entries r = record { depth = r.depth; under = under_behind nodes r.under; index = index_behind entries r.under r.index; label = r.label }

-- the number of a name in another table
abbrev pub renamed : List ℕ → Option ℕ → Option ℕ
renamed numbers None = None
renamed numbers (Some n) = Some (slice_index numbers n)

abbrev pub entry_behind : List ℕ → ℕ → ℕ → Entry → Entry
entry_behind numbers nodes entries e = record { depth = e.depth; under = under_behind nodes e.under; index = index_behind entries e.under e.index; kind = e.kind; text = e.text; name = renamed numbers e.name; at = e.at }

-- the numbers of the row, moved, have 32 bits, and its name has a number in the other table
pub record FitsBehind (numbers : List ℕ) (nodes entries : ℕ) (e : Entry) : Type 0 where
  pub named : (n : ℕ) → e.name ≡ Some n → n < length numbers
  pub under : e.under + nodes < 4294967296
  pub index : e.index + entries < 4294967296
