-- A row as it is stored: its key is the number of a name.
use Rattle.std.specs.Prelude.{ℕ, ◌≡◌, ◌<◌, List, [], map, length, slice_index_or, Option, Some, None}
use Rattle.doc_values.specs.declared.kind.Kind.{Kind}
use Rattle.doc_values.specs.declared.kind.Kind.TheVariants as kind
use Rattle.doc_values.specs.code.Rows.{Row}

pub record Entry : Type 0 where
  pub depth : ℕ
  pub under : ℕ
  pub index : ℕ
  pub kind : Kind
  pub text : List ℕ
  pub name : Option ℕ
  pub at : ℕ

-- the text of a name among texts
abbrev pub named_in : List (List ℕ) → Option ℕ → Option (List ℕ)
named_in texts None = None
named_in texts (Some n) = Some (slice_index_or texts n [])

-- the row, where names have these texts
abbrev pub row_in : List (List ℕ) → Entry → Row
row_in texts e = record { depth = e.depth; under = e.under; index = e.index; label = record { kind = e.kind; text = e.text; key = named_in texts e.name; at = e.at } }

abbrev pub rows_in : List (List ℕ) → List Entry → List Row
rows_in texts es = map (row_in texts) es

-- what stands where nothing is stored
abbrev pub no_entry : Entry
no_entry = record { depth = 0; under = 0; index = 0; kind = kind.Null; text = []; name = None; at = 0 }

-- the row with a number has a name
abbrev pub IsNameAt : List Entry → ℕ → ℕ → Type 0
IsNameAt es i n = (slice_index_or es i no_entry).name ≡ Some n

-- the number that it stands under
abbrev pub under_at : List Entry → ℕ → ℕ
under_at es i = (slice_index_or es i no_entry).under

-- the names of all rows are among the first so many
abbrev pub AreNamed : List Entry → ℕ → Type 0
AreNamed es count = (i n : ℕ) → i < length es → IsNameAt es i n → n < count
