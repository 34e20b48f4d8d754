-- Rows and nodes of a part of a tree, as a tree of its own.
use Rattle.std.specs.Prelude.{ℕ, ◌-◌, ◌<◌, ◌≡◌, List, ◌++◌, length, Option, Some}
use Rattle.key_names.specs.declared.names.Names.{Names}
use Rattle.doc_values.specs.declared.node.Seat.{Seat}
use Rattle.doc_values.specs.code.Rows.{Row}
use Rattle.doc_values.specs.code.Entries.{Entry, named_in}
use Rattle.key_names.specs.code.Names.{texts_of, IsTable}

-- where a row stands below a node at a depth, with a number, when that is the root
abbrev pub seat_below : ℕ → ℕ → Seat → Seat
seat_below depth number s = record { depth = s.depth - depth; under = s.under - number; index = s.index }

abbrev pub row_below : ℕ → ℕ → Row → Row
row_below depth number r = record { depth = r.depth - depth; under = r.under - number; index = r.index; label = r.label }

-- a node at another seat, with the number of its name in another table
abbrev pub seated : Seat → Option ℕ → Entry → Entry
seated s name e = record { depth = s.depth; under = s.under; index = s.index; kind = e.kind; text = e.text; name = name; at = e.at }

-- the name of a key is there, maybe with other names more
pub record Notes (own old new : Names) (name found : Option ℕ) : Type 0 where
  pub table : IsTable new
  pub more : List (List ℕ)
  pub grown : texts_of new ≡ texts_of old ++ more
  pub within : (n : ℕ) → found ≡ Some n → n < length (texts_of new)
  pub same : named_in (texts_of new) found ≡ named_in (texts_of own) name
