-- A tree that grows: the rows, and the key of the row that comes next.
use Rattle.std.specs.Prelude.{ℕ, ◌≡◌, List, Option, Some, None}
use Rattle.doc_values.specs.code.Rows.{Row}

-- a key that awaits its value, and the number that it will stand under
pub record Awaited : Type 0 where
  pub text : List ℕ
  pub under : ℕ

pub record Growth : Type 0 where
  pub rows : List Row
  pub key : Option Awaited

abbrev pub key_of : Option Awaited → Option (List ℕ)
key_of None = None
key_of (Some key) = Some key.text

-- the key, if one awaits its value, will stand under this number
abbrev pub IsFor : ℕ → Option Awaited → Type 0
IsFor w None = Unit {0}
IsFor w (Some key) = key.under ≡ w
