-- Tests of rows, one row after another.
use Rattle.std.specs.Prelude.{Bool, true, false, List}
use Rattle.std.specs.List.{list_all, list_any}
use Rattle.guard_syntax.specs.declared.row.Row.{Row}

-- a test holds of rows: with `some` of one of them, else of each
abbrev pub holds_for : (any : Bool) → (Row → Bool) → List Row → Bool
holds_for true holds rows = list_any holds rows
holds_for false holds rows = list_all holds rows
