-- Rows that the one line gives which is cited.
use Rattle.std.specs.Prelude.{ℕ, List, [], ◌∷◌}
use Rattle.guard_syntax.specs.declared.row.Row.{Row}

-- one line is cited, and gives the rows
abbrev pub GivesAlone : ((number : ℕ) → List Row → Type 0) → (cites : List ℕ) → List Row → Type 0
GivesAlone Gives (c ∷ []) rows = Gives c rows
GivesAlone Gives cites rows = ⊥
