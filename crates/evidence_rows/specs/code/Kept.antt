-- A row of an answer where its trees are kept.
use Rattle.std.specs.Prelude.{ℕ, false}
use Rattle.guard_syntax.specs.declared.row.Origin.TheVariants as origin
use Rattle.guard_syntax.specs.declared.row.Row.{Row}
use Rattle.guard_syntax.specs.declared.row.Row.TheVariants as row
use Rattle.rule_meaning.specs.Functions.{MadeRow, New, Kept}

-- a new tree is found at its root, at a line and its place in the answer; any other row stays
abbrev pub row_kept : (line at : ℕ) → MadeRow → Row
row_kept line at (New tree) = row.Found (record { origin = origin.Made line at; node = 0; key = false })
row_kept line at (Kept r) = r
