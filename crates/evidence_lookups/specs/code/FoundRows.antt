-- Rows at which something was found.
use Rattle.std.specs.Prelude.{ℕ, ◌≡◌, List, [], ◌∷◌, filter}
use Rattle.evidence_lines.specs.declared.line.Line.{Line}
use Rattle.guard_syntax.specs.Syntax.{Query}
use Rattle.guard_syntax.specs.declared.row.Row.{Row}
use Rattle.rule_meaning.specs.StoreModel.{StoreModel}
use Rattle.evidence_rules.specs.CitedLines.{GivesQuery}
use Rattle.rule_meaning.specs.Verdicts.{is_found}

-- one line is cited and gives the rows of a query, and these are those of them at which something was found
abbrev pub AreFoundBy : StoreModel → List Line → (frame : ℕ) → Query → (cites : List ℕ) → List Row → Type 0
AreFoundBy known lines frame q (c ∷ []) rows = (all : List Row) × GivesQuery known.file lines frame q c all × (rows ≡ filter is_found all)
AreFoundBy known lines frame q cites rows = ⊥
