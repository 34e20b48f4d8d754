-- Lines whose values a store knows.
use Rattle.std.specs.Prelude.{ℕ, ◌≡◌, Bool, true, List, Some}
use Rattle.std.specs.List.{list_all}
use Rattle.doc_values.specs.Tree.{Forest, IsTree}
use Rattle.evidence_lines.specs.Lines.{line_of}
use Rattle.evidence_lines.specs.declared.line.Line.{Line}
use Rattle.evidence_lines.specs.declared.line.Outcome.{Outcome}
use Rattle.evidence_lines.specs.declared.line.Outcome.TheVariants as says
use Rattle.guard_syntax.specs.Syntax.{File}
use Rattle.rule_meaning.specs.StoreModel.{StoreModel, is_known, is_known_ref, literal_at}

-- the store knows each value of what a line says
abbrev pub is_known_outcome : StoreModel → Outcome → Bool
is_known_outcome known (says.Value v) = is_known_ref known v
is_known_outcome known (says.Rows rows) = list_all (is_known known) rows
is_known_outcome known (says.Verdict verdict) = true

abbrev pub AreKnown : StoreModel → List Line → Type 0
AreKnown known lines = (number : ℕ) (line : Line) → line_of lines number ≡ Some line → is_known_outcome known line.outcome ≡ true

-- the literals of a file are trees
abbrev pub AreTrees : File → Type 0
AreTrees file = (site : ℕ) (tree : Forest) → literal_at file site ≡ Some tree → IsTree tree
