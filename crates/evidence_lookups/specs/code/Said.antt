-- What the lines before may be relied on for, once each of them follows.
use Rattle.std.specs.Prelude.{ℕ, ◌≡◌, ◌≤◌, Bool, true, List, [], ◌∷◌, All, Some}
use Rattle.std.specs.List.{list_all}
use Rattle.evidence_lines.specs.declared.line.Line.{Line}
use Rattle.evidence_lines.specs.declared.line.LineKind.TheVariants as kind
use Rattle.evidence_lines.specs.declared.line.Outcome.{Outcome}
use Rattle.evidence_lines.specs.declared.line.Outcome.TheVariants as says
use Rattle.guard_syntax.specs.declared.row.Row.TheVariants.{Found}
use Rattle.rule_meaning.specs.StoreModel.{StoreModel, Made, is_known, is_known_ref}
use Rattle.rule_meaning.specs.Roots.{literal_ref}

-- the store knows all that is said
abbrev pub is_known_outcome : StoreModel → Outcome → Bool
is_known_outcome known (says.Value v) = is_known_ref known v
is_known_outcome known (says.Rows rows) = list_all (is_known known) rows
is_known_outcome known (says.Verdict verdict) = true

-- a line says what is known, and that of a literal says the literal
pub record IsSound (known : StoreModel) (line : Line) : Type 0 where
  pub known_is : is_known_outcome known line.outcome ≡ true
  pub literal_is : (site : ℕ) → line.kind ≡ kind.Literal → line.site ≡ Some site → line.outcome ≡ says.Rows (Found (literal_ref site) ∷ [])

abbrev pub AreSound : StoreModel → List Line → Type 0
AreSound known lines = All (IsSound known) lines

-- each tree was made by one of so many lines
abbrev pub AreMadeWithin : ℕ → List Made → Type 0
AreMadeWithin number made = All (λ (m : Made). m.line ≤ number) made
