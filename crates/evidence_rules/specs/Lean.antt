-- Evidence without repeated and needless lines.
use Rattle.std.specs.Prelude.{ℕ, ◌≡◌, ◌⊎◌, ◌<◌, List, Any, Contains, Some}
use Rattle.evidence_lines.specs.Lines.{line_of}
use Rattle.evidence_lines.specs.declared.line.Line.{Line}
use Rattle.evidence_lines.specs.declared.line.LineKind.TheVariants as kind
use Rattle.evidence_lines.specs.declared.line.Outcome.{Outcome}
use Rattle.evidence_lines.specs.declared.line.Outcome.TheVariants as says
use Rattle.guard_syntax.specs.declared.row.Origin.{Origin}
use Rattle.guard_syntax.specs.declared.row.Origin.TheVariants as origin
use Rattle.guard_syntax.specs.declared.row.Row.{Row}
use Rattle.guard_syntax.specs.declared.row.Row.TheVariants.{Found, Missing, Unmade}

-- a value names the line whose call made it
abbrev pub IsMadeBy : ℕ → Origin → Type 0
IsMadeBy number origin.Template = ⊥
IsMadeBy number (origin.Literal site) = ⊥
IsMadeBy number (origin.Made line row) = line ≡ number

abbrev pub RowNames : ℕ → Row → Type 0
RowNames number (Found v) = IsMadeBy number v.origin
RowNames number (Missing v step) = IsMadeBy number v.origin
RowNames number (Unmade site) = ⊥

abbrev pub OutcomeNames : ℕ → Outcome → Type 0
OutcomeNames number (says.Value v) = IsMadeBy number v.origin
OutcomeNames number (says.Rows rows) = Any (RowNames number) rows
OutcomeNames number (says.Verdict verdict) = ⊥

-- a line names another as a cite, as its frame, or in a value
abbrev pub LineNames : ℕ → Line → Type 0
LineNames number line = Contains line.cites number ⊎ ((line.frame ≡ Some number) ⊎ OutcomeNames number line.outcome)

-- two lines agree in kind, frame and site; frames in their value too
pub record AreAlike (line other : Line) : Type 0 where
  pub same_kind : line.kind ≡ other.kind
  pub same_frame : line.frame ≡ other.frame
  pub same_site : line.site ≡ other.site
  pub same_value : line.kind ≡ kind.Frame → line.outcome ≡ other.outcome

pub record IsLean (lines : List Line) : Type 0 where
  -- no two lines are alike
  pub apart : (number at : ℕ) (line other : Line) → line_of lines number ≡ Some line → line_of lines at ≡ Some other → AreAlike line other → number ≡ at
  -- every line but those of rules is named later
  pub used : (number : ℕ) (line : Line) → line_of lines number ≡ Some line → (line.kind ≡ kind.Rule → ⊥)
      → (at : ℕ) × (other : Line) × (number < at) × (line_of lines at ≡ Some other) × LineNames number other
