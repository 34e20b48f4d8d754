-- Lines as the code holds them.
use Rattle.std.specs.Prelude.{ℕ, ◌<◌, ◌≤◌, ◌+◌, Bool, true, false, List, [], ◌∷◌, Option, Some, None, All, length, map, take, drop, slice_get, option_and_then}
use Rattle.guard_syntax.specs.declared.row.Origin.TheVariants.{Template}
use Rattle.guard_syntax.specs.declared.row.Ref.{Ref}
use Rattle.guard_syntax.specs.declared.row.Row.{Row}
use Rattle.guard_syntax.specs.declared.row.Row.TheVariants.{Found}
use Rattle.guard_syntax.specs.declared.row.Verdict.TheVariants.{Pass, Fail, Skip}
use Rattle.evidence_lines.specs.code.RowsSeen.{node_row}
use Rattle.evidence_lines.specs.declared.held.Held.{Held}
use Rattle.evidence_lines.specs.declared.held.HeldLine.{HeldLine}
use Rattle.evidence_lines.specs.declared.held.Place.{Place}
use Rattle.evidence_lines.specs.declared.held.PlaceForm.{PlaceForm}
use Rattle.evidence_lines.specs.declared.held.PlaceForm.TheVariants as place
use Rattle.evidence_lines.specs.declared.held.RunForm.{RunForm}
use Rattle.evidence_lines.specs.declared.held.RunForm.TheVariants as run
use Rattle.evidence_lines.specs.declared.held.SaidForm.{SaidForm}
use Rattle.evidence_lines.specs.declared.held.SaidForm.TheVariants as said
use Rattle.evidence_lines.specs.declared.held.Span.{Span}
use Rattle.evidence_lines.specs.declared.line.Line.{Line}
use Rattle.evidence_lines.specs.declared.line.Outcome.{Outcome}
use Rattle.evidence_lines.specs.declared.line.Outcome.TheVariants as says

-- the items of a span
abbrev pub cut_span : {A : Type 0} → List A → Span → List A
cut_span xs span = take span.count (drop span.start xs)

-- they are all there
abbrev pub IsCut : ℕ → Span → Type 0
IsCut many span = span.start + span.count ≤ many

abbrev pub span_of : (start count : ℕ) → Span
span_of start count = record { start = start; count = count }

-- a span, which is there
abbrev pub span_in : Option Span → Span
span_in None = span_of 0 0
span_in (Some span) = span

-- the span of a run, by its form
abbrev pub span_at : List Span → RunForm → ℕ → Span
span_at spans run.None at = span_of at 0
span_at spans run.One at = span_of at 1
span_at spans run.Two at = span_of at 2
span_at spans run.More at = span_in (slice_get spans at)

-- it stands beside the lines where it is not held here
abbrev pub HasSpan : ℕ → RunForm → ℕ → Type 0
HasSpan many run.More at = at < many
HasSpan many form at = Unit {0}

-- a run has its span, and that its items
pub record IsRun (many : ℕ) (spans : List Span) (form : RunForm) (at : ℕ) : Type 0 where
  pub spanned : HasSpan (length spans) form at
  pub within : IsCut many (span_at spans form at)

-- the items of a run
abbrev pub cut_run : {A : Type 0} → List A → List Span → RunForm → ℕ → List A
cut_run xs spans form at = cut_span xs (span_at spans form at)

-- the frame, by its form
abbrev pub frame_at : List Place → PlaceForm → ℕ → Option ℕ
frame_at places place.None frame = None
frame_at places place.Here frame = Some frame
frame_at places place.Beside frame = option_and_then (λ p. p.frame) (slice_get places frame)

-- the site
abbrev pub site_at : List Place → PlaceForm → (frame site : ℕ) → Option ℕ
site_at places place.None frame site = None
site_at places place.Here frame site = Some site
site_at places place.Beside frame site = option_and_then (λ p. p.site) (slice_get places frame)

abbrev pub node_ref : Bool → ℕ → Ref
node_ref key node = record { origin = Template; node = node; key = key }

-- the value of the only row
abbrev pub value_in : List Row → Ref
value_in (Found v ∷ []) = v
value_in rows = node_ref false 0

-- the form of a line that says a run of rows
abbrev pub rows_form : RunForm → SaidForm
rows_form run.None = said.NoRows
rows_form run.One = said.Row
rows_form run.Two = said.TwoRows
rows_form run.More = said.Rows

-- what is said, by its form
abbrev pub outcome_at : List Row → List ℕ → List Span → SaidForm → ℕ → Outcome
outcome_at rows nodes spans said.Node at = says.Value (node_ref false at)
outcome_at rows nodes spans said.Key at = says.Value (node_ref true at)
outcome_at rows nodes spans said.Value at = says.Value (value_in (cut_run rows spans run.One at))
outcome_at rows nodes spans said.NodeRow at = says.Rows (Found (node_ref false at) ∷ [])
outcome_at rows nodes spans said.KeyRow at = says.Rows (Found (node_ref true at) ∷ [])
outcome_at rows nodes spans said.NoRows at = says.Rows (cut_run rows spans run.None at)
outcome_at rows nodes spans said.Row at = says.Rows (cut_run rows spans run.One at)
outcome_at rows nodes spans said.TwoRows at = says.Rows (cut_run rows spans run.Two at)
outcome_at rows nodes spans said.Rows at = says.Rows (cut_run rows spans run.More at)
outcome_at rows nodes spans said.NodeRows at = says.Rows (map node_row (cut_run nodes spans run.More at))
outcome_at rows nodes spans said.Pass at = says.Verdict Pass
outcome_at rows nodes spans said.Fail at = says.Verdict Fail
outcome_at rows nodes spans said.Skip at = says.Verdict Skip

abbrev pub see_line : List ℕ → List Span → List Row → List ℕ → List Span → List Place → HeldLine → Line
see_line cites cite_spans rows nodes row_spans places l = record {
  kind = l.kind;
  frame = frame_at places l.place l.frame;
  site = site_at places l.place l.frame l.site;
  cites = cut_run cites cite_spans l.cites l.cites_at;
  outcome = outcome_at rows nodes row_spans l.said l.said_at;
}

-- the lines
abbrev pub see_lines : Held → List Line
see_lines h = map (see_line h.cites.items h.cite_spans.items h.rows.items h.nodes.items h.row_spans.items h.places.items) h.lines.items

-- what is said has its rows
abbrev pub HasRows : ℕ → ℕ → List Span → SaidForm → ℕ → Type 0
HasRows many nodes spans said.Value at = IsRun many spans run.One at
HasRows many nodes spans said.NoRows at = IsRun many spans run.None at
HasRows many nodes spans said.Row at = IsRun many spans run.One at
HasRows many nodes spans said.TwoRows at = IsRun many spans run.Two at
HasRows many nodes spans said.Rows at = IsRun many spans run.More at
HasRows many nodes spans said.NodeRows at = IsRun nodes spans run.More at
HasRows many nodes spans form at = Unit {0}

-- the place stands beside the lines where it is not held here
abbrev pub HasPlace : ℕ → PlaceForm → ℕ → Type 0
HasPlace many place.Beside frame = frame < many
HasPlace many form frame = Unit {0}

-- a line has what it is made of
pub record IsWithin (cites : ℕ) (cite_spans : List Span) (rows nodes : ℕ) (row_spans : List Span) (places : ℕ) (l : HeldLine) : Type 0 where
  pub cited : IsRun cites cite_spans l.cites l.cites_at
  pub said : HasRows rows nodes row_spans l.said l.said_at
  pub placed : HasPlace places l.place l.frame

-- and so has each
abbrev pub IsHeld : Held → Type 0
IsHeld h = All (IsWithin (length h.cites.items) h.cite_spans.items (length h.rows.items) (length h.nodes.items) h.row_spans.items (length h.places.items)) h.lines.items

-- lines of which so many are meant, which are there
pub record IsFront (h : Held) (count : ℕ) : Type 0 where
  pub held : IsHeld h
  pub within : count ≤ length h.lines.items
