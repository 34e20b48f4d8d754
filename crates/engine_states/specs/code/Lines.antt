-- How the lines of the evidence tell the frames: each frame has a line that says it.
use Rattle.std.specs.Prelude.{ℕ, ◌≡◌, List, Option, Some, None, slice_get}
use Rattle.evidence_lines.specs.Lines.{line_of}
use Rattle.evidence_lines.specs.declared.line.Line.{Line}
use Rattle.evidence_lines.specs.declared.line.LineKind.TheVariants as kind
use Rattle.evidence_lines.specs.declared.line.Outcome.TheVariants as says
use Rattle.guard_syntax.specs.declared.row.Ref.{Ref}
use Rattle.rule_meaning.specs.Roots.{root_ref}
use Rattle.evidence_rules.specs.CitedLines.{IsLine}
use Rattle.scope_frames.specs.declared.frame.Frame.{Frame}

-- `framed` has the number of the line of each frame, by the number of the frame
module _ (lines : List Line) (framed : List ℕ) where
  -- the line of a number is that of a frame with this parent, site and value
  abbrev pub SaysFrame : (parent : Option ℕ) → (site : ℕ) → (current : Ref) → (number : ℕ) → Type 0
  SaysFrame None site current number = (line : Line) × (line_of lines number ≡ Some line) × (line.kind ≡ kind.File) × (line.frame ≡ None) × (line.outcome ≡ says.Value root_ref) × (current ≡ root_ref)
  SaysFrame (Some parent) site current number = (at : ℕ) × (slice_get framed parent ≡ Some at) × IsLine lines number kind.Frame at site (says.Value current)

  abbrev pub HasLine : Frame → (number : ℕ) → Type 0
  HasLine frame number = SaysFrame frame.parent frame.site frame.current number

  -- each frame has its line
  abbrev pub AreFramed : List Frame → Type 0
  AreFramed frames = (n : ℕ) (frame : Frame) → slice_get frames n ≡ Some frame → (number : ℕ) × (slice_get framed n ≡ Some number) × HasLine frame number
