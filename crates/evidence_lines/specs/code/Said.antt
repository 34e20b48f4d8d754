-- What is asked of a line without the rest of it.
use Rattle.std.specs.Prelude.{ℕ, List, Option, Some, None, option_and_then, option_map}
use Rattle.guard_syntax.specs.declared.row.Verdict.{Verdict}
use Rattle.evidence_lines.specs.Lines.{line_of}
use Rattle.evidence_lines.specs.declared.line.Line.{Line}
use Rattle.evidence_lines.specs.declared.line.LineKind.{LineKind}
use Rattle.evidence_lines.specs.declared.line.LinePlace.{LinePlace}
use Rattle.evidence_lines.specs.declared.line.Outcome.{Outcome}
use Rattle.evidence_lines.specs.declared.line.Outcome.TheVariants as says

-- the verdict that is said, if one is
abbrev pub said_verdict : Outcome → Option Verdict
said_verdict (says.Value v) = None
said_verdict (says.Rows rows) = None
said_verdict (says.Verdict verdict) = Some verdict

-- the kind of the line of a number
abbrev pub kind_at : List Line → ℕ → Option LineKind
kind_at lines number = option_map (λ (l : Line). l.kind) (line_of lines number)

-- the verdict that it says
abbrev pub verdict_at : List Line → ℕ → Option Verdict
verdict_at lines number = option_and_then (λ (l : Line). said_verdict l.outcome) (line_of lines number)

-- where a line stands, and its kind
abbrev pub place_of : Line → LinePlace
place_of l = record { kind = l.kind; frame = l.frame; site = l.site }

-- the same of the line of a number
abbrev pub place_at : List Line → ℕ → Option LinePlace
place_at lines number = option_map place_of (line_of lines number)

-- what it says
abbrev pub outcome_at : List Line → ℕ → Option Outcome
outcome_at lines number = option_map (λ (l : Line). l.outcome) (line_of lines number)
