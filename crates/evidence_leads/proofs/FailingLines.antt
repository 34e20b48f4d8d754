-- A line says FAIL where the verdict that is asked of it alone is FAIL.
use Rattle.std.proofs.Common.{◌≡◌, false, refl, Option, Some, None}
use Rattle.std.specs.Option.{option_map_or}
use Rattle.std.specs.Prelude.{option_and_then}
use Rattle.guard_syntax.specs.declared.row.Verdict.TheVariants.{Pass, Fail, Skip}
use Rattle.evidence_lines.specs.code.Said.{said_verdict}
use Rattle.evidence_lines.specs.declared.line.Line.{Line}
use Rattle.evidence_lines.specs.declared.line.Outcome.{Outcome}
use Rattle.evidence_lines.specs.declared.line.Outcome.TheVariants as says
use Rattle.evidence_truth.specs.code.LineFails.{says_fail}
use Rattle.evidence_leads.specs.code.Leads.{is_some_fail}

said-fails : (o : Outcome) → is_some_fail (said_verdict o) ≡ says_fail o
said-fails (says.Value v) = refl
said-fails (says.Rows rows) = refl
said-fails (says.Verdict Pass) = refl
said-fails (says.Verdict Fail) = refl
said-fails (says.Verdict Skip) = refl

pub fails-by : (o : Option Line) → is_some_fail (option_and_then (λ (l : Line). said_verdict l.outcome) o) ≡ option_map_or (λ (l : Line). says_fail l.outcome) o false
fails-by None = refl
fails-by (Some l) = said-fails l.outcome
