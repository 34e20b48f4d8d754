-- What `rule` lines say of each site, as a table by sites.
use Rattle.std.specs.Prelude.{ℕ, ◌≡◌, ◌↔◌, Bool, true, false, is_some, List, Option, Some, None, slice_index_or}
use Rattle.evidence_lines.specs.declared.line.Line.{Line}
use Rattle.evidence_lines.specs.declared.line.LineKind.{LineKind}
use Rattle.evidence_lines.specs.declared.line.LineKind.TheVariants as kind
use Rattle.evidence_lines.specs.declared.line.Outcome.{Outcome}
use Rattle.guard_syntax.specs.declared.row.Verdict.{Verdict}
use Rattle.evidence_rules.specs.CitedLines.{IsLine}
use Rattle.evidence_rules.specs.RuleLines.{IsSaidOf}

-- no `rule` line has this site
abbrev pub IsUnjudged : List Line → (site : ℕ) → Type 0
IsUnjudged lines site = (number frame : ℕ) → (outcome : Outcome) → IsLine lines number kind.Rule frame site outcome → ⊥

-- one says this verdict of it, or none has it
abbrev pub IsJudgedAs : List Line → (site : ℕ) → Option Verdict → Type 0
IsJudgedAs lines site None = IsUnjudged lines site
IsJudgedAs lines site (Some verdict) = IsSaidOf lines site verdict

-- a table has the verdicts of the `rule` lines at their sites, and of other sites none
abbrev pub AreJudged : List Line → List (Option Verdict) → Type 0
AreJudged lines table = (site : ℕ) → IsJudgedAs lines site (slice_index_or table site None)

-- so it has one of just the sites that have a `rule` line
abbrev pub AreNoted : List Line → List (Option Verdict) → Type 0
AreNoted lines table = (site : ℕ) → (is_some (slice_index_or table site None) ≡ false) ↔ IsUnjudged lines site

-- a line is that of a rule, by its kind
abbrev pub is_rule : Option LineKind → Bool
is_rule (Some kind.Rule) = true
is_rule _ = false
