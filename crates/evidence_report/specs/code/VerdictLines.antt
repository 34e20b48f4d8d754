-- The verdicts that are reported, as they are listed from evidence: each with the number of its `rule` line.
use Rattle.std.specs.Prelude.{ℕ, ◌≡◌, ◌++◌, List, All, map}
use Rattle.evidence_lines.specs.declared.line.Line.{Line}
use Rattle.guard_syntax.specs.declared.row.Verdict.{Verdict}
use Rattle.rule_meaning.specs.StoreModel.{StoreModel}
use Rattle.evidence_truth.specs.code.LineFails.{line_fails}
use Rattle.guard_ends.specs.Reported.{Reported, if_fail}
use Rattle.report_text.specs.RuleLines.{rule_line}
use Rattle.evidence_report.specs.code.RuleTables.{IsRuleLine}
use Rattle.evidence_report.specs.declared.rule_lines.RuleLine.{RuleLine}
use Rattle.evidence_report.specs.declared.verdict_lines.VerdictLine.{VerdictLine}

module _ (known : StoreModel) (lines : List Line) where
  -- the verdict of a `rule` line under a name, with the entries to which the line leads
  abbrev pub reported_by : (name : List ℕ) → RuleLine → Reported
  reported_by name r = record { name = name; verdict = r.verdict; fails = if_fail r.verdict (line_fails known lines r.number r.number) }

  abbrev pub see_verdict : VerdictLine → Reported
  see_verdict v = reported_by v.name.now v.line

  -- these are appended to others
  abbrev pub Lists : (before after : List VerdictLine) → List Reported → Type 0
  Lists before after more = map see_verdict after ≡ map see_verdict before ++ more

-- the lines are `rule` lines, and say the verdicts
abbrev pub AreSaid : List Line → List VerdictLine → Type 0
AreSaid lines all = All (λ (v : VerdictLine). IsRuleLine lines v.line) all

-- the verdicts alone
abbrev pub verdicts_in : List VerdictLine → List Verdict
verdicts_in all = map (λ (v : VerdictLine). v.line.verdict) all

-- the line of a verdict alone
abbrev pub heading : VerdictLine → List ℕ
heading v = rule_line v.name.now v.line.verdict
