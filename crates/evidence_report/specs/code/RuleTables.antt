-- The `rule` lines of evidence, as a table by their sites.
use Rattle.std.specs.Prelude.{ℕ, ◌≡◌, ◌<◌, true, is_some, Contains, List, [], Option, Some, None, length, nat_lt, option_and_then, slice_index_or, slice_set, if◌then◌else◌}
use Rattle.evidence_lines.specs.Lines.{line_of}
use Rattle.evidence_lines.specs.declared.line.Line.{Line}
use Rattle.evidence_lines.specs.declared.line.LineKind.{LineKind}
use Rattle.evidence_lines.specs.declared.line.LineKind.TheVariants as kind
use Rattle.evidence_lines.specs.declared.line.Outcome.{Outcome}
use Rattle.evidence_lines.specs.declared.line.Outcome.TheVariants as says
use Rattle.guard_syntax.specs.Syntax.{Disjs, File, Rule, more_disjs, no_disjs}
use Rattle.rule_names.specs.Pieces.{AreInOrder}
use Rattle.evidence_rules.specs.CitedLines.{IsLine}
use Rattle.evidence_rules.specs.Follows.{IsJudged, IsLooseJudged}
use Rattle.evidence_report.specs.declared.rule_lines.RuleLine.{RuleLine}

-- a line of this number is a `rule` line of this site, and says this verdict
abbrev pub IsRuleLine : List Line → RuleLine → Type 0
IsRuleLine lines r = (frame : ℕ) × IsLine lines r.number kind.Rule frame r.site (says.Verdict r.verdict)

-- a table has at each site a line of that site, if there is one
pub record AreRuleLines (lines : List Line) (table : List (Option RuleLine)) : Type 0 where
  pub sound : (site : ℕ) (r : RuleLine) → slice_index_or table site None ≡ Some r → (r.site ≡ site) × IsRuleLine lines r
  pub whole : (r : RuleLine) → IsRuleLine lines r → r.site < length table → is_some (slice_index_or table r.site None) ≡ true

-- ---- what is reported has its line

-- each rule without parameters of a file has its line, and so have the parts outside rules, if there are some; the sites of the file are in order
pub record AreJudged (lines : List Line) (file : File) : Type 0 where
  pub order : AreInOrder file
  pub rules : (r : Rule) → Contains file.rules r → r.params ≡ [] → IsJudged lines r.site
  pub loose : IsLooseJudged lines file.loose

-- so a table has the line of a rule without parameters
abbrev pub HasRule : List (Option RuleLine) → Rule → Type 0
HasRule table r = length r.params ≡ 0 → is_some (slice_index_or table r.site None) ≡ true

-- that of the parts outside rules, if there are some
abbrev pub HasLoose : List (Option RuleLine) → Disjs → Type 0
HasLoose table no_disjs = Unit {0}
HasLoose table (more_disjs d ds) = is_some (slice_index_or table 0 None) ≡ true

-- ---- as the code finds them

-- the site of a `rule` line in a frame
abbrev pub ruled_site : LineKind → (frame site : Option ℕ) → Option ℕ
ruled_site kind.Rule (Some frame) site = site
ruled_site of frame site = None

-- a line that says a verdict
abbrev pub ruled_by : (site number : ℕ) → Outcome → Option RuleLine
ruled_by site number (says.Verdict verdict) = Some (record { site = site; number = number; verdict = verdict })
ruled_by site number outcome = None

-- the line of a number, where it is such a line
abbrev pub rule_line : List Line → ℕ → Option RuleLine
rule_line lines number =
    option_and_then (λ (l : Line). option_and_then (λ (site : ℕ). ruled_by site number l.outcome) (ruled_site l.kind l.frame l.site)) (line_of lines number)

-- a table with one line more, where it has the site
abbrev pub with_line : List (Option RuleLine) → Option RuleLine → List (Option RuleLine)
with_line table None = table
with_line table (Some r) = if nat_lt r.site (length table) then slice_set table r.site (Some r) else table
