-- What `rule` lines of evidence fail by, by the meaning of rules.
use Rattle.std.specs.Prelude.{ℕ, ◌≡◌, List, [], Contains}
use Rattle.evidence_lines.specs.declared.line.Line.{Line}
use Rattle.evidence_lines.specs.declared.line.LineKind.TheVariants as kind
use Rattle.evidence_lines.specs.declared.line.Outcome.TheVariants as says
use Rattle.evidence_lines.specs.declared.version.Version.{Version}
use Rattle.guard_syntax.specs.Syntax.{Rule}
use Rattle.guard_syntax.specs.declared.row.Verdict.{Verdict}
use Rattle.guard_syntax.specs.declared.row.Verdict.TheVariants.{Fail}
use Rattle.rule_meaning.specs.Fails.{Entry, loose_fails, rule_fails}
use Rattle.rule_meaning.specs.Locations.{World}
use Rattle.rule_meaning.specs.NameMeaning.{loose_verdict, rule_verdict}
use Rattle.rule_meaning.specs.StoreModel.{StoreModel}
use Rattle.evidence_rules.specs.CitedLines.{IsLine}
use Rattle.evidence_rules.specs.Follows.{Accepts, nothing_made}
use Rattle.evidence_rules.specs.RuleLines.{IsSaidOf}
use Rattle.evidence_rules.specs.code.Judgement.{FollowTo}
use Rattle.evidence_truth.specs.code.HeldTrees.{HoldsTrees}
use Rattle.evidence_truth.specs.code.LineFails.{line_fails}

-- where the line of a number is that of a rule and says FAIL, these are the entries by which the rule fails; and so of the parts outside rules
pub record AreFailsOf (world : World) (lines : List Line) (number : ℕ) (entries : List Entry) : Type 0 where
  pub rule : (r : Rule) (frame : ℕ) → Contains world.file.rules r → IsLine lines number kind.Rule frame r.site (says.Verdict Fail) → entries ≡ rule_fails world r
  pub loose : (frame : ℕ) → IsLine lines number kind.Rule frame 0 (says.Verdict Fail) → entries ≡ loose_fails world world.file.loose

-- `rule` lines say the verdicts of the rules, and lead to these entries, whichever of them say FAIL
pub record AreTold (world : World) (held : StoreModel) (lines : List Line) : Type 0 where
  pub rules : (r : Rule) (verdict : Verdict) → Contains held.file.rules r → IsSaidOf lines r.site verdict → verdict ≡ rule_verdict world r
  pub loose : (verdict : Verdict) → IsSaidOf lines 0 verdict → verdict ≡ loose_verdict world held.file.loose
  pub entries : (number : ℕ) → AreFailsOf world lines number (line_fails held lines number number)

-- evidence that is accepted over the template and the file of a store, which holds the trees of the last store of its lines
pub record IsAccepted (version : Version) (held : StoreModel) (lines : List Line) : Type 0 where
  pub accepts : Accepts version held.template held.file lines
  pub last : StoreModel
  pub leads : FollowTo version (nothing_made held.template held.file) [] lines last
  pub holds : HoldsTrees held last
