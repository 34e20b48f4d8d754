-- What the judge of evidence answers.
use Rattle.std.specs.Prelude.{List}
use Rattle.doc_values.specs.Tree.{Forest}
use Rattle.evidence_lines.specs.declared.line.Line.{Line}
use Rattle.evidence_lines.specs.declared.version.Version.{Version}
use Rattle.guard_syntax.specs.Syntax.{File}
use Rattle.evidence_rules.specs.Follows.{Accepts}
use Rattle.evidence_rules.specs.Rejected.{IsRejectedAt}
use Rattle.evidence_rules.specs.RuleLines.{AreOfRules}
use Rattle.evidence_checker.specs.declared.judge.Answer.{Answer}
use Rattle.evidence_checker.specs.declared.judge.Answer.TheVariants as answer

abbrev pub IsAnswer : Version → Forest → File → List Line → Answer → Type 0
IsAnswer version template file lines (answer.Accepted verdicts) = Accepts version template file lines × AreOfRules lines file.rules file.loose verdicts.items
IsAnswer version template file lines (answer.Rejected number) = IsRejectedAt version template file lines number
