use Rattle.std.proofs.Common.{◌≡◌, List, map}
use Rattle.std.specs.List.{flat_map}
use Rattle.guard_syntax.specs.code.Seen.{see_rule}
use Rattle.rule_meaning.specs.Locations.{Answers}
use Rattle.rule_meaning.specs.Seeing.{world_of}
use Rattle.rule_meaning.specs.StoreModel.{StoreModel}
use Rattle.evidence_lines.specs.declared.line.Line.{Line}
use Rattle.guard_ends.specs.Reported.{of_rule}
use Rattle.evidence_report.specs.code.RuleEntries.{AreTold}
use Rattle.evidence_report.specs.code.RuleTables.{AreRuleLines}
use Rattle.evidence_report.specs.code.VerdictLines.{AreSaid}
use Rattle.evidence_report.proofs.Listing.{OwesList, left_from}
use Rattle.evidence_report.proofs.verdict_lines.list_rules.Given as goal

abbrev pub invariant-loop-rule : goal.invariant-loop-rule
invariant-loop-rule l = record {
  owes : (known : StoreModel) (lines : List Line) (answers : Answers) → known.file.rules ≡ map see_rule l.rules → AreRuleLines lines l.table → AreTold (world_of known answers) known lines
      → OwesList known lines l.initial.into.items l.into.items (flat_map (of_rule (world_of known answers)) known.file.rules) (left_from known lines (world_of known answers) l.rules l.rule-index);
  said : (lines : List Line) → AreRuleLines lines l.table → AreSaid lines l.initial.into.items → AreSaid lines l.into.items;
}
