use Rattle.std.proofs.Common.{List, ◌++◌, map, drop}
use Rattle.evidence_lines.specs.declared.line.Line.{Line}
use Rattle.guard_syntax.specs.code.Seen.{see_rule}
use Rattle.guard_syntax.specs.Syntax.{Disjs}
use Rattle.guard_syntax.specs.declared.row.Verdict.{Verdict}
use Rattle.evidence_rules.specs.RuleLines.{AreOfRules}
use Rattle.evidence_lookups.specs.code.JudgedSites.{AreJudged}
use Rattle.evidence_checker.proofs.judge.rule_verdicts.Given as goal

abbrev pub invariant-loop-rule : goal.invariant-loop-rule
invariant-loop-rule l =
    (lines : List Line) → AreJudged lines l.judged.of.items → (loose : Disjs) → (last : List Verdict)
    → AreOfRules lines (map see_rule (drop l.rule-index l.rules)) loose last → AreOfRules lines (map see_rule l.rules) loose (l.verdicts.items ++ last)
