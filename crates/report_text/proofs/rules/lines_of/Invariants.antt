use Rattle.std.proofs.Common.{◌≡◌, drop, length, map, take}
use Rattle.std.specs.List.{flat_map}
use Rattle.guard_syntax.specs.code.Seen.{see_rule}
use Rattle.report_text.specs.RuleLines.{name_of_rule, rule_lines}
use Rattle.report_text.proofs.rules.lines_of.Given as goal

abbrev pub invariant-loop-rule : goal.invariant-loop-rule
invariant-loop-rule l = record {
  lines : l.lines.items ≡ rule_lines (flat_map name_of_rule (map see_rule (take l.rule-index l.rules))) l.verdicts;
  left : l.left ≡ drop (length (flat_map name_of_rule (map see_rule (take l.rule-index l.rules)))) l.verdicts;
}
