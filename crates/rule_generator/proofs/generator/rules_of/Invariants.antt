use Rattle.std.proofs.Common.{◌≡◌, ◌++◌, ◌+◌, ◌≤◌, drop, filter, length, map, string_bytes}
use Rattle.doc_values.specs.Limits.{rules_limit}
use Rattle.rule_generator.specs.GeneratedRules.{has_keys, rules_text}
use Rattle.rule_generator.specs.code.Groups.{group_rules, grouped_text}
use Rattle.rule_generator.specs.code.Seen.{texts_seen}
use Rattle.rule_generator.specs.code.SeenGroups.{group_seen, see_groups}
use Rattle.rule_generator.proofs.generator.rules_of.Given as goal

abbrev pub invariant-loop-i : goal.invariant-loop-i
invariant-loop-i l = record {
  text : string_bytes l.out ++ rules_text l.number (filter has_keys (group_rules (drop l.i (texts_seen l.groups.types.keys)) (drop l.i (map group_seen l.groups.members.items)))) ≡ grouped_text (see_groups l.groups);
  within : length (string_bytes l.out) ≤ rules_limit;
  few : l.number ≤ l.i + 1;
}
