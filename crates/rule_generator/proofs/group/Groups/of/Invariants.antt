use Rattle.std.proofs.Common.{◌≡◌, drop, length}
use Rattle.std.specs.Prelude.{fold}
use Rattle.rule_generator.specs.code.Groups.{grouped, with_element}
use Rattle.rule_generator.specs.code.Seen.{values_seen}
use Rattle.rule_generator.specs.code.SeenGroups.{see_groups}
use Rattle.rule_generator.proofs.group.Groups.of.Given as goal

abbrev pub invariant-loop-element : goal.invariant-loop-element
invariant-loop-element l = record {
  groups : fold with_element (see_groups l.groups) (drop l.element-index (values_seen l.elements)) ≡ grouped (values_seen l.elements);
  paired : length l.groups.types.keys ≡ length l.groups.members.items;
}
