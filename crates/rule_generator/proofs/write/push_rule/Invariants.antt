use Rattle.std.proofs.Common.{◌≡◌, ◌++◌, drop, string_bytes}
use Rattle.std.specs.List.{flat_map}
use Rattle.rule_generator.specs.GeneratedRules.{key_line}
use Rattle.rule_generator.specs.code.SeenKeys.{keys_seen}
use Rattle.rule_generator.proofs.write.push_rule.Given as goal

abbrev pub invariant-loop-key : goal.invariant-loop-key
invariant-loop-key l =
    string_bytes l.out ++ flat_map (key_line l.number) (drop l.key-index (keys_seen l.keys)) ≡ string_bytes l.initial.out ++ flat_map (key_line l.number) (keys_seen l.keys)
