use Rattle.std.proofs.Common.{◌≡◌, ◌++◌, codes, drop, string_bytes}
use Rattle.std.specs.List.{flat_map}
use Rattle.rule_generator.specs.GeneratedRules.{value_text}
use Rattle.rule_generator.specs.code.Seen.{values_seen}
use Rattle.rule_generator.proofs.write.push_values.Given as goal
use Rattle.rule_meaning.specs.Values.{Value}

abbrev pub invariant-loop-value : goal.invariant-loop-value
invariant-loop-value l =
    string_bytes l.out ++ flat_map (λ (v : Value). codes ", " ++ value_text v) (drop l.value-index (values_seen l.rest))
    ≡ string_bytes l.initial.out ++ flat_map (λ (v : Value). codes ", " ++ value_text v) (values_seen l.rest)
