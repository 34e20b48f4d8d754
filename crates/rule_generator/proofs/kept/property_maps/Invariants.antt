use Rattle.std.proofs.Common.{List, ◌++◌, drop}
use Rattle.rule_generator.specs.code.PropertyMaps.{AreProperties}
use Rattle.rule_generator.specs.code.Seen.{values_seen}
use Rattle.rule_generator.proofs.kept.property_maps.Given as goal
use Rattle.rule_meaning.specs.Values.{Value}

abbrev pub invariant-loop-member : goal.invariant-loop-member
invariant-loop-member l =
    (rest : List Value) → AreProperties (drop l.member-index (values_seen l.members)) rest → AreProperties (values_seen l.members) (values_seen l.maps.items ++ rest)
