use Rattle.std.proofs.Common.{◌≡◌, drop}
use Rattle.std.specs.Prelude.{fold}
use Rattle.std.specs.List.{AllZip, list_all}
use Rattle.rule_generator.specs.code.PropertyMaps.{has_entry, values_in_maps}
use Rattle.rule_generator.specs.code.Scalars.{IsKeyOf}
use Rattle.rule_generator.specs.code.Seen.{values_seen}
use Rattle.rule_generator.proofs.KeptKeys.{with_entry}
use Rattle.rule_generator.proofs.scalar.values_of.Given as goal

abbrev pub invariant-loop-map : goal.invariant-loop-map
invariant-loop-map l = record {
  all : list_all (has_entry l.key) (drop l.map-index (values_seen l.maps)) ≡ list_all (has_entry l.key) (values_seen l.maps);
  values : fold (with_entry l.key) (values_seen l.values.items) (drop l.map-index (values_seen l.maps)) ≡ values_in_maps (values_seen l.maps) l.key;
  keys : AllZip IsKeyOf l.keys.keys (values_seen l.values.items);
}
