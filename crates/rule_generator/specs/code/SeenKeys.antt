-- Keys that are kept, with their values, as the code has them.
use Rattle.std.specs.Prelude.{List, map}
use Rattle.rule_generator.specs.GeneratedRules.{KeptKey}
use Rattle.rule_generator.specs.code.Seen.{values_seen}
use Rattle.rule_generator.specs.declared.kept.Kept.{Kept}

abbrev pub key_seen : Kept → KeptKey
key_seen kept = record { key = kept.key.now; values = values_seen kept.values.items }

abbrev pub keys_seen : List Kept → List KeptKey
keys_seen keys = map key_seen keys
