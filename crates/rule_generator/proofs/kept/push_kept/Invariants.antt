use Rattle.std.proofs.Common.{◌≡◌, ◌++◌, drop}
use Rattle.std.specs.List.{flat_map}
use Rattle.doc_values.specs.Places.{kids_at}
use Rattle.doc_values.specs.Tree.{Label}
use Rattle.rule_generator.specs.code.Seen.{values_seen}
use Rattle.rule_generator.specs.code.SeenKeys.{keys_seen}
use Rattle.rule_generator.proofs.KeptKeys.{kept_of}
use Rattle.rule_generator.proofs.Nodes.{labels_in}
use Rattle.rule_generator.proofs.kept.push_kept.Given as goal

abbrev pub invariant-loop-i : goal.invariant-loop-i
invariant-loop-i l =
    keys_seen l.keys.items ++ flat_map (λ (k : Label). kept_of (values_seen l.maps) k.key) (drop l.i (labels_in (kids_at l.first.doc.now l.first.id)))
    ≡ keys_seen l.initial.keys.items ++ flat_map (λ (k : Label). kept_of (values_seen l.maps) k.key) (labels_in (kids_at l.first.doc.now l.first.id))
