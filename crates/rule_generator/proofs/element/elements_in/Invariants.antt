use Rattle.std.proofs.Common.{◌≡◌, ◌++◌, drop}
use Rattle.std.specs.List.{flat_map}
use Rattle.doc_values.specs.Places.{kids_at}
use Rattle.rule_generator.specs.GeneratedRules.{items_or_itself}
use Rattle.rule_generator.specs.code.Seen.{values_seen}
use Rattle.rule_generator.proofs.element.elements_in.Given as goal
use Rattle.rule_meaning.specs.Values.{values_in}

abbrev pub invariant-loop-i : goal.invariant-loop-i
invariant-loop-i l =
    values_seen l.all.items ++ flat_map items_or_itself (drop l.i (values_in (kids_at l.resources.doc.now l.resources.id)))
    ≡ flat_map items_or_itself (values_in (kids_at l.resources.doc.now l.resources.id))
