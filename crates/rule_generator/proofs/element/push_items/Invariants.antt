use Rattle.std.proofs.Common.{◌≡◌, ◌++◌, ◌∷◌, [], drop}
use Rattle.std.specs.List.{flat_map}
use Rattle.doc_values.specs.Places.{kids_at}
use Rattle.rule_generator.specs.code.Seen.{values_seen}
use Rattle.rule_generator.proofs.element.push_items.Given as goal
use Rattle.rule_meaning.specs.Values.{Value, values_in}

abbrev pub invariant-loop-i : goal.invariant-loop-i
invariant-loop-i l =
    values_seen l.all.items ++ flat_map (λ (v : Value). v ∷ []) (drop l.i (values_in (kids_at l.node.doc.now l.node.id)))
    ≡ values_seen l.initial.all.items ++ flat_map (λ (v : Value). v ∷ []) (values_in (kids_at l.node.doc.now l.node.id))
