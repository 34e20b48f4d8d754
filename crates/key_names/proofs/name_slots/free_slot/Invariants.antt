use Rattle.key_names.specs.code.NameSlots.{AreTaken}
use Rattle.key_names.proofs.name_slots.free_slot.Given as goal

abbrev pub invariant-loop-at : goal.invariant-loop-at
invariant-loop-at l = AreTaken l.slots l.first l.at
