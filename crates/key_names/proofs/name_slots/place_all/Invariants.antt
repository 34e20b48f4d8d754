use Rattle.std.proofs.Common.{◌≡◌, map, length}
use Rattle.std.specs.Cow.{cow_str_bytes}
use Rattle.key_names.specs.code.TextNumbers.{links_in}
use Rattle.key_names.specs.code.NameSlots.{AreSlotted, AreFound, Widened}
use Rattle.key_names.proofs.name_slots.place_all.Given as goal

abbrev pub invariant-loop-number : goal.invariant-loop-number
invariant-loop-number l =
    Widened (map cow_str_bytes l.texts) (links_in l.initial.others.links) (links_in l.others.links)
    × AreSlotted (map cow_str_bytes l.texts) l.slots (links_in l.others.links)
    × AreFound (map cow_str_bytes l.texts) l.slots (links_in l.others.links) l.number
    × (length l.slots ≡ length l.initial.slots)
