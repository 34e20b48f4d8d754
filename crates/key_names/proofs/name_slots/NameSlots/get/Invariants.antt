use Rattle.std.proofs.Common.{◌≡◌, ◌+◌, ◌-◌, map}
use Rattle.std.specs.Cow.{cow_str_bytes}
use Rattle.key_names.specs.code.TextNumbers.{number_by, links_in}
use Rattle.key_names.specs.code.NameSlots.{found_in, in_slots}
use Rattle.key_names.proofs.name_slots.NameSlots.get.Given as goal

abbrev pub invariant-loop-at : goal.invariant-loop-at
invariant-loop-at l = found_in (map cow_str_bytes l.texts) l.self.slots.items (links_in l.self.others.links) l.text ≡ in_slots (map cow_str_bytes l.texts) l.text (number_by (links_in l.self.others.links) l.text) l.self.slots.items l.at (l.first + 16 - l.at)
