use Rattle.std.proofs.Common.{◌+◌, ◌≤◌, ℕ, List, length, refl, arith}
use Rattle.std.specs.Prelude.{slice_set}
use Rattle.key_names.specs.code.TextNumbers.{links_in}
use Rattle.key_names.proofs.NameSlots.{placed_slot, placed_other, on_ok}
use Rattle.key_names.proofs.name_slots.place.Goals as goal

pub returns-in-Some-clause-ok : goal.returns-in-Some-clause-ok
returns-in-Some-clause-ok c =
    let slots : List ℕ = c.args.slots.now in
    let within = c.first_slot-first.ensures.within in
    let wide = c.requires.room in
    let room : c.first_slot-first.result + 16 ≤ length slots = omega arith in
    let h = c.in-Some.ensures in
    placed_slot slots (slice_set slots c.in-Some.at (c.args.number + 1)) (links_in c.args.others.now.links) c.args.text.now c.args.number c.first_slot-first.result c.in-Some.at (c.args.number + 1) c.first_slot-first.ensures.place room (omega arith) refl h.0 h.1 h.2 h.3

pub returns-clause-ok : goal.returns-clause-ok
returns-clause-ok c = on_ok c.insert.result (placed_other c.args.slots.now (links_in c.args.others.now.links) (links_in c.insert.new.self.links) c.args.text.now c.args.number c.first_slot-first.result c.first_slot-first.ensures.place c.in_default.ensures) c.insert.ensures.ok
