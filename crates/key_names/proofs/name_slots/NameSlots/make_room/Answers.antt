use Rattle.std.proofs.Common.{◌≡◌, ◌≤◌, ℕ, List, length, refl, sym, subst, ◌∙◌, map}
use Rattle.std.specs.Vec.{with_items}
use Rattle.std.proofs.lemmas.List.{with_items_is}
use Rattle.std.specs.Cow.{cow_str_bytes}
use Rattle.key_names.specs.declared.name_slots.NameSlots.{NameSlots}
use Rattle.key_names.specs.code.TextNumbers.{links_in}
use Rattle.key_names.proofs.NameSlots.{distinct, numbered_by, roomy, widened}
use Rattle.key_names.proofs.name_slots.NameSlots.make_room.Goals as goal

pub returns-in_err-place_all-clause-numbered : goal.returns-in_err-place_all-clause-numbered
returns-in_err-place_all-clause-numbered c =
    let old : NameSlots = c.args.self.now in
    let new : NameSlots = record { slots = old.slots; others = c.place_all.new.others; alloc = old.alloc } in
    widened (map cow_str_bytes c.args.texts.now) old new c.requires.numbered refl c.place_all.ensures.widened

placed : (c : goal.After-drop-self) → (with_items c.resize.new.self c.place_all.new.slots).items ≡ c.place_all.new.slots
placed c = with_items_is c.resize.new.self c.place_all.new.slots (c.place_all.ensures.long ∙ c.deref_mut.ensures.len)

pub returns-clause-numbered : goal.returns-clause-numbered
returns-clause-numbered c =
    let new : NameSlots = record { slots = with_items c.resize.new.self c.place_all.new.slots; others = c.place_all.new.others; alloc = c.args.self.now.alloc } in
    numbered_by c.args.texts.now new c.place_all.new.slots (placed c) c.in_ok-place_all.ensures.slotted c.in_ok-place_all.ensures.found

pub returns-clause-room : goal.returns-clause-room
returns-clause-room c = subst (λ (xs : List ℕ). 16 ≤ length xs) (sym (placed c)) (roomy (length c.place_all.new.slots) (length c.deref_mut.result.now) c.resize.new.self.len (length c.args.texts.now) c.place_all.ensures.long c.deref_mut.ensures.len c.in_ok-resize.ensures.len)

pub place_all-requires-clause-distinct : goal.place_all-requires-clause-distinct
place_all-requires-clause-distinct c =
    let s : NameSlots = c.args.self.now in
    distinct (map cow_str_bytes c.args.texts.now) s.slots.items (links_in s.others.links) c.requires.numbered.found
