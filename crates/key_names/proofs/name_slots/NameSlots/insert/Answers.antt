use Rattle.std.proofs.Common.{◌≡◌, ℕ, List, map, length, sym, ap, ◌∙◌, subst}
use Rattle.std.specs.Vec.{with_items}
use Rattle.std.specs.Cow.{cow_str_bytes}
use Rattle.std.proofs.lemmas.List.{length-map, with_items_is}
use Rattle.key_names.specs.code.TextNumbers.{links_in}
use Rattle.key_names.specs.code.NameSlots.{Places}
use Rattle.key_names.specs.declared.name_slots.NameSlots.{NameSlots}
use Rattle.key_names.proofs.NameSlots.{inserted, still_new, widened, widened_none, on_ok, on_err}
use Rattle.key_names.proofs.name_slots.NameSlots.insert.Goals as goal

pub returns-clause-ok : goal.returns-clause-ok
returns-clause-ok c =
    let ts : List (List ℕ) = map cow_str_bytes c.args.texts.now in
    let k : List ℕ = c.args.text.now in
    let n : ℕ = length c.args.texts.now in
    let old : NameSlots = c.make_room.new.self in
    let new : NameSlots = record { slots = with_items old.slots c.place.new.slots; others = c.place.new.others; alloc = old.alloc } in
    let h = c.make_room.ensures.numbered in
    let put : (with_items old.slots c.place.new.slots).items ≡ c.place.new.slots = with_items_is old.slots c.place.new.slots (c.place.auto.slots ∙ ap (λ (xs : List ℕ). length xs) c.deref_mut.ensures.value ∙ sym old.slots.ok.0) in
    on_ok c.place.result (λ p. inserted ts old new k n c.deref_mut.result.now (sym (length-map c.args.texts.now cow_str_bytes)) c.deref_mut.ensures.value h (still_new ts c.args.self.now old k c.requires.numbered h c.requires.new) (subst (λ (xs : List ℕ). Places c.deref_mut.result.now xs (links_in old.others.links) (links_in new.others.links) k n) (sym put) p)) c.place.ensures.ok

pub returns-clause-err : goal.returns-clause-err
returns-clause-err c =
    let ts : List (List ℕ) = map cow_str_bytes c.args.texts.now in
    let old : NameSlots = c.make_room.new.self in
    let new : NameSlots = record { slots = with_items old.slots c.place.new.slots; others = c.place.new.others; alloc = old.alloc } in
    let h = c.make_room.ensures.numbered in
    let put : (with_items old.slots c.place.new.slots).items ≡ c.place.new.slots = with_items_is old.slots c.place.new.slots (c.place.auto.slots ∙ ap (λ (xs : List ℕ). length xs) c.deref_mut.ensures.value ∙ sym old.slots.ok.0) in
    on_err c.place.result (λ same kept. widened ts old new h (put ∙ same ∙ c.deref_mut.ensures.value) (widened_none ts (links_in old.others.links) (links_in new.others.links) h.slotted.links kept)) c.place.ensures.slots c.place.ensures.kept
