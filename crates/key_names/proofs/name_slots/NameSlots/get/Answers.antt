use Rattle.std.proofs.Common.{◌≡◌, ◌+◌, ◌-◌, ◌<◌, ℕ, suc, List, Option, map, length, sym, ap, ◌∙◌, arith}
use Rattle.std.specs.Cow.{cow_str_bytes}
use Rattle.std.proofs.lemmas.List.{length-map}
use Rattle.key_names.specs.code.TextNumbers.{links_in, number_by}
use Rattle.key_names.specs.code.NameSlots.{first_of}
use Rattle.key_names.proofs.NameSlots.{looks_start, looks_free, looks_same, looks_other, looks_end, text_at}
use Rattle.key_names.proofs.name_slots.NameSlots.get.Goals as goal

pub loop-at-init : goal.loop-at-init
loop-at-init c =
    let slots : List ℕ = c.args.self.now.slots.items in
    looks_start (map cow_str_bytes c.args.texts.now) slots (links_in c.args.self.now.others.links) c.args.text.now c.first_slot-first.result (c.first_slot-first.ensures.place ∙ ap (first_of c.args.text.now) (c.len.ensures ∙ c.args.self.now.slots.ok.0))

pub returns-then-slot-eq-FREE : goal.returns-then-slot-eq-FREE
returns-then-slot-eq-FREE c =
    let more : Option ℕ = number_by (links_in c.args.self.now.others.links) c.args.text.now in
    sym (c.loop-at.invariant ∙ looks_free (map cow_str_bytes c.args.texts.now) c.args.text.now more c.args.self.now.slots.items c.loop-at.at (c.first_slot-first.result + 16) c.slot-slot.result c.loop-at-test.true c.slot-slot.ensures c.if-slot-eq-FREE.true)

pub bounds-texts-number : goal.bounds-texts-number
bounds-texts-number c =
    let low = c.requires.slots c.loop-at.at in
    let slot = c.slot-slot.ensures in
    let taken = c.if-slot-eq-FREE.false in
    omega (arith, length-map c.args.texts.now cow_str_bytes)

pub returns-then-eq : goal.returns-then-eq
returns-then-eq c =
    let more : Option ℕ = number_by (links_in c.args.self.now.others.links) c.args.text.now in
    let n : ℕ = c.slot-slot.result - 1 in
    let taken = c.if-slot-eq-FREE.false in
    let next : c.slot-slot.result ≡ suc n = omega arith in
    let low = c.requires.slots c.loop-at.at in
    let slot = c.slot-slot.ensures in
    let within : n < length c.args.texts.now = omega (arith, length-map c.args.texts.now cow_str_bytes) in
    let text = text_at c.args.texts.now n c.index-texts-number.result c.as_str.result.now within c.index-texts-number.is c.as_str.ensures.value in
    sym (c.loop-at.invariant ∙ looks_same (map cow_str_bytes c.args.texts.now) c.args.text.now c.as_str.result.now more c.args.self.now.slots.items c.loop-at.at (c.first_slot-first.result + 16) c.slot-slot.result n c.loop-at-test.true slot next text (sym c.eq.ensures ∙ c.if-eq.true))

pub loop-at-preserved : goal.loop-at-preserved
loop-at-preserved c =
    let more : Option ℕ = number_by (links_in c.args.self.now.others.links) c.args.text.now in
    let n : ℕ = c.slot-slot.result - 1 in
    let taken = c.if-slot-eq-FREE.false in
    let next : c.slot-slot.result ≡ suc n = omega arith in
    let low = c.requires.slots c.loop-at.at in
    let slot = c.slot-slot.ensures in
    let within : n < length c.args.texts.now = omega (arith, length-map c.args.texts.now cow_str_bytes) in
    let text = text_at c.args.texts.now n c.index-texts-number.result c.as_str.result.now within c.index-texts-number.is c.as_str.ensures.value in
    c.loop-at.invariant ∙ looks_other (map cow_str_bytes c.args.texts.now) c.args.text.now c.as_str.result.now more c.args.self.now.slots.items c.loop-at.at (c.first_slot-first.result + 16) c.slot-slot.result n c.loop-at-test.true slot next text (sym c.eq.ensures ∙ c.if-eq.false)

pub returns : goal.returns
returns c =
    let more : Option ℕ = number_by (links_in c.args.self.now.others.links) c.args.text.now in
    c.get.ensures ∙ sym (c.loop-at.invariant ∙ looks_end (map cow_str_bytes c.args.texts.now) c.args.text.now more c.args.self.now.slots.items c.loop-at.at (c.first_slot-first.result + 16) c.loop-at-test.false)
