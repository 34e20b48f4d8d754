use Rattle.std.proofs.Common.{◌≡◌, ◌<◌, ℕ, List, [], map, length, get_or, sym, ◌∙◌, arith}
use Rattle.std.specs.Cow.{cow_str_bytes}
use Rattle.std.proofs.lemmas.List.{length-map}
use Rattle.key_names.specs.code.TextNumbers.{Links, links_in}
use Rattle.key_names.proofs.NameSlots.{step_widened, step_slotted, step_found, widened_none, widened_more, text_at}
use Rattle.key_names.proofs.name_slots.place_all.Goals as goal

pub returns-in_err-place-clause-widened : goal.returns-in_err-place-clause-widened
returns-in_err-place-clause-widened c =
    let ts : List (List ℕ) = map cow_str_bytes c.args.texts.now in
    let before : Links = links_in c.args.others.now.links in
    let f : Links = links_in c.loop-number.others.links in
    let g : Links = links_in c.place.new.others.links in
    widened_more ts before f g c.loop-number.invariant.0 (widened_none ts f g c.loop-number.invariant.1.links c.in_err-place.ensures.kept)

pub loop-number-preserved : goal.loop-number-preserved
loop-number-preserved c =
    let ts : List (List ℕ) = map cow_str_bytes c.args.texts.now in
    let before : Links = links_in c.args.others.now.links in
    let f : Links = links_in c.loop-number.others.links in
    let g : Links = links_in c.place.new.others.links in
    let old : List ℕ = c.loop-number.slots in
    let new : List ℕ = c.place.new.slots in
    let k : List ℕ = c.as_str.result.now in
    let n : ℕ = c.loop-number.number in
    let test = c.loop-number-test.true in
    let within : n < length ts = omega (arith, length-map c.args.texts.now cow_str_bytes) in
    let text : get_or ts n [] ≡ k = sym (text_at c.args.texts.now n c.index-texts-number.result k test c.index-texts-number.is c.as_str.ensures.value) in
    let s = c.loop-number.invariant.1 in
    let p = c.in_ok-place.ensures.ok in (
      widened_more ts before f g c.loop-number.invariant.0 (step_widened ts old new f g k n within text c.requires.distinct s p),
      step_slotted ts old new f g k n within text c.requires.distinct s p,
      step_found ts old new f g k n within text c.requires.distinct s p c.loop-number.invariant.2,
      p.long ∙ c.loop-number.invariant.3,
    )
