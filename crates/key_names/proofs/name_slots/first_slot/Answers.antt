use Rattle.std.proofs.Common.{◌≡◌, ◌-◌, ◌/◌, ◌%◌, max, ap, ◌∙◌, arith}
use Rattle.key_names.specs.code.NameSlots.{hash_of, first_of}
use Rattle.key_names.proofs.name_slots.first_slot.Goals as goal

pub returns-clause-place : goal.returns-clause-place
unfolding first_of
returns-clause-place c =
    let places : c.max-places.result ≡ max 1 (c.args.slots - 15) = omega (arith, c.saturating_sub.ensures, c.max-places.ensures) in
    ap (λ h. h / 4294967296 % c.max-places.result) c.hash.ensures ∙ ap (λ n. hash_of c.args.text.now / 4294967296 % n) places
