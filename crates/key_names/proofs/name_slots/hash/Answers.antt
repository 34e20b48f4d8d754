use Rattle.std.proofs.Common.{refl, sym, ap, ◌∙◌, get_or}
use Rattle.std.proofs.lemmas.List.Sums.{fold_more}
use Rattle.key_names.specs.code.NameSlots.{hashed, hash_of}
use Rattle.key_names.proofs.name_slots.hash.Goals as goal

pub loop-byte-init : goal.loop-byte-init
unfolding hash_of
loop-byte-init c = refl

pub loop-byte-preserved : goal.loop-byte-preserved
unfolding hash_of
loop-byte-preserved c =
    let bytes = c.as_bytes-byte-items.result.now in
    let i = c.loop-byte.byte-index in
    ap (λ h. hashed h (get_or bytes i 0)) c.loop-byte.invariant ∙ sym (fold_more hashed 1 bytes i 0 c.loop-byte-test.true)
