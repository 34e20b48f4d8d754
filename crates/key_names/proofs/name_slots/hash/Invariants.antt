use Rattle.std.proofs.Common.{◌≡◌, take}
use Rattle.key_names.specs.code.NameSlots.{hash_of}
use Rattle.key_names.proofs.name_slots.hash.Given as goal

abbrev pub invariant-loop-byte : goal.invariant-loop-byte
invariant-loop-byte l = l.hash ≡ hash_of (take l.byte-index l.byte-items)
