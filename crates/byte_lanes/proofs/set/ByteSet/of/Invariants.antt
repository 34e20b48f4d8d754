use Rattle.std.proofs.Common.{◌≡◌, ℕ, take}
use Rattle.byte_lanes.specs.code.Members.{holds}
use Rattle.byte_lanes.proofs.set.ByteSet.of.Given as goal

abbrev pub invariant-loop-byte : goal.invariant-loop-byte
invariant-loop-byte l = (b : ℕ) → holds l.set b ≡ holds (take l.byte-index l.bytes) b
