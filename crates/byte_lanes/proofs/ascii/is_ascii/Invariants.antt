use Rattle.std.proofs.Common.{◌≡◌, ◌≤◌, ◌-◌, true, ltb, length, take}
use Rattle.std.specs.List.{list_all}
use Rattle.byte_lanes.proofs.ascii.is_ascii.Given as goal

abbrev pub invariant-loop-at : goal.invariant-loop-at
invariant-loop-at l = (l.at ≤ length l.bytes) × (list_all (λ x. ltb x 128) (take l.at l.bytes) ≡ true)

abbrev pub decreases-loop-at : goal.decreases-loop-at
decreases-loop-at l = length l.bytes - l.at
