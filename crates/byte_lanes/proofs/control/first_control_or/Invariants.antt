use Rattle.std.proofs.Common.{◌≡◌, ◌≤◌, ◌<◌, ◌-◌, ℕ, false, length, slice_index}
use Rattle.byte_lanes.specs.code.Controls.{is_control_or}
use Rattle.byte_lanes.proofs.control.first_control_or.Given as goal

abbrev pub invariant-loop-at : goal.invariant-loop-at
invariant-loop-at l =
    (l.from ≤ l.at) × (l.at ≤ length l.bytes)
    × ((k : ℕ) → l.from ≤ k → k < l.at → is_control_or l.one l.other (slice_index l.bytes k) ≡ false)

abbrev pub decreases-loop-at : goal.decreases-loop-at
decreases-loop-at l = length l.bytes - l.at

abbrev pub invariant-loop-at-2 : goal.invariant-loop-at-2
invariant-loop-at-2 l =
    (l.from ≤ l.at) × (l.at ≤ length l.bytes)
    × ((k : ℕ) → l.from ≤ k → k < l.at → is_control_or l.one l.other (slice_index l.bytes k) ≡ false)

abbrev pub decreases-loop-at-2 : goal.decreases-loop-at-2
decreases-loop-at-2 l = length l.bytes - l.at
