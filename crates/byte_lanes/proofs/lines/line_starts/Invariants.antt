use Rattle.std.proofs.Common.{◌≡◌, ◌≤◌, ◌-◌, ◌∷◌, length}
use Rattle.byte_lanes.specs.code.LineStarts.{after_newlines}
use Rattle.byte_lanes.proofs.lines.line_starts.Given as goal

abbrev pub invariant-loop-at : goal.invariant-loop-at
invariant-loop-at l = (l.at ≤ length l.bytes) × (l.starts.items ≡ 0 ∷ after_newlines l.bytes 0 l.at)

abbrev pub decreases-loop-at : goal.decreases-loop-at
decreases-loop-at l = length l.bytes - l.at

abbrev pub invariant-loop-at-2 : goal.invariant-loop-at-2
invariant-loop-at-2 l = (l.at ≤ length l.bytes) × (l.starts.items ≡ 0 ∷ after_newlines l.bytes 0 l.at)

abbrev pub decreases-loop-at-2 : goal.decreases-loop-at-2
decreases-loop-at-2 l = length l.bytes - l.at
