use Rattle.std.proofs.Common.{◌≡◌, ◌≤◌, ◌+◌, ◌-◌, ◌==◌, ◌++◌, map}
use Rattle.byte_lanes.specs.code.LineStarts.{after_newlines}
use lib.Lanes.{chunk, mask_l}
use Rattle.byte_lanes.proofs.lines.push_starts.Given as goal

abbrev pub invariant-loop-newlines : goal.invariant-loop-newlines
invariant-loop-newlines l =
    (l.at ≤ l.place) × (l.place ≤ l.at + 64)
    × (l.newlines ≡ mask_l (map (λ x. x == 10) (chunk l.place (l.at + 64 - l.place) l.bytes)))
    × (l.starts.items ≡ l.initial.starts.items ++ after_newlines l.bytes l.at (l.place - l.at))

abbrev pub decreases-loop-newlines : goal.decreases-loop-newlines
decreases-loop-newlines l = l.at + 64 - l.place
