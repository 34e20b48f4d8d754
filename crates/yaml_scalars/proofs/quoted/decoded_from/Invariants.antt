use Rattle.std.proofs.Common.{◌≡◌, ◌-◌, ◌<◌, ◌≤◌, [], length, get_or}
use Rattle.std.specs.Prelude.{string_bytes}
use Rattle.yaml_scalars.specs.code.QuotedSteps.{from}
use Rattle.yaml_scalars.proofs.quoted.decoded_from.Given as goal

abbrev pub invariant-loop-at : goal.invariant-loop-at
invariant-loop-at l =
    (l.start ≤ l.at) × (l.at ≤ length l.text) × (get_or l.text (l.at - 1) 0 < 128)
    × (from l.style.quote l.style.one_line l.text l.start [] ≡ from l.style.quote l.style.one_line l.text l.at (string_bytes l.decoded))

abbrev pub decreases-loop-at : goal.decreases-loop-at
decreases-loop-at l = length l.text - l.at
