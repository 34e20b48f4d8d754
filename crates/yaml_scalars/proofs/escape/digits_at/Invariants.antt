use Rattle.std.proofs.Common.{ℕ, ◌≡◌, true, ◌+◌, ◌-◌, ◌^◌, ◌<◌, ◌≤◌, length, drop, get_or}
use Rattle.yaml_scalars.specs.Quoted.{may_go_on, digits}
use Rattle.yaml_scalars.proofs.escape.digits_at.Given as goal

abbrev pub invariant-loop-i : goal.invariant-loop-i
invariant-loop-i l =
    (l.at + l.i ≤ length l.bytes) × (l.number < 16 ^ l.i) × (0 < l.i → may_go_on l.wanted (l.count - l.i) l.number ≡ true) × (0 < l.i → get_or l.bytes (l.at + l.i - 1) 0 < 128)
    × ((c : ℕ) → digits l.wanted l.count 0 c (drop l.at l.bytes) ≡ digits l.wanted (l.count - l.i) l.number (c + l.i) (drop (l.at + l.i) l.bytes))
