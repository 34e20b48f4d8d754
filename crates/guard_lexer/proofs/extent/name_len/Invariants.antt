use Rattle.std.proofs.Common.{◌≡◌, ◌+◌, ◌-◌, ◌≤◌, ◌||◌, length, drop}
use Rattle.guard_lexer.specs.code.Reach.{in_name, typed}
use Rattle.guard_lexer.proofs.extent.name_len.Given as goal

abbrev pub invariant-loop-at : goal.invariant-loop-at
invariant-loop-at l = (l.at ≤ length l.bytes) × (l.at + in_name (drop l.at l.bytes) ≡ in_name l.bytes) × ((l.typed || typed (drop l.at l.bytes)) ≡ typed l.bytes)

abbrev pub decreases-loop-at : goal.decreases-loop-at
decreases-loop-at l = length l.bytes - l.at
