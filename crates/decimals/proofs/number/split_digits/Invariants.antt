use Rattle.std.proofs.Common.{length, ◌-◌, ◌≡◌, ◌++◌, ◌≤◌, take, drop}
use Rattle.decimals.specs.code.Reading.{digits, behind}
use Rattle.decimals.proofs.number.split_digits.Given as goal

abbrev pub invariant-loop-end : goal.invariant-loop-end
invariant-loop-end l = (l.end ≤ length l.bytes) × (digits l.bytes ≡ take l.end l.bytes ++ digits (drop l.end l.bytes)) × (behind l.bytes ≡ behind (drop l.end l.bytes))

abbrev pub decreases-loop-end : goal.decreases-loop-end
decreases-loop-end l = length l.bytes - l.end
