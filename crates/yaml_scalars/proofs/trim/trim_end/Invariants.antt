use Rattle.std.proofs.Common.{◌≡◌, ◌-◌, ◌<◌, ◌≤◌, true, drop, take, get_or}
use Rattle.yaml_scalars.specs.Lines.{is_white, trimmed}
use Rattle.yaml_scalars.proofs.trim.trim_end.Given as goal

abbrev pub invariant-loop-end : goal.invariant-loop-end
invariant-loop-end l = (l.start ≤ l.end) × (l.end ≤ l.stop) × (l.end < l.stop → is_white (get_or l.bytes l.end 0) ≡ true) × (trimmed (take (l.end - l.start) (drop l.start l.bytes)) ≡ trimmed (take (l.stop - l.start) (drop l.start l.bytes)))

abbrev pub decreases-loop-end : goal.decreases-loop-end
decreases-loop-end l = l.end - l.start
