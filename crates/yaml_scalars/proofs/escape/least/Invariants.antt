use Rattle.std.proofs.Common.{◌≡◌, ◌+◌, ◌-◌, ◌^◌, ◌<◌, ◌≤◌}
use Rattle.yaml_scalars.specs.Quoted.{least}
use Rattle.yaml_scalars.proofs.escape.least.Given as goal

abbrev pub invariant-loop : goal.invariant-loop
invariant-loop l = (l.counter ≤ l.left) × (l.value < 16 ^ (8 - l.left + l.counter)) × (least l.left l.number ≡ least (l.left - l.counter) l.value)
