use Rattle.std.proofs.Common.{◌≡◌, ◌+◌, ◌-◌, ◌^◌, ◌<◌, ◌≤◌}
use Rattle.yaml_scalars.specs.Quoted.{greatest}
use Rattle.yaml_scalars.proofs.escape.greatest.Given as goal

abbrev pub invariant-loop : goal.invariant-loop
invariant-loop l = (l.counter ≤ l.left) × (l.value < 16 ^ (8 - l.left + l.counter)) × (greatest l.left l.number ≡ greatest (l.left - l.counter) l.value)
