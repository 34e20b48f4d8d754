use Rattle.std.proofs.Common.{◌≡◌, ◌+◌, ◌-◌, ◌≤◌, length, drop}
use Rattle.yaml_scalars.specs.Lines.{lines}
use Rattle.yaml_scalars.specs.Block.{inner_of}
use Rattle.yaml_scalars.proofs.block.inner_at.Given as goal

abbrev pub invariant-loop-place : goal.invariant-loop-place
invariant-loop-place l = (l.place ≤ length l.bytes) × (inner_of l.above 0 (lines l.start (drop l.start l.bytes)) ≡ inner_of l.above l.wide (lines l.place (drop l.place l.bytes)))

abbrev pub decreases-loop-place : goal.decreases-loop-place
decreases-loop-place l = length l.bytes + 1 - l.place
