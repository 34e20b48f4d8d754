use Rattle.std.proofs.Common.{◌≡◌, ◌≤◌, drop, false}
use Rattle.yaml_scalars.specs.Block.{header_fault}
use Rattle.yaml_scalars.specs.code.Walk.{line_at}
use Rattle.yaml_scalars.proofs.header.header_fault.Given as goal

abbrev pub invariant-loop-i : goal.invariant-loop-i
invariant-loop-i l = (l.start ≤ l.i) × (header_fault false l.start (line_at (drop l.start l.bytes)) ≡ header_fault l.white l.i (line_at (drop l.i l.bytes)))
