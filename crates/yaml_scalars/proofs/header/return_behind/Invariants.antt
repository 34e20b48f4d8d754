use Rattle.std.proofs.Common.{◌≡◌, ◌≤◌, drop}
use Rattle.yaml_scalars.specs.Block.{return_behind}
use Rattle.yaml_scalars.specs.code.Walk.{line_at}
use Rattle.yaml_scalars.proofs.header.return_behind.Given as goal

abbrev pub invariant-loop-i : goal.invariant-loop-i
invariant-loop-i l = (l.start ≤ l.i) × (return_behind l.start (line_at (drop l.start l.bytes)) ≡ return_behind l.i (line_at (drop l.i l.bytes)))
