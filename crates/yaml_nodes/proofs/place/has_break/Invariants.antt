use Rattle.std.proofs.Common.{◌≡◌, drop}
use Rattle.yaml_scalars.specs.code.Walk.{has_break}
use Rattle.yaml_nodes.proofs.place.has_break.Given as goal

abbrev pub invariant-loop-i : goal.invariant-loop-i
invariant-loop-i l = has_break (drop l.start l.bytes) ≡ has_break (drop l.i l.bytes)
