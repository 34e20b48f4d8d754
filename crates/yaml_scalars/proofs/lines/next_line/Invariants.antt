use Rattle.std.proofs.Common.{◌≡◌, ◌≤◌, drop}
use Rattle.yaml_scalars.specs.code.Walk.{has_break, behind}
use Rattle.yaml_scalars.proofs.lines.next_line.Given as goal

abbrev pub invariant-loop-i : goal.invariant-loop-i
invariant-loop-i l = (l.start ≤ l.i) × (has_break (drop l.start l.bytes) ≡ has_break (drop l.i l.bytes)) × (behind l.start (drop l.start l.bytes) ≡ behind l.i (drop l.i l.bytes))
