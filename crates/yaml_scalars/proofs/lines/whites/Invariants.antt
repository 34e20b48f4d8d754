use Rattle.std.proofs.Common.{◌≡◌, ◌+◌, ◌≤◌, drop}
use Rattle.yaml_scalars.specs.Lines.{is_white, lead}
use Rattle.yaml_scalars.specs.code.Walk.{line_at}
use Rattle.yaml_scalars.proofs.lines.whites.Given as goal

abbrev pub invariant-loop-i : goal.invariant-loop-i
invariant-loop-i l = (l.start ≤ l.i) × (l.start + lead is_white (line_at (drop l.start l.bytes)) ≡ l.i + lead is_white (line_at (drop l.i l.bytes)))
