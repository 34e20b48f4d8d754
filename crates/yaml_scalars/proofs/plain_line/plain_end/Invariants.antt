use Rattle.std.proofs.Common.{◌≡◌, ◌+◌, drop, false}
use Rattle.yaml_scalars.specs.code.Walk.{line_at}
use Rattle.yaml_scalars.specs.Plain.{plain_len}
use Rattle.yaml_scalars.proofs.plain_line.plain_end.Given as goal

abbrev pub invariant-loop-i : goal.invariant-loop-i
invariant-loop-i l = l.start + plain_len l.flow false (line_at (drop l.start l.bytes)) ≡ l.i + plain_len l.flow l.white (line_at (drop l.i l.bytes))
