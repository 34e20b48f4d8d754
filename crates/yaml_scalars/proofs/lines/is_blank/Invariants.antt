use Rattle.std.proofs.Common.{◌≡◌, drop}
use Rattle.yaml_scalars.specs.Lines.{is_blank}
use Rattle.yaml_scalars.specs.code.Walk.{line_at}
use Rattle.yaml_scalars.proofs.lines.is_blank.Given as goal

abbrev pub invariant-loop-i : goal.invariant-loop-i
invariant-loop-i l = is_blank (line_at (drop l.start l.bytes)) ≡ is_blank (line_at (drop l.i l.bytes))
