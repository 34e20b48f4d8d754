use Rattle.std.proofs.Common.{◌≡◌, ◌+◌, ◌≤◌, drop}
use Rattle.yaml_grammar.specs.code.Points.{gap}
use Rattle.yaml_steps.proofs.point.gap_len.Given as goal

abbrev pub invariant-loop-i : goal.invariant-loop-i
invariant-loop-i l = (l.start ≤ l.i) × (l.start + gap (drop l.start l.bytes) ≡ l.i + gap (drop l.i l.bytes))
