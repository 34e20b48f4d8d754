use Rattle.std.proofs.Common.{◌≡◌, ◌+◌, ◌≤◌, drop, length}
use Rattle.yaml_laws.specs.code.Dots.{begins_digits}
use Rattle.yaml_steps.proofs.split.begins_digits.Given as goal

abbrev pub invariant-loop-i : goal.invariant-loop-i
invariant-loop-i l = (l.start + l.i ≤ length l.bytes) × (begins_digits (drop l.i l.digits) (drop (l.start + l.i) l.bytes) ≡ begins_digits l.digits (drop l.start l.bytes))
