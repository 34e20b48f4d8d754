use Rattle.std.proofs.Common.{◌≡◌, ◌≤◌, false, drop}
use Rattle.yaml_laws.specs.code.Dots.{undotted}
use Rattle.yaml_steps.proofs.split.has_dot.Given as goal

abbrev pub invariant-loop-i : goal.invariant-loop-i
invariant-loop-i l = (l.start ≤ l.i) × (undotted l.escapes l.over (drop l.i l.bytes) ≡ undotted l.escapes false (drop l.start l.bytes))
