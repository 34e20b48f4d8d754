use Rattle.std.proofs.Common.{◌≡◌, ◌++◌, string_bytes}
use Rattle.std.specs.Prelude.{codes}
use Rattle.guard_drill.specs.DrillTexts.{resources}
use Rattle.guard_drill.proofs.template.drill_template.Given as goal

abbrev pub invariant-loop-number : goal.invariant-loop-number
invariant-loop-number l = string_bytes l.text ≡ codes "{\"Resources\":{" ++ resources l.number
