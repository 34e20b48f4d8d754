use Rattle.std.proofs.Common.{◌≡◌, ◌++◌, map, take}
use Rattle.guard_syntax.specs.declared.row.Row.TheVariants.{Found}
use Rattle.query_steps.proofs.steps.push_each.Given as goal

abbrev pub invariant-loop-value : goal.invariant-loop-value
invariant-loop-value l = l.into.items ≡ l.initial.into.items ++ map Found (take l.value-index l.values)
