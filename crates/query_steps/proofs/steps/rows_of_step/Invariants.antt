use Rattle.std.proofs.Common.{◌≡◌, take}
use Rattle.std.specs.List.{flat_map}
use Rattle.guard_syntax.specs.code.Seen.{see_step}
use Rattle.value_store.specs.code.Stores.{see_store}
use Rattle.rule_meaning.specs.Steps.{found_step, on_found}
use Rattle.query_steps.proofs.steps.rows_of_step.Given as goal

abbrev pub invariant-loop-row : goal.invariant-loop-row
invariant-loop-row l = l.given.items ≡ flat_map (on_found (found_step (see_store l.context.store.now) l.ready.last l.ready.further.now (see_step l.ready.step.now))) (take l.row-index l.before)
