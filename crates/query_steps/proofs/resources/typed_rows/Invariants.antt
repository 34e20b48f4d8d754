use Rattle.std.proofs.Common.{◌≡◌, map, filter, take}
use Rattle.guard_syntax.specs.declared.row.Row.TheVariants.{Found}
use Rattle.rule_meaning.specs.Kinds.{has_type}
use Rattle.value_store.specs.code.Stores.{see_store}
use Rattle.query_steps.proofs.resources.typed_rows.Given as goal

abbrev pub invariant-loop-value : goal.invariant-loop-value
invariant-loop-value l = l.rows.items ≡ map Found (filter (has_type (see_store l.store) l.name) (take l.value-index l.values))
