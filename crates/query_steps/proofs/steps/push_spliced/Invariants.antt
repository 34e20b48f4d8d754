use Rattle.std.proofs.Common.{◌≡◌, ◌++◌, map, take}
use Rattle.value_store.specs.code.Stores.{see_store}
use Rattle.rule_meaning.specs.Steps.{splice_row}
use Rattle.query_steps.proofs.steps.push_spliced.Given as goal

abbrev pub invariant-loop-row : goal.invariant-loop-row
invariant-loop-row l = l.into.items ≡ l.initial.into.items ++ map (splice_row (see_store l.store) l.site l.value) (take l.row-index l.rows)
