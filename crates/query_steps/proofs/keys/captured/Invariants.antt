use Rattle.std.proofs.Common.{◌≡◌, take}
use Rattle.std.specs.List.{flat_map}
use Rattle.value_store.specs.code.Stores.{see_store}
use Rattle.rule_meaning.specs.Keys.{captured_row}
use Rattle.query_steps.proofs.keys.captured.Given as goal

abbrev pub invariant-loop-row : goal.invariant-loop-row
invariant-loop-row l = l.keys.items ≡ flat_map (captured_row (see_store l.store)) (take l.row-index l.rows)
