use Rattle.std.proofs.Common.{◌≡◌, map, take, Some}
use Rattle.rule_meaning.specs.Functions.{texts_in}
use Rattle.value_store.specs.code.Stores.{see_store}
use Rattle.value_functions.proofs.values.texts_in.Given as goal

abbrev pub invariant-loop-row : goal.invariant-loop-row
invariant-loop-row l = texts_in (see_store l.store) (take l.row-index l.rows) ≡ Some (map (λ text. text.now) l.texts.items)
