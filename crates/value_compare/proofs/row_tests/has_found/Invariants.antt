use Rattle.std.proofs.Common.{◌≡◌, [], map, take}
use Rattle.rule_meaning.specs.StoreModel.{meant}
use Rattle.rule_meaning.specs.RowTests.{found_of}
use Rattle.value_store.specs.code.Stores.{see_store}
use Rattle.value_compare.proofs.row_tests.has_found.Given as goal

abbrev pub invariant-loop-row : goal.invariant-loop-row
invariant-loop-row l = found_of (map (meant (see_store l.store)) (take l.row-index l.rows)) ≡ []
