use Rattle.std.proofs.Common.{◌≡◌, ℕ, List, true, map, take}
use Rattle.std.specs.List.{list_all}
use Rattle.guard_syntax.specs.code.Seen.{see_file}
use Rattle.value_store.specs.code.Books.{IsBookOf}
use Rattle.value_store.specs.code.BookCovers.{covers}
use Rattle.rule_meaning.specs.StoreModel.{meant}
use Rattle.rule_meaning.specs.RowTests.{found_of}
use Rattle.value_store.specs.code.Stores.{see_store}
use Rattle.value_store.specs.code.Views.{see_view}
use Rattle.value_compare.proofs.row_tests.found_rows.Given as goal

abbrev pub invariant-loop-row : goal.invariant-loop-row
invariant-loop-row l = record {
  values : map see_view l.views.items ≡ found_of (map (meant (see_store l.store)) (take l.row-index l.rows));
  held : (book : List (List ℕ)) → IsBookOf (see_file l.store.file.now.raw) book → list_all (λ r. covers book (see_view r)) l.views.items ≡ true;
}
