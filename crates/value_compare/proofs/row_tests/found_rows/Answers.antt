use Rattle.std.proofs.lemmas.Grind.{common_steps}
use Rattle.std.proofs.Common.{◌≡◌, ◌++◌, ◌∷◌, [], ap, map, ◌∙◌, Vec, Global, arith}
use Rattle.std.specs.List.{list_all}
use Rattle.value_store.specs.code.BookCovers.{covers}
use Rattle.value_store.specs.code.Stores.{see_store}
use Rattle.value_store.specs.code.Views.{see_view}
use Rattle.value_store.specs.declared.view.View.{View}
use Rattle.value_compare.proofs.FoundRows.{more-missing, more-found, more-held}
use Rattle.value_compare.proofs.row_tests.found_rows.Goals as goal
use Rattle.value_compare.proofs.row_tests.found_rows.Goals.{in-Some+in_ok-push, in_default}

pub loop-row-preserved : goal.loop-row-preserved
loop-row-preserved c = elim c.match-found.branch [
  | in-Some+in_ok-push w ↦
      let put : c.match-found.views.items ≡ c.loop-row.views.items ++ w.in-Some.view ∷ [] = ap (λ (v : Vec View Global). v.items) w.views-is ∙ w.in_ok-push.ensures.items in
      record {
        values = more-found (see_store c.args.store.now) c.args.rows.now c.loop-row.row-index _ c.loop-row-test.true c.loop-row.views.items c.match-found.views.items w.in-Some.view w.in-Some.ensures.value put c.loop-row.invariant.values;
        held = λ book is_book. more-held book c.loop-row.views.items c.match-found.views.items w.in-Some.view put (c.loop-row.invariant.held book is_book) (w.in-Some.ensures.held book is_book);
      }
  | in_default w ↦
      let same : c.match-found.views.items ≡ c.loop-row.views.items = ap (λ (v : Vec View Global). v.items) w.views-is in
      record {
        values = more-missing (see_store c.args.store.now) c.args.rows.now c.loop-row.row-index _ c.loop-row-test.true c.match-found.views.items w.in_default.ensures.value (ap (map see_view) same ∙ c.loop-row.invariant.values);
        held = λ book is_book. ap (list_all (λ r. covers book (see_view r))) same ∙ c.loop-row.invariant.held book is_book;
      }
]

pub returns-clause-values : goal.returns-clause-values
returns-clause-values c = grind (arith, common_steps)
