use Rattle.std.proofs.Common.{List, map, refl, ap, sym, ◌∙◌}
use Rattle.rule_meaning.specs.RowTests.{is_some_right}
use Rattle.rule_meaning.specs.Values.{Value}
use Rattle.value_store.specs.code.Views.{see_view}
use Rattle.value_store.specs.declared.view.View.{View}
use Rattle.value_compare.proofs.Items.{rights-held}
use Rattle.value_compare.proofs.row_tests.row_test.Goals as goal

pub binary_test-requires-clause-held : goal.binary_test-requires-clause-held
binary_test-requires-clause-held c =
    rights-held c.args.matchers.now.book.now c.args.matchers.now.book.now c.in-Ok.rights.items c.deref.result.now refl c.deref.ensures.value
    (c.in-Ok.ensures.held c.args.matchers.now.book.now c.requires.book)

pub binary_test-requires-clause-some : goal.binary_test-requires-clause-some
binary_test-requires-clause-some c =
    ap (λ (vs : List View). is_some_right (map see_view vs)) c.deref.ensures.value ∙ ap (λ (vs : List Value). is_some_right vs) c.in-Ok.ensures.values
    ∙ sym c.has_found.ensures ∙ c.if-not-has_found.false
