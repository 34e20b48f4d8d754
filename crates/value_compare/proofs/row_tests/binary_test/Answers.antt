use Rattle.std.proofs.Common.{◌≡◌, Bool, map, sym, ap, subst, ◌∙◌, IfOk}
use Rattle.guard_syntax.specs.declared.syntax.Op.{Op}
use Rattle.rule_meaning.specs.RowTests.{binary}
use Rattle.value_store.specs.code.Views.{see_view}
use Rattle.value_compare.proofs.Settling.{equals-settled}
use Rattle.value_compare.proofs.row_tests.binary_test.Goals as goal

pub returns-in-Eq-clause-answer : goal.returns-in-Eq-clause-answer
returns-in-Eq-clause-answer c =
    let l = see_view c.args.left in
    let rs = map see_view c.args.rights.now in
    subst (λ (b : Bool). IfOk c.settles.result (λ passes. passes ≡ b)) (equals-settled c.args.not l rs c.requires.some ∙ ap (λ (o : Op). binary o c.args.not l rs) (sym c.in-Eq.is)) c.settles.ensures.answer

pub returns-in-Within-clause-answer : goal.returns-in-Within-clause-answer
returns-in-Within-clause-answer c =
    subst (λ (b : Bool). IfOk c.within.result (λ passes. passes ≡ b)) (ap (λ (o : Op). binary o c.args.not (see_view c.args.left) (map see_view c.args.rights.now)) (sym c.in-Within.is)) c.within.ensures.answer
