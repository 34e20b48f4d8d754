use Rattle.std.proofs.Common.{◌≡◌, Bool, map, sym, ap, subst, ◌∙◌, IfOk}
use Rattle.doc_values.specs.Places.{kids_at}
use Rattle.rule_meaning.specs.Values.{Value, values_in}
use Rattle.value_store.specs.code.Views.{see_view}
use Rattle.value_compare.proofs.Settling.{within-single, within-member, within-items}
use Rattle.value_compare.proofs.members.within.Goals as goal

pub returns-in_default-clause-answer : goal.returns-in_default-clause-answer
returns-in_default-clause-answer c =
    subst (λ (b : Bool). IfOk c.settles.result (λ answer. answer ≡ b)) (within-single (see_view c.args.left) (map see_view c.args.rights.now) c.requires.some c.args.not c.in_default.ensures)
    c.settles.ensures.answer

pub returns-then-branch-clause-answer : goal.returns-then-branch-clause-answer
returns-then-branch-clause-answer c =
    within-member (see_view c.args.left) (map see_view c.args.rights.now) c.requires.some c.in-Some.ensures.0 c.args.not (sym c.in_ok-settles.ensures.answer ∙ c.if-branch.true)

pub returns-clause-answer : goal.returns-clause-answer
returns-clause-answer c =
    let list = c.in-Some.list in
    subst (λ (b : Bool). IfOk c.items_settle.result (λ answer. answer ≡ b))
    (within-items (see_view c.args.left) (map see_view c.args.rights.now) c.requires.some c.in-Some.ensures.0 c.args.not (values_in (kids_at list.doc.now list.id))
    (ap (λ (v : Value). values_in v.contents) (sym c.in-Some.ensures.1)) (sym c.in_ok-settles.ensures.answer ∙ c.if-branch.false))
    c.items_settle.ensures.answer
