use Rattle.doc_values.specs.Tree.{Forest}
use Rattle.guard_syntax.specs.Syntax.{File}
use Rattle.guard_words.specs.Request.{test}
use Rattle.guard_ends.specs.Order.{Ends}
use Rattle.guard_laws.proofs.OneEnd.{work-asked}
use Rattle.guard_laws.proofs.OneTemplate.{OneTemplate}
use Rattle.guard_laws.proofs.OneTest.{AreTestsTold, OneAnswer, tests-go}
use Rattle.guard_laws.proofs.laws.accepted_is_tested.Goals as goal

pub returns : goal.returns
returns c =
    let tests : OneTemplate c.args.tests.now = record { tree = c.only_template.ensures.tree; refusal = c.only_template.ensures.refusal; apart = c.only_template.ensures.apart } in
    let answer : (rules : File) (tree : Forest) → OneAnswer rules tree = λ rules tree. record {
      shape = c.one_answer.ensures.shape tree;
      names = c.one_answer.ensures.names rules tree;
      apart = c.one_answer.ensures.apart rules tree;
      shaped = c.one_answer.ensures.shaped rules tree;
      named = c.one_answer.ensures.named rules tree;
    } in
    λ words told r s file tree cases e asked rules_told tests_told whole whole' are all end.
    let known : AreTestsTold told r s c.args.rules.now c.args.tests.now = record { rules = rules_told; tests = tests_told } in
    tests-go c.one_syntax.ensures answer told r s c.args.rules.now c.args.tests.now known tests file tree cases whole whole' are all e
    (work-asked words told (test r s) asked (Ends e) end)
