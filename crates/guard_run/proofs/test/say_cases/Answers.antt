use Rattle.std.proofs.Common.{◌≡◌, ◌+◌, ◌<◌, ◌∙◌, ℕ, Bool, List, ap, arith, cond, get_or, length, map, subst, sym, take}
use Rattle.guard_syntax.specs.Syntax.{File}
use Rattle.guard_testfile.specs.code.Seen.{see_case}
use Rattle.guard_testfile.specs.declared.case.Case.{Case}
use Rattle.guard_inputs.specs.code.Tests.{rules_of}
use Rattle.guard_run.specs.code.Tested.{AreSaid, IsSaid}
use Rattle.guard_run.proofs.SaidCases.{said-next}
use Rattle.guard_run.proofs.test.say_cases.Goals as goal
use Rattle.guard_run.proofs.test.say_cases.Goals.{then-branch, else-branch}

pub loop-i-preserved : goal.loop-i-preserved
loop-i-preserved c =
    let tests = c.args.ready.now.tests.now in
    let rules : File = rules_of tests in
    let items : List Case = tests.cases.items in
    let i = c.loop-i.i in
    let one = c.index-cases-i.result in
    let before = c.loop-i.text.bytes.items in
    let after = c.say_case.new.text.bytes.items in
    let wrong = c.loop-i.wrong in
    let differs = c.in_ok-say_case.field-0 in
    let within : i < length items = rw c.as_slice-cases.ensures.value at c.loop-i-test.true in
    let is : one ≡ get_or items i one = c.index-cases-i.is ∙ ap (λ (cs : List Case). get_or cs i one) c.as_slice-cases.ensures.value in
    let said : IsSaid rules tests.tree (see_case rules (get_or items i one)) (i + 1) before after differs =
    subst (λ (k : Case). IsSaid rules tests.tree (see_case rules k) (i + 1) before after differs) is c.in_ok-say_case.ensures in
    let more = said-next rules tests.tree items i one before after wrong differs within c.loop-i.invariant.said said in
    let AreNow : ℕ → Type 0 = λ n. AreSaid rules tests.tree (map (see_case rules) (take (i + 1) items)) after n in
    let few = c.loop-i.invariant.few in
    record {
      said = elim c.if-branch.branch [
        | then-branch w ↦ subst AreNow (ap (λ (b : Bool). wrong + cond b 1 0) w.if-branch.true ∙ sym w.wrong-is) more
        | else-branch w ↦
            let same : wrong + 0 ≡ c.if-branch.wrong = omega (arith, w.wrong-is) in
            subst AreNow (ap (λ (b : Bool). wrong + cond b 1 0) w.if-branch.false ∙ same) more
      ];
      few = elim c.if-branch.branch [
        | then-branch w ↦ omega (arith, few, w.wrong-is)
        | else-branch w ↦ omega (arith, few, w.wrong-is)
      ];
    }
