use Rattle.std.proofs.Common.{◌≡◌, ◌++◌, ◌∙◌, ap, Some, length, refl, subst}
use Rattle.std.proofs.lemmas.Option.{same_Some}
use Rattle.doc_values.specs.Places.{tree_at}
use Rattle.guard_syntax.specs.Syntax.{File}
use Rattle.guard_testfile.specs.Texts.{case_text}
use Rattle.guard_testfile.specs.code.Written.{agreement_of, case_differences}
use Rattle.guard_testfile.specs.declared.write.Agreement.{Agreement}
use Rattle.rule_meaning.specs.FunctionMeaning.{IsAnswering}
use Rattle.rule_meaning.specs.Locations.{Answers}
use Rattle.guard_ends.specs.Reported.{world_over}
use Rattle.guard_ends.proofs.ReportedVerdicts.{verdicts-many}
use Rattle.guard_inputs.specs.code.Tests.{rules_of}
use Rattle.guard_run.proofs.SaidCases.{said-right, said-wrong}
use Rattle.guard_run.proofs.test.say_case.Goals as goal

pub write_case-requires : goal.write_case-requires
write_case-requires c =
    let tests = c.args.ready.now.tests.now in
    let rules : File = rules_of tests in
    let tree = tree_at tests.tree c.args.case.now.input in
    let given : (answers : Answers) × IsAnswering (world_over rules tree answers) = c.one_answer_over_locations.ensures.some tree rules in
    ap length (c.deref.ensures.value ∙ c.in_ok-got.ensures given.0 given.1) ∙ verdicts-many (world_over rules tree given.0)

pub returns-in-Ok-AsExpected : goal.returns-in-Ok-AsExpected
returns-in-Ok-AsExpected c =
    let tests = c.args.ready.now.tests.now in
    let rules : File = rules_of tests in
    let case = c.args.case.now in
    let tree = tree_at tests.tree case.input in
    let given : (answers : Answers) × IsAnswering (world_over rules tree answers) = c.one_answer_over_locations.ensures.some tree rules in
    let got = c.deref.result.now in
    let before = c.args.text.now.bytes.items in
    let after = c.write_case.new.sink.bytes.items in
    let said = case_text c.args.number (case_differences rules got case) in
    let put : Some after ≡ Some (before ++ said) = c.in-Ok-AsExpected.ensures.ok before refl in
    said-right rules tests.tree case c.args.number got before after given.0 given.1 (c.deref.ensures.value ∙ c.in_ok-got.ensures given.0 given.1)
    (same_Some after (before ++ said) put)
    (subst (λ (a : Agreement). a ≡ agreement_of (case_differences rules got case)) c.in-Ok-AsExpected.field-0-is c.in-Ok-AsExpected.ensures.agreement)

pub returns-in-Ok-Different : goal.returns-in-Ok-Different
returns-in-Ok-Different c =
    let tests = c.args.ready.now.tests.now in
    let rules : File = rules_of tests in
    let case = c.args.case.now in
    let tree = tree_at tests.tree case.input in
    let given : (answers : Answers) × IsAnswering (world_over rules tree answers) = c.one_answer_over_locations.ensures.some tree rules in
    let got = c.deref.result.now in
    let before = c.args.text.now.bytes.items in
    let after = c.write_case.new.sink.bytes.items in
    let said = case_text c.args.number (case_differences rules got case) in
    let put : Some after ≡ Some (before ++ said) = c.in-Ok-Different.ensures.ok before refl in
    said-wrong rules tests.tree case c.args.number got before after given.0 given.1 (c.deref.ensures.value ∙ c.in_ok-got.ensures given.0 given.1)
    (same_Some after (before ++ said) put)
    (subst (λ (a : Agreement). a ≡ agreement_of (case_differences rules got case)) c.in-Ok-Different.field-0-is c.in-Ok-Different.ensures.agreement)
