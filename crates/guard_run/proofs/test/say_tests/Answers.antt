use Rattle.std.proofs.Common.{◌≡◌, ◌++◌, ◌∙◌, Some, refl, sym}
use Rattle.std.proofs.lemmas.List.{length-map}
use Rattle.std.proofs.lemmas.Option.{same_Some}
use Rattle.guard_syntax.specs.Syntax.{File}
use Rattle.guard_testfile.specs.Texts.{summary_line}
use Rattle.guard_testfile.specs.code.Seen.{see_case}
use Rattle.guard_ends.specs.Order.{Ending, Ends, IsTested, Work}
use Rattle.guard_inputs.specs.code.Stops.{IsStop, NoneRose}
use Rattle.guard_inputs.specs.code.Tests.{cases_of, rules_of}
use Rattle.guard_inputs.specs.declared.stop.Stop.TheVariants as stop
use Rattle.guard_inputs.proofs.Stopping.{at-exit}
use Rattle.guard_run.specs.code.Outcome.{ended}
use Rattle.guard_run.specs.declared.done.Done.{Done}
use Rattle.guard_run.proofs.SaidCases.{tested-as}
use Rattle.guard_run.proofs.test.say_tests.Goals as goal

pub returns-in-Ok : goal.returns-in-Ok
returns-in-Ok c =
    let tests = c.args.ready.now.tests.now in
    let rules : File = rules_of tests in
    let said = c.in_ok-text.field-0 in
    let last = summary_line c.len.result said.wrong in
    let put : Some c.write_summary.new.sink.bytes.items ≡ Some (said.text.bytes.items ++ last) = c.in-Ok.ensures.ok said.text.bytes.items refl in (
      ended c.done_by.result,
      tested-as rules tests.tree (cases_of tests) said.text.bytes.items c.write_summary.new.sink.bytes.items c.len.result said.wrong c.done_by.result
          c.in_ok-text.ensures (c.len.ensures ∙ (tests.cases.ok.0 ∙ sym (length-map tests.cases.items (see_case rules))))
          (same_Some c.write_summary.new.sink.bytes.items (said.text.bytes.items ++ last) put)
          c.done_by.ensures.how c.done_by.ensures.out c.done_by.ensures.err,
      refl,
    )

pub returns-in_err-text : goal.returns-in_err-text
returns-in_err-text c =
    let tests = c.args.ready.now.tests.now in
    let Comes : Work = Ending (IsTested (rules_of tests) tests.tree (cases_of tests)) in
    at-exit (λ (done : Done). Comes (Ends (ended done))) (IsStop Comes NoneRose NoneRose)
    c.from_residual.result stop.Memory c.from_residual.ensures.1 tt
