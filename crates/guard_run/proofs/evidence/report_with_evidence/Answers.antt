use Rattle.guard_ends.specs.Order.{Ending, Ends, IsJudgedBy, Work}
use Rattle.guard_ends.specs.Report.{report}
use Rattle.guard_inputs.specs.code.Inputs.{inputs_of}
use Rattle.guard_inputs.specs.code.Stops.{IsStop, NoneRose}
use Rattle.guard_inputs.specs.declared.stop.Stop.TheVariants as stop
use Rattle.guard_inputs.proofs.Stopping.{at-exit}
use Rattle.guard_run.specs.code.Outcome.{ended}
use Rattle.guard_run.specs.declared.done.Done.{Done}
use Rattle.guard_run.proofs.evidence.report_with_evidence.Goals as goal

pub evaluate-requires-clause-book : goal.evaluate-requires-clause-book
evaluate-requires-clause-book c = c.args.ready.now.made

pub evaluate-requires-clause-plain : goal.evaluate-requires-clause-plain
evaluate-requires-clause-plain c = c.args.ready.now.inputs.now.plain

pub returns-in_err-evaluation : goal.returns-in_err-evaluation
returns-in_err-evaluation c =
    let Comes : Work = Ending (IsJudgedBy report (inputs_of c.args.ready.now.inputs.now)) in
    at-exit (λ (done : Done). Comes (Ends (ended done))) (IsStop Comes NoneRose NoneRose)
    c.from_residual.result stop.Memory c.from_residual.ensures.1 tt

pub evidence_with_report-requires-clause-accepted : goal.evidence_with_report-requires-clause-accepted
evidence_with_report-requires-clause-accepted c = c.in_ok-evaluation.ensures.accepted

pub evidence_with_report-requires-clause-lean : goal.evidence_with_report-requires-clause-lean
evidence_with_report-requires-clause-lean c = c.in_ok-evaluation.ensures.lean

pub evidence_with_report-requires-clause-template : goal.evidence_with_report-requires-clause-template
evidence_with_report-requires-clause-template c = c.in_ok-evaluation.ensures.template

pub evidence_with_report-requires-clause-file : goal.evidence_with_report-requires-clause-file
evidence_with_report-requires-clause-file c = c.in_ok-evaluation.ensures.file

pub evidence_with_report-requires-clause-whole : goal.evidence_with_report-requires-clause-whole
evidence_with_report-requires-clause-whole c = c.in_ok-evaluation.ensures.whole

pub returns : goal.returns
returns c = c.evidence_with_report.ensures
