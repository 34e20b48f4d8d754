use Rattle.std.proofs.Common.{refl, subst}
use Rattle.evidence_lines.specs.declared.version.Version.{Version}
use Rattle.evidence_lines.specs.declared.version.Version.TheVariants.{Two}
use Rattle.evidence_text.specs.Text.{IsEvidence}
use Rattle.rule_meaning.specs.FunctionMeaning.{IsAnswering}
use Rattle.rule_meaning.specs.Locations.{Answers}
use Rattle.guard_ends.specs.Order.{Ending, Ends, Inputs, IsJudgedBy, Work}
use Rattle.guard_ends.specs.Report.{report}
use Rattle.guard_ends.specs.Reported.{world_over}
use Rattle.guard_inputs.specs.code.Inputs.{inputs_of}
use Rattle.guard_inputs.specs.code.Stops.{IsStop, NoneRose}
use Rattle.guard_inputs.specs.declared.stop.Stop.TheVariants as stop
use Rattle.guard_inputs.proofs.Stopping.{at-exit}
use Rattle.guard_run.specs.code.Outcome.{ended}
use Rattle.guard_run.specs.declared.done.Done.{Done}
use Rattle.guard_run.proofs.Outcomes.{judged-with}
use Rattle.guard_run.proofs.PrintedLines.{accepted-shapes}
use Rattle.guard_run.proofs.evidence.evidence_with_report.Goals as goal

pub evidence_text-requires : goal.evidence_text-requires
evidence_text-requires c =
    let inputs : Inputs = inputs_of c.args.ready.now.inputs.now in
    accepted-shapes Two inputs.tree inputs.rules c.args.evaluation.now.evidence.lines c.requires.accepted

pub returns : goal.returns
returns c =
    let inputs : Inputs = inputs_of c.args.ready.now.inputs.now in
    let judgement = c.in_ok-judgement.judgement in
    let evaluation = c.args.evaluation.now in
    let text = c.in_ok-evidence.evidence.items in
    let given : (answers : Answers) × IsAnswering (world_over inputs.rules inputs.tree answers) = c.one_answer_over_locations.ensures.some inputs.tree inputs.rules in
    let written : IsEvidence text Two evaluation.evidence.lines = subst (λ (v : Version). IsEvidence text v evaluation.evidence.lines) evaluation.version c.in_ok-evidence.ensures in (
      ended c.done_with.result,
      (
        given.0,
        given.1,
        (
          text,
          (evaluation.evidence.lines, written, c.requires.accepted, c.requires.lean),
          judged-with report c.done_with.result judgement.failed judgement.report.items text (world_over inputs.rules inputs.tree given.0)
              inputs.texts c.done_with.ensures.how c.done_with.ensures.out c.done_with.ensures.err
              (c.in_ok-judgement.ensures.report given.0 given.1) (c.in_ok-judgement.ensures.failed given.0 given.1),
        ),
      ),
      refl,
    )

pub returns-in_err-evidence : goal.returns-in_err-evidence
returns-in_err-evidence c =
    let Comes : Work = Ending (IsJudgedBy report (inputs_of c.args.ready.now.inputs.now)) in
    at-exit (λ (done : Done). Comes (Ends (ended done))) (IsStop Comes NoneRose NoneRose)
    c.from_residual-in_err-evidence.result stop.Memory c.from_residual-in_err-evidence.ensures.1 tt

pub returns-in_err-judgement : goal.returns-in_err-judgement
returns-in_err-judgement c =
    let Comes : Work = Ending (IsJudgedBy report (inputs_of c.args.ready.now.inputs.now)) in
    at-exit (λ (done : Done). Comes (Ends (ended done))) (IsStop Comes NoneRose NoneRose)
    c.from_residual.result stop.Memory c.from_residual.ensures.1 tt

pub judgement_of-requires-clause-accepted : goal.judgement_of-requires-clause-accepted
judgement_of-requires-clause-accepted c = c.requires.accepted

pub judgement_of-requires-clause-template : goal.judgement_of-requires-clause-template
judgement_of-requires-clause-template c = c.requires.template

pub judgement_of-requires-clause-file : goal.judgement_of-requires-clause-file
judgement_of-requires-clause-file c = c.requires.file

pub judgement_of-requires-clause-whole : goal.judgement_of-requires-clause-whole
judgement_of-requires-clause-whole c = c.requires.whole
