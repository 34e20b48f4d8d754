use Rattle.std.proofs.Common.{refl}
use Rattle.rule_meaning.specs.FunctionMeaning.{IsAnswering}
use Rattle.rule_meaning.specs.Locations.{Answers}
use Rattle.guard_ends.specs.Order.{Inputs}
use Rattle.guard_ends.specs.Reported.{world_over}
use Rattle.guard_inputs.specs.code.Inputs.{inputs_of}
use Rattle.guard_run.specs.code.Forms.{report_in}
use Rattle.guard_run.specs.code.Outcome.{ended}
use Rattle.guard_run.proofs.Outcomes.{judged-as}
use Rattle.guard_run.proofs.validate.report_on.Goals as goal

pub returns : goal.returns
returns c =
    let inputs : Inputs = inputs_of c.args.ready.now.inputs.now in
    let judgement = c.in_ok-judgement.judgement in
    let given : (answers : Answers) × IsAnswering (world_over inputs.rules inputs.tree answers) = c.one_answer_over_locations.ensures.some inputs.tree inputs.rules in (
      ended c.done_by.result,
      (
        given.0,
        given.1,
        judged-as (report_in c.args.form) c.done_by.result judgement.failed judgement.report.items (world_over inputs.rules inputs.tree given.0)
            inputs.texts c.done_by.ensures.how c.done_by.ensures.out c.done_by.ensures.err
            (c.in_ok-judgement.ensures.report given.0 given.1) (c.in_ok-judgement.ensures.failed given.0 given.1),
      ),
      refl,
    )
