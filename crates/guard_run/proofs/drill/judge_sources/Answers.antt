use Rattle.std.proofs.Common.{inl, string_bytes}
use Rattle.guard_ends.specs.Drill.{drill_report}
use Rattle.guard_ends.specs.Inputs.{RefusesData}
use Rattle.guard_ends.specs.Order.{Alone, Ending, Ends, Inputs, IsJudged, Refusing, Work}
use Rattle.guard_ends.specs.declared.ends.Which.TheVariants as file
use Rattle.guard_inputs.specs.code.Inputs.{inputs_of}
use Rattle.guard_inputs.specs.code.Stops.{IsStop, NoneRose}
use Rattle.guard_inputs.proofs.Stopping.{IsStop-more, as-rose, at-exit}
use Rattle.guard_run.specs.code.Stages.{ReadingSources, WithPatterns}
use Rattle.guard_run.specs.code.Outcome.{ended}
use Rattle.guard_run.specs.declared.done.Done.{Done}
use Rattle.guard_run.proofs.Joinings.{alone-comes}
use Rattle.guard_run.proofs.Outcomes.{IsOutcome-more}
use Rattle.guard_run.proofs.drill.judge_sources.Goals as goal

pub returns-in_err-inputs : goal.returns-in_err-inputs
returns-in_err-inputs c =
    let sources = c.args.sources.now in
    let Comes : Work = ReadingSources sources Alone (λ inputs. Ending (IsJudged (drill_report c.args.count) inputs)) in
    at-exit (λ (done : Done). Comes (Ends (ended done))) (IsStop Comes NoneRose NoneRose)
    c.from_residual.result c.in_err-inputs.field-0.0 c.from_residual.ensures.1
    (IsStop-more (Refusing (RefusesData file.Template sources.beside.format) (string_bytes sources.beside.text)) Comes NoneRose NoneRose NoneRose NoneRose
    (λ p refused. inl refused) (as-rose NoneRose) (as-rose NoneRose) c.in_err-inputs.field-0.0 c.in_err-inputs.ensures.read)

pub returns : goal.returns
returns c =
    let sources = c.args.sources.now in
    let Judges : Inputs → Work = λ inputs. Ending (IsJudged (drill_report c.args.count) inputs) in
    IsOutcome-more (WithPatterns Judges (inputs_of c.in_ok-inputs.inputs)) (ReadingSources sources Alone Judges) NoneRose NoneRose NoneRose NoneRose
    (alone-comes sources c.in_ok-inputs.inputs Judges c.in_ok-inputs.ensures.read) (as-rose NoneRose) (as-rose NoneRose) c.judge_inputs.result c.judge_inputs.ensures
