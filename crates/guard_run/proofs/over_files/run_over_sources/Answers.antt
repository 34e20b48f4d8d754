use Rattle.std.proofs.Common.{ap, inl, string_bytes}
use Rattle.guard_ends.specs.Inputs.{RefusesData}
use Rattle.guard_ends.specs.Order.{Ends, Inputs, Joining, Refusing, WithParams, Work}
use Rattle.guard_ends.specs.declared.ends.Which.TheVariants as file
use Rattle.guard_inputs.specs.code.Inputs.{inputs_of}
use Rattle.guard_inputs.specs.code.Joined.{name_in}
use Rattle.guard_inputs.specs.code.Stops.{IsStop, NoneRose, Rose}
use Rattle.guard_inputs.proofs.Stopping.{IsStop-more, as-rose, at-exit, none-rose}
use Rattle.guard_run.specs.code.Stages.{JoiningInputs, ReadingSources}
use Rattle.guard_run.specs.code.Jobs.{Doing}
use Rattle.guard_run.specs.code.Outcome.{ended}
use Rattle.guard_run.specs.declared.done.Done.{Done}
use Rattle.guard_run.proofs.Outcomes.{IsOutcome-more}
use Rattle.guard_run.proofs.Stages.{template-read}
use Rattle.guard_run.proofs.over_files.run_over_sources.Goals as goal

pub run_over_template-requires-clause-alone : goal.run_over_template-requires-clause-alone
run_over_template-requires-clause-alone g c = ap (λ (i : Inputs). i.texts.params) c.in_ok-template.ensures.read.same

pub returns-in_err-template-clause-outcome : goal.returns-in_err-template-clause-outcome
returns-in_err-template-clause-outcome g c =
    let told = g.F.Files.content c.args.files.now in
    let sources = c.args.sources.now in
    let job = c.args.job.now in
    let FileRose = Rose (g.F.Files.faults c.args.files.now) (g.F.Files.faults c.args.files.now) in
    let PatternRose = Rose (g.M.PatternMaker.faults c.args.maker.now) (g.M.PatternMaker.faults c.args.maker.now) in
    let Comes : Work = ReadingSources sources (WithParams told (name_in job.params)) (Doing job.task told) in
    at-exit (λ (done : Done). Comes (Ends (ended done))) (IsStop Comes FileRose PatternRose)
    c.from_residual.result c.in_err-template.field-0.0 c.from_residual.ensures.1
    (IsStop-more (Refusing (RefusesData file.Template sources.beside.format) (string_bytes sources.beside.text)) Comes NoneRose FileRose NoneRose PatternRose
    (λ p refused. inl refused) (none-rose FileRose) (none-rose PatternRose) c.in_err-template.field-0.0 c.in_err-template.ensures.read)

pub returns-clause-outcome : goal.returns-clause-outcome
returns-clause-outcome g c =
    let told = g.F.Files.content c.args.files.now in
    let sources = c.args.sources.now in
    let job = c.args.job.now in
    let Joined : Joining = WithParams told (name_in job.params) in
    let Does : Inputs → Work = Doing job.task told in
    let template = c.in_ok-template.template in
    let FileRose = Rose (g.F.Files.faults c.args.files.now) (g.F.Files.faults c.run_over_template.new.files) in
    let PatternRose = Rose (g.M.PatternMaker.faults c.args.maker.now) (g.M.PatternMaker.faults c.run_over_template.new.maker) in
    IsOutcome-more (JoiningInputs Joined (inputs_of template) Does) (ReadingSources sources Joined Does) FileRose FileRose PatternRose PatternRose
    (template-read sources Joined Does template c.in_ok-template.ensures.read) (as-rose FileRose) (as-rose PatternRose)
    c.run_over_template.result c.run_over_template.ensures.outcome

pub returns-clause-maker_kept : goal.returns-clause-maker_kept
returns-clause-maker_kept g c = c.run_over_template.ensures.maker_kept

pub returns-clause-kept : goal.returns-clause-kept
returns-clause-kept g c = c.run_over_template.ensures.kept

pub run_over_template-requires-clause-small : goal.run_over_template-requires-clause-small
run_over_template-requires-clause-small g c = c.in_ok-template.ensures.small
