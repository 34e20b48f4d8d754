use Rattle.std.proofs.Math.Nat.{le_trans}
use Rattle.std.proofs.Common.{◌∙◌}
use Rattle.guard_ends.specs.End.{Counts}
use Rattle.guard_ends.specs.Order.{Ends, LoadingTexts, Refusing, WithParams, Work}
use Rattle.guard_ends.specs.declared.ends.Which.TheVariants as file
use Rattle.guard_inputs.specs.code.Joined.{name_in}
use Rattle.guard_inputs.specs.code.Loading.{RefusesText}
use Rattle.guard_inputs.specs.code.Stops.{NoneRose, Rose}
use Rattle.guard_inputs.proofs.Stopping.{IsStop-more, as-rose, at-exit, none-rose, rose-since}
use Rattle.guard_run.specs.code.Stages.{ReadingSources}
use Rattle.guard_run.specs.code.Jobs.{Doing, WorkOfJob}
use Rattle.guard_run.specs.code.Outcome.{IsStopBy, ended}
use Rattle.guard_run.specs.declared.done.Done.{Done}
use Rattle.guard_run.proofs.Outcomes.{IsOutcome-more}
use Rattle.guard_run.proofs.Stages.{loads-before, sources-loaded, sources-same}
use Rattle.guard_run.proofs.over_files.run_over_files.Goals as goal

pub returns-in_err-sources-clause-outcome : goal.returns-in_err-sources-clause-outcome
returns-in_err-sources-clause-outcome g c =
    let told = g.F.Files.content c.args.files.now in
    let job = c.args.job.now in
    let before : Counts = record { files = g.F.Files.faults c.args.files.now; patterns = g.M.PatternMaker.faults c.args.maker.now } in
    let after : Counts = record { files = g.F.Files.faults c.load_sources.new.files; patterns = g.M.PatternMaker.faults c.args.maker.now } in
    let FileRose = Rose before.files after.files in
    let Loads : Work = LoadingTexts file.Template told job.rules.now job.template.now (λ source read. Refusing (RefusesText file.Template)) in
    let Comes : Work = WorkOfJob job told in
    at-exit (λ (done : Done). Comes (Ends (ended done))) (IsStopBy Comes before after)
    c.from_residual.result c.in_err-sources.field-0.0 c.from_residual.ensures.1
    (IsStop-more Loads Comes FileRose FileRose NoneRose (Rose before.patterns after.patterns)
    (loads-before told job.rules.now job.template.now (name_in job.params) (Doing job.task told))
    (as-rose FileRose) (none-rose (Rose before.patterns after.patterns)) c.in_err-sources.field-0.0 c.in_err-sources.ensures.loaded)

pub returns-clause-outcome : goal.returns-clause-outcome
returns-clause-outcome g c =
    let told = g.F.Files.content c.args.files.now in
    let then = g.F.Files.content c.load_sources.new.files in
    let job = c.args.job.now in
    let params = name_in job.params in
    let sources = c.in_ok-sources.sources in
    let before = g.F.Files.faults c.args.files.now in
    let mid = g.F.Files.faults c.load_sources.new.files in
    let after = g.F.Files.faults c.run_over_sources.new.files in
    let PatternRose = Rose (g.M.PatternMaker.faults c.args.maker.now) (g.M.PatternMaker.faults c.run_over_sources.new.maker) in
    IsOutcome-more (ReadingSources sources (WithParams then params) (Doing job.task then)) (WorkOfJob job told)
    (Rose mid after) (Rose before after) PatternRose PatternRose
    (λ p came. sources-loaded told job.rules.now job.template.now params (Doing job.task told) sources c.in_ok-sources.ensures.loaded p
    (sources-same then told c.load_sources.ensures.contents job.task params sources p came))
    (rose-since before mid after c.load_sources.ensures.kept) (as-rose PatternRose) c.run_over_sources.result c.run_over_sources.ensures.outcome

pub returns-clause-contents : goal.returns-clause-contents
returns-clause-contents g c other = c.run_over_sources.ensures.contents other ∙ c.load_sources.ensures.contents other

pub returns-clause-kept : goal.returns-clause-kept
returns-clause-kept g c other = le_trans (c.load_sources.ensures.kept other) (c.run_over_sources.ensures.kept other)

pub returns-clause-maker_kept : goal.returns-clause-maker_kept
returns-clause-maker_kept g c = c.run_over_sources.ensures.maker_kept
