use Rattle.guard_ends.specs.End.{Counts}
use Rattle.guard_ends.specs.Order.{Ends, LoadingTexts, OfTests, Refusing, Work}
use Rattle.guard_ends.specs.declared.ends.Which.TheVariants as file
use Rattle.guard_inputs.specs.code.Loading.{RefusesText}
use Rattle.guard_inputs.specs.code.Stops.{NoneRose, Rose}
use Rattle.guard_inputs.proofs.Stopping.{IsStop-more, as-rose, at-exit, none-rose}
use Rattle.guard_run.specs.code.Outcome.{IsStopBy, ended}
use Rattle.guard_run.specs.code.Tested.{TestingSources}
use Rattle.guard_run.specs.declared.done.Done.{Done}
use Rattle.guard_run.proofs.Outcomes.{IsOutcome-more}
use Rattle.guard_run.proofs.Testings.{tests-before, tests-loaded}
use Rattle.guard_run.proofs.test.run_tests.Goals as goal

pub returns-in_err-sources-clause-outcome : goal.returns-in_err-sources-clause-outcome
returns-in_err-sources-clause-outcome g c =
    let told = g.F.Files.content c.args.files.now in
    let rules = c.args.rules.now in
    let tests = c.args.tests.now in
    let before : Counts = record { files = g.F.Files.faults c.args.files.now; patterns = g.M.PatternMaker.faults c.args.maker.now } in
    let after : Counts = record { files = g.F.Files.faults c.load_sources.new.files; patterns = g.M.PatternMaker.faults c.args.maker.now } in
    let FileRose = Rose before.files after.files in
    let Loads : Work = LoadingTexts file.Tests told rules tests (λ source read. Refusing (RefusesText file.Tests)) in
    let Comes : Work = OfTests told rules tests in
    at-exit (λ (done : Done). Comes (Ends (ended done))) (IsStopBy Comes before after)
    c.from_residual.result c.in_err-sources.field-0.0 c.from_residual.ensures.1
    (IsStop-more Loads Comes FileRose FileRose NoneRose (Rose before.patterns after.patterns)
    (tests-before told rules tests) (as-rose FileRose) (none-rose (Rose before.patterns after.patterns)) c.in_err-sources.field-0.0 c.in_err-sources.ensures.loaded)

pub returns-clause-outcome : goal.returns-clause-outcome
returns-clause-outcome g c =
    let told = g.F.Files.content c.args.files.now in
    let rules = c.args.rules.now in
    let tests = c.args.tests.now in
    let sources = c.in_ok-sources.sources in
    let FileRose = Rose (g.F.Files.faults c.args.files.now) (g.F.Files.faults c.load_sources.new.files) in
    let PatternRose = Rose (g.M.PatternMaker.faults c.args.maker.now) (g.M.PatternMaker.faults c.test_sources.new.maker) in
    IsOutcome-more (TestingSources sources) (OfTests told rules tests) NoneRose FileRose PatternRose PatternRose
    (tests-loaded told rules tests sources c.in_ok-sources.ensures.loaded) (none-rose FileRose) (as-rose PatternRose)
    c.test_sources.result c.test_sources.ensures.outcome

pub returns-clause-contents : goal.returns-clause-contents
returns-clause-contents g c = c.load_sources.ensures.contents

pub returns-clause-kept : goal.returns-clause-kept
returns-clause-kept g c = c.load_sources.ensures.kept

pub returns-clause-maker_kept : goal.returns-clause-maker_kept
returns-clause-maker_kept g c = c.test_sources.ensures.maker_kept
