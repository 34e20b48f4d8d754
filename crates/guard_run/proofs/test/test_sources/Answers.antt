use Rattle.guard_ends.specs.Order.{Ends, Work}
use Rattle.guard_inputs.specs.code.Stops.{IsStop, NoneRose, Rose}
use Rattle.guard_inputs.specs.code.Tests.{RefusingTests}
use Rattle.guard_inputs.proofs.Stopping.{IsStop-more, as-rose, at-exit, none-rose}
use Rattle.guard_run.specs.code.Outcome.{ended}
use Rattle.guard_run.specs.code.Tested.{Testing, TestingSources}
use Rattle.guard_run.specs.declared.done.Done.{Done}
use Rattle.guard_run.proofs.Outcomes.{IsOutcome-more}
use Rattle.guard_run.proofs.Testings.{reads-before, tests-read}
use Rattle.guard_run.proofs.test.test_sources.Goals as goal

pub returns-in_err-tests-clause-outcome : goal.returns-in_err-tests-clause-outcome
returns-in_err-tests-clause-outcome g c =
    let sources = c.args.sources.now in
    let PatternRose = Rose (g.M.PatternMaker.faults c.args.maker.now) (g.M.PatternMaker.faults c.args.maker.now) in
    let Comes : Work = TestingSources sources in
    at-exit (λ (done : Done). Comes (Ends (ended done))) (IsStop Comes NoneRose PatternRose)
    c.from_residual.result c.in_err-tests.field-0.0 c.from_residual.ensures.1
    (IsStop-more (RefusingTests sources) Comes NoneRose NoneRose NoneRose PatternRose
    (reads-before sources) (as-rose NoneRose) (none-rose PatternRose) c.in_err-tests.field-0.0 c.in_err-tests.ensures)

pub returns-clause-outcome : goal.returns-clause-outcome
returns-clause-outcome g c =
    let sources = c.args.sources.now in
    let tests = c.in_ok-tests.tests in
    let PatternRose = Rose (g.M.PatternMaker.faults c.args.maker.now) (g.M.PatternMaker.faults c.judge_tests.new.maker) in
    IsOutcome-more (Testing tests) (TestingSources sources) NoneRose NoneRose PatternRose PatternRose
    (tests-read sources tests c.in_ok-tests.ensures) (as-rose NoneRose) (as-rose PatternRose) c.judge_tests.result c.judge_tests.ensures.outcome

pub returns-clause-maker_kept : goal.returns-clause-maker_kept
returns-clause-maker_kept g c = c.judge_tests.ensures.maker_kept
