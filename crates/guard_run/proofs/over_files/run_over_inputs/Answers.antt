use Rattle.std.proofs.Common.{inr}
use Rattle.guard_ends.specs.Order.{Ends, Inputs, MakingPatterns, Work}
use Rattle.guard_inputs.specs.code.Inputs.{inputs_of}
use Rattle.guard_inputs.specs.code.Stops.{IsStop, NoneRose, Rose}
use Rattle.guard_inputs.proofs.Stopping.{IsStop-more, as-rose, at-exit, none-rose}
use Rattle.guard_run.specs.code.Stages.{WithPatterns}
use Rattle.guard_run.specs.code.Jobs.{Doing}
use Rattle.guard_run.specs.code.Outcome.{ended}
use Rattle.guard_run.specs.declared.done.Done.{Done}
use Rattle.guard_run.proofs.Outcomes.{IsOutcome-more}
use Rattle.guard_run.proofs.Stages.{patterns-more}
use Rattle.guard_run.proofs.over_files.run_over_inputs.Goals as goal

pub returns-in_err-book-clause-outcome : goal.returns-in_err-book-clause-outcome
returns-in_err-book-clause-outcome g c =
    let told = g.F.Files.content c.args.files.now in
    let inputs : Inputs = inputs_of c.args.inputs.now in
    let FileRose = Rose (g.F.Files.faults c.args.files.now) (g.F.Files.faults c.args.files.now) in
    let PatternRose = Rose (g.M.PatternMaker.faults c.args.maker.now) (g.M.PatternMaker.faults c.make_patterns.new.maker) in
    let Does : Work = Doing c.args.task.now told inputs in
    let Comes : Work = WithPatterns (Doing c.args.task.now told) inputs in
    at-exit (λ (done : Done). Comes (Ends (ended done))) (IsStop Comes FileRose PatternRose)
    c.from_residual.result c.in_err-book.field-0.0 c.from_residual.ensures.1
    (IsStop-more (MakingPatterns inputs.texts.rules inputs.rules (λ p. ⊥)) Comes NoneRose FileRose PatternRose PatternRose
    (patterns-more inputs.texts.rules inputs.rules (λ p. ⊥) Does (λ p never. absurd never))
    (none-rose FileRose) (as-rose PatternRose) c.in_err-book.field-0.0 c.in_err-book.ensures.made)

pub returns-clause-outcome : goal.returns-clause-outcome
returns-clause-outcome g c =
    let told = g.F.Files.content c.args.files.now in
    let inputs : Inputs = inputs_of c.args.inputs.now in
    let FileRose = Rose (g.F.Files.faults c.args.files.now) (g.F.Files.faults c.run_task.new.files) in
    let PatternRose = Rose (g.M.PatternMaker.faults c.args.maker.now) (g.M.PatternMaker.faults c.make_patterns.new.maker) in
    let Does : Work = Doing c.args.task.now told inputs in
    IsOutcome-more Does (WithPatterns (Doing c.args.task.now told) inputs) FileRose FileRose NoneRose PatternRose
    (λ p goes. inr (c.in_ok-book.ensures.made.0, goes)) (as-rose FileRose) (none-rose PatternRose) c.run_task.result c.run_task.ensures.outcome

pub returns-clause-maker_kept : goal.returns-clause-maker_kept
returns-clause-maker_kept g c = c.make_patterns.ensures.kept

pub returns-clause-kept : goal.returns-clause-kept
returns-clause-kept g c = c.run_task.ensures.kept

pub returns-clause-contents : goal.returns-clause-contents
returns-clause-contents g c = c.run_task.ensures.contents
