use Rattle.std.proofs.Common.{◌≤◌, List, ℕ, inr, length, string_bytes, subst, sym}
use Rattle.doc_values.specs.Limits.{rules_limit}
use Rattle.guard_syntax.specs.Syntax.{File}
use Rattle.guard_ends.specs.Order.{Ending, Ends, IsTested, MakingPatterns, Work}
use Rattle.guard_inputs.specs.code.Stops.{AreNotMade, IsStop, NoneRose, Rose}
use Rattle.guard_inputs.specs.code.Tests.{cases_of, rules_of}
use Rattle.guard_inputs.specs.declared.stop.Stop.{Stop}
use Rattle.guard_inputs.proofs.Stopping.{IsStop-more, as-rose, at-exit, none-rose}
use Rattle.guard_run.specs.code.Outcome.{ended}
use Rattle.guard_run.specs.code.Tested.{Testing}
use Rattle.guard_run.specs.declared.done.Done.{Done}
use Rattle.guard_run.proofs.Outcomes.{IsOutcome-more}
use Rattle.guard_run.proofs.Stages.{patterns-more}
use Rattle.guard_run.proofs.test.judge_tests.Goals as goal

pub make_patterns-requires : goal.make_patterns-requires
make_patterns-requires g c = subst (λ (b : List ℕ). length b ≤ rules_limit) (sym c.as_str.ensures.value) c.args.tests.now.rules.now.short

pub returns-in_err-book-clause-outcome : goal.returns-in_err-book-clause-outcome
returns-in_err-book-clause-outcome g c =
    let tests = c.args.tests.now in
    let source = string_bytes tests.rules.now.text in
    let rules : File = rules_of tests in
    let PatternRose = Rose (g.M.PatternMaker.faults c.args.maker.now) (g.M.PatternMaker.faults c.make_patterns.new.maker) in
    let Does : Work = Ending (IsTested rules tests.tree (cases_of tests)) in
    let s : Stop = c.in_err-book.field-0.0 in
    let stopped : AreNotMade source rules (g.M.PatternMaker.faults c.args.maker.now) (g.M.PatternMaker.faults c.make_patterns.new.maker) s =
    subst (λ (b : List ℕ). AreNotMade b rules (g.M.PatternMaker.faults c.args.maker.now) (g.M.PatternMaker.faults c.make_patterns.new.maker) s) c.as_str.ensures.value c.in_err-book.ensures.made in
    at-exit (λ (done : Done). Testing tests (Ends (ended done))) (IsStop (Testing tests) NoneRose PatternRose)
    c.from_residual.result s c.from_residual.ensures.1
    (IsStop-more (MakingPatterns source rules (λ p. ⊥)) (Testing tests) NoneRose NoneRose PatternRose PatternRose
    (patterns-more source rules (λ p. ⊥) Does (λ p never. absurd never))
    (as-rose NoneRose) (as-rose PatternRose) s stopped)

pub returns-clause-outcome : goal.returns-clause-outcome
returns-clause-outcome g c =
    let tests = c.args.tests.now in
    let PatternRose = Rose (g.M.PatternMaker.faults c.args.maker.now) (g.M.PatternMaker.faults c.make_patterns.new.maker) in
    IsOutcome-more (Ending (IsTested (rules_of tests) tests.tree (cases_of tests))) (Testing tests) NoneRose NoneRose NoneRose PatternRose
    (λ p goes. inr (c.in_ok-book.ensures.made.0, goes)) (as-rose NoneRose) (none-rose PatternRose) c.say_tests.result c.say_tests.ensures

pub returns-clause-maker_kept : goal.returns-clause-maker_kept
returns-clause-maker_kept g c = c.make_patterns.ensures.kept
