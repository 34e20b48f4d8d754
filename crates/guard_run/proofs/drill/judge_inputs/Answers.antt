use Rattle.std.proofs.Common.{ℕ, List, inl, inr, arith}
use Rattle.guard_ends.specs.Drill.{drill_report}
use Rattle.guard_ends.specs.Order.{Ending, Ends, Inputs, IsJudged, MakingPatterns, Work}
use Rattle.guard_inputs.specs.code.Inputs.{inputs_of}
use Rattle.guard_inputs.specs.code.Stops.{IsStop, NoneRose, Rose}
use Rattle.guard_inputs.proofs.Stopping.{IsStop-more, as-rose, at-exit}
use Rattle.guard_run.specs.code.Stages.{WithPatterns}
use Rattle.guard_run.specs.code.Outcome.{ended}
use Rattle.guard_run.specs.declared.done.Done.{Done}
use Rattle.guard_run.proofs.Outcomes.{IsOutcome-more}
use Rattle.guard_run.proofs.Stages.{patterns-more}
use Rattle.guard_run.proofs.drill.judge_inputs.Goals as goal

-- a count of 0 did not rise
never-rose : (text : List ℕ) → Rose (λ text. 0) (λ text. 0) text → NoneRose text
never-rose text (inl less) = omega (arith, less)
never-rose text (inr most) = omega (arith, most)

-- what is done with the inputs
abbrev Judges : (count : ℕ) → Inputs → Work
Judges count inputs = Ending (IsJudged (drill_report count) inputs)

pub returns-in_err-book : goal.returns-in_err-book
returns-in_err-book c =
    let inputs : Inputs = inputs_of c.args.inputs.now in
    let Comes : Work = WithPatterns (Judges c.args.count) inputs in
    at-exit (λ (done : Done). Comes (Ends (ended done))) (IsStop Comes NoneRose NoneRose)
    c.from_residual.result c.in_err-book.field-0.0 c.from_residual.ensures.1
    (IsStop-more (MakingPatterns inputs.texts.rules inputs.rules (λ p. ⊥)) Comes NoneRose NoneRose (Rose (λ text. 0) (λ text. 0)) NoneRose
    (patterns-more inputs.texts.rules inputs.rules (λ p. ⊥) (Judges c.args.count inputs) (λ p never. absurd never))
    (as-rose NoneRose) never-rose c.in_err-book.field-0.0 c.in_err-book.ensures.made)

pub returns : goal.returns
returns c =
    let inputs : Inputs = inputs_of c.args.inputs.now in
    IsOutcome-more (Judges c.args.count inputs) (WithPatterns (Judges c.args.count) inputs) NoneRose NoneRose NoneRose NoneRose
    (λ p goes. inr (c.in_ok-book.ensures.made.0, goes)) (as-rose NoneRose) (as-rose NoneRose) c.report_on.result c.report_on.ensures
