use Rattle.std.proofs.Common.{◌≡◌, ℕ, List, inl, inr, string_bytes}
use Rattle.guard_ends.specs.Inputs.{AreGenerated, RefusesData, RefusesGenerated}
use Rattle.guard_ends.specs.Order.{Ending, Ends, Generating, Reading, Refusing, Work, written}
use Rattle.guard_ends.specs.declared.ends.Which.TheVariants as file
use Rattle.guard_inputs.specs.code.Stops.{IsStop, NoneRose}
use Rattle.guard_inputs.proofs.Stopping.{IsStop-more, as-rose, at-exit}
use Rattle.guard_run.specs.code.Outcome.{ended}
use Rattle.guard_run.specs.declared.done.Done.{Done}
use Rattle.guard_run.proofs.Outcomes.{IsOutcome-more}
use Rattle.guard_run.proofs.rulegen.generate_of.Goals as goal

pub returns-in_err-tree : goal.returns-in_err-tree
returns-in_err-tree c =
    let template = c.args.template.now in
    let source : List ℕ = string_bytes template.text in
    let Comes : Work = Generating template.format source in
    at-exit (λ (done : Done). Comes (Ends (ended done))) (IsStop Comes NoneRose NoneRose)
    c.from_residual.result c.in_err-tree.field-0.0 c.from_residual.ensures.1
    (IsStop-more (Refusing (RefusesData file.Template template.format) source) Comes NoneRose NoneRose NoneRose NoneRose
    (λ p refused. inl refused) (as-rose NoneRose) (as-rose NoneRose) c.in_err-tree.field-0.0 (rw c.as_str.ensures.value at c.in_err-tree.ensures.read))

pub returns : goal.returns
returns c =
    let template = c.args.template.now in
    let source : List ℕ = string_bytes template.text in
    let tree = c.in_ok-tree.tree in
    IsOutcome-more (Reading (λ bytes. RefusesGenerated tree) (λ bytes. AreGenerated tree) source (λ text. Ending (λ e. e ≡ written text))) (Generating template.format source)
    NoneRose NoneRose NoneRose NoneRose (λ p came. inr (tree, rw c.as_str.ensures.value at c.in_ok-tree.ensures.read, came)) (as-rose NoneRose) (as-rose NoneRose)
    c.write_generated.result (c.write_generated.ensures source)
