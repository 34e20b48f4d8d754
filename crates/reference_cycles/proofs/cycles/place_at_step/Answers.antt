use Rattle.std.proofs.Common.{ap, sym, ◌∙◌, Some, Option}
use Rattle.guard_syntax.specs.Syntax as sx
use Rattle.rule_names.specs.Cycles.{place_in_step}
use Rattle.rule_names.proofs.Shapes.{step-seen}
use Rattle.reference_cycles.proofs.StepsAt.{step-at, step-beyond}
use Rattle.reference_cycles.proofs.cycles.place_at_step.Goals as goal

pub returns-in-Some : goal.returns-in-Some
returns-in-Some c =
    let step = c.in-Some.step.now in
    let found = c.in-Some.ensures.lookup in
    c.place_in_form.ensures step.site
    ∙ ap (λ (s : sx.Step). place_in_step c.args.place (Some s)) (sym (step-seen step))
    ∙ ap (λ (s : Option sx.Step). place_in_step c.args.place s) (sym (step-at c.args.steps.now c.args.index step found.3.0 found.1))

pub returns-in-None : goal.returns-in-None
returns-in-None c = ap (λ (s : Option sx.Step). place_in_step c.args.place s) (sym (step-beyond c.args.steps.now c.args.index c.in-None.ensures.lookup.3))
