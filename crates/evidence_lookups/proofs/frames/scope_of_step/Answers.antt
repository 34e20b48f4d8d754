use Rattle.std.proofs.Common.{Option, ◌∙◌, ap, sym}
use Rattle.guard_syntax.specs.Syntax as sx
use Rattle.evidence_rules.specs.CitedLines.{scope_of_step}
use Rattle.evidence_lookups.proofs.PartsSeen.{no-step, step-there}
use Rattle.evidence_lookups.proofs.frames.scope_of_step.Goals as goal

pub returns-in-Some : goal.returns-in-Some
returns-in-Some c =
    λ f. c.scope_of_filter.ensures f
    ∙ ap (λ (o : Option sx.Step). scope_of_step f c.args.site o)
    (sym (step-there c.args.query.now c.args.index c.deref.result.now c.in-Some.step.now c.deref.ensures.value c.in-Some.ensures.lookup.3.0 c.in-Some.ensures.lookup.1))

pub returns-in-None : goal.returns-in-None
returns-in-None c =
    λ f. ap (λ (o : Option sx.Step). scope_of_step f c.args.site o)
    (sym (no-step c.args.query.now c.args.index c.deref.result.now c.deref.ensures.value c.in-None.ensures.lookup.3))
