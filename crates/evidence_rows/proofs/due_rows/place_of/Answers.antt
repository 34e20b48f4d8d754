use Rattle.std.proofs.Common.{◌<◌, List, ap, length, map, subst, sym, ◌∙◌}
use Rattle.guard_syntax.specs.Syntax as sx
use Rattle.guard_syntax.specs.code.Seen.{see_step, step_list}
use Rattle.guard_syntax.specs.declared.syntax.Step.{Step}
use Rattle.rule_meaning.specs.Places.{placed_in}
use Rattle.evidence_lookups.proofs.PartsSeen.{steps-seen}
use Rattle.evidence_rows.proofs.due_rows.place_of.Goals as goal

pub invariant_of-result : goal.invariant_of-result
invariant_of-result c = record { within = subst (λ (ss : List Step). c.args.at.index < length ss) (sym c.as_slice.ensures.value) c.args.at.within }

pub returns : goal.returns
returns c =
    ap (λ (ss : List Step). placed_in (step_list (map see_step ss)) c.args.at.index) c.as_slice.ensures.value
    ∙ sym (ap (λ (ss : sx.Steps). placed_in ss c.args.at.index) (steps-seen c.args.at.query.now))
