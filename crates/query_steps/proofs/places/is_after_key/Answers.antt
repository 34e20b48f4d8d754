use Rattle.std.proofs.Common.{◌∙◌}
use Rattle.query_steps.proofs.StepPlaces.{after-key}
use Rattle.query_steps.proofs.places.is_after_key.Goals as goal

pub returns : goal.returns
returns c = c.is_key.ensures ∙ after-key c.args.steps.now c.args.index c.index-steps-index.result c.requires c.if-index-eq0.false c.index-steps-index.is
