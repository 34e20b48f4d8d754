use Rattle.query_steps.proofs.StepPlaces.{last-is}
use Rattle.query_steps.proofs.places.is_last.Goals as goal

pub returns : goal.returns
returns c = last-is c.args.steps.now c.args.index c.requires
