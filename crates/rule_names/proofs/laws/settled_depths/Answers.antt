use Rattle.rule_names.proofs.Settled.{settled}
use Rattle.rule_names.proofs.laws.settled_depths.Goals as goal

pub returns : goal.returns
returns c = settled
