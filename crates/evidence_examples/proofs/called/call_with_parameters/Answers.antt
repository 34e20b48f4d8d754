use Rattle.evidence_examples.proofs.CalledExample.{ordered, all_follow}
use Rattle.evidence_examples.proofs.called.call_with_parameters.Goals as goal

pub returns-clause-ordered : goal.returns-clause-ordered
returns-clause-ordered c = ordered

pub returns-clause-follow : goal.returns-clause-follow
returns-clause-follow c = all_follow
