use Rattle.evidence_examples.proofs.DecidedExample.{ordered, accepted, lean, refused}
use Rattle.evidence_examples.proofs.decided.decided_condition.Goals as goal

pub returns-clause-ordered : goal.returns-clause-ordered
returns-clause-ordered c = ordered

pub returns-clause-accepted : goal.returns-clause-accepted
returns-clause-accepted c = accepted

pub returns-clause-lean : goal.returns-clause-lean
returns-clause-lean c = lean

pub returns-clause-not_in_version_1 : goal.returns-clause-not_in_version_1
returns-clause-not_in_version_1 c = refused
