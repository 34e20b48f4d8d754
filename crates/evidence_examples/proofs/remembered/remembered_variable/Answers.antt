use Rattle.evidence_examples.proofs.RememberedExample.{ordered, accepted, lean}
use Rattle.evidence_examples.proofs.remembered.remembered_variable.Goals as goal

pub returns-clause-ordered : goal.returns-clause-ordered
returns-clause-ordered c = ordered

pub returns-clause-accepted : goal.returns-clause-accepted
returns-clause-accepted c = accepted

pub returns-clause-lean : goal.returns-clause-lean
returns-clause-lean c = lean
