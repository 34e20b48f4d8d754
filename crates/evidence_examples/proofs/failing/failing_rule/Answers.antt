use Rattle.evidence_examples.proofs.AcceptedExample.{ordered, accepted, lean, refused-pass, refused-cite}
use Rattle.evidence_examples.proofs.failing.failing_rule.Goals as goal

pub returns-clause-ordered : goal.returns-clause-ordered
returns-clause-ordered c = ordered

pub returns-clause-accepted : goal.returns-clause-accepted
returns-clause-accepted c = accepted

pub returns-clause-lean : goal.returns-clause-lean
returns-clause-lean c = lean

pub returns-clause-no_pass : goal.returns-clause-no_pass
returns-clause-no_pass c = refused-pass

pub returns-clause-no_other_cite : goal.returns-clause-no_other_cite
returns-clause-no_other_cite c = refused-cite
