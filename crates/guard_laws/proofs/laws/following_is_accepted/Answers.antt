use Rattle.guard_laws.proofs.OneCheck.{accepted-ends, accepted-only}
use Rattle.guard_laws.proofs.laws.following_is_accepted.Goals as goal

pub returns-clause-accepted : goal.returns-clause-accepted
returns-clause-accepted c words told r t q p file tree data_tree params lines e asks rules_told template_told params_told proof_told is_rules is_template becomes read is_proof accepts came =
    accepted-ends file data_tree lines e accepts
    (c.accepted_is_checked.ensures words told r t q p file tree data_tree params lines e asks rules_told template_told params_told proof_told is_rules is_template becomes read is_proof came)

pub returns-clause-only : goal.returns-clause-only
returns-clause-only c words told r t q p file tree data_tree params lines e asks rules_told template_told params_told proof_told is_rules is_template becomes read is_proof came =
    accepted-only file data_tree lines e
    (c.accepted_is_checked.ensures words told r t q p file tree data_tree params lines e asks rules_told template_told params_told proof_told is_rules is_template becomes read is_proof came)
