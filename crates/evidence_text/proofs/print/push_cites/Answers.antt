use Rattle.std.proofs.Common.{arith}
use Rattle.std.proofs.lemmas.Grind.{common_steps}
use Rattle.evidence_text.proofs.print.push_cites.Goals as goal

pub returns-in_ok-push-in-empty-clause-bounded : goal.returns-in_ok-push-in-empty-clause-bounded
returns-in_ok-push-in-empty-clause-bounded c = grind (arith, common_steps)

pub returns-in_ok-push_number-in-len1-up-clause-bounded : goal.returns-in_ok-push_number-in-len1-up-clause-bounded
returns-in_ok-push_number-in-len1-up-clause-bounded c = grind (arith, common_steps)

pub returns-in_ok-push_number-in-len1-up-clause-printed : goal.returns-in_ok-push_number-in-len1-up-clause-printed
returns-in_ok-push_number-in-len1-up-clause-printed c = grind (arith, common_steps)
