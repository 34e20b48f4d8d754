use Rattle.std.proofs.Common.{arith}
use Rattle.std.proofs.lemmas.Grind.{common_steps}
use Rattle.evidence_text.proofs.print.push_origin.Goals as goal

pub returns-in_ok-push-in-Literal-clause-bounded : goal.returns-in_ok-push-in-Literal-clause-bounded
returns-in_ok-push-in-Literal-clause-bounded c = grind (arith, common_steps)

pub returns-in_ok-push-in-Literal-clause-printed : goal.returns-in_ok-push-in-Literal-clause-printed
returns-in_ok-push-in-Literal-clause-printed c = grind (arith, common_steps)

pub returns-in_ok-push_part-in-Made-clause-bounded : goal.returns-in_ok-push_part-in-Made-clause-bounded
returns-in_ok-push_part-in-Made-clause-bounded c = grind (arith, common_steps)

pub returns-in_ok-push_part-in-Made-clause-printed : goal.returns-in_ok-push_part-in-Made-clause-printed
returns-in_ok-push_part-in-Made-clause-printed c = grind (arith, common_steps)
