use Rattle.std.proofs.Common.{arith}
use Rattle.std.proofs.lemmas.Grind.{common_steps}
use Rattle.json_reader.proofs.step.comma_step.Goals as goal

pub returns-in-Some-false-clause-leads : goal.returns-in-Some-false-clause-leads
returns-in-Some-false-clause-leads c = grind (arith, common_steps)

pub returns-in-Some-true-clause-leads : goal.returns-in-Some-true-clause-leads
returns-in-Some-true-clause-leads c = grind (arith, common_steps)
