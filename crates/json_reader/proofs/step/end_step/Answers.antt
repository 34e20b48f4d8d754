use Rattle.std.proofs.Common.{arith}
use Rattle.std.proofs.lemmas.Grind.{common_steps}
use Rattle.json_reader.proofs.step.end_step.Goals as goal

pub returns-in_ok-end-in-Some-clause-leads : goal.returns-in_ok-end-in-Some-clause-leads
returns-in_ok-end-in-Some-clause-leads c = grind (arith, common_steps)

pub returns-then-form-map-clause-leads : goal.returns-then-form-map-clause-leads
returns-then-form-map-clause-leads c = grind (arith, common_steps)
