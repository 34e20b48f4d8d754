use Rattle.std.proofs.Common.{arith}
use Rattle.std.proofs.lemmas.Grind.{common_steps}
use Rattle.json_reader.proofs.step.open_step.Goals as goal

pub returns-else-map-clause-leads : goal.returns-else-map-clause-leads
returns-else-map-clause-leads c = grind (arith, common_steps)

pub returns-then-map-clause-leads : goal.returns-then-map-clause-leads
returns-then-map-clause-leads c = grind (arith, common_steps)
