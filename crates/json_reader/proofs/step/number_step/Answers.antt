use Rattle.std.proofs.Common.{arith}
use Rattle.std.proofs.lemmas.Grind.{common_steps}
use Rattle.json_reader.proofs.step.number_step.Goals as goal

pub returns-in_ok-scalar-in-Ok-clause-gives : goal.returns-in_ok-scalar-in-Ok-clause-gives
returns-in_ok-scalar-in-Ok-clause-gives c = grind (arith, common_steps)
