use Rattle.std.proofs.Common.{arith}
use Rattle.std.proofs.lemmas.Grind.{common_steps}
use Rattle.json_reader.proofs.step.text_step.Goals as goal

pub returns-in_ok-scalar-in-Ok : goal.returns-in_ok-scalar-in-Ok
returns-in_ok-scalar-in-Ok c = grind (arith, common_steps)

pub returns-in-Err : goal.returns-in-Err
returns-in-Err c = grind (arith, common_steps)
