use Rattle.std.proofs.Common.{arith}
use Rattle.std.proofs.lemmas.Grind.{common_steps}
use Rattle.json_reader.proofs.step.key_step.Goals as goal

pub returns-in-Err-key-clause-gives : goal.returns-in-Err-key-clause-gives
returns-in-Err-key-clause-gives c = grind (arith, common_steps)

pub returns-in-Err-key-clause-memory : goal.returns-in-Err-key-clause-memory
returns-in-Err-key-clause-memory c = grind (arith, common_steps)

pub returns-in-Ok-key-clause-gives : goal.returns-in-Ok-key-clause-gives
returns-in-Ok-key-clause-gives c = grind (arith, common_steps)

pub returns-in-Ok-key-clause-memory : goal.returns-in-Ok-key-clause-memory
returns-in-Ok-key-clause-memory c = grind (arith, common_steps)

pub returns-in-Err-clause-gives : goal.returns-in-Err-clause-gives
returns-in-Err-clause-gives c = grind (arith, common_steps)

pub returns-in-Err-clause-memory : goal.returns-in-Err-clause-memory
returns-in-Err-clause-memory c = grind (arith, common_steps)
