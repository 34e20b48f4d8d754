use Rattle.std.proofs.Common.{arith}
use Rattle.std.proofs.lemmas.Grind.{common_steps}
use Rattle.yaml_scalars.proofs.read.begins_block.Goals as goal

pub returns-in-124-clause-is : goal.returns-in-124-clause-is
returns-in-124-clause-is c = grind (arith, common_steps)

pub returns-in_default-clause-is : goal.returns-in_default-clause-is
returns-in_default-clause-is c = grind (arith, common_steps)
