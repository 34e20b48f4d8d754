use Rattle.std.proofs.Common.{arith}
use Rattle.std.proofs.lemmas.Grind.{common_steps}
use Rattle.yaml_scalars.proofs.plain_line.begins_with.Goals as goal

pub returns-else-at-bytes-clause-is : goal.returns-else-at-bytes-clause-is
returns-else-at-bytes-clause-is c = grind (arith, common_steps)

pub returns-then-at-bytes-clause-is : goal.returns-then-at-bytes-clause-is
returns-then-at-bytes-clause-is c = grind (arith, common_steps)
