use Rattle.std.proofs.Common.{arith}
use Rattle.std.proofs.lemmas.Grind.{common_steps}
use Rattle.yaml_nodes.proofs.place.byte_width.Goals as goal

pub returns-in-45-clause-is : goal.returns-in-45-clause-is
returns-in-45-clause-is c = grind (arith, common_steps)
