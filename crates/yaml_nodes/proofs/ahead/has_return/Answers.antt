use Rattle.std.proofs.Common.{arith}
use Rattle.std.proofs.lemmas.Grind.{common_steps}
use Rattle.yaml_nodes.proofs.ahead.has_return.Goals as goal

pub returns : goal.returns
returns c = grind (arith, common_steps)
