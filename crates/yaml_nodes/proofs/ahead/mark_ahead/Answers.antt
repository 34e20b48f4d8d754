use Rattle.std.proofs.Common.{arith}
use Rattle.std.proofs.lemmas.Grind.{common_steps}
use Rattle.yaml_nodes.proofs.ahead.mark_ahead.Goals as goal

pub returns : goal.returns
returns c = grind (arith, common_steps)

pub returns-then-bytes-start-eq45 : goal.returns-then-bytes-start-eq45
returns-then-bytes-start-eq45 c = grind (arith, common_steps)
