use Rattle.std.proofs.Common.{arith}
use Rattle.std.proofs.lemmas.Grind.{common_steps}
use Rattle.yaml_nodes.proofs.place.has_break.Goals as goal

pub returns : goal.returns
returns c = grind (arith, common_steps)

pub returns-then-bytes-i-eq10 : goal.returns-then-bytes-i-eq10
returns-then-bytes-i-eq10 c = grind (arith, common_steps)

pub loop-i-preserved : goal.loop-i-preserved
loop-i-preserved c = grind (arith, common_steps)
