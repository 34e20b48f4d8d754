use Rattle.std.proofs.Common.{arith}
use Rattle.std.proofs.lemmas.Grind.{common_steps}
use Rattle.yaml_scalars.proofs.lines.next_line.Goals as goal

pub loop-i-preserved : goal.loop-i-preserved
loop-i-preserved c = grind (arith, common_steps)

pub returns-then-bytes-i-eq10 : goal.returns-then-bytes-i-eq10
returns-then-bytes-i-eq10 c = grind (arith, common_steps)

pub returns : goal.returns
returns c = grind (arith, common_steps)
