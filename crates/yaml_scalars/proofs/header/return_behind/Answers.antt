use Rattle.std.proofs.lemmas.Grind.{common_steps}
use Rattle.std.proofs.Common.{arith, ◌∙◌}
use Rattle.yaml_scalars.proofs.BlockLines.{return_on}
use Rattle.yaml_scalars.proofs.header.return_behind.Goals as goal

pub loop-i-preserved : goal.loop-i-preserved
loop-i-preserved c = (omega (arith, c.loop-i.invariant.0), c.loop-i.invariant.1 ∙ return_on c.loop-i.i _ _ _ (c.ends_line.ensures.more c.if-ends_line.false).1 c.if-bytes-i-eq13.false)

pub returns-clause-is : goal.returns-clause-is
returns-clause-is c = grind (arith, common_steps)
