use Rattle.std.proofs.lemmas.Grind.{common_steps}
use Rattle.std.proofs.Common.{◌∙◌, sym, arith}
use Rattle.yaml_scalars.proofs.BlockLines.{comment_on}
use Rattle.yaml_scalars.proofs.header.header_fault.Goals as goal

pub returns-in-35-clause-is : goal.returns-in-35-clause-is
returns-in-35-clause-is c = c.return_behind.ensures.is ∙ sym (c.loop-i.invariant.1 ∙ comment_on c.loop-i.i _ _ _ c.loop-i.white (c.ends_line.ensures.more c.if-ends_line.false).1 c.if-white.true c.in-35.is)

pub returns-clause-is : goal.returns-clause-is
returns-clause-is c = grind (arith, common_steps)

pub returns-in_default-2-clause-is : goal.returns-in_default-2-clause-is
returns-in_default-2-clause-is c = grind (arith, common_steps)
