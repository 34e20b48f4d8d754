use Rattle.std.proofs.Common.{arith}
use Rattle.std.proofs.lemmas.Grind.{common_steps}
use Rattle.yaml_scalars.proofs.lines.ends_line.Goals as goal

pub returns-else-at-bytes-2-clause-is : goal.returns-else-at-bytes-2-clause-is
returns-else-at-bytes-2-clause-is c = grind (arith, common_steps)

pub returns-else-at-bytes-2-clause-more : goal.returns-else-at-bytes-2-clause-more
returns-else-at-bytes-2-clause-more c = grind (arith, common_steps)

pub returns-in-10-clause-is : goal.returns-in-10-clause-is
returns-in-10-clause-is c = grind (arith, common_steps)

pub returns-in-10-clause-over : goal.returns-in-10-clause-over
returns-in-10-clause-over c = grind (arith, common_steps)

pub returns-in_default-clause-is : goal.returns-in_default-clause-is
returns-in_default-clause-is c = grind (arith, common_steps)

pub returns-in_default-clause-more : goal.returns-in_default-clause-more
returns-in_default-clause-more c = grind (arith, common_steps)

pub returns-then-at-bytes-2-clause-is : goal.returns-then-at-bytes-2-clause-is
returns-then-at-bytes-2-clause-is c = grind (arith, common_steps)

pub returns-then-at-bytes-2-clause-more : goal.returns-then-at-bytes-2-clause-more
returns-then-at-bytes-2-clause-more c = grind (arith, common_steps)

pub returns-then-at-bytes-2-clause-over : goal.returns-then-at-bytes-2-clause-over
returns-then-at-bytes-2-clause-over c = grind (arith, common_steps)

pub returns-then-at-bytes-clause-is : goal.returns-then-at-bytes-clause-is
returns-then-at-bytes-clause-is c = grind (arith, common_steps)

pub returns-then-at-bytes-clause-over : goal.returns-then-at-bytes-clause-over
returns-then-at-bytes-clause-over c = grind (arith, common_steps)
