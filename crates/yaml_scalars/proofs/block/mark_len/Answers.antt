use Rattle.std.proofs.Common.{arith}
use Rattle.std.proofs.lemmas.Grind.{common_steps}
use Rattle.yaml_scalars.proofs.block.mark_len.Goals as goal

pub returns-clause-count : goal.returns-clause-count
returns-clause-count c = grind (arith, common_steps)

pub returns-then-first-ne46-clause-count : goal.returns-then-first-ne46-clause-count
returns-then-first-ne46-clause-count c = grind (arith, common_steps)

pub returns-then-start-bytes-2-clause-count : goal.returns-then-start-bytes-2-clause-count
returns-then-start-bytes-2-clause-count c = grind (arith, common_steps)

pub returns-then-start-bytes-clause-count : goal.returns-then-start-bytes-clause-count
returns-then-start-bytes-clause-count c = grind (arith, common_steps)
