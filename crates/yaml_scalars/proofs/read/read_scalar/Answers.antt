use Rattle.std.proofs.Common.{arith}
use Rattle.std.proofs.lemmas.Grind.{common_steps}
use Rattle.yaml_scalars.proofs.read.read_scalar.Goals as goal

pub read_block-requires-clause-indicator : goal.read_block-requires-clause-indicator
read_block-requires-clause-indicator c = grind (arith, common_steps)

pub returns-clause-answer : goal.returns-clause-answer
returns-clause-answer c = grind (arith, common_steps)

pub returns-then-begins_block-clause-answer : goal.returns-then-begins_block-clause-answer
returns-then-begins_block-clause-answer c = grind (arith, common_steps)
