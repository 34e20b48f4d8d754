use Rattle.std.proofs.Common.{arith}
use Rattle.std.proofs.lemmas.Grind.{common_steps}
use Rattle.yaml_nodes.proofs.ahead.block_token.Goals as goal

pub returns-in-45-clause-within : goal.returns-in-45-clause-within
returns-in-45-clause-within c = grind (arith, common_steps)

pub returns-in-58-clause-within : goal.returns-in-58-clause-within
returns-in-58-clause-within c = grind (arith, common_steps)
