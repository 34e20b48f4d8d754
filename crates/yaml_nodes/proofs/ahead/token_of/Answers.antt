use Rattle.std.proofs.Common.{arith}
use Rattle.std.proofs.lemmas.Grind.{common_steps}
use Rattle.yaml_nodes.proofs.ahead.token_of.Goals as goal

pub block_token-requires : goal.block_token-requires
block_token-requires c = grind (arith, common_steps)

pub returns-in-123-clause-within : goal.returns-in-123-clause-within
returns-in-123-clause-within c = grind (arith, common_steps)

pub returns-in-125-clause-within : goal.returns-in-125-clause-within
returns-in-125-clause-within c = grind (arith, common_steps)

pub returns-in-33-clause-within : goal.returns-in-33-clause-within
returns-in-33-clause-within c = grind (arith, common_steps)

pub returns-in-44-clause-within : goal.returns-in-44-clause-within
returns-in-44-clause-within c = grind (arith, common_steps)

pub returns-in-58-clause-within : goal.returns-in-58-clause-within
returns-in-58-clause-within c = grind (arith, common_steps)

pub returns-in-91-clause-within : goal.returns-in-91-clause-within
returns-in-91-clause-within c = grind (arith, common_steps)

pub returns-in-93-clause-within : goal.returns-in-93-clause-within
returns-in-93-clause-within c = grind (arith, common_steps)

pub returns-in_default-2-clause-within : goal.returns-in_default-2-clause-within
returns-in_default-2-clause-within c = grind (arith, common_steps)

pub returns-in_default-clause-within : goal.returns-in_default-clause-within
returns-in_default-clause-within c = grind (arith, common_steps)

pub returns-then-ends_line-clause-within : goal.returns-then-ends_line-clause-within
returns-then-ends_line-clause-within c = grind (arith, common_steps)
