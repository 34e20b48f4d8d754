use Rattle.std.proofs.Common.{arith}
use Rattle.std.proofs.lemmas.Grind.{common_steps}
use Rattle.yaml_grammar.proofs.Refusals.{deep_of}
use Rattle.yaml_nodes.proofs.node.take_pair.Goals as goal

pub returns-in-Err : goal.returns-in-Err
returns-in-Err c = deep_of c.args.builder.now c.args.place c.offset.result c.in-Err.refused c.from.result c.from.ensures c.offset.ensures c.in-Err.ensures.refused

pub returns-in-Err-end : goal.returns-in-Err-end
returns-in-Err-end c = grind (arith, common_steps)

pub returns-in-Err-scalar-2 : goal.returns-in-Err-scalar-2
returns-in-Err-scalar-2 c = grind (arith, common_steps)

pub returns-in-Ok-end : goal.returns-in-Ok-end
returns-in-Ok-end c = grind (arith, common_steps)

pub scalar-requires-2-clause-awaited : goal.scalar-requires-2-clause-awaited
scalar-requires-2-clause-awaited c = grind (arith, common_steps)
