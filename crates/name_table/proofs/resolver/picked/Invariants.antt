use Rattle.std.proofs.Common.{take}
use Rattle.name_table.specs.code.Picked.{ArePicked}
use Rattle.name_table.proofs.resolver.picked.Given as goal

abbrev pub invariant-loop-node : goal.invariant-loop-node
invariant-loop-node l = ArePicked l.count l.marks (take l.node-index l.nodes) l.sites.items
