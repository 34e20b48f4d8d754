use Rattle.std.proofs.Common.{take}
use Rattle.reference_graph.specs.code.Subgraphs.{NamesBelow}
use Rattle.reference_graph.proofs.subgraph.add_below.Given as goal

abbrev pub invariant-loop-target : goal.invariant-loop-target
invariant-loop-target l = NamesBelow l.initial.subgraph l.node (take l.target-index l.targets) l.bound l.subgraph
