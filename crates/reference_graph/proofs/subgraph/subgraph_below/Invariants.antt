use Rattle.reference_graph.proofs.SubgraphNodes.{IsSubgraphOf}
use Rattle.reference_graph.proofs.subgraph.subgraph_below.Given as goal

abbrev pub invariant-loop-node : goal.invariant-loop-node
invariant-loop-node l = IsSubgraphOf l.graph l.bound l.node l.subgraph
