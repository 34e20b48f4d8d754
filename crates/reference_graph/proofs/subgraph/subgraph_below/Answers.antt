use Rattle.std.proofs.lemmas.Grind.{common_steps}
use Rattle.std.proofs.Common.{sym, subst, length, arith}
use Rattle.std.proofs.lemmas.Result.{IfOk-weaker}
use Rattle.rule_names.specs.Graphs.{Graph}
use Rattle.reference_graph.specs.code.Subgraphs.{IsSubgraph}
use Rattle.reference_graph.proofs.Walks.{targets-below}
use Rattle.reference_graph.proofs.SubgraphNodes.{subgraph_below-more, subgraph_below-all}
use Rattle.reference_graph.proofs.subgraph.subgraph_below.Goals as goal

pub add_below-requires-clause-within : goal.add_below-requires-clause-within
add_below-requires-clause-within c =
    rw c.targets.ensures.targets (targets-below c.args.graph.now c.loop-node.node (length c.loop-node.subgraph) c.targets.ensures.graph c.loop-node.invariant.same_nodes)

pub loop-node-preserved : goal.loop-node-preserved
loop-node-preserved c =
    subgraph_below-more c.args.graph.now c.args.bound c.loop-node.node c.loop-node.subgraph c.add_below.new.subgraph c.loop-node.invariant
    (rw c.targets.ensures.targets at c.in_ok-add_below.ensures)

pub returns : goal.returns
returns c =
    let all =
    subgraph_below-all c.args.graph.now c.args.bound c.loop-node.node c.loop-node.subgraph c.loop-node.invariant
    (let end = c.loop-node-test.false in omega (arith, c.count-node-end.ensures.count)) in
    IfOk-weaker c.build.result _ _ (λ subgraph is. subst (λ (g : Graph). IsSubgraph c.args.graph.now c.args.bound g) (sym is) all) c.build.ensures

pub loop-node-init : goal.loop-node-init
loop-node-init c = grind (arith, common_steps)
