use Rattle.std.proofs.lemmas.Grind.{common_steps}
use Rattle.std.proofs.Common.{sym, subst, length, arith}
use Rattle.std.proofs.lemmas.Result.{IfOk-weaker}
use Rattle.rule_names.specs.Graphs.{Graph, IsReverse}
use Rattle.reference_graph.proofs.Walks.{targets-below}
use Rattle.reference_graph.proofs.Reversals.{turned-more, turned-all}
use Rattle.reference_graph.proofs.reversal.reversed.Goals as goal

pub add_to_each-requires-clause-within : goal.add_to_each-requires-clause-within
add_to_each-requires-clause-within c =
    rw c.targets.ensures.targets (targets-below c.args.graph.now c.loop-node.node (length c.loop-node.back) c.targets.ensures.graph c.loop-node.invariant.same_nodes)

pub loop-node-preserved : goal.loop-node-preserved
loop-node-preserved c =
    turned-more c.args.graph.now c.loop-node.node c.loop-node.back c.add_to_each.new.back c.loop-node.invariant
    (rw c.targets.ensures.targets at c.in_ok-add_to_each.ensures)

pub returns : goal.returns
returns c =
    let turned =
    turned-all c.args.graph.now c.loop-node.node c.loop-node.back c.loop-node.invariant
    (let end = c.loop-node-test.false in omega (arith, c.count-node-end.ensures.count)) in
    IfOk-weaker c.build.result _ _ (λ back is. subst (λ (g : Graph). IsReverse c.args.graph.now g) (sym is) turned) c.build.ensures

pub loop-node-init : goal.loop-node-init
loop-node-init c = grind (arith, common_steps)
