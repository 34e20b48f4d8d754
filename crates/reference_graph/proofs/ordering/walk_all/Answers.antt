use Rattle.std.proofs.Common.{◌<◌, ap, subst, arith}
use borrow.Author.Count.{below_more}
use Rattle.rule_names.specs.code.Marks.{IsMarked}
use Rattle.reference_graph.specs.code.Ordering.{IsOnPath, nodes_on}
use Rattle.reference_graph.proofs.OnCycle.{settled-no-cycle, walk-ordered}
use Rattle.reference_graph.proofs.ordering.walk_all.Goals as goal

pub loop-root-preserved : goal.loop-root-preserved
loop-root-preserved c =
    let met = rw c.if-not-ended.false at c.in_ok-ended.ensures in
    record {
      walked = met.0;
      idle = met.1;
      begun = below_more (λ a. IsMarked c.visit.new.walk.begun.items a) c.loop-root.root (λ a l. met.2.kept a (c.loop-root.invariant.begun a l)) met.2.here;
    }

pub returns-then-not-ended : goal.returns-then-not-ended
returns-then-not-ended c =
    let met = rw c.if-not-ended.true at c.in_ok-ended.ensures in
    (met.0.same_nodes, settled-no-cycle c.args.graph.now c.visit.new.walk.done.items c.visit.new.walk.order.items met.0, met.1)

pub returns : goal.returns
returns c =
    let walk = c.loop-root.walk in
    let end = c.loop-root-test.false in
    let so = c.loop-root.invariant.walked in
    let path = subst (IsOnPath c.args.graph.now walk.begun.items walk.done.items) (ap nodes_on c.loop-root.invariant.idle) so.on_path in
    walk-ordered c.args.graph.now walk.begun.items walk.done.items walk.order.items so.settled path
    (λ a l. let below : a < c.loop-root.root = omega (arith, c.count-root-end.ensures.count) in c.loop-root.invariant.begun a below)
