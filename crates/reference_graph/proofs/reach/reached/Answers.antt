use Rattle.std.proofs.lemmas.Grind.{common_steps}
use Rattle.std.proofs.Common.{◌∙◌, ap, false, List, Bool, length, arith}
use Rattle.std.proofs.lemmas.List.{length-replicate, nil_from_length}
use Rattle.reference_graph.proofs.Walks.{targets-within, waiting-within, walk-start, walk-next, walk-end}
use Rattle.reference_graph.proofs.reach.reached.Goals as goal

pub mark-requires-clause-within : goal.mark-requires-clause-within
mark-requires-clause-within c =
    rw c.targets.ensures.targets
    (targets-within c.args.graph.now c.args.from c.in_ok-marks.marks.items c.targets.ensures.graph
    (ap (λ (l : List Bool). length l) c.in_ok-marks.ensures ∙ length-replicate (length c.args.graph.now) false))

pub loop-node-init : goal.loop-node-init
loop-node-init c =
    walk-start c.args.graph.now c.args.from c.mark.new.marks.items c.mark.new.pending.items
    (rw (c.targets.ensures.targets, c.in_ok-marks.ensures, c.new-pending.ensures.items) at c.in_ok-mark.ensures.marks)

pub mark-requires-in-Some-clause-within : goal.mark-requires-in-Some-clause-within
mark-requires-in-Some-clause-within c =
    rw c.targets-in-Some.ensures.targets
    (targets-within c.args.graph.now c.in-Some.node c.loop-node.marks.items c.targets.ensures.graph c.loop-node.invariant.same_nodes)

pub mark-requires-in-Some-clause-marked : goal.mark-requires-in-Some-clause-marked
mark-requires-in-Some-clause-marked c =
    (waiting-within c.args.graph.now c.loop-node.marks.items c.loop-node.pending.items c.pop.new.self.items c.in-Some.node c.loop-node.invariant.same_nodes c.loop-node.invariant.waiting c.in-Some.ensures.items).1

pub loop-node-preserved : goal.loop-node-preserved
loop-node-preserved c =
    walk-next c.args.graph.now c.args.from c.loop-node.marks.items c.loop-node.pending.items c.pop.new.self.items c.in-Some.node
    c.mark-in-Some.new.marks.items c.mark-in-Some.new.pending.items c.loop-node.invariant c.in-Some.ensures.items
    (rw c.targets-in-Some.ensures.targets at c.in_ok-mark-2.ensures.marks)

pub returns-clause-reached : goal.returns-clause-reached
returns-clause-reached c =
    walk-end c.args.graph.now c.args.from c.loop-node.marks.items c.loop-node.pending.items c.loop-node.invariant
    (nil_from_length c.loop-node.pending.items (let none = c.in_default.ensures.cases in omega (arith, c.loop-node.pending.ok.0)))

pub targets-requires-in-Some : goal.targets-requires-in-Some
targets-requires-in-Some c = grind (arith, common_steps)
