use Rattle.std.proofs.lemmas.Grind.{common_steps}
use Rattle.std.proofs.Common.{◌<◌, sym, subst, ℕ, get_or, take, length, arith}
use Rattle.std.proofs.lemmas.List.{take_more}
use Rattle.reference_graph.proofs.SubgraphNodes.{below-none, below-skip, below-add}
use Rattle.reference_graph.proofs.subgraph.add_below.Goals as goal

pub loop-target-init : goal.loop-target-init
loop-target-init c = below-none c.args.subgraph.now c.args.node c.args.bound

pub add-requires-clause-from : goal.add-requires-clause-from
add-requires-clause-from c = subst (λ (n : ℕ). c.args.node < n) (sym c.loop-target.invariant.same_nodes) c.requires.node

pub add-requires-clause-to : goal.add-requires-clause-to
add-requires-clause-to c =
    subst (λ (n : ℕ). get_or c.args.targets.now c.loop-target.target-index 0 < n) (sym c.loop-target.invariant.same_nodes) (c.requires.within c.loop-target.target-index 0 c.loop-target-test.true)

pub loop-target-preserved-then-target-bound : goal.loop-target-preserved-then-target-bound
loop-target-preserved-then-target-bound c =
    let targets = c.args.targets.now in
    let i = c.loop-target.target-index in
    rw (take_more targets i 0 c.loop-target-test.true)
    (below-skip c.args.subgraph.now c.loop-target.subgraph c.args.node (take i targets) c.args.bound (get_or targets i 0) c.loop-target.invariant c.if-target-bound.true)

pub loop-target-preserved : goal.loop-target-preserved
loop-target-preserved c =
    let targets = c.args.targets.now in
    let i = c.loop-target.target-index in
    let within : c.args.node < length c.loop-target.subgraph = subst (λ (n : ℕ). c.args.node < n) (sym c.loop-target.invariant.same_nodes) c.requires.node in
    rw (c.in_ok-add.ensures.added, take_more targets i 0 c.loop-target-test.true)
    (below-add c.args.subgraph.now c.loop-target.subgraph c.args.node (take i targets) c.args.bound (get_or targets i 0) c.loop-target.invariant c.if-target-bound.false within)

pub returns : goal.returns
returns c = grind (arith, common_steps)
