use Rattle.std.proofs.lemmas.Grind.{common_steps}
use Rattle.std.proofs.Common.{◌<◌, sym, subst, ℕ, get_or, take, length, arith}
use Rattle.std.proofs.lemmas.List.{take_more}
use Rattle.reference_graph.proofs.Reversals.{names-no-more, names-one-more}
use Rattle.reference_graph.proofs.reversal.add_to_each.Goals as goal

pub loop-target-init : goal.loop-target-init
loop-target-init c = names-no-more c.args.back.now c.args.node

pub add-requires-clause-from : goal.add-requires-clause-from
add-requires-clause-from c =
    subst (λ (n : ℕ). get_or c.args.targets.now c.loop-target.target-index 0 < n) (sym c.loop-target.invariant.same_nodes) (c.requires.within c.loop-target.target-index 0 c.loop-target-test.true)

pub add-requires-clause-to : goal.add-requires-clause-to
add-requires-clause-to c = subst (λ (n : ℕ). c.args.node < n) (sym c.loop-target.invariant.same_nodes) c.requires.node

pub loop-target-preserved : goal.loop-target-preserved
loop-target-preserved c =
    let targets = c.args.targets.now in
    let i = c.loop-target.target-index in
    let t = get_or targets i 0 in
    let within : t < length c.loop-target.back = subst (λ (n : ℕ). t < n) (sym c.loop-target.invariant.same_nodes) (c.requires.within i 0 c.loop-target-test.true) in
    rw (c.in_ok-add.ensures.added, take_more targets i 0 c.loop-target-test.true)
    (names-one-more c.args.back.now c.loop-target.back (take i targets) c.args.node t within c.loop-target.invariant)

pub returns : goal.returns
returns c = grind (arith, common_steps)
