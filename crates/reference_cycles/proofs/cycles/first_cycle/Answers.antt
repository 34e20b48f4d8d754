use Rattle.std.proofs.Common.{◌≡◌, ◌*◌, ◌/◌, inl, inr, arith, length}
use Rattle.guard_syntax.specs.code.Seen.{see_file}
use Rattle.rule_names.specs.ReferenceGraph.{graph_of}
use Rattle.name_scopes.specs.code.Seen.{see_wrong}
use Rattle.rule_names.specs.declared.name_kind.NameKind.TheVariants.{RecursiveRule, RecursiveVariable}
use Rattle.reference_cycles.proofs.CycleFaults.{graph-size, none-on, fault-of, none-in-halves}
use Rattle.reference_cycles.proofs.cycles.first_cycle.Goals as goal
use Rattle.reference_cycles.proofs.cycles.first_cycle.Goals.{After-count-count}

-- a third of the nodes are parts
third : (c : After-count-count) → c.count-count.result / 3 ≡ length c.args.file.now.places
third c = let size = graph-size (see_file c.args.file.now) c.args.graph.now c.requires.graph in omega (arith, c.count-count.ensures.count)

pub cycle_of-requires-clause-low : goal.cycle_of-requires-clause-low
cycle_of-requires-clause-low c = let e = third (goal.at.cycle_of-requires-clause-low c).After-count-count in omega arith

pub cycle_of-requires-clause-node : goal.cycle_of-requires-clause-node
cycle_of-requires-clause-node c =
    let e = third (goal.at.cycle_of-requires-clause-node c).After-count-count in
    let first = rw c.in-Some.is at c.in_ok-node.ensures in
    let from = first.from_low in
    let below = first.below_high in
    (omega arith, omega arith)

pub returns-in-Some : goal.returns-in-Some
returns-in-Some c =
    let f = see_file c.args.file.now in
    let n = length c.args.file.now.places in
    let count = c.count-count.result / 3 in
    let e = third (goal.at.returns-in-Some c).After-count-count in
    inl (fault-of f c.args.graph.now c.requires.graph RecursiveRule count (2 * count) n c.in-Some.node (see_wrong c.in_ok-cycle_of.field-0) e (omega arith) (rw c.in-Some.is at c.in_ok-node.ensures) c.in_ok-cycle_of.ensures)

pub cycle_of-requires-in-Some-2-clause-low : goal.cycle_of-requires-in-Some-2-clause-low
cycle_of-requires-in-Some-2-clause-low c = let e = third (goal.at.cycle_of-requires-in-Some-2-clause-low c).After-count-count in omega arith

pub cycle_of-requires-in-Some-2-clause-node : goal.cycle_of-requires-in-Some-2-clause-node
cycle_of-requires-in-Some-2-clause-node c =
    let e = third (goal.at.cycle_of-requires-in-Some-2-clause-node c).After-count-count in
    let first = rw c.in-Some-2.is at c.in_ok-node-2.ensures in
    let from = first.from_low in
    let below = first.below_high in
    (omega arith, omega arith)

pub returns-in-Some-2 : goal.returns-in-Some-2
returns-in-Some-2 c =
    let f = see_file c.args.file.now in
    let g = c.args.graph.now in
    let n = length c.args.file.now.places in
    let count = c.count-count.result / 3 in
    let e = third (goal.at.returns-in-Some-2 c).After-count-count in
    inr (
      none-on f g c.requires.graph count (2 * count) n (2 * n) e (omega arith) (rw c.in_default.is at c.in_ok-node.ensures),
      fault-of f g c.requires.graph RecursiveVariable (2 * count) (3 * count) (2 * n) c.in-Some-2.node (see_wrong c.in_ok-cycle_of-2.field-0) (omega arith) (omega arith) (rw c.in-Some-2.is at c.in_ok-node-2.ensures) c.in_ok-cycle_of-2.ensures,
    )

pub returns : goal.returns
returns c =
    let f = see_file c.args.file.now in
    let g = c.args.graph.now in
    let n = length c.args.file.now.places in
    let count = c.count-count.result / 3 in
    let e = third (goal.at.returns c).After-count-count in
    none-in-halves (graph_of f) n (none-on f g c.requires.graph count (2 * count) n (2 * n) e (omega arith) (rw c.in_default.is at c.in_ok-node.ensures))
    (none-on f g c.requires.graph (2 * count) (3 * count) (2 * n) (3 * n) (omega arith) (omega arith) (rw c.in_default-2.is at c.in_ok-node-2.ensures))
