use Rattle.std.proofs.Common.{◌≤◌, ap, List, ℕ, length, arith, refl}
use Rattle.guard_syntax.specs.code.Seen.{see_file}
use Rattle.reference_cycles.proofs.CycleFaults.{used, first-use}
use Rattle.reference_graph.proofs.OnCycle.{reach-from}
use Rattle.reference_cycles.proofs.cycles.cycle_of.Goals as goal

pub first_part_use-requires-clause-node : goal.first_part_use-requires-clause-node
first_part_use-requires-clause-node c = reach-from c.args.graph.now c.args.node c.args.node c.requires.cycle

pub unreachable-requires : goal.unreachable-requires
unreachable-requires c =
    let f = see_file c.args.file.now in
    let g = c.args.graph.now in
    let count = length c.as_slice.result.now in
    let none = rw c.in_default.is at c.in_ok-site.ensures in
    let same = ap (λ (l : List ℕ). length l) c.as_slice.ensures in
    let from = c.requires.node.0 in
    let low = c.requires.low in
    let name : count ≤ c.args.node = omega arith in
    let there = used f g c.requires.graph count c.args.node c.requires.sites same name c.requires.cycle in
    none there.0 there.1 there.2

pub returns : goal.returns
returns c =
    let f = see_file c.args.file.now in
    let g = c.args.graph.now in
    let count = length c.as_slice.result.now in
    let least = rw c.in-Some.is at c.in_ok-site.ensures in
    let same = ap (λ (l : List ℕ). length l) c.as_slice.ensures in
    (c.in-Some.site, first-use f g c.requires.graph count c.args.node c.in-Some.site same least, rw (c.text_at.ensures, c.place_of_use.ensures) refl)
