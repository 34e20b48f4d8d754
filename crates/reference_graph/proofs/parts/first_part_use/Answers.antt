use Rattle.std.proofs.lemmas.Grind.{common_steps}
use Rattle.std.proofs.Common.{get_or, [], arith}
use Rattle.rule_names.specs.code.Marks.{IsMarked}
use Rattle.reference_graph.specs.code.Subgraphs.{IsPartUse, Leads}
use Rattle.reference_graph.proofs.PartUses.{least-same, marked-use, use-is-marked}
use Rattle.reference_graph.proofs.parts.first_part_use.Goals as goal

pub returns : goal.returns
returns c =
    let g = c.args.graph.now in
    let subgraph = c.in_ok-subgraph.subgraph in
    let back = c.in_ok-back.back in
    let count = c.args.count in
    let node = c.args.node in
    let inside = c.in_ok-inside.inside.items in
    let users = c.in_ok-users.users.items in
    least-same (λ part. IsMarked inside part × Leads users count node (get_or g part [])) (λ part. IsPartUse count g node part)
    (marked-use g subgraph back count node inside users c.in_ok-subgraph.ensures c.in_ok-back.ensures c.in_ok-inside.ensures.reached c.in_ok-users.ensures.reached)
    (use-is-marked g subgraph back count node inside users c.in_ok-subgraph.ensures c.in_ok-back.ensures c.in_ok-inside.ensures.reached c.in_ok-users.ensures.reached)
    count c.first_leading.result (rw (c.as_slice.ensures.value, c.as_slice-2.ensures.value) at c.first_leading.ensures)

pub first_leading-requires-clause-inside : goal.first_leading-requires-clause-inside
first_leading-requires-clause-inside c = grind (arith, common_steps)
