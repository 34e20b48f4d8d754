use Rattle.std.proofs.Common.{◌≡◌, ◌+◌, map, take}
use Rattle.doc_values.specs.Places.{kids_at}
use Rattle.rule_meaning.specs.Reached.{node_beside, numbers}
use Rattle.query_steps.proofs.reached.inside_node.Given as goal

abbrev pub invariant-loop-i : goal.invariant-loop-i
invariant-loop-i l = l.refs.items ≡ map (node_beside l.value) (take l.i (numbers (l.node.id + 1) (kids_at l.node.doc.now l.node.id)))
