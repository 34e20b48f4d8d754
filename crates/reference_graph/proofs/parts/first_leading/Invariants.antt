use Rattle.std.proofs.Common.{get_or, []}
use Rattle.rule_names.specs.code.Marks.{IsMarked}
use Rattle.reference_graph.specs.code.Subgraphs.{Leads, NoneBelow}
use Rattle.reference_graph.proofs.parts.first_leading.Given as goal

abbrev pub invariant-loop-part : goal.invariant-loop-part
invariant-loop-part l = NoneBelow (λ part. IsMarked l.inside part × Leads l.users l.count l.node (get_or l.graph part [])) l.part
