use Rattle.std.proofs.Common.{◌≡◌, drop}
use Rattle.rule_names.specs.ReferenceGraph.{with_edges}
use Rattle.reference_cycles.proofs.edges.add_edges.Given as goal

abbrev pub invariant-loop-edge : goal.invariant-loop-edge
invariant-loop-edge l = with_edges l.graph (drop l.edge-index l.edges) ≡ with_edges l.initial.graph l.edges
