use Rattle.std.proofs.Common.{◌≡◌, ◌∙◌, subst, sym, List, replicate, []}
use Rattle.rule_names.specs.Graphs.{IsGraph}
use Rattle.rule_names.specs.ReferenceGraph.{Edge, with_edges}
use Rattle.reference_graph.specs.code.Layout.{IsFilled, rows_of}
use Rattle.reference_graph.proofs.EdgeGraphs.{built-rows, built-graph}
use Rattle.reference_graph.proofs.Layouts.{filled-laid-out}
use Rattle.reference_graph.proofs.builder.GraphBuilder.build.Goals as goal
use Rattle.reference_graph.proofs.builder.GraphBuilder.build.Goals.{In_ok-targets}

module _ (c : In_ok-targets) where
  filled : IsFilled c.self.inside.count c.self.inside.edges.items c.self.inside.edges.items c.lay_out.new.ends.items c.in_ok-targets.targets.items
  filled =
      subst (λ (edges : List Edge). IsFilled c.self.inside.count edges edges c.lay_out.new.ends.items c.in_ok-targets.targets.items) c.deref-2.ensures.value c.in_ok-targets.ensures

  rows : rows_of c.lay_out.new.ends.items c.in_ok-targets.targets.items ≡ with_edges (replicate c.self.inside.count []) c.self.inside.edges.items
  rows = built-rows c.self.inside.count c.self.inside.edges.items c.lay_out.new.ends.items c.in_ok-targets.targets.items c.self.invariant.within filled

pub invariant_of-result : goal.invariant_of-result
invariant_of-result c = (
  subst IsGraph (sym (rows c)) (built-graph c.self.inside.count c.self.inside.edges.items c.self.invariant.few c.self.invariant.within),
  filled-laid-out c.self.inside.count c.self.inside.edges.items c.lay_out.new.ends.items c.in_ok-targets.targets.items (filled c),
)

pub returns : goal.returns
returns c = rows c ∙ c.self.view_is
