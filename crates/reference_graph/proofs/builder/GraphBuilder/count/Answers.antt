use Rattle.std.proofs.Common.{◌∙◌, ap, sym, List, ℕ, length}
use Rattle.reference_graph.proofs.EdgeGraphs.{built-length}
use Rattle.reference_graph.proofs.builder.GraphBuilder.count.Goals as goal

pub returns : goal.returns
returns c = sym (built-length c.self.inside.count c.self.inside.edges.items c.self.invariant.within) ∙ ap (λ (g : List (List ℕ)). length g) c.self.view_is
