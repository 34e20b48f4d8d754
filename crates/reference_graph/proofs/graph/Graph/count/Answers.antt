use Rattle.std.proofs.Common.{ap, arith, length}
use Rattle.rule_names.specs.Graphs.{Graph}
use Rattle.reference_graph.proofs.Layouts.{rows-length}
use Rattle.reference_graph.proofs.graph.Graph.count.Goals as goal

pub overflow_cast-result : goal.overflow_cast-result
overflow_cast-result c =
    let long = rows-length c.self.inside.starts.items c.self.inside.targets.items c.self.invariant.1.some in
    let few = c.self.invariant.0.few in
    omega (arith, c.len.ensures, c.self.inside.starts.ok.0, long, few)

pub returns-clause-count : goal.returns-clause-count
returns-clause-count c =
    let long = rows-length c.self.inside.starts.items c.self.inside.targets.items c.self.invariant.1.some in
    let same = ap (λ (g : Graph). length g) c.self.view_is in
    omega (arith, c.len.ensures, c.self.inside.starts.ok.0, long, same)
