use Rattle.std.proofs.Common.{◌≡◌, ◌+◌, ◌<◌, ◌≤◌, ◌∙◌, ap, sym, arith, length, List, [], ℕ, get_or}
use Rattle.std.proofs.lemmas.List.{get_or_read}
use Rattle.rule_names.specs.Graphs.{Graph}
use Rattle.reference_graph.proofs.Layouts.{row-at, rows-length}
use Rattle.reference_graph.proofs.graph.Graph.targets.Goals as goal
use Rattle.reference_graph.proofs.graph.Graph.targets.Goals.{After-as_slice}

pub index-requires : goal.index-requires
index-requires c =
    let long = rows-length c.self.inside.starts.items c.self.inside.targets.items c.self.invariant.1.some in
    let same = ap (λ (g : Graph). length g) c.self.view_is in
    omega (arith, c.requires, c.self.inside.starts.ok.0, long, same)

pub index-requires-2 : goal.index-requires-2
index-requires-2 c =
    let long = rows-length c.self.inside.starts.items c.self.inside.targets.items c.self.invariant.1.some in
    let same = ap (λ (g : Graph). length g) c.self.view_is in
    omega (arith, c.requires, c.self.inside.starts.ok.0, long, same)

module _ (c : After-as_slice) where
  node-within : c.args.node + 1 < length c.self.inside.starts.items
  node-within =
      let long = rows-length c.self.inside.starts.items c.self.inside.targets.items c.self.invariant.1.some in
      let same = ap (λ (g : Graph). length g) c.self.view_is in
      omega (arith, c.requires, long, same)

  start : c.index.result.now ≡ get_or c.self.inside.starts.items c.args.node 0
  start = get_or_read c.self.inside.starts.items c.args.node c.index.result.now (omega (arith, node-within)) c.index.ensures 0

  end : c.index-2.result.now ≡ get_or c.self.inside.starts.items (c.args.node + 1) 0
  end = get_or_read c.self.inside.starts.items (c.args.node + 1) c.index-2.result.now node-within c.index-2.ensures 0

  rising : c.index.result.now ≤ c.index-2.result.now
  rising = omega (arith, start, end, c.self.invariant.1.rising c.args.node node-within)

  fits : c.index-2.result.now ≤ length c.self.inside.targets.items
  fits = omega (arith, end, c.self.invariant.1.within (c.args.node + 1) node-within)

pub slice_bounds-result-count : goal.slice_bounds-result-count
slice_bounds-result-count c = rising c

pub slice_bounds-result-start : goal.slice_bounds-result-start
slice_bounds-result-start c =
    let at = (goal.at.slice_bounds-result-start c).After-as_slice in
    let long = ap (λ (l : List ℕ). length l) c.as_slice.ensures.value in
    omega (arith, long, rising at, fits at)

pub slice_bounds-result-end : goal.slice_bounds-result-end
slice_bounds-result-end c =
    let at = (goal.at.slice_bounds-result-end c).After-as_slice in
    let long = ap (λ (l : List ℕ). length l) c.as_slice.ensures.value in
    omega (arith, long, rising at, fits at)

pub returns-clause-targets : goal.returns-clause-targets
returns-clause-targets c =
    let at = (goal.at.returns-clause-targets c).After-as_slice in
    rw (c.as_slice.ensures.value, start at, end at)
    (sym (row-at c.self.inside.starts.items c.self.inside.targets.items c.args.node (node-within at)) ∙ ap (λ (g : Graph). get_or g c.args.node []) c.self.view_is)
