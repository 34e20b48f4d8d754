use Rattle.std.proofs.Common.{◌≡◌, ◌<◌, ◌∙◌, ◌++◌, ◌∷◌, [], ap, sym, subst, ℕ, List, length, set, get_or, arith, replicate}
use Rattle.std.proofs.lemmas.List.Elements.{All-push}
use Rattle.rule_names.specs.Graphs.{Graph}
use Rattle.rule_names.specs.ReferenceGraph.{Edge, with_edges}
use Rattle.reference_graph.specs.code.Layout.{AreWithin}
use Rattle.reference_graph.proofs.EdgeGraphs.{built-length, built-push}
use Rattle.reference_graph.proofs.builder.GraphBuilder.add.Goals as goal
use Rattle.reference_graph.proofs.builder.GraphBuilder.add.Goals.{In_ok-push}

module _ (c : In_ok-push) where
  abbrev edge : Edge
  edge = (c.args.from, c.args.to)

  below : (node : ℕ) → node < length c.args.self.now → node < c.self.inside.count
  below node l =
      let same = ap (λ (g : Graph). length g) c.self.view_is in
      let long = built-length c.self.inside.count c.self.inside.edges.items c.self.invariant.within in
      omega (arith, l, same, long)

  within : AreWithin c.self.inside.count c.push.new.self.items
  within =
      subst (AreWithin c.self.inside.count) (sym c.in_ok-push.ensures.items)
      (All-push (λ (e : Edge). (e.0 < c.self.inside.count) × (e.1 < c.self.inside.count)) c.self.inside.edges.items edge c.self.invariant.within
      (below c.args.from c.requires.from, below c.args.to c.requires.to))

  pushed : with_edges (replicate c.self.inside.count []) c.push.new.self.items ≡ set c.args.self.now c.args.from (get_or c.args.self.now c.args.from [] ++ c.args.to ∷ [])
  pushed =
      ap (λ (edges : List Edge). with_edges (replicate c.self.inside.count []) edges) c.in_ok-push.ensures.items
      ∙ built-push c.self.inside.count c.self.inside.edges.items edge c.self.invariant.within (below c.args.from c.requires.from) (below c.args.to c.requires.to)
      ∙ ap (λ (g : Graph). set g c.args.from (get_or g c.args.from [] ++ c.args.to ∷ [])) c.self.view_is

pub invariant_of-self-2 : goal.invariant_of-self-2
invariant_of-self-2 c = record { few = c.self.invariant.few; within = within (goal.at.invariant_of-self-2 c).In_ok-push }

pub returns-clause-added : goal.returns-clause-added
returns-clause-added c = pushed (goal.at.returns-clause-added c).In_ok-push
