use Rattle.std.proofs.Common.{refl, List, map, ◌∙◌}
use Rattle.guard_syntax.specs.code.Seen.{see_part, part_list}
use Rattle.guard_syntax.specs.declared.syntax.Part.{Part}
use Rattle.rule_names.specs.ReferenceGraph.{part_site, part_sites}
use Rattle.reference_cycles.proofs.LeadsInTurn.{next, end, part-begins}
use Rattle.reference_cycles.proofs.edges.leads.to_parts.Goals as goal

pub loop-part-preserved : goal.loop-part-preserved
loop-part-preserved c =
    next c.args.from (λ (xs : List Part). part_sites (part_list (map see_part xs))) (λ (y : Part). part_site (see_part y)) (λ y ys. refl) c.args.parts.now c.loop-part.part-index c.part-item.result
    _ _ c.loop-part.edges.items c.push.new.self.items c.loop-part-test.true c.part-item.is (c.site.ensures ∙ part-begins (see_part c.part-item.result)) c.in_ok-push.ensures.items c.loop-part.invariant

pub returns : goal.returns
returns c = end c.args.from (λ (xs : List Part). part_sites (part_list (map see_part xs))) refl c.args.parts.now c.loop-part.part-index _ c.loop-part.edges.items c.loop-part-test.false c.loop-part.invariant
