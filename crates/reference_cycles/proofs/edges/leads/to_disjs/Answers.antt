use Rattle.std.proofs.Common.{refl, List, map, ap, sym}
use Rattle.guard_syntax.specs.code.Seen.{see_disj, disj_list}
use Rattle.guard_syntax.specs.declared.syntax.Disj.{Disj}
use Rattle.rule_names.specs.ReferenceGraph.{disj_site, disj_sites}
use Rattle.rule_names.proofs.Shapes.{disj-seen}
use Rattle.reference_cycles.proofs.LeadsInTurn.{next, end}
use Rattle.reference_cycles.proofs.edges.leads.to_disjs.Goals as goal

pub loop-disj-preserved : goal.loop-disj-preserved
loop-disj-preserved c =
    next c.args.from (λ (xs : List Disj). disj_sites (disj_list (map see_disj xs))) (λ (y : Disj). disj_site (see_disj y)) (λ y ys. refl) c.args.disjs.now c.loop-disj.disj-index c.disj-item.result
    _ _ c.loop-disj.edges.items c.push.new.self.items c.loop-disj-test.true c.disj-item.is (ap disj_site (sym (disj-seen c.disj-item.result))) c.in_ok-push.ensures.items c.loop-disj.invariant

pub returns : goal.returns
returns c = end c.args.from (λ (xs : List Disj). disj_sites (disj_list (map see_disj xs))) refl c.args.disjs.now c.loop-disj.disj-index _ c.loop-disj.edges.items c.loop-disj-test.false c.loop-disj.invariant
