use Rattle.std.proofs.Common.{refl, List, map, ◌∙◌, ap, sym}
use Rattle.guard_syntax.specs.code.Seen.{see_let, see_expr, let_list}
use Rattle.guard_syntax.specs.declared.syntax.Let.{Let}
use Rattle.rule_names.specs.ReferenceGraph.{value_site, value_sites}
use Rattle.rule_names.proofs.Shapes.{let-seen}
use Rattle.reference_cycles.proofs.LeadsInTurn.{next, end, expr-begins}
use Rattle.reference_cycles.proofs.edges.leads.to_values.Goals as goal

pub loop-given-preserved : goal.loop-given-preserved
loop-given-preserved c =
    next c.args.from (λ (xs : List Let). value_sites (let_list (map see_let xs))) (λ (y : Let). value_site (see_let y)) (λ y ys. refl) c.args.lets.now c.loop-given.given-index c.given-item.result
    _ _ c.loop-given.edges.items c.push.new.self.items c.loop-given-test.true c.given-item.is
    (c.site.ensures ∙ expr-begins (see_expr c.given-item.result.value) ∙ ap value_site (sym (let-seen c.given-item.result))) c.in_ok-push.ensures.items c.loop-given.invariant

pub returns : goal.returns
returns c = end c.args.from (λ (xs : List Let). value_sites (let_list (map see_let xs))) refl c.args.lets.now c.loop-given.given-index _ c.loop-given.edges.items c.loop-given-test.false c.loop-given.invariant
