use Rattle.std.proofs.Common.{refl, List, map, ◌∙◌}
use Rattle.guard_syntax.specs.code.Seen.{see_expr, expr_list}
use Rattle.guard_syntax.specs.declared.syntax.Expr.{Expr}
use Rattle.rule_names.specs.ReferenceGraph.{expr_sites}
use Rattle.rule_names.specs.Uses.{expr_site}
use Rattle.reference_cycles.proofs.LeadsInTurn.{next, end, expr-begins}
use Rattle.reference_cycles.proofs.edges.leads.to_exprs.Goals as goal

pub loop-expr-preserved : goal.loop-expr-preserved
loop-expr-preserved c =
    next c.args.from (λ (xs : List Expr). expr_sites (expr_list (map see_expr xs))) (λ (y : Expr). expr_site (see_expr y)) (λ y ys. refl) c.args.exprs.now c.loop-expr.expr-index c.expr-item.result
    _ _ c.loop-expr.edges.items c.push.new.self.items c.loop-expr-test.true c.expr-item.is (c.site.ensures ∙ expr-begins (see_expr c.expr-item.result)) c.in_ok-push.ensures.items c.loop-expr.invariant

pub returns : goal.returns
returns c = end c.args.from (λ (xs : List Expr). expr_sites (expr_list (map see_expr xs))) refl c.args.exprs.now c.loop-expr.expr-index _ c.loop-expr.edges.items c.loop-expr-test.false c.loop-expr.invariant
