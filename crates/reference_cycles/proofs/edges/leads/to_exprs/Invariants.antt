use Rattle.std.proofs.Common.{◌≡◌, ◌++◌, drop, map}
use Rattle.guard_syntax.specs.code.Seen.{see_expr, expr_list}
use Rattle.rule_names.specs.ReferenceGraph.{to_each, expr_sites}
use Rattle.reference_cycles.proofs.edges.leads.to_exprs.Given as goal

abbrev pub invariant-loop-expr : goal.invariant-loop-expr
invariant-loop-expr l =
    l.edges.items ++ to_each l.from (expr_sites (expr_list (map see_expr (drop l.expr-index l.exprs)))) ≡ l.initial.edges.items ++ to_each l.from (expr_sites (expr_list (map see_expr l.exprs)))
