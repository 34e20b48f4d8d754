-- The edges from a part itself, without those from what is in it.
use Rattle.std.specs.Prelude.{ℕ, List, [], ◌∷◌, ◌++◌}
use Rattle.guard_syntax.specs.Syntax.{Part, Rule, block, guarded, kinds, test, refer, call}
use Rattle.rule_names.specs.Uses.{rule_named, query_site}
use Rattle.rule_names.specs.ReferenceGraph.{Edge, to_each, to_rule, body_site, conds_site, expr_sites, opt_conds_site, opt_expr_site}

-- to the parts in it, and to the rule that it names
abbrev pub own_edges : List Rule → ℕ → Part → List Edge
own_edges rules count (block n any q b) = to_each n (query_site q ∷ body_site b ∷ [])
own_edges rules count (guarded n c b) = to_each n (conds_site c ∷ body_site b ∷ [])
own_edges rules count (kinds n name c b) = to_each n (opt_conds_site c ++ body_site b ∷ [])
own_edges rules count (test n any q op negated right message) = to_each n (query_site q ∷ opt_expr_site right)
own_edges rules count (refer n negated name message) = to_rule rules count n (rule_named rules name)
own_edges rules count (call n negated name es message) = to_rule rules count n (rule_named rules name) ++ to_each n (expr_sites es)
