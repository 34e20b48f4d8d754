-- The edges of the step of a filter.
use Rattle.std.specs.Prelude.{ℕ, List, [], ◌∷◌, ◌++◌}
use Rattle.guard_syntax.specs.Syntax.{Conds, Rule}
use Rattle.rule_names.specs.Scopes.{Given, given_conds}
use Rattle.rule_names.specs.ReferenceGraph.{Edge, conds_site, to_each, edges_of_conds}

-- the step of a site leads to its conditions, which are a scope of their own
abbrev pub edges_of_filter : List Rule → ℕ → List Given → ℕ → Conds → List Edge
edges_of_filter rules count visible n c = to_each n (conds_site c ∷ []) ++ edges_of_conds rules count (given_conds c ++ visible) c
