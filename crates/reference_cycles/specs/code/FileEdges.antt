-- The edges of what stands in a file, by the names that are visible there.
use Rattle.std.specs.Prelude.{ℕ, List, ◌++◌}
use Rattle.guard_syntax.specs.Syntax.{File, Rule}
use Rattle.rule_names.specs.Scopes.{Given}
use Rattle.rule_names.specs.ReferenceGraph.{Edge, edges_of_lets, edges_of_rules, edges_of_disjs}

-- of its lets, its rules and its parts outside rules
abbrev pub items_edges : List Rule → ℕ → List Given → File → List Edge
items_edges rules count visible f = edges_of_lets rules count visible f.lets ++ (edges_of_rules rules count visible f.rules ++ edges_of_disjs rules count visible f.loose)
