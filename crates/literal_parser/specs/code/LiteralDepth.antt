-- How deep brackets nest in a literal.
use Rattle.std.specs.Prelude.{ℕ, suc, max, Bool, true, if◌then◌else◌}
use Rattle.doc_values.specs.Tree.{Forest, Nil, Node, holds_values}
use Rattle.doc_values.specs.declared.kind.Kind.{Kind}
use Rattle.doc_values.specs.declared.kind.Kind.TheVariants as kind

-- a list, a map or a range
abbrev pub is_bracketed : Kind → Bool
is_bracketed (kind.Limits bounds) = true
is_bracketed k = holds_values k

-- the most lists, maps and ranges of values side by side that stand in each other
abbrev pub deep_forest : Forest → ℕ
deep_forest Nil = 0
deep_forest (Node l kids rest) = max (if is_bracketed l.kind then suc (deep_forest kids) else 0) (deep_forest rest)
