-- One map out of two.
use Rattle.std.specs.Prelude.{ℕ, Bool, false, List, Option, Some, None, if◌then◌else◌}
use Rattle.doc_values.specs.Tree.{Forest, Nil, Node, joined, is_map, has_key}
use Rattle.doc_values.specs.Places.{first_label, first_kids}

-- whether the root of a tree is a map
abbrev pub is_map_tree : Forest → Bool
is_map_tree tree = is_map (first_label tree).kind

-- the root of the first with its entries, and behind them those of the second
abbrev pub merged : Forest → Forest → Forest
merged first second = Node (first_label first) (joined (first_kids first) (first_kids second)) Nil

-- whether one of the others has a key too
abbrev pub is_shared : Forest → Option (List ℕ) → Bool
is_shared others None = false
is_shared others (Some key) = has_key others key

-- the place of the first of the entries whose key one of the others has
abbrev pub first_shared : Forest → Forest → Option ℕ
first_shared others Nil = None
first_shared others (Node l kids rest) = if is_shared others l.key then Some l.at else first_shared others rest
