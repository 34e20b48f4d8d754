-- Nodes by their number in document order: a collection before what stands in it, the first node 0.
use Rattle.std.specs.Prelude.{ℕ, zero, suc, ◌+◌, ◌-◌, [], Option, Some, None, nat_lt, nat_eq, if◌then◌else◌, List}
use Rattle.doc_values.specs.declared.kind.Kind.{Kind}
use Rattle.doc_values.specs.declared.kind.Kind.TheVariants as kind
use Rattle.doc_values.specs.Tree.{Label, Forest, Nil, Node, size, key_is}

-- the node with a number, and the values behind it
abbrev pub find : Forest → ℕ → Forest
find Nil n = Nil
find (Node l kids rest) zero = Node l kids rest
find (Node l kids rest) (suc n) = if nat_lt n (size kids) then find kids n else find rest (n - size kids)

-- what stands where no node is
abbrev pub no_label : Label
no_label = record { kind = kind.Null; text = []; key = None; at = 0 }

abbrev pub first_label : Forest → Label
first_label Nil = no_label
first_label (Node l kids rest) = l

abbrev pub first_kids : Forest → Forest
first_kids Nil = Nil
first_kids (Node l kids rest) = kids

-- the node with a number
abbrev pub label_at : Forest → ℕ → Label
label_at f n = first_label (find f n)

-- a value without its key
abbrev pub unkeyed : Label → Label
unkeyed l = record { kind = l.kind; text = l.text; key = None; at = l.at }

-- the values in the node with a number
abbrev pub kids_at : Forest → ℕ → Forest
kids_at f n = first_kids (find f n)

-- the tree below the node with a number, a tree of its own: its root has no key
abbrev pub tree_at : Forest → ℕ → Forest
tree_at f n = Node (unkeyed (label_at f n)) (kids_at f n) Nil

-- the number of the value at an index among values side by side, the first of which has the number `at`
abbrev pub child_place : ℕ → Forest → ℕ → ℕ
child_place at Nil i = at
child_place at (Node l kids rest) zero = at
child_place at (Node l kids rest) (suc i) = child_place (at + 1 + size kids) rest i

-- the number of the value with a key among them
abbrev pub key_place : ℕ → Forest → List ℕ → Option ℕ
key_place at Nil k = None
key_place at (Node l kids rest) k = if key_is l.key k then Some at else key_place (at + 1 + size kids) rest k

-- where a node stands: the number of the value that it stands in, and its index among the values beside it
pub record Spot : Type 0 where
  pub parent : Option ℕ
  pub index : ℕ

-- the spot of a node among values side by side and in them: they stand in `p`, `i` stand before them, and the first has the number `at`
abbrev pub spot_in : Option ℕ → ℕ → ℕ → Forest → ℕ → Spot
spot_in p i at Nil id = record { parent = p; index = i }
spot_in p i at (Node l kids rest) id =
    if nat_eq id at then record { parent = p; index = i } else
    (if nat_lt id (at + 1 + size kids) then spot_in (Some at) 0 (at + 1) kids id else spot_in p (i + 1) (at + 1 + size kids) rest id)

abbrev pub spot_of : Forest → ℕ → Spot
spot_of f id = spot_in None 0 0 f id

-- the index of an item of a list; an entry of a map and the root have none
abbrev pub index_if : Kind → ℕ → Option ℕ
index_if kind.List i = Some i
index_if _ i = None

abbrev pub index_under : Forest → Option ℕ → ℕ → Option ℕ
index_under f None i = None
index_under f (Some p) i = index_if (label_at f p).kind i

abbrev pub index_of : Forest → ℕ → Option ℕ
index_of f id = let s : Spot = spot_of f id in index_under f s.parent s.index
