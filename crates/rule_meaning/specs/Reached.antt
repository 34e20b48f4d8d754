-- What is reached from a value: values in the same tree, as references.
use Rattle.std.specs.Prelude.{ℕ, ◌+◌, true, false, nat_lt, List, [], ◌∷◌, Option, Some, None, map, option_map, unwrap_or, if◌then◌else◌}
use Rattle.doc_values.specs.declared.kind.Kind.TheVariants as kind
use Rattle.doc_values.specs.Tree.{Forest, Nil, Node, size, count, is_map}
use Rattle.doc_values.specs.Places.{child_place, key_place}
use Rattle.guard_syntax.specs.declared.row.Ref.{Ref}
use Rattle.rule_meaning.specs.StoreModel.{StoreModel, stands_for}
use Rattle.rule_meaning.specs.Values.{Value, is_list}

-- null, for what stands for nothing
abbrev pub no_value : Value
no_value = record { kind = kind.Null; text = []; contents = Nil }

-- what a reference stands for; null where it stands for nothing, as no reference of known rows does
abbrev pub value_for : StoreModel → Ref → Value
value_for known r = unwrap_or (stands_for known r) no_value

-- a node of the tree that a reference points into
abbrev pub node_beside : Ref → ℕ → Ref
node_beside r n = record { origin = r.origin; node = n; key = false }

-- the key of the same node
abbrev pub key_of : Ref → Ref
key_of r = record { origin = r.origin; node = r.node; key = true }

-- the numbers of values side by side, the first of which has the number `at`
abbrev pub numbers : ℕ → Forest → List ℕ
numbers at Nil = []
numbers at (Node l kids rest) = at ∷ numbers (at + 1 + size kids) rest

-- what stands in a value: the items of a list or the values of a map, in order
abbrev pub inside : StoreModel → Ref → List Ref
inside known r = map (node_beside r) (numbers (r.node + 1) (value_for known r).contents)

-- the entry of a map with a key; any other value has none
abbrev pub entry : StoreModel → Ref → List ℕ → Option Ref
entry known r name =
    if is_map (value_for known r).kind
    then option_map (node_beside r) (key_place (r.node + 1) (value_for known r).contents name)
    else None

-- the item of a list at an index, where the list is longer; any other value has none
abbrev pub item : StoreModel → Ref → ℕ → Option Ref
item known r i =
    if is_list (value_for known r).kind
    then (if nat_lt i (count (value_for known r).contents) then Some (node_beside r (child_place (r.node + 1) (value_for known r).contents i)) else None)
    else None
