-- Views of values as the code has them.
use Rattle.std.specs.Prelude.{ℕ, ◌≡◌, Bool, true, false, Option, Some}
use Rattle.doc_values.specs.Tree.{Forest}
use Rattle.guard_syntax.specs.declared.row.Ref.{Ref}
use Rattle.rule_meaning.specs.Values.{Value, value_at, value_of_key}
use Rattle.value_store.specs.declared.view.View as shape
use Rattle.value_store.specs.declared.view.View.TheVariants as code

abbrev pub see_view : shape.View → Value
see_view (code.At c) = value_at c.doc.now c.id
see_view (code.Key k) = value_of_key k.now

-- a cursor stands at the node itself of a tree; a key is seen where a key is asked for
abbrev pub IsSeenIn : ℕ → (key : Bool) → Forest → shape.View → Type 0
IsSeenIn n key tree (code.At c) = (c.doc.now ≡ tree) × (c.id ≡ n) × (key ≡ false)
IsSeenIn n key tree (code.Key k) = key ≡ true

-- at the node of a reference, in the tree that it points into
abbrev pub IsSeenAt : Option Forest → Ref → shape.View → Type 0
IsSeenAt tree r (code.At c) = (tree ≡ Some c.doc.now) × (c.id ≡ r.node) × (r.key ≡ false)
IsSeenAt tree r (code.Key k) = r.key ≡ true
