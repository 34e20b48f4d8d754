-- Nodes as the code has them.
use Rattle.std.specs.Prelude.{◌≡◌, Some}
use Rattle.doc_values.specs.declared.cursor.Cursor.{Cursor}
use Rattle.guard_syntax.specs.declared.row.Ref.{Ref}
use Rattle.rule_meaning.specs.StoreModel.{StoreModel, tree_of}
use Rattle.rule_meaning.specs.Values.{value_at}
use Rattle.rule_meaning.specs.Reached.{value_for}

-- a cursor at the node of a reference, in the tree that it points into
abbrev pub IsNodeOf : StoreModel → Ref → Cursor → Type 0
IsNodeOf known r c = (tree_of known r.origin ≡ Some c.doc.now) × (c.id ≡ r.node) × (value_for known r ≡ value_at c.doc.now c.id)
