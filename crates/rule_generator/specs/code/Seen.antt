-- Values and texts as the code has them: by nodes of a tree, and by references.
use Rattle.std.specs.Prelude.{ℕ, List, map}
use Rattle.std.specs.Borrow.{Bor}
use Rattle.doc_values.specs.declared.cursor.Cursor.{Cursor}
use Rattle.rule_meaning.specs.Values.{Value, value_at}

-- the value of a node
abbrev pub see : Cursor → Value
see c = value_at c.doc.now c.id

abbrev pub values_seen : List Cursor → List Value
values_seen nodes = map see nodes

abbrev pub text_seen : Bor (List ℕ) → List ℕ
text_seen text = text.now

abbrev pub texts_seen : List (Bor (List ℕ)) → List (List ℕ)
texts_seen texts = map text_seen texts
