-- When a book holds the patterns of values.
use Rattle.std.specs.Prelude.{ℕ, Bool, true, false, ◌&&◌, List}
use Rattle.doc_values.specs.Tree.{Forest, Nil, Node}
use Rattle.value_store.specs.code.Books.{has_text}
use Rattle.rule_meaning.specs.Values.{Value, is_pattern}

-- a book holds the text where it is a pattern's
abbrev pub holds_if : Bool → List (List ℕ) → List ℕ → Bool
holds_if true book text = has_text book text
holds_if false book text = true

-- a book holds each pattern among values side by side and in them
abbrev pub holds_in : List (List ℕ) → Forest → Bool
holds_in book Nil = true
holds_in book (Node l kids rest) = holds_if (is_pattern l.kind) book l.text && (holds_in book kids && holds_in book rest)

-- and each pattern of a value
abbrev pub covers : List (List ℕ) → Value → Bool
covers book v = holds_if (is_pattern v.kind) book v.text && holds_in book v.contents
