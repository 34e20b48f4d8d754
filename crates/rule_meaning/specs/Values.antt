-- A value by itself, without its key and its place.
use Rattle.std.specs.Prelude.{ℕ, Bool, true, false, ◌||◌, List, [], ◌∷◌}
use Rattle.doc_values.specs.declared.kind.Kind.{Kind}
use Rattle.doc_values.specs.declared.kind.Kind.TheVariants as kind
use Rattle.doc_values.specs.Tree.{Label, Forest, Nil, Node}
use Rattle.doc_values.specs.Places.{label_at, kids_at}

-- a kind, a text where it has one, and what stands in it
pub record Value : Type 0 where
  pub kind : Kind
  pub text : List ℕ
  pub contents : Forest

abbrev pub value_of : Label → Forest → Value
value_of l kids = record { kind = l.kind; text = l.text; contents = kids }

-- the value of a node
abbrev pub value_at : Forest → ℕ → Value
value_at tree n = value_of (label_at tree n) (kids_at tree n)

-- a key of a map is a text
abbrev pub value_of_key : List ℕ → Value
value_of_key key = record { kind = kind.Text; text = key; contents = Nil }

-- the values side by side
abbrev pub values_in : Forest → List Value
values_in Nil = []
values_in (Node l kids rest) = value_of l kids ∷ values_in rest

-- patterns stand in literals alone
abbrev pub is_pattern : Kind → Bool
is_pattern kind.Pattern = true
is_pattern _ = false

abbrev pub is_text : Kind → Bool
is_text kind.Text = true
is_text _ = false

abbrev pub is_list : Kind → Bool
is_list kind.List = true
is_list _ = false

-- one of the values side by side and in them is a pattern
abbrev pub has_pattern : Forest → Bool
has_pattern Nil = false
has_pattern (Node l kids rest) = is_pattern l.kind || (has_pattern kids || has_pattern rest)
