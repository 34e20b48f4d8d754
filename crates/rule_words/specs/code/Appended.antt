-- What the functions of the crate append, and what they ask.
use Rattle.std.specs.Prelude.{ℕ, zero, suc, Bool, false, List, [], codes, bytes_eq}
use Rattle.std.specs.Borrow.{Bor}
use Rattle.std.specs.List.{list_any}
use Rattle.doc_values.specs.Tree.{Forest}
use Rattle.doc_values.specs.Places.{label_at, kids_at}
use Rattle.guard_syntax.specs.Syntax.{Step, Steps, no_steps, more_steps, key}
use Rattle.rule_words.specs.WordText.{value_text, items_text, entries_text, space_within}

-- what stands in front of the item at an index: nothing in front of the first, a separator in front of each other
abbrev pub between : ℕ → List ℕ → List ℕ
between zero separator = []
between (suc n) separator = separator

-- the value at a node of a tree
abbrev pub node_text : Forest → ℕ → List ℕ
node_text tree id = value_text (label_at tree id) (label_at tree id).kind (items_text (kids_at tree id)) (entries_text (kids_at tree id))

-- a name is among those of a table
unfoldable pub is_among : List (Bor (List ℕ)) → List ℕ → Bool
is_among words name = list_any (λ (w : Bor (List ℕ)). bytes_eq name w.now) words

-- the space between the first step of an expression and the others
abbrev pub space_in : Steps → List ℕ
space_in no_steps = []
space_in (more_steps step steps) = space_within step steps

-- the name `r` as a key
abbrev pub is_r : Step → Bool
is_r (key n name) = bytes_eq name (codes "r")
is_r _ = false
