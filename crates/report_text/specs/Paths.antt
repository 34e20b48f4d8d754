-- Paths of the nodes of a tree: a key or an index for each step down from the root.
use Rattle.std.specs.Prelude.{ℕ, ◌+◌, ◌==◌, List, [], ◌∷◌, ◌++◌, Option, Some, None, codes, decimal, nat_eq, nat_lt, if◌then◌else◌}
use Rattle.std.specs.List.{flat_map}
use Rattle.doc_values.specs.Tree.{Forest, Nil, Node, size}
use Rattle.report_text.specs.Spelling.{is_control, hex_pair}

-- a step down: to the entry of a map that has a key, or to the item of a list at an index
pub data Down : Type 0 where
  ToEntry : List ℕ → Down
  ToItem : ℕ → Down

-- an entry has a key, an item has none
abbrev pub step_to : ℕ → Option (List ℕ) → Down
step_to i (Some key) = ToEntry key
step_to i None = ToItem i

-- the steps to a node that stands among values side by side or in them: `i` stand before them, and the first has the number `at`
abbrev pub steps_in : ℕ → ℕ → Forest → ℕ → List Down
steps_in i at Nil id = []
steps_in i at (Node l kids rest) id =
    if nat_eq id at then step_to i l.key ∷ [] else
    (if nat_lt id (at + 1 + size kids) then step_to i l.key ∷ steps_in 0 (at + 1) kids id else steps_in (i + 1) (at + 1 + size kids) rest id)

-- the steps from the root of a tree, which has the number 0, to a node
abbrev pub path_of : Forest → ℕ → List Down
path_of Nil id = []
path_of (Node l kids rest) id = if nat_eq id 0 then [] else steps_in 0 1 kids id

-- a byte of a key: `~` is `~0`, `/` is `~1`, and a control byte is `~x` and its digits
abbrev pub key_byte : ℕ → List ℕ
key_byte b = if b == 126 then codes "~0" else (if b == 47 then codes "~1" else (if is_control b then codes "~x" ++ hex_pair b else b ∷ []))

-- `/` and the key, or the index in decimal
abbrev pub step_text : Down → List ℕ
step_text (ToEntry key) = codes "/" ++ flat_map key_byte key
step_text (ToItem i) = codes "/" ++ decimal i

abbrev pub path_text : List Down → List ℕ
path_text steps = flat_map step_text steps
