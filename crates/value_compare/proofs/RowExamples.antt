-- Tests on one row, worked out by hand.
use Rattle.std.proofs.Common.{◌≡◌, ℕ, Bool, true, false, refl, List, [], ◌∷◌, Option, Some, None, codes, pos}
use Rattle.doc_values.specs.Tree.{Forest, Nil, Node}
use Rattle.doc_values.specs.declared.kind.Kind.{Kind}
use Rattle.doc_values.specs.declared.kind.Kind.TheVariants as kind
use Rattle.guard_syntax.specs.declared.syntax.Op.{Op}
use Rattle.guard_syntax.specs.declared.syntax.Op.TheVariants as op
use Rattle.rule_meaning.specs.RowTests.{row_test_of}
use Rattle.rule_meaning.specs.Values.{Value, value_of_key}

abbrev plain : Kind → Value
plain k = record { kind = k; text = []; contents = Nil }

abbrev number : ℕ → Value
number n = plain (kind.Whole (pos n))

abbrev text : List ℕ → Value
text bytes = record { kind = kind.Text; text = bytes; contents = Nil }

abbrev list : Forest → Value
list items = record { kind = kind.List; text = []; contents = items }

abbrev item : Value → Forest → Forest
item v rest = Node (record { kind = v.kind; text = v.text; key = None; at = 0 }) v.contents rest

abbrev entry : List ℕ → Value → Forest → Forest
entry key v rest = Node (record { kind = v.kind; text = v.text; key = Some key; at = 0 }) v.contents rest

abbrev map_of : Forest → Value
map_of entries = record { kind = kind.Map; text = []; contents = entries }

-- a left value against one right value
abbrev against : Op → Bool → Value → Value → Bool
against o negated l r = row_test_of o negated (Some l) (Some r ∷ [])

-- a left value alone
abbrev alone : Op → Bool → Option Value → Bool
alone o negated l = row_test_of o negated l []

-- ---- members

-- an item that cannot be compared is no member
items_apart : against op.Within true (list (item (number 1) Nil)) (text (codes "a")) ≡ true
items_apart = refl

-- but a value that is no list, and cannot be compared, is not known to be outside
value_apart : against op.Within true (number 1) (text (codes "a")) ≡ false
value_apart = refl

-- in a list it is
value_outside_list : against op.Within true (number 1) (list (item (text (codes "a")) Nil)) ≡ true
value_outside_list = refl

empty_in_anything : against op.Within false (list Nil) (text (codes "a")) ≡ true
empty_in_anything = refl

empty_outside_empty : against op.Within true (list Nil) (list Nil) ≡ true
empty_outside_empty = refl

empty_is_an_item : against op.Within true (list Nil) (list (item (list Nil) Nil)) ≡ false
empty_is_an_item = refl

each_item_in : against op.Within false (list (item (number 1) (item (number 2) Nil))) (list (item (number 2) (item (number 1) Nil))) ≡ true
each_item_in = refl

an_item_outside : against op.Within false (list (item (number 1) (item (number 3) Nil))) (list (item (number 2) (item (number 1) Nil))) ≡ false
an_item_outside = refl

-- ---- equality

-- lists whose items cannot be compared are unequal
lists_apart : against op.Eq true (list (item (number 1) Nil)) (list (item (text (codes "1")) Nil)) ≡ true
lists_apart = refl

kinds_apart : against op.Eq true (number 1) (text (codes "1")) ≡ false
kinds_apart = refl

maps_in_any_order : against op.Eq false (map_of (entry (codes "a") (number 1) (entry (codes "b") (number 2) Nil))) (map_of (entry (codes "b") (number 2) (entry (codes "a") (number 1) Nil))) ≡ true
maps_in_any_order = refl

-- ---- missing rows

missing_left : row_test_of op.Eq false None (Some (number 1) ∷ []) ≡ false
missing_left = refl

missing_left_negated : row_test_of op.Eq true None (Some (number 1) ∷ []) ≡ false
missing_left_negated = refl

missing_left_outside : row_test_of op.Within true None (Some (number 1) ∷ []) ≡ false
missing_left_outside = refl

rights_missing : row_test_of op.Eq true (Some (number 1)) (None ∷ None ∷ []) ≡ false
rights_missing = refl

rights_missing_outside : row_test_of op.Within true (Some (number 1)) (None ∷ []) ≡ false
rights_missing_outside = refl

-- missing right rows are passed over
right_missing : row_test_of op.Eq true (Some (number 1)) (None ∷ Some (number 2) ∷ []) ≡ true
right_missing = refl

-- ---- tests without a right side

missing_is_empty : alone op.Empty false None ≡ true
missing_is_empty = refl

missing_not_empty : alone op.Empty true None ≡ false
missing_not_empty = refl

found_exists : alone op.Exists true (Some (number 1)) ≡ false
found_exists = refl

missing_does_not_exist : alone op.Exists true None ≡ true
missing_does_not_exist = refl

empty_text : alone op.Empty false (Some (text [])) ≡ true
empty_text = refl

empty_key : alone op.Empty false (Some (value_of_key [])) ≡ true
empty_key = refl

empty_pattern : alone op.Empty false (Some (plain kind.Pattern)) ≡ false
empty_pattern = refl

missing_has_no_kind : alone op.IsString true None ≡ false
missing_has_no_kind = refl

-- ---- order

above_each : row_test_of op.Gt false (Some (number 3)) (Some (number 1) ∷ Some (number 2) ∷ []) ≡ true
above_each = refl

above_one : row_test_of op.Gt false (Some (number 2)) (Some (number 1) ∷ Some (number 2) ∷ []) ≡ false
above_one = refl

no_order : row_test_of op.Gt false (Some (number 2)) (Some (number 1) ∷ Some (text (codes "a")) ∷ []) ≡ false
no_order = refl
