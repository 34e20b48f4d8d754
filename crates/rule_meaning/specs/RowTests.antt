-- Tests on one row.
use Rattle.std.specs.Prelude.{ℕ, Bool, true, false, ◌&&◌, ◌||◌, not, List, [], ◌∷◌, Option, Some, None}
use Rattle.std.specs.List.{list_all, list_any}
use Rattle.doc_values.specs.Tree.{Forest, Nil, Node}
use Rattle.doc_values.specs.declared.kind.Kind.{Kind}
use Rattle.doc_values.specs.declared.kind.Kind.TheVariants as kind
use Rattle.guard_syntax.specs.declared.syntax.Op.{Op}
use Rattle.guard_syntax.specs.declared.syntax.Op.TheVariants as op
use Rattle.rule_meaning.specs.declared.answer.PairAnswer.{PairAnswer}
use Rattle.rule_meaning.specs.Pairs.{told, is_yes, is_no, equal, ordered}
use Rattle.rule_meaning.specs.Values.{Value, is_list, values_in}

-- Unary tests.

abbrev pub is_nothing : List ℕ → Bool
is_nothing [] = true
is_nothing (b ∷ bs) = false

abbrev pub holds_nothing : Forest → Bool
holds_nothing Nil = true
holds_nothing (Node l kids rest) = false

-- the text without bytes, a list and a map without values, and null
abbrev pub is_empty_by : Kind → List ℕ → Forest → Bool
is_empty_by kind.Text text contents = is_nothing text
is_empty_by kind.List text contents = holds_nothing contents
is_empty_by kind.Map text contents = holds_nothing contents
is_empty_by kind.Null text contents = true
is_empty_by _ text contents = false

abbrev pub is_empty : Value → Bool
is_empty v = is_empty_by v.kind v.text v.contents

-- the test of a kind
abbrev pub has_kind : Op → Kind → Bool
has_kind op.IsString kind.Text = true
has_kind op.IsList kind.List = true
has_kind op.IsStruct kind.Map = true
has_kind op.IsBool (kind.Truth b) = true
has_kind op.IsInt (kind.Whole n) = true
has_kind op.IsFloat (kind.Fraction d) = true
has_kind op.IsNull kind.Null = true
has_kind _ _ = false

-- on a value that was found
abbrev pub passes_found : Op → Value → Bool
passes_found op.Exists v = true
passes_found op.Empty v = is_empty v
passes_found o v = has_kind o v.kind

-- on a missing one: `empty` passes, and `!exists` does, and no other test, negated or not
abbrev pub passes_missing : Op → Bool → Bool
passes_missing op.Exists negated = negated
passes_missing op.Empty negated = not negated
passes_missing o negated = false

abbrev pub negated_if : Bool → Bool → Bool
negated_if true b = not b
negated_if false b = b

abbrev pub unary : Op → Bool → Option Value → Bool
unary o negated (Some v) = negated_if negated (passes_found o v)
unary o negated None = passes_missing o negated

-- Binary tests, against the right values that were found.

-- a value is in a list where an item is equal to it, else it is not; against any other value it is the pair itself
abbrev pub member_by : Bool → Value → Value → PairAnswer
member_by true l r = told (list_any (λ item. is_yes (equal l item)) (values_in r.contents))
member_by false l r = equal l r

abbrev pub member : Value → Value → PairAnswer
member l r = member_by (is_list r.kind) l r

abbrev pub is_some_right : List Value → Bool
is_some_right [] = false
is_some_right (r ∷ rs) = true

-- a member of some right value
abbrev pub is_member_of_some : List Value → Value → Bool
is_member_of_some rights l = list_any (λ r. is_yes (member l r)) rights

-- `IN`: a list is in where itself is a member, or each of its items is one
abbrev pub is_in : Bool → Value → List Value → Bool
is_in true l rights = is_member_of_some rights l || (is_some_right rights && list_all (is_member_of_some rights) (values_in l.contents))
is_in false l rights = is_member_of_some rights l

-- `!IN`: a list is not in where neither itself nor one of its items is a member
abbrev pub is_not_in : Bool → Value → List Value → Bool
is_not_in true l rights = is_some_right rights && (not (is_member_of_some rights l) && not (list_any (is_member_of_some rights) (values_in l.contents)))
is_not_in false l rights = is_some_right rights && list_all (λ r. is_no (member l r)) rights

abbrev pub binary : Op → Bool → Value → List Value → Bool
binary op.Eq false l rights = list_any (λ r. is_yes (equal l r)) rights
binary op.Eq true l rights = is_some_right rights && list_all (λ r. is_no (equal l r)) rights
binary op.Within false l rights = is_in (is_list l.kind) l rights
binary op.Within true l rights = is_not_in (is_list l.kind) l rights
binary o negated l rights = is_some_right rights && list_all (λ r. is_yes (ordered o l r)) rights

abbrev pub is_binary : Op → Bool
is_binary op.Eq = true
is_binary op.Lt = true
is_binary op.Le = true
is_binary op.Gt = true
is_binary op.Ge = true
is_binary op.Within = true
is_binary _ = false

-- no binary test passes on a missing left value
abbrev pub binary_if : Op → Bool → Option Value → List Value → Bool
binary_if o negated (Some l) rights = binary o negated l rights
binary_if o negated None rights = false

abbrev pub row_test_by : Bool → Op → Bool → Option Value → List Value → Bool
row_test_by true o negated left rights = binary_if o negated left rights
row_test_by false o negated left rights = unary o negated left

-- the right rows that were found; missing ones are passed over
abbrev pub found_of : List (Option Value) → List Value
found_of [] = []
found_of (None ∷ rows) = found_of rows
found_of (Some v ∷ rows) = v ∷ found_of rows

-- a test with an operator, negated or not, of what a left row stands for against what the right rows stand for; a missing row stands for nothing
abbrev pub row_test_of : Op → Bool → Option Value → List (Option Value) → Bool
row_test_of o negated left right = row_test_by (is_binary o) o negated left (found_of right)
