-- Pairs with their answers, and with whether a text meets a pattern, worked out by hand from the language's tables.
use Rattle.std.proofs.Common.{◌≡◌, ℕ, Bool, pos, true, false, refl, List, [], Some, None, codes}
use Rattle.decimals.specs.Decimal.{Decimal}
use Rattle.doc_values.specs.Tree.{Forest, Nil, Node}
use Rattle.decimals.specs.declared.decimal.Num.TheVariants as num
use Rattle.doc_values.specs.declared.kind.Kind.{Kind}
use Rattle.doc_values.specs.declared.kind.Kind.TheVariants as kind
use Rattle.guard_syntax.specs.declared.syntax.Op.TheVariants as op
use Rattle.rule_meaning.specs.declared.answer.PairAnswer.TheVariants.{Yes, No, Apart}
use Rattle.value_compare.specs.code.Meetings.{compares_pattern}
use Rattle.rule_meaning.specs.Pairs.{pair_of}
use Rattle.rule_meaning.specs.Values.{Value, value_of_key}

abbrev plain : Kind → Value
plain k = record { kind = k; text = []; contents = Nil }

abbrev whole : ℕ → Value
whole n = plain (kind.Whole (pos n))

abbrev decimal : ℕ → ℕ → Decimal
decimal units scale = record { units = pos units; scale = scale }

abbrev fraction : ℕ → ℕ → Value
fraction units scale = plain (kind.Fraction (decimal units scale))

abbrev text : List ℕ → Value
text t = value_of_key t

abbrev list : Forest → Value
list items = record { kind = kind.List; text = []; contents = items }

abbrev map : Forest → Value
map entries = record { kind = kind.Map; text = []; contents = entries }

abbrev item : Kind → Forest → Forest
item k rest = Node (record { kind = k; text = []; key = None; at = 0 }) Nil rest

abbrev entry : List ℕ → Kind → Forest → Forest
entry key k rest = Node (record { kind = k; text = []; key = Some key; at = 0 }) Nil rest

-- a whole number is never compared with a decimal
one_and_one_point_zero : pair_of op.Eq (whole 1) (fraction 1 0) ≡ Apart
one_and_one_point_zero = refl

-- nor a number with its digits
one_and_its_text : pair_of op.Eq (whole 1) (text (codes "1")) ≡ Apart
one_and_its_text = refl

-- nothing is less than null
null_and_null : pair_of op.Eq (plain kind.Null) (plain kind.Null) ≡ Yes
null_and_null = refl

null_below_null : pair_of op.Lt (plain kind.Null) (plain kind.Null) ≡ Apart
null_below_null = refl

-- decimals by their value: 0.5 is above 0.25
half_above_quarter : pair_of op.Gt (fraction 5 1) (fraction 25 2) ≡ Yes
half_above_quarter = refl

-- texts by their bytes
b_above_a : pair_of op.Gt (text (codes "b")) (text (codes "a")) ≡ Yes
b_above_a = refl

capital_below_small : pair_of op.Le (text (codes "Z")) (text (codes "a")) ≡ Yes
capital_below_small = refl

ten_below_nine : pair_of op.Lt (text (codes "10")) (text (codes "9")) ≡ Yes
ten_below_nine = refl

abbrev one_to_five : (low_in high_in : Bool) → Value
one_to_five low_in high_in = plain (kind.Limits (record { low = num.Whole (pos 1); high = num.Whole (pos 5); low_in = low_in; high_in = high_in }))

-- an end is in a range where its bracket says so
five_in_open : pair_of op.Eq (whole 5) (one_to_five true false) ≡ No
five_in_open = refl

five_in_closed : pair_of op.Eq (whole 5) (one_to_five false true) ≡ Yes
five_in_closed = refl

one_in_closed : pair_of op.Eq (whole 1) (one_to_five true false) ≡ Yes
one_in_closed = refl

one_in_open : pair_of op.Eq (whole 1) (one_to_five false true) ≡ No
one_in_open = refl

-- a decimal is not compared with a range of whole numbers
decimal_and_wholes : pair_of op.Eq (fraction 25 1) (one_to_five true true) ≡ Apart
decimal_and_wholes = refl

-- nothing lies in a range whose low end is above the high one
in_no_range : pair_of op.Eq (whole 3) (plain (kind.Limits (record { low = num.Whole (pos 5); high = num.Whole (pos 1); low_in = true; high_in = true }))) ≡ No
in_no_range = refl

-- lists whose items cannot be compared are unequal
list_of_apart : pair_of op.Eq (list (item (kind.Whole (pos 1)) Nil)) (list (item (kind.Fraction (decimal 1 0)) Nil)) ≡ No
list_of_apart = refl

shorter_list : pair_of op.Eq (list Nil) (list (item kind.Null Nil)) ≡ No
shorter_list = refl

-- entries of a map have no order
keys_in_another_order : pair_of op.Eq (map (entry (codes "a") kind.Null (entry (codes "b") (kind.Truth true) Nil))) (map (entry (codes "b") (kind.Truth true) (entry (codes "a") kind.Null Nil))) ≡ Yes
keys_in_another_order = refl

another_key : pair_of op.Eq (map (entry (codes "a") kind.Null Nil)) (map (entry (codes "b") kind.Null Nil)) ≡ No
another_key = refl

one_key_more : pair_of op.Eq (map (entry (codes "a") kind.Null Nil)) (map (entry (codes "a") kind.Null (entry (codes "b") kind.Null Nil))) ≡ No
one_key_more = refl

list_and_map : pair_of op.Eq (list Nil) (map Nil) ≡ Apart
list_and_map = refl

-- a pattern on the left is compared with nothing
pattern_on_the_left : pair_of op.Eq (record { kind = kind.Pattern; text = codes "a"; contents = Nil }) (text (codes "a")) ≡ Apart
pattern_on_the_left = refl

range_on_the_left : pair_of op.Eq (one_to_five true true) (one_to_five true true) ≡ Apart
range_on_the_left = refl

-- a text meets the pattern at its own index: not in `["a",1]` and `[1,/a/]`
text_beside_pattern : compares_pattern (list (item kind.Text (item (kind.Whole (pos 1)) Nil))) (list (item (kind.Whole (pos 1)) (item kind.Pattern Nil))) ≡ false
text_beside_pattern = refl

text_at_pattern : compares_pattern (list (item kind.Null (item kind.Text Nil))) (list (item kind.Null (item kind.Pattern Nil))) ≡ true
text_at_pattern = refl

-- and at its own key, wherever that stands
text_at_another_key : compares_pattern (map (entry (codes "a") kind.Text Nil)) (map (entry (codes "b") kind.Pattern Nil)) ≡ false
text_at_another_key = refl

text_at_the_key : compares_pattern (map (entry (codes "a") kind.Text (entry (codes "b") kind.Null Nil))) (map (entry (codes "b") kind.Null (entry (codes "a") kind.Pattern Nil))) ≡ true
text_at_the_key = refl

abbrev list_in : Forest → Forest
list_in items = Node (record { kind = kind.List; text = []; key = None; at = 0 }) items Nil

-- in lists of lists too: in `[["a"]]` and `[[/a/]]`, but not where one of them is a list
texts_in_lists : compares_pattern (list (list_in (item kind.Text Nil))) (list (list_in (item kind.Pattern Nil))) ≡ true
texts_in_lists = refl

text_and_list : compares_pattern (list (item kind.Text Nil)) (list (list_in (item kind.Pattern Nil))) ≡ false
text_and_list = refl

-- a text on the right and a pattern on the left do not meet
pattern_and_text : compares_pattern (plain kind.Pattern) (text (codes "a")) ≡ false
pattern_and_text = refl
