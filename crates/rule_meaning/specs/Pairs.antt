-- The tables of pairs: whether a left and a right value are equal, or ordered, or cannot be compared.
use Rattle.std.specs.Prelude.{ℕ, ℤ, Bool, true, false, ◌&&◌, List, Option, Some, None}
use Rattle.std.specs.Option.{option_map_or}
use Rattle.std.specs.Ordering.{nat_cmp, int_cmp, is_eq, is_lt, is_le, is_gt, is_ge}
use Rattle.std.specs.Cmp.Lexicographic.{slice_cmp}
use Rattle.std.specs.declared.cmp.Ordering.{Ordering}
use Rattle.std.specs.Str.{bytes_eq}
use Rattle.decimals.specs.Decimal.{Decimal, order}
use Rattle.doc_values.specs.Tree.{Forest, Nil, Node, key_is}
use Rattle.doc_values.specs.declared.kind.Kind.{Kind}
use Rattle.doc_values.specs.declared.kind.Kind.TheVariants as kind
use Rattle.decimals.specs.declared.decimal.Num.{Num}
use Rattle.decimals.specs.declared.decimal.Num.TheVariants as num
use Rattle.decimals.specs.declared.decimal.Range.{Range}
use Rattle.guard_syntax.specs.declared.syntax.Op.{Op}
use Rattle.guard_syntax.specs.declared.syntax.Op.TheVariants as op
use Rattle.rule_meaning.specs.declared.answer.PairAnswer.{PairAnswer}
use Rattle.rule_meaning.specs.declared.answer.PairAnswer.TheVariants.{Yes, No, Apart}
use Rattle.rule_meaning.specs.PatternMatch.{finds}
use Rattle.rule_meaning.specs.Values.{Value, value_of}

abbrev pub told : Bool → PairAnswer
told true = Yes
told false = No

abbrev pub is_yes : PairAnswer → Bool
is_yes Yes = true
is_yes No = false
is_yes Apart = false

abbrev pub is_no : PairAnswer → Bool
is_no Yes = false
is_no No = true
is_no Apart = false

abbrev pub same_truth : Bool → Bool → Bool
same_truth true b = b
same_truth false true = false
same_truth false false = true

-- Ranges.

-- a number lies above the low bound of a range, or below its high one, by how the bound stands to it: the bound itself may be in the range
abbrev pub is_past : Bool → Ordering → Bool
is_past true o = is_le o
is_past false o = is_lt o

abbrev pub lies : Range → (low high : Ordering) → Bool
lies r low high = is_past r.low_in low && is_past r.high_in high

-- a whole number in a range of whole numbers
abbrev pub whole_in : Range → Num → Num → ℤ → PairAnswer
whole_in r (num.Whole low) (num.Whole high) n = told (lies r (int_cmp low n) (int_cmp n high))
whole_in r _ _ n = Apart

-- a decimal in a range of decimals
abbrev pub decimal_in : Range → Num → Num → Decimal → PairAnswer
decimal_in r (num.Fraction low) (num.Fraction high) d = told (lies r (order low d) (order d high))
decimal_in r _ _ d = Apart

-- Equality.

-- the table, by the kinds and texts of both; of two lists, and of two maps, what stands in them tells
abbrev pub equal_by : (lists maps : Bool) → Kind → List ℕ → Kind → List ℕ → PairAnswer
equal_by lists maps kind.Null lt kind.Null rt = Yes
equal_by lists maps (kind.Truth a) lt (kind.Truth b) rt = told (same_truth a b)
equal_by lists maps (kind.Whole a) lt (kind.Whole b) rt = told (is_eq (int_cmp a b))
equal_by lists maps (kind.Fraction a) lt (kind.Fraction b) rt = told (is_eq (order a b))
equal_by lists maps kind.Text lt kind.Text rt = told (bytes_eq lt rt)
equal_by lists maps kind.List lt kind.List rt = told lists
equal_by lists maps kind.Map lt kind.Map rt = told maps
equal_by lists maps kind.Text lt kind.Pattern rt = told (finds rt lt)
equal_by lists maps (kind.Whole n) lt (kind.Limits r) rt = whole_in r r.low r.high n
equal_by lists maps (kind.Fraction d) lt (kind.Limits r) rt = decimal_in r r.low r.high d
equal_by lists maps _ lt _ rt = Apart

-- the entry of a key among values side by side
abbrev pub entry_of : Forest → Option (List ℕ) → Option Value
entry_of Nil key = None
entry_of (Node l kids rest) None = None
entry_of (Node l kids rest) (Some key) = option_if (key_is l.key key) (value_of l kids) (entry_of rest (Some key))
  where
    option_if : Bool → Value → Option Value → Option Value
    option_if true v o = Some v
    option_if false v o = o

-- each key of the first stands among the second
abbrev pub are_keys_among : Forest → Forest → Bool
are_keys_among Nil g = true
are_keys_among (Node l kids rest) g = option_map_or (λ v. true) (entry_of g l.key) false && are_keys_among rest g

abbrev mutual
  -- as many items, and each is equal to the one at its index
  pub same_items : Forest → Forest → Bool
  same_items Nil Nil = true
  same_items Nil (Node r rkids rrest) = false
  same_items (Node l lkids lrest) Nil = false
  same_items (Node l lkids lrest) (Node r rkids rrest) =
      is_yes (equal_by (same_items lkids rkids) (same_entries lkids rkids && are_keys_among rkids lkids) l.kind l.text r.kind r.text)
      && same_items lrest rrest

  -- each entry of the first has one of its key among the second, equal to it
  pub same_entries : Forest → Forest → Bool
  same_entries Nil g = true
  same_entries (Node l lkids lrest) g =
      option_map_or (λ (r : Value). is_yes (equal_by (same_items lkids r.contents) (same_entries lkids r.contents && are_keys_among r.contents lkids) l.kind l.text r.kind r.text))
      (entry_of g l.key) false
      && same_entries lrest g

-- two maps are equal where their keys agree as sets, and each pair of values is equal
abbrev pub same_maps : Forest → Forest → Bool
same_maps f g = same_entries f g && are_keys_among g f

-- whether two values are equal
abbrev pub equal : Value → Value → PairAnswer
equal l r = equal_by (same_items l.contents r.contents) (same_maps l.contents r.contents) l.kind l.text r.kind r.text

-- Order.

abbrev pub covers : Op → Ordering → Bool
covers op.Lt o = is_lt o
covers op.Le o = is_le o
covers op.Gt o = is_gt o
covers op.Ge o = is_ge o
covers _ o = false

-- two whole numbers, two decimals and two texts are ordered, texts by their bytes
abbrev pub ordered_by : Op → Kind → List ℕ → Kind → List ℕ → PairAnswer
ordered_by o (kind.Whole a) lt (kind.Whole b) rt = told (covers o (int_cmp a b))
ordered_by o (kind.Fraction a) lt (kind.Fraction b) rt = told (covers o (order a b))
ordered_by o kind.Text lt kind.Text rt = told (covers o (slice_cmp nat_cmp lt rt))
ordered_by o _ lt _ rt = Apart

abbrev pub ordered : Op → Value → Value → PairAnswer
ordered o l r = ordered_by o l.kind l.text r.kind r.text

-- The pair of an operator.

abbrev pub is_order : Op → Bool
is_order op.Lt = true
is_order op.Le = true
is_order op.Gt = true
is_order op.Ge = true
is_order _ = false

abbrev pub is_pair_operator : Op → Bool
is_pair_operator op.Eq = true
is_pair_operator o = is_order o

abbrev pub pair_of : Op → Value → Value → PairAnswer
pair_of op.Eq l r = equal l r
pair_of o l r = ordered o l r
