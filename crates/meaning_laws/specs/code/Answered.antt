-- What a call answers as a function on lists. Only laws name this file: that it gives the answer of the table is proved.
use Rattle.std.specs.Prelude.{ℕ, ◌^◌, ℤ, pos, Bool, ◌&&◌, ◌||◌, not, nat_le, nat_lt, List, length, map, slice_index, slice_range, unsigned_abs, Option, Some, None, option_map, option_and_then, Result, Ok, Err, if◌then◌else◌}
use Rattle.std.specs.Char.{to_ascii_lowercase, to_ascii_uppercase}
use Rattle.std.specs.Str.{is_utf8}
use Rattle.percent_encoding.specs.Percent.{percent_decode}
use Rattle.doc_values.specs.declared.kind.Kind.{Kind}
use Rattle.doc_values.specs.declared.kind.Kind.TheVariants as kind
use Rattle.decimals.specs.declared.decimal.Num.{Num}
use Rattle.decimals.specs.declared.decimal.Num.TheVariants as num
use Rattle.decimals.specs.Decimal.{Decimal}
use Rattle.doc_values.specs.Limits.{template_limit}
use Rattle.doc_values.specs.Tree.{Forest}
use Rattle.json_reader.specs.code.Numbers.{number_kind}
use Rattle.json_reader.specs.code.Reading.{verdict}
use Rattle.json_reader.specs.declared.refusal.JsonRefusal.{JsonRefusal}
use Rattle.guard_syntax.specs.declared.function.Function.{Function}
use Rattle.guard_syntax.specs.declared.function.Function.TheVariants as function
use Rattle.guard_syntax.specs.declared.row.Row.{Row}
use Rattle.guard_syntax.specs.declared.row.Row.TheVariants as row
use Rattle.rule_meaning.specs.Functions.{MadeRow, Kept, argument, behind_plus, counted, decimal_tree, joined_row, new_or_missing, printed_by, replaced_in, single_text, single_whole, text_of, text_tree, truth_by, truth_tree, whole_tree}
use Rattle.rule_meaning.specs.StoreModel.{StoreModel, stands_for}
use Rattle.rule_meaning.specs.Values.{Value}

-- the tree of a text that JSON accepts
abbrev pub tree_if_ok : Result Forest JsonRefusal → Option Forest
tree_if_ok (Ok tree) = Some tree
tree_if_ok (Err refusal) = None

abbrev pub parsed : List ℕ → Option Forest
parsed text = if nat_le (length text) template_limit then tree_if_ok (verdict text) else None

abbrev pub lowered : List ℕ → Option Forest
lowered text = Some (text_tree (map to_ascii_lowercase text))

abbrev pub raised : List ℕ → Option Forest
raised text = Some (text_tree (map to_ascii_uppercase text))

-- a character begins at an index, or the text ends there
abbrev pub is_boundary : List ℕ → ℕ → Bool
is_boundary text i = nat_le i (length text) && (not (nat_lt i (length text) && nat_le 128 (slice_index text i)) || nat_le 192 (slice_index text i))

abbrev pub cut_at : (from to : ℕ) → List ℕ → Option Forest
cut_at from to text =
    if nat_le from to && (nat_le to (length text) && (is_boundary text from && is_boundary text to)) then Some (text_tree (slice_range text from to)) else None

abbrev pub cut : (from to : Option ℤ) → List ℕ → Option Forest
cut (Some (pos from)) (Some (pos to)) text = cut_at from to text
cut _ _ text = None

abbrev pub decoded : List ℕ → Option Forest
decoded text = if is_utf8 (percent_decode text) then Some (text_tree (percent_decode text)) else None

-- the number of a text with a sign of either kind
abbrev pub num_of : Kind → Option Num
num_of (kind.Whole n) = Some (num.Whole n)
num_of (kind.Fraction d) = Some (num.Fraction d)
num_of _ = None

abbrev pub signed : List ℕ → Option Num
signed text = option_and_then (λ rest. option_and_then num_of (number_kind rest)) (behind_plus text)

abbrev pub whole_of_num : Num → Option ℤ
whole_of_num (num.Whole n) = Some n
whole_of_num (num.Fraction d) = None

abbrev pub whole_read : Kind → List ℕ → Option ℤ
whole_read (kind.Whole n) text = Some n
whole_read kind.Text text = option_and_then whole_of_num (signed text)
whole_read _ text = None

abbrev pub decimal_of_num : Num → Option Decimal
decimal_of_num (num.Whole n) = if nat_lt (unsigned_abs n) (10 ^ 18) then Some (record { units = n; scale = 0 }) else None
decimal_of_num (num.Fraction d) = Some d

abbrev pub decimal_read : Kind → List ℕ → Option Decimal
decimal_read (kind.Whole n) text = decimal_of_num (num.Whole n)
decimal_read (kind.Fraction d) text = Some d
decimal_read kind.Text text = option_and_then decimal_of_num (signed text)
decimal_read _ text = None

abbrev pub replaced : (pattern template : Option (List ℕ)) → List ℕ → Option Forest
replaced (Some pattern) (Some template) text = option_map text_tree (replaced_in pattern template text)
replaced _ _ text = None

-- what a function of one value after another gives for a value, its further arguments these
abbrev pub given_by : StoreModel → Function → List (List Row) → Value → Option Forest
given_by known function.JsonParse args v = option_and_then parsed (text_of v)
given_by known function.RegexReplace args v = option_and_then (replaced (single_text known (argument args 1)) (single_text known (argument args 2))) (text_of v)
given_by known function.ToLower args v = option_and_then lowered (text_of v)
given_by known function.ToUpper args v = option_and_then raised (text_of v)
given_by known function.Substring args v = option_and_then (cut (single_whole known (argument args 1)) (single_whole known (argument args 2))) (text_of v)
given_by known function.UrlDecode args v = option_and_then decoded (text_of v)
given_by known function.ParseInt args v = option_map whole_tree (whole_read v.kind v.text)
given_by known function.ParseFloat args v = option_map decimal_tree (decimal_read v.kind v.text)
given_by known function.ParseBoolean args v = option_map truth_tree (truth_by v.kind v.text)
given_by known function.ParseString args v = option_map text_tree (printed_by v.kind v.text)
given_by known function.Count args v = None
given_by known function.Join args v = None

abbrev pub answered_for : (Value → Option Forest) → ℕ → Option Value → MadeRow
answered_for given call (Some v) = new_or_missing call (given v)
answered_for given call None = Kept (row.Unmade call)

abbrev pub answered_row : (Value → Option Forest) → StoreModel → ℕ → Row → MadeRow
answered_row given known call (row.Found r) = answered_for given call (stands_for known r)
answered_row given known call (row.Missing v step) = Kept (row.Missing v step)
answered_row given known call (row.Unmade inner) = Kept (row.Unmade inner)

-- what the call of a function at a site answers
abbrev pub answered : StoreModel → Function → ℕ → List (List Row) → List MadeRow
answered known function.Count call args = counted (argument args 0)
answered known function.Join call args = joined_row known call (argument args 0) (argument args 1)
answered known f call args = map (answered_row (given_by known f args) known call) (argument args 0)
