-- The functions of the rule language: what each answers on lists of rows.
use Rattle.std.specs.Prelude.{ℕ, zero, suc, ◌-◌, ◌^◌, ◌<◌, ◌≤◌, ◌≡◌, ◌==◌, ℤ, pos, Bool, true, false, List, [], ◌∷◌, ◌++◌, length, map, take, drop, replicate, count_by, codes, decimal, IsUtf8, slice_range, slice_index_or, unsigned_abs, Option, Some, None, option_map, option_and_then, if◌then◌else◌}
use Rattle.std.specs.Char.{to_ascii_lowercase, to_ascii_uppercase}
use Rattle.std.specs.Fmt.{signed_decimal}
use Rattle.std.specs.Int.{is_negative}
use Rattle.std.specs.List.{join_by}
use Rattle.std.specs.Str.{IsCharBoundary, str_eq_ignore_ascii_case}
use Rattle.percent_encoding.specs.Percent.{percent_decode}
use Rattle.regex.specs.Patterns.{Re, find_all_str}
use Rattle.regex.specs.Replace.{replaced_by, group_bytes}
use Rattle.regex.specs.Templates.{written_after}
use Rattle.regex_syntax.specs.Grammar.{Names}
use Rattle.doc_values.specs.declared.kind.Kind.{Kind}
use Rattle.doc_values.specs.declared.kind.Kind.TheVariants as kind
use Rattle.decimals.specs.declared.decimal.Num.{Num}
use Rattle.decimals.specs.declared.decimal.Num.TheVariants as num
use Rattle.decimals.specs.Decimal.{Decimal}
use Rattle.doc_values.specs.Limits.{template_limit}
use Rattle.decimals.specs.Number.{IsNumber, minus_text}
use Rattle.doc_values.specs.Tree.{Forest, Nil, Node}
use Rattle.json_reader.specs.Json.{Json}
use Rattle.guard_syntax.specs.declared.function.Function.{Function}
use Rattle.guard_syntax.specs.declared.function.Function.TheVariants as function
use Rattle.guard_syntax.specs.declared.row.Row.{Row}
use Rattle.guard_syntax.specs.declared.row.Row.TheVariants as row
use Rattle.rule_meaning.specs.PatternMatch.{pattern_in}
use Rattle.rule_meaning.specs.StoreModel.{StoreModel, stands_for, meant}
use Rattle.rule_meaning.specs.Values.{Value, is_text}

-- a row of an answer: a new tree, or a row that is no new value
pub data MadeRow : Type 0 where
  New : Forest → MadeRow
  Kept : Row → MadeRow

-- ---- new trees

-- one value that holds none, at the place 0
abbrev pub lone : Kind → List ℕ → Forest
lone k text = Node (record { kind = k; text = text; key = None; at = 0 }) Nil Nil

abbrev pub text_tree : List ℕ → Forest
text_tree text = lone kind.Text text

abbrev pub truth_tree : Bool → Forest
truth_tree b = lone (kind.Truth b) []

abbrev pub whole_tree : ℤ → Forest
whole_tree n = lone (kind.Whole n) []

abbrev pub decimal_tree : Decimal → Forest
decimal_tree d = lone (kind.Fraction d) []

-- ---- arguments

abbrev pub is_found : Row → Bool
is_found (row.Found r) = true
is_found _ = false

-- a text; a key of a map is one
abbrev pub text_of : Value → Option (List ℕ)
text_of v = if is_text v.kind then Some v.text else None

abbrev pub whole_by : Kind → Option ℤ
whole_by (kind.Whole n) = Some n
whole_by _ = None

abbrev pub whole_of : Value → Option ℤ
whole_of v = whole_by v.kind

-- what the one row of an argument stands for, where there is exactly one
abbrev pub single : StoreModel → List Row → Option Value
single known [] = None
single known (r ∷ []) = meant known r
single known (r ∷ (s ∷ rs)) = None

abbrev pub single_text : StoreModel → List Row → Option (List ℕ)
single_text known rows = option_and_then text_of (single known rows)

abbrev pub single_whole : StoreModel → List Row → Option ℤ
single_whole known rows = option_and_then whole_of (single known rows)

-- the rows of an argument, counted from 0
abbrev pub argument : List (List Row) → ℕ → List Row
argument args i = slice_index_or args i []

-- ---- what each gives for one value: at most one tree

-- for a text
abbrev pub ForText : (List ℕ → Forest → Type 0) → Option (List ℕ) → Forest → Type 0
ForText Gives None tree = ⊥
ForText Gives (Some text) tree = Gives text tree

-- the tree of a text of at most 8 MiB that JSON accepts, its places those in the text
abbrev pub IsParsed : List ℕ → Forest → Type 0
IsParsed text tree = (length text ≤ template_limit) × Json text tree

abbrev pub IsJson : Value → Forest → Type 0
IsJson v tree = ForText IsParsed (text_of v) tree

-- each ASCII letter in lower, or in upper case
abbrev pub IsLower : Value → Forest → Type 0
IsLower v tree = ForText (λ text tree. tree ≡ text_tree (map to_ascii_lowercase text)) (text_of v) tree

abbrev pub IsUpper : Value → Forest → Type 0
IsUpper v tree = ForText (λ text tree. tree ≡ text_tree (map to_ascii_uppercase text)) (text_of v) tree

-- the bytes from one index up to another, both between characters
abbrev pub IsPart : (from to : Option ℤ) → List ℕ → Forest → Type 0
IsPart (Some (pos from)) (Some (pos to)) text tree =
    (from ≤ to) × (to ≤ length text) × IsCharBoundary text from × IsCharBoundary text to × (tree ≡ text_tree (slice_range text from to))
IsPart _ _ text tree = ⊥

abbrev pub IsSubstring : (from to : Option ℤ) → Value → Forest → Type 0
IsSubstring from to v tree = ForText (IsPart from to) (text_of v) tree

-- percent escapes decoded, if that is UTF-8
abbrev pub IsUnescaped : List ℕ → Forest → Type 0
IsUnescaped text tree = IsUtf8 (percent_decode text) × (tree ≡ text_tree (percent_decode text))

abbrev pub IsDecoded : Value → Forest → Type 0
IsDecoded v tree = ForText IsUnescaped (text_of v) tree

-- a text without the plus in front, behind which no minus may stand
abbrev pub begins_with_minus : List ℕ → Bool
begins_with_minus [] = false
begins_with_minus (b ∷ bs) = b == 45

abbrev pub behind_plus : List ℕ → Option (List ℕ)
behind_plus [] = Some []
behind_plus (b ∷ bs) = if b == 43 then (if begins_with_minus bs then None else Some bs) else Some (b ∷ bs)

-- the number of a text that is an optional sign, plus or minus, and a number text without one
abbrev pub IsSigned : List ℕ → Num → Type 0
IsSigned text n = (rest : List ℕ) × (behind_plus text ≡ Some rest) × IsNumber rest n

-- a whole number itself, and that of a text
abbrev pub IsWholeBy : Kind → List ℕ → ℤ → Type 0
IsWholeBy (kind.Whole m) text n = n ≡ m
IsWholeBy kind.Text text n = IsSigned text (num.Whole n)
IsWholeBy _ text n = ⊥

abbrev pub IsInt : Value → Forest → Type 0
IsInt v tree = (n : ℤ) × IsWholeBy v.kind v.text n × (tree ≡ whole_tree n)

-- a decimal as it is, and a whole number below 10^18 in size as a decimal
abbrev pub IsDecimal : Num → Decimal → Type 0
IsDecimal (num.Whole n) d = (unsigned_abs n < 10 ^ 18) × (d ≡ record { units = n; scale = 0 })
IsDecimal (num.Fraction e) d = d ≡ e

-- of a number, and of that of a text
abbrev pub IsDecimalBy : Kind → List ℕ → Decimal → Type 0
IsDecimalBy (kind.Whole n) text d = IsDecimal (num.Whole n) d
IsDecimalBy (kind.Fraction e) text d = IsDecimal (num.Fraction e) d
IsDecimalBy kind.Text text d = (n : Num) × IsSigned text n × IsDecimal n d
IsDecimalBy _ text d = ⊥

abbrev pub IsFloat : Value → Forest → Type 0
IsFloat v tree = (d : Decimal) × IsDecimalBy v.kind v.text d × (tree ≡ decimal_tree d)

-- a truth value itself, and that of a text that is `true` or `false` in any ASCII case
abbrev pub truth_in : List ℕ → Option Bool
truth_in text =
    if str_eq_ignore_ascii_case text (codes "true") then Some true else
    (if str_eq_ignore_ascii_case text (codes "false") then Some false else None)

abbrev pub truth_by : Kind → List ℕ → Option Bool
truth_by (kind.Truth b) text = Some b
truth_by kind.Text text = truth_in text
truth_by _ text = None

abbrev pub IsBoolean : Value → Forest → Type 0
IsBoolean v tree = (b : Bool) × (truth_by v.kind v.text ≡ Some b) × (tree ≡ truth_tree b)

-- digits with zeros in front, so that there are at least so many
abbrev pub filled : ℕ → List ℕ → List ℕ
filled n digits = replicate (n - length digits) 48 ++ digits

-- digits with a point before so many at their end
abbrev pub with_point : ℕ → List ℕ → List ℕ
with_point n digits = take (length digits - n) digits ++ (46 ∷ drop (length digits - n) digits)

-- a point before the last `scale` digits, zeros in front so that one digit stands before the point; none where the scale is 0
abbrev pub scaled_text : ℕ → List ℕ → List ℕ
scaled_text zero digits = digits
scaled_text (suc n) digits = with_point (suc n) (filled (suc (suc n)) digits)

-- a decimal as it is printed
abbrev pub decimal_text : Decimal → List ℕ
decimal_text d = minus_text (is_negative d.units) ++ scaled_text d.scale (decimal (unsigned_abs d.units))

abbrev pub truth_text : Bool → List ℕ
truth_text true = codes "true"
truth_text false = codes "false"

-- a text itself; a whole number, a decimal and a truth value as printed
abbrev pub printed_by : Kind → List ℕ → Option (List ℕ)
printed_by kind.Text text = Some text
printed_by (kind.Whole n) text = Some (signed_decimal n)
printed_by (kind.Fraction d) text = Some (decimal_text d)
printed_by (kind.Truth b) text = Some (truth_text b)
printed_by _ text = None

abbrev pub IsPrinted : Value → Forest → Type 0
IsPrinted v tree = (text : List ℕ) × (printed_by v.kind v.text ≡ Some text) × (tree ≡ text_tree text)

-- each match of a pattern replaced by what a template says of it, by the rules of the crate of regular expressions
abbrev pub replaced_with : List ℕ → List ℕ → Re × Names → List ℕ
replaced_with template hay p = replaced_by (λ m. written_after p.1 (group_bytes hay m) template 0) hay 0 (find_all_str p.0 hay)

-- the same, where the text of the pattern says one
abbrev pub replaced_in : (pattern template hay : List ℕ) → Option (List ℕ)
replaced_in pattern template hay = option_map (replaced_with template hay) (pattern_in pattern)

abbrev pub IsReplacement : (pattern template : Option (List ℕ)) → List ℕ → Forest → Type 0
IsReplacement (Some pattern) (Some template) text tree = (p : Re × Names) × (pattern_in pattern ≡ Some p) × (tree ≡ text_tree (replaced_with template text p))
IsReplacement _ _ text tree = ⊥

abbrev pub IsReplaced : (pattern template : Option (List ℕ)) → Value → Forest → Type 0
IsReplaced pattern template v tree = ForText (IsReplacement pattern template) (text_of v) tree

-- ---- rows

-- a new tree, or that the call of a site does not apply
abbrev pub new_or_missing : ℕ → Option Forest → MadeRow
new_or_missing call (Some tree) = New tree
new_or_missing call None = Kept (row.Unmade call)

-- there is no such tree, or it is this one
abbrev pub IsGiven : (Forest → Type 0) → Option Forest → Type 0
IsGiven Gives None = (tree : Forest) → Gives tree → ⊥
IsGiven Gives (Some tree) = Gives tree

-- what stands for a value: the tree that it is given, and where there is none, that the call does not apply
abbrev pub IsRowFor : (Value → Forest → Type 0) → ℕ → Option Value → MadeRow → Type 0
IsRowFor Gives call (Some v) made = (given : Option Forest) × IsGiven (Gives v) given × (made ≡ new_or_missing call given)
IsRowFor Gives call None made = made ≡ Kept (row.Unmade call)

-- a missing row stays as it is
abbrev pub IsRow : (Value → Forest → Type 0) → StoreModel → ℕ → Row → MadeRow → Type 0
IsRow Gives known call (row.Found r) made = IsRowFor Gives call (stands_for known r) made
IsRow Gives known call (row.Missing v step) made = made ≡ Kept (row.Missing v step)
IsRow Gives known call (row.Unmade inner) made = made ≡ Kept (row.Unmade inner)

-- one for each
abbrev pub AreRows : (Value → Forest → Type 0) → StoreModel → ℕ → List Row → List MadeRow → Type 0
AreRows Gives known call [] [] = Unit {0}
AreRows Gives known call [] (m ∷ made) = ⊥
AreRows Gives known call (r ∷ rows) [] = ⊥
AreRows Gives known call (r ∷ rows) (m ∷ made) = IsRow Gives known call r m × AreRows Gives known call rows made

-- a text in front of others, if they are there
abbrev pub with_text : Option (List ℕ) → Option (List (List ℕ)) → Option (List (List ℕ))
with_text None texts = None
with_text (Some text) None = None
with_text (Some text) (Some texts) = Some (text ∷ texts)

-- the texts that rows stand for, where each stands for one
abbrev pub text_in : StoreModel → Row → Option (List ℕ)
text_in known r = option_and_then text_of (meant known r)

abbrev pub texts_in : StoreModel → List Row → Option (List (List ℕ))
texts_in known [] = Some []
texts_in known (r ∷ rows) = with_text (text_in known r) (texts_in known rows)

-- texts in a row, another between each two
abbrev pub joined : (texts : Option (List (List ℕ))) → (between : Option (List ℕ)) → Option Forest
joined (Some texts) (Some between) = Some (text_tree (join_by (λ text. text) between texts))
joined _ _ = None

-- the one row of `count`: how many rows are found
abbrev pub counted : List Row → List MadeRow
counted rows = New (whole_tree (pos (count_by is_found rows))) ∷ []

-- the one row of `join`
abbrev pub joined_row : StoreModel → ℕ → (rows between : List Row) → List MadeRow
joined_row known call rows between = new_or_missing call (joined (texts_in known rows) (single_text known between)) ∷ []

-- what a function of one value after another gives for a value, its further arguments these
abbrev pub Gives : StoreModel → Function → List (List Row) → Value → Forest → Type 0
Gives known function.JsonParse args v tree = IsJson v tree
Gives known function.RegexReplace args v tree = IsReplaced (single_text known (argument args 1)) (single_text known (argument args 2)) v tree
Gives known function.ToLower args v tree = IsLower v tree
Gives known function.ToUpper args v tree = IsUpper v tree
Gives known function.Substring args v tree = IsSubstring (single_whole known (argument args 1)) (single_whole known (argument args 2)) v tree
Gives known function.UrlDecode args v tree = IsDecoded v tree
Gives known function.ParseInt args v tree = IsInt v tree
Gives known function.ParseFloat args v tree = IsFloat v tree
Gives known function.ParseBoolean args v tree = IsBoolean v tree
Gives known function.ParseString args v tree = IsPrinted v tree
Gives known function.Count args v tree = ⊥
Gives known function.Join args v tree = ⊥

-- what the call of a function at a site answers
abbrev pub Functions : StoreModel → Function → ℕ → List (List Row) → List MadeRow → Type 0
Functions known function.Count call args made = made ≡ counted (argument args 0)
Functions known function.Join call args made = made ≡ joined_row known call (argument args 0) (argument args 1)
Functions known f call args made = AreRows (Gives known f args) known call (argument args 0) made
