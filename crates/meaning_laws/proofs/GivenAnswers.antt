-- The answer that is worked out is that of the table.
use Rattle.std.proofs.Common.{◌≡◌, ℕ, ℤ, pos, negsuc, ◌≤◌, ◌^◌, Bool, true, false, List, [], ◌∷◌, length, map, nat_le, nat_lt, slice_range, get_or, unsigned_abs, Option, Some, None, option_map, MatchOption, Result, Ok, Err, refl, sym, subst, ◌∙◌, arith}
use Rattle.std.specs.Prelude.{◌&&◌, ◌||◌, not, option_and_then, if◌then◌else◌}
use Rattle.std.specs.Char.{to_ascii_lowercase, to_ascii_uppercase}
use Rattle.std.specs.Str.{IsCharBoundary, is_utf8}
use Rattle.std.proofs.lemmas.Bool.{and_parts, and_from}
use Rattle.std.proofs.lemmas.Bool.Decides.{nat_tests}
use Rattle.std.proofs.lemmas.Str.{IsUtf8-from_is_utf8, is_utf8-from_IsUtf8}
use Rattle.percent_encoding.specs.Percent.{percent_decode}
use Rattle.json_reader.proofs.NumberKinds.{number_sound, known_whole, known_fraction}
use Rattle.json_reader.proofs.Verdicts.{verdict_ok, verdict_err}
use Rattle.json_reader.specs.Json.{Json, StandsFor, IsInRange}
use Rattle.json_reader.specs.code.Numbers.{number_kind}
use Rattle.json_reader.specs.code.Reading.{verdict}
use Rattle.json_reader.specs.declared.refusal.JsonRefusal.{JsonRefusal}
use Rattle.decimals.specs.Decimal.{Decimal}
use Rattle.doc_values.specs.Limits.{template_limit}
use Rattle.decimals.specs.Number.{IsNumber, IsSpelled, Parts}
use Rattle.doc_values.specs.Tree.{Forest}
use Rattle.decimals.specs.declared.decimal.Num.{Num}
use Rattle.decimals.specs.declared.decimal.Num.TheVariants as num
use Rattle.doc_values.specs.declared.kind.Kind.{Kind}
use Rattle.doc_values.specs.declared.kind.Kind.TheVariants as kind
use Rattle.guard_syntax.specs.declared.function.Function.{Function}
use Rattle.guard_syntax.specs.declared.function.Function.TheVariants as function
use Rattle.guard_syntax.specs.declared.row.Row.{Row}
use Rattle.guard_syntax.specs.declared.row.Row.TheVariants as row
use Rattle.meaning_laws.specs.code.Answered.{answered, answered_for, answered_row, cut, decimal_of_num, decimal_read, decoded, given_by, is_boundary, lowered, num_of, parsed, raised, replaced, signed, tree_if_ok, whole_of_num, whole_read}
use Rattle.rule_meaning.specs.PatternMatch.{pattern_in}
use Rattle.rule_meaning.specs.Functions.{AreRows, ForText, Functions, Gives, IsDecimal, IsDecimalBy, IsGiven, IsParsed, IsPart, IsReplacement, IsRow, IsRowFor, IsSigned, IsUnescaped, IsWholeBy, argument, behind_plus, decimal_tree, printed_by, replaced_with, single_text, single_whole, text_of, text_tree, truth_by, truth_tree, whole_tree}
use Rattle.rule_meaning.specs.StoreModel.{StoreModel, stands_for}
use Rattle.rule_meaning.specs.Values.{Value}
use Rattle.pattern_books.proofs.OneAnswer.{IsSigned-unique}

-- ---- texts

text-given : (G : List ℕ → Forest → Type 0) (g : List ℕ → Option Forest) → ((text : List ℕ) → IsGiven (G text) (g text)) → (o : Option (List ℕ)) → IsGiven (ForText G o) (option_and_then g o)
text-given G g each None = λ tree is. is
text-given G g each (Some text) = by (g text) (each text)
  where
    by : (q : Option Forest) → IsGiven (G text) q → IsGiven (ForText G (Some text)) q
    by None none = none
    by (Some tree) is = is

of_verdict : (text : List ℕ) (limit : ℕ) (b : Bool) (r : Result Forest JsonRefusal) → nat_le (length text) limit ≡ b → verdict text ≡ r
    → IsGiven (λ tree. (length text ≤ limit) × Json text tree) (if b then tree_if_ok r else None)
of_verdict text limit true (Ok tree) within is = (grind (arith, nat_tests, within), verdict_ok text tree is)
of_verdict text limit true (Err refusal) within is = λ tree json. verdict_err text refusal is tree json.1
of_verdict text limit false r past is = λ tree json. let within = json.0 in absurd (grind (arith, nat_tests, past, within))

parsed-given : (text : List ℕ) → IsGiven (IsParsed text) (parsed text)
parsed-given text = from (parsed text) (of_verdict text template_limit (nat_le (length text) template_limit) (verdict text) refl refl)
  where
    from : (q : Option Forest) → IsGiven (λ tree. (length text ≤ template_limit) × Json text tree) q → IsGiven (IsParsed text) q
    from None none = none
    from (Some tree) is = is

boundary-sound : (text : List ℕ) (i : ℕ) → is_boundary text i ≡ true → IsCharBoundary text i
boundary-sound text i e =
    let p = and_parts (nat_le i (length text)) (not (nat_lt i (length text) && nat_le 128 (get_or text i 0)) || nat_le 192 (get_or text i 0)) e in
    let within = p.0 in
    let rest = p.1 in
    (grind (arith, nat_tests, within), λ before least. grind (arith, nat_tests, rest, before, least))

boundary-complete : (text : List ℕ) (i : ℕ) → IsCharBoundary text i → is_boundary text i ≡ true
boundary-complete text i (within, high) =
    let first : nat_le i (length text) ≡ true = grind (arith, nat_tests, within) in
    and_from _ _ first (by (nat_lt i (length text)) (nat_le 128 (get_or text i 0)) refl refl)
  where
    by : (a b : Bool) → nat_lt i (length text) ≡ a → nat_le 128 (get_or text i 0) ≡ b → (not (a && b) || nat_le 192 (get_or text i 0)) ≡ true
    by true true before least = let least_high = high (grind (arith, nat_tests, before)) (grind (arith, nat_tests, least)) in grind (arith, nat_tests, least_high)
    by true false before least = refl
    by false b before least = refl

part_at-given : (from to : ℕ) (text : List ℕ) (b : Bool) → (nat_le from to && (nat_le to (length text) && (is_boundary text from && is_boundary text to))) ≡ b
    → IsGiven (IsPart (Some (pos from)) (Some (pos to)) text) (if b then Some (text_tree (slice_range text from to)) else None)
part_at-given from to text true e =
    let p = and_parts (nat_le from to) (nat_le to (length text) && (is_boundary text from && is_boundary text to)) e in
    let q = and_parts (nat_le to (length text)) (is_boundary text from && is_boundary text to) p.1 in
    let r = and_parts (is_boundary text from) (is_boundary text to) q.1 in
    let ordered = p.0 in
    let within = q.0 in
    (grind (arith, nat_tests, ordered), grind (arith, nat_tests, within), boundary-sound text from r.0, boundary-sound text to r.1, refl)
part_at-given from to text false e = λ tree (ordered, within, first, last, is).
    let a : nat_le from to ≡ true = grind (arith, nat_tests, ordered) in
    let b : nat_le to (length text) ≡ true = grind (arith, nat_tests, within) in
    let c = and_from _ _ a (and_from _ _ b (and_from _ _ (boundary-complete text from first) (boundary-complete text to last))) in
    absurd (let f : false ≡ true = sym e ∙ c in cc)

part-given : (from to : Option ℤ) (text : List ℕ) → IsGiven (IsPart from to text) (cut from to text)
part-given (Some (pos a)) (Some (pos b)) text = part_at-given a b text (nat_le a b && (nat_le b (length text) && (is_boundary text a && is_boundary text b))) refl
part-given (Some (pos a)) (Some (negsuc b)) text = λ tree is. is
part-given (Some (pos a)) None text = λ tree is. is
part-given (Some (negsuc a)) to text = λ tree is. is
part-given None to text = λ tree is. is

decoded-given : (text : List ℕ) → IsGiven (IsUnescaped text) (decoded text)
decoded-given text = by (is_utf8 (percent_decode text)) refl
  where
    by : (b : Bool) → is_utf8 (percent_decode text) ≡ b → IsGiven (IsUnescaped text) (if b then Some (text_tree (percent_decode text)) else None)
    by true e = (IsUtf8-from_is_utf8 (percent_decode text) e, refl)
    by false e = λ tree is. absurd (let f : false ≡ true = sym e ∙ is_utf8-from_IsUtf8 (percent_decode text) is.0 in cc)

-- ---- values that are there or not

option-given : {X : Type 0} (o : Option X) (make : X → Forest) → IsGiven (λ tree. (x : X) × (o ≡ Some x) × (tree ≡ make x)) (option_map make o)
option-given None make = λ tree (x, e, is). absurd cc
option-given (Some x) make = (x, refl, refl)

replacement-given : (pattern template : Option (List ℕ)) (text : List ℕ) → IsGiven (IsReplacement pattern template text) (replaced pattern template text)
replacement-given (Some pattern) (Some template) text = by (pattern_in pattern) refl
  where
    by : (o : Option _) → pattern_in pattern ≡ o → IsGiven (IsReplacement (Some pattern) (Some template) text) (option_map text_tree (option_map (replaced_with template text) o))
    by None e = λ tree (p, read, is). absurd (let f : None ≡ Some p = sym e ∙ read in cc)
    by (Some p) e = (p, e, refl)
replacement-given (Some pattern) None text = λ tree is. is
replacement-given None template text = λ tree is. is

-- what is worked out of a value makes the tree
made-given : {X : Type 0} (Is : X → Type 0) (make : X → Forest) (o : Option X) → MatchOption o ((x : X) → Is x → ⊥) Is → IsGiven (λ tree. (x : X) × Is x × (tree ≡ make x)) (option_map make o)
made-given Is make None none = λ tree (x, is, e). none x is
made-given Is make (Some x) is = (x, is, refl)

-- ---- numbers

number_of_kind : (text : List ℕ) (k : Kind) → number_kind text ≡ Some k → MatchOption (num_of k) ((n : Num) → IsNumber text n → ⊥) (λ n. IsNumber text n)
number_of_kind text k e = by k (number_sound text k e)
  where
    by : (j : Kind) → ((p : Parts) × IsSpelled text p × StandsFor p j × IsInRange j) → MatchOption (num_of j) ((n : Num) → IsNumber text n → ⊥) (λ n. IsNumber text n)
    by (kind.Whole n) (p, spelled, (fraction, power, is), range) = record { parts = p; spelled = spelled; value = (fraction, power, is, range) }
    by (kind.Fraction d) (p, spelled, (some, is), range) = record { parts = p; spelled = spelled; value = (some, is, range) }
    by _ (p, spelled, stands, range) = elim stands [ ]

no-number : (text : List ℕ) → number_kind text ≡ None → (n : Num) → IsNumber text n → ⊥
no-number text e (num.Whole n) is = let f : None ≡ Some (kind.Whole n) = sym e ∙ known_whole text n is in cc
no-number text e (num.Fraction d) is = let f : None ≡ Some (kind.Fraction d) = sym e ∙ known_fraction text d is in cc

signed-given : (text : List ℕ) → MatchOption (signed text) ((n : Num) → IsSigned text n → ⊥) (λ n. IsSigned text n)
signed-given text = by (behind_plus text) refl
  where
    of_number : (rest : List ℕ) (q : Option Num) → behind_plus text ≡ Some rest → MatchOption q ((n : Num) → IsNumber rest n → ⊥) (λ n. IsNumber rest n) → MatchOption q ((n : Num) → IsSigned text n → ⊥) (λ n. IsSigned text n)
    of_number rest None e none = λ n (other, f, is). let s : other ≡ rest = let t : Some other ≡ Some rest = sym f ∙ e in cc in none n (subst (λ r. IsNumber r n) s is)
    of_number rest (Some n) e is = (rest, e, is)

    of_kind : (rest : List ℕ) (q : Option Kind) → behind_plus text ≡ Some rest → number_kind rest ≡ q → MatchOption (option_and_then num_of q) ((n : Num) → IsSigned text n → ⊥) (λ n. IsSigned text n)
    of_kind rest None e f = of_number rest None e (no-number rest f)
    of_kind rest (Some k) e f = of_number rest (num_of k) e (number_of_kind rest k f)

    by : (o : Option (List ℕ)) → behind_plus text ≡ o → MatchOption (option_and_then (λ rest. option_and_then num_of (number_kind rest)) o) ((n : Num) → IsSigned text n → ⊥) (λ n. IsSigned text n)
    by None e = λ n (rest, f, is). let g : None ≡ Some rest = sym e ∙ f in cc
    by (Some rest) e = of_kind rest (number_kind rest) e refl

whole_of-given : (text : List ℕ) (o : Option Num) → MatchOption o ((n : Num) → IsSigned text n → ⊥) (λ n. IsSigned text n)
    → MatchOption (option_and_then whole_of_num o) ((n : ℤ) → IsSigned text (num.Whole n) → ⊥) (λ n. IsSigned text (num.Whole n))
whole_of-given text None none = λ n is. none (num.Whole n) is
whole_of-given text (Some (num.Whole n)) is = is
whole_of-given text (Some (num.Fraction d)) is = λ n other. let e : num.Fraction d ≡ num.Whole n = IsSigned-unique text (num.Fraction d) (num.Whole n) is other in cc

whole-given : (k : Kind) (text : List ℕ) → MatchOption (whole_read k text) ((n : ℤ) → IsWholeBy k text n → ⊥) (λ n. IsWholeBy k text n)
whole-given (kind.Whole n) text = refl
whole-given kind.Text text = whole_of-given text (signed text) (signed-given text)
whole-given kind.Null text = λ n is. is
whole-given (kind.Truth b) text = λ n is. is
whole-given (kind.Fraction d) text = λ n is. is
whole-given kind.List text = λ n is. is
whole-given kind.Map text = λ n is. is
whole-given kind.Pattern text = λ n is. is
whole-given (kind.Limits r) text = λ n is. is

decimal_num-given : (n : Num) → MatchOption (decimal_of_num n) ((d : Decimal) → IsDecimal n d → ⊥) (λ d. IsDecimal n d)
decimal_num-given (num.Whole n) = by (nat_lt (unsigned_abs n) (10 ^ 18)) refl
  where
    by : (b : Bool) → nat_lt (unsigned_abs n) (10 ^ 18) ≡ b
        → MatchOption (if b then Some (record { units = n; scale = 0 }) else None) ((d : Decimal) → IsDecimal (num.Whole n) d → ⊥) (λ d. IsDecimal (num.Whole n) d)
    by true e = (grind (arith, nat_tests, e), refl)
    by false e = λ d (small, is). absurd (grind (arith, nat_tests, e, small))
decimal_num-given (num.Fraction d) = refl

decimal_of-given : (text : List ℕ) (o : Option Num) → MatchOption o ((n : Num) → IsSigned text n → ⊥) (λ n. IsSigned text n)
    → MatchOption (option_and_then decimal_of_num o) ((d : Decimal) → IsDecimalBy kind.Text text d → ⊥) (λ d. IsDecimalBy kind.Text text d)
decimal_of-given text None none = λ d (n, signed, is). none n signed
decimal_of-given text (Some n) signed = by (decimal_of_num n) (decimal_num-given n)
  where
    by : (q : Option Decimal) → MatchOption q ((d : Decimal) → IsDecimal n d → ⊥) (λ d. IsDecimal n d) → MatchOption q ((d : Decimal) → IsDecimalBy kind.Text text d → ⊥) (λ d. IsDecimalBy kind.Text text d)
    by None none = λ d (m, other, is). none d (subst (λ k. IsDecimal k d) (IsSigned-unique text m n other signed) is)
    by (Some d) is = (n, signed, is)

decimal-given : (k : Kind) (text : List ℕ) → MatchOption (decimal_read k text) ((d : Decimal) → IsDecimalBy k text d → ⊥) (λ d. IsDecimalBy k text d)
decimal-given (kind.Whole n) text = by (decimal_of_num (num.Whole n)) (decimal_num-given (num.Whole n))
  where
    by : (q : Option Decimal) → MatchOption q ((d : Decimal) → IsDecimal (num.Whole n) d → ⊥) (λ d. IsDecimal (num.Whole n) d) → MatchOption q ((d : Decimal) → IsDecimalBy (kind.Whole n) text d → ⊥) (λ d. IsDecimalBy (kind.Whole n) text d)
    by None none = none
    by (Some d) is = is
decimal-given (kind.Fraction d) text = refl
decimal-given kind.Text text = decimal_of-given text (signed text) (signed-given text)
decimal-given kind.Null text = λ d is. is
decimal-given (kind.Truth b) text = λ d is. is
decimal-given kind.List text = λ d is. is
decimal-given kind.Map text = λ d is. is
decimal-given kind.Pattern text = λ d is. is
decimal-given (kind.Limits r) text = λ d is. is

-- ---- one value

given-is : (known : StoreModel) (f : Function) (args : List (List Row)) (v : Value) → IsGiven (Gives known f args v) (given_by known f args v)
given-is known function.JsonParse args v = text-given IsParsed parsed parsed-given (text_of v)
given-is known function.RegexReplace args v = text-given (IsReplacement (single_text known (argument args 1)) (single_text known (argument args 2))) _ (replacement-given (single_text known (argument args 1)) (single_text known (argument args 2))) (text_of v)
given-is known function.ToLower args v = text-given (λ text tree. tree ≡ text_tree (map to_ascii_lowercase text)) lowered (λ text. refl) (text_of v)
given-is known function.ToUpper args v = text-given (λ text tree. tree ≡ text_tree (map to_ascii_uppercase text)) raised (λ text. refl) (text_of v)
given-is known function.Substring args v = text-given (IsPart (single_whole known (argument args 1)) (single_whole known (argument args 2))) _ (part-given (single_whole known (argument args 1)) (single_whole known (argument args 2))) (text_of v)
given-is known function.UrlDecode args v = text-given IsUnescaped decoded decoded-given (text_of v)
given-is known function.ParseInt args v = made-given (IsWholeBy v.kind v.text) whole_tree (whole_read v.kind v.text) (whole-given v.kind v.text)
given-is known function.ParseFloat args v = made-given (IsDecimalBy v.kind v.text) decimal_tree (decimal_read v.kind v.text) (decimal-given v.kind v.text)
given-is known function.ParseBoolean args v = option-given (truth_by v.kind v.text) truth_tree
given-is known function.ParseString args v = option-given (printed_by v.kind v.text) text_tree
given-is known function.Count args v = λ tree is. is
given-is known function.Join args v = λ tree is. is

-- ---- rows

module _ (G : Value → Forest → Type 0) (g : Value → Option Forest) (each : (v : Value) → IsGiven (G v) (g v)) (known : StoreModel) (call : ℕ) where
  answered_for-is : (o : Option Value) → IsRowFor G call o (answered_for g call o)
  answered_for-is None = refl
  answered_for-is (Some v) = (g v, each v, refl)

  answered_row-is : (r : Row) → IsRow G known call r (answered_row g known call r)
  answered_row-is (row.Found v) = answered_for-is (stands_for known v)
  answered_row-is (row.Missing v step) = refl
  answered_row-is (row.Unmade inner) = refl

  answered_rows-are : (rows : List Row) → AreRows G known call rows (map (answered_row g known call) rows)
  answered_rows-are [] = tt
  answered_rows-are (r ∷ rows) = (answered_row-is r, answered_rows-are rows)

by_value : (known : StoreModel) (f : Function) (call : ℕ) (args : List (List Row)) → AreRows (Gives known f args) known call (argument args 0) (map (answered_row (given_by known f args) known call) (argument args 0))
by_value known f call args = answered_rows-are (Gives known f args) (given_by known f args) (given-is known f args) known call (argument args 0)

-- ---- calls

pub answered-is : (known : StoreModel) (f : Function) (call : ℕ) (args : List (List Row)) → Functions known f call args (answered known f call args)
answered-is known function.Count call args = refl
answered-is known function.Join call args = refl
answered-is known function.JsonParse call args = by_value known function.JsonParse call args
answered-is known function.RegexReplace call args = by_value known function.RegexReplace call args
answered-is known function.ToLower call args = by_value known function.ToLower call args
answered-is known function.ToUpper call args = by_value known function.ToUpper call args
answered-is known function.Substring call args = by_value known function.Substring call args
answered-is known function.UrlDecode call args = by_value known function.UrlDecode call args
answered-is known function.ParseInt call args = by_value known function.ParseInt call args
answered-is known function.ParseFloat call args = by_value known function.ParseFloat call args
answered-is known function.ParseBoolean call args = by_value known function.ParseBoolean call args
answered-is known function.ParseString call args = by_value known function.ParseString call args
