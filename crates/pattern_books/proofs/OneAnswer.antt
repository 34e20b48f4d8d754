-- Two answers of a call are the same.
use Rattle.std.proofs.Common.{◌≡◌, ℕ, ℤ, pos, negsuc, List, [], ◌∷◌, Option, Some, None, refl, sym, ap, ap₂, subst, ◌∙◌}
use Rattle.json_reader.proofs.Limits.{unique}
use Rattle.decimals.proofs.Numbers.{IsNumber-unique}
use Rattle.decimals.specs.Decimal.{Decimal}
use Rattle.decimals.specs.Number.{IsNumber}
use Rattle.doc_values.specs.Tree.{Forest}
use Rattle.decimals.specs.declared.decimal.Num.{Num}
use Rattle.decimals.specs.declared.decimal.Num.TheVariants as num
use Rattle.doc_values.specs.declared.kind.Kind.{Kind}
use Rattle.doc_values.specs.declared.kind.Kind.TheVariants as kind
use Rattle.guard_syntax.specs.declared.function.Function.{Function}
use Rattle.guard_syntax.specs.declared.function.Function.TheVariants as function
use Rattle.guard_syntax.specs.declared.row.Row.{Row}
use Rattle.guard_syntax.specs.declared.row.Row.TheVariants as row
use Rattle.regex.specs.Patterns.{Re}
use Rattle.regex_syntax.specs.Grammar.{Names}
use Rattle.rule_meaning.specs.PatternMatch.{pattern_in}
use Rattle.rule_meaning.specs.Functions.{AreRows, ForText, Functions, Gives, IsDecimal, IsDecimalBy, IsGiven, IsParsed, IsPart, IsReplacement, IsRow, IsRowFor, IsSigned, IsUnescaped, IsWholeBy, MadeRow, argument, decimal_tree, new_or_missing, printed_by, replaced_with, single_text, single_whole, text_of, text_tree, truth_by, truth_tree, whole_tree}
use Rattle.rule_meaning.specs.StoreModel.{StoreModel, stands_for}
use Rattle.rule_meaning.specs.Values.{Value}

some-same : {X : Type 0} (o : Option X) (x y : X) → o ≡ Some x → o ≡ Some y → x ≡ y
some-same o x y e f = let s : Some x ≡ Some y = sym e ∙ f in cc

-- ---- one value

-- a text has one number at most
pub IsSigned-unique : (text : List ℕ) (a b : Num) → IsSigned text a → IsSigned text b → a ≡ b
IsSigned-unique text a b (ra, sa, ia) (rb, sb, ib) = let e : ra ≡ rb = cc in IsNumber-unique rb a b (subst (λ r. IsNumber r a) e ia) ib

whole-same : (n m : ℤ) → num.Whole n ≡ num.Whole m → n ≡ m
whole-same n m e = cc

IsWholeBy-unique : (k : Kind) (text : List ℕ) (n m : ℤ) → IsWholeBy k text n → IsWholeBy k text m → n ≡ m
IsWholeBy-unique (kind.Whole w) text n m is other = is ∙ sym other
IsWholeBy-unique kind.Text text n m is other = whole-same n m (IsSigned-unique text (num.Whole n) (num.Whole m) is other)
IsWholeBy-unique _ text n m is other = elim is [ ]

IsDecimal-unique : (n : Num) (d e : Decimal) → IsDecimal n d → IsDecimal n e → d ≡ e
IsDecimal-unique (num.Whole n) d e is other = is.1 ∙ sym other.1
IsDecimal-unique (num.Fraction f) d e is other = is ∙ sym other

IsDecimalBy-unique : (k : Kind) (text : List ℕ) (d e : Decimal) → IsDecimalBy k text d → IsDecimalBy k text e → d ≡ e
IsDecimalBy-unique (kind.Whole n) text d e is other = IsDecimal-unique (num.Whole n) d e is other
IsDecimalBy-unique (kind.Fraction f) text d e is other = IsDecimal-unique (num.Fraction f) d e is other
IsDecimalBy-unique kind.Text text d e (n, signed, is) (m, others, other) =
    IsDecimal-unique m d e (subst (λ k. IsDecimal k d) (IsSigned-unique text n m signed others) is) other
IsDecimalBy-unique _ text d e is other = elim is [ ]

IsPart-unique : (from to : Option ℤ) (text : List ℕ) (x y : Forest) → IsPart from to text x → IsPart from to text y → x ≡ y
IsPart-unique (Some (pos a)) (Some (pos b)) text x y (ordered, within, first, last, is) (ordered2, within2, first2, last2, other) = is ∙ sym other
IsPart-unique (Some (pos a)) (Some (negsuc b)) text x y is other = absurd is
IsPart-unique (Some (pos a)) None text x y is other = absurd is
IsPart-unique (Some (negsuc a)) to text x y is other = absurd is
IsPart-unique None to text x y is other = absurd is

IsReplacement-unique : (pattern template : Option (List ℕ)) (text : List ℕ) (x y : Forest) → IsReplacement pattern template text x → IsReplacement pattern template text y → x ≡ y
IsReplacement-unique (Some pattern) (Some template) text x y (p, read, is) (q, reads, other) =
    is ∙ ap (λ (r : Re × Names). text_tree (replaced_with template text r)) (some-same (pattern_in pattern) p q read reads) ∙ sym other
IsReplacement-unique (Some pattern) None text x y is other = absurd is
IsReplacement-unique None template text x y is other = absurd is

text-unique : (G : List ℕ → Forest → Type 0) → ((text : List ℕ) (x y : Forest) → G text x → G text y → x ≡ y) → (o : Option (List ℕ)) (x y : Forest) → ForText G o x → ForText G o y → x ≡ y
text-unique G each None x y is other = absurd is
text-unique G each (Some text) x y is other = each text x y is other

-- a function gives one tree at most for a value
Gives-unique : (known : StoreModel) (f : Function) (args : List (List Row)) (v : Value) (x y : Forest) → Gives known f args v x → Gives known f args v y → x ≡ y
Gives-unique known function.JsonParse args v x y is other = text-unique IsParsed (λ text s t a b. unique text s t a.1 b.1) (text_of v) x y is other
Gives-unique known function.RegexReplace args v x y is other =
    text-unique (IsReplacement (single_text known (argument args 1)) (single_text known (argument args 2))) (IsReplacement-unique (single_text known (argument args 1)) (single_text known (argument args 2))) (text_of v) x y is other
Gives-unique known function.ToLower args v x y is other = text-unique _ (λ text s t a b. a ∙ sym b) (text_of v) x y is other
Gives-unique known function.ToUpper args v x y is other = text-unique _ (λ text s t a b. a ∙ sym b) (text_of v) x y is other
Gives-unique known function.Substring args v x y is other =
    text-unique (IsPart (single_whole known (argument args 1)) (single_whole known (argument args 2))) (IsPart-unique (single_whole known (argument args 1)) (single_whole known (argument args 2))) (text_of v) x y is other
Gives-unique known function.UrlDecode args v x y is other = text-unique IsUnescaped (λ text s t a b. a.1 ∙ sym b.1) (text_of v) x y is other
Gives-unique known function.ParseInt args v x y (n, is, made) (m, other, made2) = made ∙ ap whole_tree (IsWholeBy-unique v.kind v.text n m is other) ∙ sym made2
Gives-unique known function.ParseFloat args v x y (d, is, made) (e, other, made2) = made ∙ ap decimal_tree (IsDecimalBy-unique v.kind v.text d e is other) ∙ sym made2
Gives-unique known function.ParseBoolean args v x y (b, is, made) (c, other, made2) = made ∙ ap truth_tree (some-same (truth_by v.kind v.text) b c is other) ∙ sym made2
Gives-unique known function.ParseString args v x y (t, is, made) (u, other, made2) = made ∙ ap text_tree (some-same (printed_by v.kind v.text) t u is other) ∙ sym made2
Gives-unique known function.Count args v x y is other = absurd is
Gives-unique known function.Join args v x y is other = absurd is

-- ---- rows

given-unique : (P : Forest → Type 0) → ((x y : Forest) → P x → P y → x ≡ y) → (o q : Option Forest) → IsGiven P o → IsGiven P q → o ≡ q
given-unique P one None None none other = refl
given-unique P one None (Some y) none is = absurd (none y is)
given-unique P one (Some x) None is none = absurd (none x is)
given-unique P one (Some x) (Some y) is other = ap (λ t. Some t) (one x y is other)

module _ (G : Value → Forest → Type 0) (one : (v : Value) (x y : Forest) → G v x → G v y → x ≡ y) (known : StoreModel) (call : ℕ) where
  row_for-unique : (o : Option Value) (a b : MadeRow) → IsRowFor G call o a → IsRowFor G call o b → a ≡ b
  row_for-unique None a b is other = is ∙ sym other
  row_for-unique (Some v) a b (given, fits, is) (given2, fits2, other) = is ∙ ap (new_or_missing call) (given-unique (G v) (one v) given given2 fits fits2) ∙ sym other

  row-unique : (r : Row) (a b : MadeRow) → IsRow G known call r a → IsRow G known call r b → a ≡ b
  row-unique (row.Found v) a b is other = row_for-unique (stands_for known v) a b is other
  row-unique (row.Missing v step) a b is other = is ∙ sym other
  row-unique (row.Unmade inner) a b is other = is ∙ sym other

  rows-unique : (rows : List Row) (ms ns : List MadeRow) → AreRows G known call rows ms → AreRows G known call rows ns → ms ≡ ns
  rows-unique [] [] [] is other = refl
  rows-unique [] (a ∷ ms) ns is other = absurd is
  rows-unique [] [] (b ∷ ns) is other = absurd other
  rows-unique (r ∷ rows) [] ns is other = absurd is
  rows-unique (r ∷ rows) (a ∷ ms) [] is other = absurd other
  rows-unique (r ∷ rows) (a ∷ ms) (b ∷ ns) is other = ap₂ ◌∷◌ (row-unique r a b is.0 other.0) (rows-unique rows ms ns is.1 other.1)

-- ---- calls

pub answers-same : (known : StoreModel) (f : Function) (call : ℕ) (args : List (List Row)) (a b : List MadeRow) → Functions known f call args a → Functions known f call args b → a ≡ b
answers-same known function.Count call args a b is other = is ∙ sym other
answers-same known function.Join call args a b is other = is ∙ sym other
answers-same known function.JsonParse call args a b is other = rows-unique (Gives known function.JsonParse args) (Gives-unique known function.JsonParse args) known call (argument args 0) a b is other
answers-same known function.RegexReplace call args a b is other = rows-unique (Gives known function.RegexReplace args) (Gives-unique known function.RegexReplace args) known call (argument args 0) a b is other
answers-same known function.ToLower call args a b is other = rows-unique (Gives known function.ToLower args) (Gives-unique known function.ToLower args) known call (argument args 0) a b is other
answers-same known function.ToUpper call args a b is other = rows-unique (Gives known function.ToUpper args) (Gives-unique known function.ToUpper args) known call (argument args 0) a b is other
answers-same known function.Substring call args a b is other = rows-unique (Gives known function.Substring args) (Gives-unique known function.Substring args) known call (argument args 0) a b is other
answers-same known function.UrlDecode call args a b is other = rows-unique (Gives known function.UrlDecode args) (Gives-unique known function.UrlDecode args) known call (argument args 0) a b is other
answers-same known function.ParseInt call args a b is other = rows-unique (Gives known function.ParseInt args) (Gives-unique known function.ParseInt args) known call (argument args 0) a b is other
answers-same known function.ParseFloat call args a b is other = rows-unique (Gives known function.ParseFloat args) (Gives-unique known function.ParseFloat args) known call (argument args 0) a b is other
answers-same known function.ParseBoolean call args a b is other = rows-unique (Gives known function.ParseBoolean args) (Gives-unique known function.ParseBoolean args) known call (argument args 0) a b is other
answers-same known function.ParseString call args a b is other = rows-unique (Gives known function.ParseString args) (Gives-unique known function.ParseString args) known call (argument args 0) a b is other
