-- What a function gives for one value: whether there is a tree can be told, and there are no two.
use Rattle.std.proofs.Common.{◌≡◌, ℕ, ◌<◌, ◌≤◌, ◌^◌, ℤ, pos, negsuc, Bool, true, false, List, length, map, Option, Some, None, ◌⊎◌, Result, Ok, Err, refl, sym, ap, subst, ◌∙◌, arith, nat_le, slice_index, unsigned_abs, slice_range, true≢false, inl, inr}
use Rattle.std.proofs.lemmas.Bool.{cases_lt}
use Rattle.std.proofs.lemmas.Bool.Decides.{nat_tests}
use Rattle.std.proofs.lemmas.Str.{IsUtf8-from_is_utf8, is_utf8-from_IsUtf8}
use Rattle.std.specs.Char.{to_ascii_lowercase, to_ascii_uppercase}
use Rattle.std.specs.Str.{IsCharBoundary, is_utf8}
use Rattle.percent_encoding.specs.Percent.{percent_decode}
use Rattle.regex.specs.Patterns.{Re}
use Rattle.regex_syntax.specs.Grammar.{Names}
use Rattle.doc_values.specs.declared.kind.Kind.{Kind}
use Rattle.doc_values.specs.declared.kind.Kind.TheVariants as kind
use Rattle.decimals.specs.declared.decimal.Num.{Num}
use Rattle.decimals.specs.declared.decimal.Num.TheVariants as num
use Rattle.decimals.specs.Decimal.{Decimal}
use Rattle.decimals.specs.Number.{IsNumber, IsSpelled, Parts}
use Rattle.doc_values.specs.Tree.{Forest}
use Rattle.decimals.proofs.Numbers.{IsNumber-unique}
use Rattle.doc_values.specs.Limits.{template_limit}
use Rattle.json_reader.specs.declared.refusal.JsonRefusal.{JsonRefusal}
use Rattle.json_reader.specs.Json.{IsInRange, Json, StandsFor}
use Rattle.json_reader.specs.code.Numbers.{number_kind}
use Rattle.json_reader.specs.code.Reading.{verdict}
use Rattle.json_reader.proofs.Limits.{unique}
use Rattle.json_reader.proofs.NumberKinds.{number_sound, known_whole, known_fraction}
use Rattle.json_reader.proofs.Verdicts.{verdict_ok, verdict_err}
use Rattle.rule_meaning.specs.PatternMatch.{pattern_in}
use Rattle.rule_meaning.specs.Functions.{ForText, IsBoolean, IsDecimal, IsDecimalBy, IsDecoded, IsFloat, IsGiven, IsInt, IsJson, IsLower, IsParsed, IsPart, IsPrinted, IsReplaced, IsReplacement, IsSigned, IsSubstring, IsUnescaped, IsUpper, IsWholeBy, behind_plus, decimal_tree, printed_by, replaced_with, text_of, text_tree, truth_by, truth_tree, whole_tree}
use Rattle.rule_meaning.specs.Values.{Value}

-- of a relation: the tree that it gives, or that it gives none
abbrev pub IsTold : (Forest → Type 0) → Type 0
IsTold Gives = (given : Option Forest) × IsGiven Gives given

-- and no two trees
abbrev pub IsOne : (Forest → Type 0) → Type 0
IsOne Gives = (a b : Forest) → Gives a → Gives b → a ≡ b

-- ---- for a text

text-told : (Gives : List ℕ → Forest → Type 0) → ((text : List ℕ) → IsTold (Gives text)) → (o : Option (List ℕ)) → IsTold (ForText Gives o)
text-told Gives told None = (None, λ tree h. h)
text-told Gives told (Some text) = told text

text-one : (Gives : List ℕ → Forest → Type 0) → ((text : List ℕ) → IsOne (Gives text)) → (o : Option (List ℕ)) → IsOne (ForText Gives o)
text-one Gives one None a b x y = absurd x
text-one Gives one (Some text) a b x y = one text a b x y

-- ---- JSON

module _ (limit : ℕ) (text : List ℕ) where
  abbrev IsRead : Forest → Type 0
  IsRead tree = (length text ≤ limit) × Json text tree

  read-told : (within : Bool) → nat_le (length text) limit ≡ within → (r : Result Forest JsonRefusal) → verdict text ≡ r → IsTold IsRead
  read-told false out r is = (None, λ tree h. absurd (let e = h.0 in grind (arith, nat_tests, e)))
  read-told true within (Ok tree) is = (Some tree, (grind (arith, nat_tests, within), verdict_ok text tree is))
  read-told true within (Err e) is = (None, λ tree h. verdict_err text e is tree h.1)

parsed-told : (text : List ℕ) → IsTold (IsParsed text)
parsed-told text = read-told template_limit text (nat_le (length text) template_limit) refl (verdict text) refl

parsed-one : (text : List ℕ) → IsOne (IsParsed text)
parsed-one text a b x y = unique text a b x.1 y.1

-- ---- what can be told

abbrev Dec : Type 0 → Type 0
Dec P = P ⊎ (P → ⊥)

le-told : (a b : ℕ) → Dec (a ≤ b)
le-told a b = elim (cases_lt b a) [ inl q ↦ inr (λ h. absurd (omega (arith, q, h))) | inr q ↦ inl (omega (arith, q)) ]

-- an implication of what can be told
if-told : (P Q : Type 0) → Dec P → Dec Q → Dec (P → Q)
if-told P Q p q = elim q [ inl y ↦ inl (λ x. y) | inr n ↦ elim p [ inl x ↦ inr (λ f. n (f x)) | inr m ↦ inl (λ x. absurd (m x)) ] ]

and-told : (P Q : Type 0) → Dec P → Dec Q → Dec (P × Q)
and-told P Q p q = elim p [ inr n ↦ inr (λ h. n h.0) | inl x ↦ elim q [ inl y ↦ inl (x, y) | inr n ↦ inr (λ h. n h.1) ] ]

lt-told : (a b : ℕ) → Dec (a < b)
lt-told a b = elim (cases_lt a b) [ inl q ↦ inl q | inr q ↦ inr (λ h. absurd (omega (arith, q, h))) ]

boundary-told : (bs : List ℕ) (i : ℕ) → Dec (IsCharBoundary bs i)
boundary-told bs i =
    and-told (i ≤ length bs) (i < length bs → 128 ≤ slice_index bs i → 192 ≤ slice_index bs i) (le-told i (length bs))
    (if-told (i < length bs) (128 ≤ slice_index bs i → 192 ≤ slice_index bs i) (lt-told i (length bs))
    (if-told (128 ≤ slice_index bs i) (192 ≤ slice_index bs i) (le-told 128 (slice_index bs i)) (le-told 192 (slice_index bs i))))

-- one tree, under a condition
under-told : (P : Type 0) (tree : Forest) → Dec P → IsTold (λ t. P × (t ≡ tree))
under-told P tree p = elim p [ inl x ↦ (Some tree, (x, refl)) | inr n ↦ (None, λ t h. n h.0) ]

-- ---- texts

part-told : (from to : Option ℤ) (text : List ℕ) → IsTold (IsPart from to text)
part-told None to text = (None, λ t h. h)
part-told (Some (negsuc n)) to text = (None, λ t h. h)
part-told (Some (pos from)) None text = (None, λ t h. h)
part-told (Some (pos from)) (Some (negsuc n)) text = (None, λ t h. h)
part-told (Some (pos from)) (Some (pos to)) text =
    elim (le-told from to) [
      | inr n ↦ (None, λ t h. n h.0)
      | inl p ↦
          elim (le-told to (length text)) [
            | inr n ↦ (None, λ t h. n h.1)
            | inl q ↦
                elim (boundary-told text from) [
                  | inr n ↦ (None, λ t h. n h.2)
                  | inl r ↦
                      elim (boundary-told text to) [ inr n ↦ (None, λ t h. n h.3) | inl s ↦ (Some (text_tree (slice_range text from to)), (p, q, r, s, refl)) ]
                ]
          ]
    ]

part-one : (from to : Option ℤ) (text : List ℕ) → IsOne (IsPart from to text)
part-one None to text a b x y = absurd x
part-one (Some (negsuc n)) to text a b x y = absurd x
part-one (Some (pos from)) None text a b x y = absurd x
part-one (Some (pos from)) (Some (negsuc n)) text a b x y = absurd x
part-one (Some (pos from)) (Some (pos to)) text a b x y = x.4 ∙ sym y.4

unescaped-told : (text : List ℕ) → IsTold (IsUnescaped text)
unescaped-told text = by (is_utf8 (percent_decode text)) refl
  where
    by : (b : Bool) → is_utf8 (percent_decode text) ≡ b → IsTold (IsUnescaped text)
    by true is = (Some (text_tree (percent_decode text)), (IsUtf8-from_is_utf8 (percent_decode text) is, refl))
    by false is = (None, λ t h. true≢false (sym (is_utf8-from_IsUtf8 (percent_decode text) h.0) ∙ is))

replacement-told : (pattern template : Option (List ℕ)) (text : List ℕ) → IsTold (IsReplacement pattern template text)
replacement-told None template text = (None, λ t h. h)
replacement-told (Some pattern) None text = (None, λ t h. h)
replacement-told (Some pattern) (Some template) text = by (pattern_in pattern) refl
  where
    by : (o : Option (Re × Names)) → pattern_in pattern ≡ o → IsTold (IsReplacement (Some pattern) (Some template) text)
    by None is = (None, λ t h. let e = sym is ∙ h.1 in absurd cc)
    by (Some p) is = (Some (text_tree (replaced_with template text p)), (p, is, refl))

replacement-one : (pattern template : Option (List ℕ)) (text : List ℕ) → IsOne (IsReplacement pattern template text)
replacement-one None template text a b x y = absurd x
replacement-one (Some pattern) None text a b x y = absurd x
replacement-one (Some pattern) (Some template) text a b x y =
    let same : x.0 ≡ y.0 = let e = sym x.1 ∙ y.1 in cc in
    x.2 ∙ ap (λ (p : Re × Names). text_tree (replaced_with template text p)) same ∙ sym y.2

-- ---- numbers

-- the number of a text in range
number-told : (text : List ℕ) → ((n : Num) × IsNumber text n) ⊎ ((n : Num) → IsNumber text n → ⊥)
number-told text = by (number_kind text) refl
  where
    by : (o : Option Kind) → number_kind text ≡ o → ((n : Num) × IsNumber text n) ⊎ ((n : Num) → IsNumber text n → ⊥)
    by None is = inr none
      where
        none : (n : Num) → IsNumber text n → ⊥
        none (num.Whole n) h = let e = sym is ∙ known_whole text n h in absurd cc
        none (num.Fraction d) h = let e = sym is ∙ known_fraction text d h in absurd cc
    by (Some k) is = inl (at k (number_sound text k is))
      where
        at : (k : Kind) → (p : Parts) × IsSpelled text p × StandsFor p k × IsInRange k → (n : Num) × IsNumber text n
        at (kind.Whole n) h = (num.Whole n, record { parts = h.0; spelled = h.1; value = (h.2.0, h.2.1, h.2.2, h.3) })
        at (kind.Fraction d) h = (num.Fraction d, record { parts = h.0; spelled = h.1; value = (h.2.0, h.2.1, h.3) })
        at kind.Null h = absurd h.2
        at (kind.Truth b) h = absurd h.2
        at kind.Text h = absurd h.2
        at kind.List h = absurd h.2
        at kind.Map h = absurd h.2
        at kind.Pattern h = absurd h.2
        at (kind.Limits limits) h = absurd h.2

-- that of a text with a sign
signed-told : (text : List ℕ) → ((n : Num) × IsSigned text n) ⊎ ((n : Num) → IsSigned text n → ⊥)
signed-told text = by (behind_plus text) refl
  where
    by : (o : Option (List ℕ)) → behind_plus text ≡ o → ((n : Num) × IsSigned text n) ⊎ ((n : Num) → IsSigned text n → ⊥)
    by None is = inr (λ n h. let e = sym is ∙ h.1 in absurd cc)
    by (Some rest) is = elim (number-told rest) [
      | inl h ↦ inl (h.0, (rest, is, h.1))
      | inr none ↦ inr (λ n h. let e = sym is ∙ h.1 in let same : h.0 ≡ rest = cc in none n (subst (λ (r : List ℕ). IsNumber r n) same h.2))
    ]

signed-one : (text : List ℕ) (m n : Num) → IsSigned text m → IsSigned text n → m ≡ n
signed-one text m n h i =
    let e = sym h.1 ∙ i.1 in
    let same : h.0 ≡ i.0 = cc in
    IsNumber-unique i.0 m n (subst (λ (r : List ℕ). IsNumber r m) same h.2) i.2

-- a whole number
whole-told : (k : Kind) (text : List ℕ) → ((n : ℤ) × IsWholeBy k text n) ⊎ ((n : ℤ) → IsWholeBy k text n → ⊥)
whole-told (kind.Whole n) text = inl (n, refl)
whole-told kind.Text text = elim (signed-told text) [
  | inr none ↦ inr (λ n h. none (num.Whole n) h)
  | inl h ↦ at h.0 h.1
]
  where
    at : (m : Num) → IsSigned text m → ((n : ℤ) × IsSigned text (num.Whole n)) ⊎ ((n : ℤ) → IsSigned text (num.Whole n) → ⊥)
    at (num.Whole n) h = inl (n, h)
    at (num.Fraction d) h = inr (λ n i. let e = signed-one text (num.Fraction d) (num.Whole n) h i in absurd cc)
whole-told kind.Null text = inr (λ n h. h)
whole-told (kind.Truth b) text = inr (λ n h. h)
whole-told (kind.Fraction d) text = inr (λ n h. h)
whole-told kind.List text = inr (λ n h. h)
whole-told kind.Map text = inr (λ n h. h)
whole-told kind.Pattern text = inr (λ n h. h)
whole-told (kind.Limits limits) text = inr (λ n h. h)

whole-one : (k : Kind) (text : List ℕ) (m n : ℤ) → IsWholeBy k text m → IsWholeBy k text n → m ≡ n
whole-one (kind.Whole z) text m n h i = h ∙ sym i
whole-one kind.Text text m n h i = let e = signed-one text (num.Whole m) (num.Whole n) h i in cc
whole-one kind.Null text m n h i = absurd h
whole-one (kind.Truth b) text m n h i = absurd h
whole-one (kind.Fraction d) text m n h i = absurd h
whole-one kind.List text m n h i = absurd h
whole-one kind.Map text m n h i = absurd h
whole-one kind.Pattern text m n h i = absurd h
whole-one (kind.Limits limits) text m n h i = absurd h

-- a decimal
decimal-told : (m : Num) → ((d : Decimal) × IsDecimal m d) ⊎ ((d : Decimal) → IsDecimal m d → ⊥)
decimal-told (num.Whole n) = elim (lt-told (unsigned_abs n) (10 ^ 18)) [
  | inl within ↦ inl (record { units = n; scale = 0 }, (within, refl))
  | inr out ↦ inr (λ d h. out h.0)
]
decimal-told (num.Fraction d) = inl (d, refl)

decimal-one : (m : Num) (c d : Decimal) → IsDecimal m c → IsDecimal m d → c ≡ d
decimal-one (num.Whole n) c d h i = h.1 ∙ sym i.1
decimal-one (num.Fraction e) c d h i = h ∙ sym i

decimal-by-told : (k : Kind) (text : List ℕ) → ((d : Decimal) × IsDecimalBy k text d) ⊎ ((d : Decimal) → IsDecimalBy k text d → ⊥)
decimal-by-told (kind.Whole n) text = decimal-told (num.Whole n)
decimal-by-told (kind.Fraction d) text = decimal-told (num.Fraction d)
decimal-by-told kind.Text text = elim (signed-told text) [
  | inr none ↦ inr (λ d h. none h.0 h.1)
  | inl h ↦ elim (decimal-told h.0) [
    | inl i ↦ inl (i.0, (h.0, h.1, i.1))
    | inr none ↦ inr (λ d i. none d (subst (λ (m : Num). IsDecimal m d) (signed-one text i.0 h.0 i.1 h.1) i.2))
  ]
]
decimal-by-told kind.Null text = inr (λ d h. h)
decimal-by-told (kind.Truth b) text = inr (λ d h. h)
decimal-by-told kind.List text = inr (λ d h. h)
decimal-by-told kind.Map text = inr (λ d h. h)
decimal-by-told kind.Pattern text = inr (λ d h. h)
decimal-by-told (kind.Limits limits) text = inr (λ d h. h)

decimal-by-one : (k : Kind) (text : List ℕ) (c d : Decimal) → IsDecimalBy k text c → IsDecimalBy k text d → c ≡ d
decimal-by-one (kind.Whole n) text c d h i = decimal-one (num.Whole n) c d h i
decimal-by-one (kind.Fraction e) text c d h i = decimal-one (num.Fraction e) c d h i
decimal-by-one kind.Text text c d h i = decimal-one i.0 c d (subst (λ (m : Num). IsDecimal m c) (signed-one text h.0 i.0 h.1 i.1) h.2) i.2
decimal-by-one kind.Null text c d h i = absurd h
decimal-by-one (kind.Truth b) text c d h i = absurd h
decimal-by-one kind.List text c d h i = absurd h
decimal-by-one kind.Map text c d h i = absurd h
decimal-by-one kind.Pattern text c d h i = absurd h
decimal-by-one (kind.Limits limits) text c d h i = absurd h

-- ---- the functions

module _ (v : Value) where
  pub json-told : IsTold (IsJson v)
  json-told = text-told IsParsed parsed-told (text_of v)

  pub json-one : IsOne (IsJson v)
  json-one = text-one IsParsed parsed-one (text_of v)

  pub lower-told : IsTold (IsLower v)
  lower-told = text-told (λ text tree. tree ≡ text_tree (map to_ascii_lowercase text)) (λ text. (Some (text_tree (map to_ascii_lowercase text)), refl)) (text_of v)

  pub lower-one : IsOne (IsLower v)
  lower-one = text-one (λ text tree. tree ≡ text_tree (map to_ascii_lowercase text)) (λ text a b x y. x ∙ sym y) (text_of v)

  pub upper-told : IsTold (IsUpper v)
  upper-told = text-told (λ text tree. tree ≡ text_tree (map to_ascii_uppercase text)) (λ text. (Some (text_tree (map to_ascii_uppercase text)), refl)) (text_of v)

  pub upper-one : IsOne (IsUpper v)
  upper-one = text-one (λ text tree. tree ≡ text_tree (map to_ascii_uppercase text)) (λ text a b x y. x ∙ sym y) (text_of v)

  pub substring-told : (from to : Option ℤ) → IsTold (IsSubstring from to v)
  substring-told from to = text-told (IsPart from to) (part-told from to) (text_of v)

  pub substring-one : (from to : Option ℤ) → IsOne (IsSubstring from to v)
  substring-one from to = text-one (IsPart from to) (part-one from to) (text_of v)

  pub decoded-told : IsTold (IsDecoded v)
  decoded-told = text-told IsUnescaped unescaped-told (text_of v)

  pub decoded-one : IsOne (IsDecoded v)
  decoded-one = text-one IsUnescaped (λ text a b x y. x.1 ∙ sym y.1) (text_of v)

  pub replaced-told : (pattern template : Option (List ℕ)) → IsTold (IsReplaced pattern template v)
  replaced-told pattern template = text-told (IsReplacement pattern template) (replacement-told pattern template) (text_of v)

  pub replaced-one : (pattern template : Option (List ℕ)) → IsOne (IsReplaced pattern template v)
  replaced-one pattern template = text-one (IsReplacement pattern template) (replacement-one pattern template) (text_of v)

  pub int-told : IsTold (IsInt v)
  int-told = elim (whole-told v.kind v.text) [ inl h ↦ (Some (whole_tree h.0), (h.0, h.1, refl)) | inr none ↦ (None, λ tree h. none h.0 h.1) ]

  pub int-one : IsOne (IsInt v)
  int-one a b x y = x.2 ∙ ap whole_tree (whole-one v.kind v.text x.0 y.0 x.1 y.1) ∙ sym y.2

  pub float-told : IsTold (IsFloat v)
  float-told = elim (decimal-by-told v.kind v.text) [ inl h ↦ (Some (decimal_tree h.0), (h.0, h.1, refl)) | inr none ↦ (None, λ tree h. none h.0 h.1) ]

  pub float-one : IsOne (IsFloat v)
  float-one a b x y = x.2 ∙ ap decimal_tree (decimal-by-one v.kind v.text x.0 y.0 x.1 y.1) ∙ sym y.2

  pub boolean-told : IsTold (IsBoolean v)
  boolean-told = by (truth_by v.kind v.text) refl
    where
      by : (o : Option Bool) → truth_by v.kind v.text ≡ o → IsTold (IsBoolean v)
      by None is = (None, λ tree h. let e = sym is ∙ h.1 in absurd cc)
      by (Some b) is = (Some (truth_tree b), (b, is, refl))

  pub boolean-one : IsOne (IsBoolean v)
  boolean-one a b x y = let e = sym x.1 ∙ y.1 in let same : x.0 ≡ y.0 = cc in x.2 ∙ ap truth_tree same ∙ sym y.2

  pub printed-told : IsTold (IsPrinted v)
  printed-told = by (printed_by v.kind v.text) refl
    where
      by : (o : Option (List ℕ)) → printed_by v.kind v.text ≡ o → IsTold (IsPrinted v)
      by None is = (None, λ tree h. let e = sym is ∙ h.1 in absurd cc)
      by (Some text) is = (Some (text_tree text), (text, is, refl))

  pub printed-one : IsOne (IsPrinted v)
  printed-one a b x y = let e = sym x.1 ∙ y.1 in let same : x.0 ≡ y.0 = cc in x.2 ∙ ap text_tree same ∙ sym y.2
