-- A text has one kind: the words of the table begin with different letters, and no number begins with a letter.
use Rattle.std.proofs.Common.{◌≡◌, inl, inr, ℕ, Bool, true, false, ◌||◌, List, [], ◌∷◌, ◌++◌, refl, sym, ap, ◌∙◌, subst, true≢false, nat_eq, if◌then◌else◌}
use Rattle.doc_values.specs.declared.kind.Kind.{Kind}
use Rattle.doc_values.specs.declared.kind.Kind.TheVariants as kind
use Rattle.decimals.specs.declared.decimal.Num.{Num}
use Rattle.decimals.specs.declared.decimal.Num.TheVariants as num
use Rattle.decimals.specs.Number.{is_digit, minus_text, IsWholePart, IsNumber}
use Rattle.decimals.proofs.Numbers.{IsNumber-unique}
use Rattle.yaml_scalars.specs.Lines.{begins_with}
use Rattle.yaml_scalars.specs.Kinds.{IsTrueWord, IsFalseWord, IsNullWord, IsSignedNumber, IsPlainKind}
use Rattle.yaml_scalars.specs.Scalar.{HasKind}

-- 1 for the words of null, 2 and 3 for those of true and false, 4 for what begins a number
abbrev class_of : ℕ → ℕ
class_of b =
    if is_digit b then 4 else
    (if nat_eq b 45 || nat_eq b 43 then 4 else
    (if nat_eq b 110 || nat_eq b 78 || nat_eq b 126 then 1 else
    (if nat_eq b 116 || nat_eq b 84 then 2 else
    (if nat_eq b 102 || nat_eq b 70 then 3 else 0))))

abbrev class : List ℕ → ℕ
class [] = 1
class (b ∷ bs) = class_of b

null_class : (t : List ℕ) → IsNullWord t → class t ≡ 1
null_class t (inl e) = ap class e
null_class t (inr (inl e)) = ap class e
null_class t (inr (inr (inl e))) = ap class e
null_class t (inr (inr (inr (inl e)))) = ap class e
null_class t (inr (inr (inr (inr e)))) = ap class e

true_class : (t : List ℕ) → IsTrueWord t → class t ≡ 2
true_class t (inl e) = ap class e
true_class t (inr (inl e)) = ap class e
true_class t (inr (inr e)) = ap class e

false_class : (t : List ℕ) → IsFalseWord t → class t ≡ 3
false_class t (inl e) = ap class e
false_class t (inr (inl e)) = ap class e
false_class t (inr (inr e)) = ap class e

digit_class : (b : ℕ) (bs : List ℕ) → is_digit b ≡ true → class (b ∷ bs) ≡ 4
digit_class b bs e = ap (λ q. if q then 4 else (if nat_eq b 45 || nat_eq b 43 then 4 else (if nat_eq b 110 || nat_eq b 78 || nat_eq b 126 then 1 else (if nat_eq b 116 || nat_eq b 84 then 2 else (if nat_eq b 102 || nat_eq b 70 then 3 else 0))))) e

whole_class : (minus : Bool) (whole rest : List ℕ) → IsWholePart whole → class (minus_text minus ++ (whole ++ rest)) ≡ 4
whole_class true whole rest w = refl
whole_class false [] rest w = absurd w
whole_class false (b ∷ bs) rest w = digit_class b (bs ++ rest) w.0

spelled_class : (t : List ℕ) (n : Num) → IsNumber t n → class t ≡ 4
spelled_class t n h = ap class h.spelled.joined ∙ whole_class h.parts.minus h.parts.whole _ h.spelled.whole

number_class : (t : List ℕ) (n : Num) → IsSignedNumber t n → class t ≡ 4
number_class t n (inl h) = spelled_class t n h
number_class t n (inr (rest, e, m, h)) = ap class e

-- a plus begins no number text of its own
abbrev begins_digit : List ℕ → Bool
begins_digit [] = false
begins_digit (c ∷ cs) = is_digit c

minus_first : (minus : Bool) (whole rest more : List ℕ) → IsWholePart whole → 43 ∷ rest ≡ minus_text minus ++ (whole ++ more) → ⊥
minus_first true whole rest more w e = true≢false (ap (begins_with 43) e)
minus_first false [] rest more w e = absurd w
minus_first false (b ∷ bs) rest more w e = true≢false (sym w.0 ∙ sym (ap begins_digit e))

plus_alone : (m : Num) (rest : List ℕ) → IsNumber (43 ∷ rest) m → ⊥
plus_alone m rest g = minus_first g.parts.minus g.parts.whole rest _ g.spelled.whole g.spelled.joined

abbrev tail_of : List ℕ → List ℕ
tail_of [] = []
tail_of (b ∷ bs) = bs

number_once : (t : List ℕ) (m n : Num) → IsSignedNumber t m → IsSignedNumber t n → m ≡ n
number_once t m n (inl g) (inl h) = IsNumber-unique t m n g h
number_once t m n (inl g) (inr (rest, e, w, h)) = absurd (plus_alone m rest (subst (λ x. IsNumber x m) e g))
number_once t m n (inr (rest, e, w, g)) (inl h) = absurd (plus_alone n rest (subst (λ x. IsNumber x n) e h))
number_once t m n (inr (rest, e, w, g)) (inr (more, f, x, h)) =
    IsNumber-unique more m n (subst (λ y. IsNumber y m) (ap tail_of (sym e ∙ f)) g) h

-- the class of a kind, and its number
abbrev kind_class : Kind → ℕ
kind_class kind.Null = 1
kind_class (kind.Truth true) = 2
kind_class (kind.Truth false) = 3
kind_class (kind.Whole n) = 4
kind_class (kind.Fraction d) = 4
kind_class _ = 0

apart_at : (t : List ℕ) {a b : ℕ} → class t ≡ a → class t ≡ b → nat_eq a b ≡ false → nat_eq a a ≡ true → ⊥
apart_at t {a = a} {b = b} e f g h = true≢false (sym h ∙ ap (nat_eq a) (sym e ∙ f) ∙ g)

pub one_kind : (t : List ℕ) (k l : Kind) → IsPlainKind t k → IsPlainKind t l → k ≡ l
one_kind t kind.Null kind.Null g h = refl
one_kind t kind.Null (kind.Truth true) g h = absurd (apart_at t (null_class t g) (true_class t h) refl refl)
one_kind t kind.Null (kind.Truth false) g h = absurd (apart_at t (null_class t g) (false_class t h) refl refl)
one_kind t kind.Null (kind.Whole n) g h = absurd (apart_at t (null_class t g) (number_class t _ h) refl refl)
one_kind t kind.Null (kind.Fraction d) g h = absurd (apart_at t (null_class t g) (number_class t _ h) refl refl)
one_kind t kind.Null kind.Text g h = absurd (h.0 g)
one_kind t (kind.Truth true) kind.Null g h = absurd (apart_at t (true_class t g) (null_class t h) refl refl)
one_kind t (kind.Truth true) (kind.Truth true) g h = refl
one_kind t (kind.Truth true) (kind.Truth false) g h = absurd (apart_at t (true_class t g) (false_class t h) refl refl)
one_kind t (kind.Truth true) (kind.Whole n) g h = absurd (apart_at t (true_class t g) (number_class t _ h) refl refl)
one_kind t (kind.Truth true) (kind.Fraction d) g h = absurd (apart_at t (true_class t g) (number_class t _ h) refl refl)
one_kind t (kind.Truth true) kind.Text g h = absurd (h.1 g)
one_kind t (kind.Truth false) kind.Null g h = absurd (apart_at t (false_class t g) (null_class t h) refl refl)
one_kind t (kind.Truth false) (kind.Truth true) g h = absurd (apart_at t (false_class t g) (true_class t h) refl refl)
one_kind t (kind.Truth false) (kind.Truth false) g h = refl
one_kind t (kind.Truth false) (kind.Whole n) g h = absurd (apart_at t (false_class t g) (number_class t _ h) refl refl)
one_kind t (kind.Truth false) (kind.Fraction d) g h = absurd (apart_at t (false_class t g) (number_class t _ h) refl refl)
one_kind t (kind.Truth false) kind.Text g h = absurd (h.2 g)
one_kind t (kind.Whole n) kind.Null g h = absurd (apart_at t (number_class t _ g) (null_class t h) refl refl)
one_kind t (kind.Whole n) (kind.Truth true) g h = absurd (apart_at t (number_class t _ g) (true_class t h) refl refl)
one_kind t (kind.Whole n) (kind.Truth false) g h = absurd (apart_at t (number_class t _ g) (false_class t h) refl refl)
one_kind t (kind.Whole n) (kind.Whole m) g h = let e : num.Whole n ≡ num.Whole m = number_once t _ _ g h in let same : n ≡ m = cc in ap kind.Whole same
one_kind t (kind.Whole n) (kind.Fraction d) g h = absurd (let e : num.Whole n ≡ num.Fraction d = number_once t _ _ g h in cc)
one_kind t (kind.Whole n) kind.Text g h = absurd (h.3 (num.Whole n) g)
one_kind t (kind.Fraction d) kind.Null g h = absurd (apart_at t (number_class t _ g) (null_class t h) refl refl)
one_kind t (kind.Fraction d) (kind.Truth true) g h = absurd (apart_at t (number_class t _ g) (true_class t h) refl refl)
one_kind t (kind.Fraction d) (kind.Truth false) g h = absurd (apart_at t (number_class t _ g) (false_class t h) refl refl)
one_kind t (kind.Fraction d) (kind.Whole m) g h = absurd (let e : num.Fraction d ≡ num.Whole m = number_once t _ _ g h in cc)
one_kind t (kind.Fraction d) (kind.Fraction e) g h = let f : num.Fraction d ≡ num.Fraction e = number_once t _ _ g h in let same : d ≡ e = cc in ap kind.Fraction same
one_kind t (kind.Fraction d) kind.Text g h = absurd (h.3 (num.Fraction d) g)
one_kind t kind.Text kind.Null g h = absurd (g.0 h)
one_kind t kind.Text (kind.Truth true) g h = absurd (g.1 h)
one_kind t kind.Text (kind.Truth false) g h = absurd (g.2 h)
one_kind t kind.Text (kind.Whole n) g h = absurd (g.3 (num.Whole n) h)
one_kind t kind.Text (kind.Fraction d) g h = absurd (g.3 (num.Fraction d) h)
one_kind t kind.Text kind.Text g h = refl
one_kind t kind.List l g h = absurd g
one_kind t kind.Map l g h = absurd g
one_kind t kind.Pattern l g h = absurd g
one_kind t (kind.Limits r) l g h = absurd g
one_kind t k kind.List g h = absurd h
one_kind t k kind.Map g h = absurd h
one_kind t k kind.Pattern g h = absurd h
one_kind t k (kind.Limits r) g h = absurd h

pub same_kind : (typed : Bool) (t : List ℕ) (k l : Kind) → HasKind typed t k → HasKind typed t l → k ≡ l
same_kind true t k l g h = one_kind t k l g h
same_kind false t k l g h = g ∙ sym h
