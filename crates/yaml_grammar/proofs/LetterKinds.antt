-- A plain scalar whose text ends in the letter a is a text: no word of the table does, and a number ends in a digit. By induction over bytes.
use Rattle.std.proofs.Common.{◌≡◌, ℕ, inl, inr, Bool, true, false, List, [], ◌∷◌, ◌++◌, refl, sym, ap, ◌∙◌, nat_eq, true≢false, arith}
use Rattle.std.proofs.lemmas.Bool.Decides.{nat_tests}
use Rattle.doc_values.specs.declared.kind.Kind.TheVariants as kind
use Rattle.decimals.specs.declared.decimal.Num.{Num}
use Rattle.decimals.specs.Number.{is_digit, AreDigits, minus_text, IsWholePart, fraction_text, IsPowerText, IsNumber}
use Rattle.yaml_scalars.specs.Lines.{ends_with}
use Rattle.yaml_scalars.specs.Kinds.{IsTrueWord, IsFalseWord, IsNullWord, IsSignedNumber}
use Rattle.yaml_scalars.specs.Scalar.{HasKind}

ends_append : (x y : List ℕ) → ends_with 97 x ≡ false → ends_with 97 y ≡ false → ends_with 97 (x ++ y) ≡ false
ends_append [] y g h = h
ends_append (b ∷ []) [] g h = g
ends_append (b ∷ []) (c ∷ y) g h = h
ends_append (b ∷ d ∷ x) y g h = ends_append (d ∷ x) y g h

ends_more : (b : ℕ) (y : List ℕ) → nat_eq b 97 ≡ false → ends_with 97 y ≡ false → ends_with 97 (b ∷ y) ≡ false
ends_more b [] g h = g
ends_more b (c ∷ y) g h = h

digit_last : (b : ℕ) → is_digit b ≡ true → nat_eq b 97 ≡ false
digit_last b h = grind (arith, nat_tests, h)

digits_end : (ds : List ℕ) → AreDigits ds → ends_with 97 ds ≡ false
digits_end [] h = refl
digits_end (b ∷ ds) h = ends_more b ds (digit_last b h.0) (digits_end ds h.1)

whole_end : (ds : List ℕ) → IsWholePart ds → ends_with 97 ds ≡ false
whole_end [] h = refl
whole_end (b ∷ ds) h = ends_more b ds (digit_last b h.0) (digits_end ds h.1)

fraction_end : (ds : List ℕ) → AreDigits ds → ends_with 97 (fraction_text ds) ≡ false
fraction_end [] h = refl
fraction_end (b ∷ ds) h = ends_more 46 (b ∷ ds) refl (digits_end (b ∷ ds) h)

letter_is : (e : ℕ) (y : List ℕ) → ends_with 97 y ≡ false → (x : ℕ) → e ≡ x → nat_eq x 97 ≡ false → ends_with 97 (e ∷ y) ≡ false
letter_is e y h x i n = ends_more e y (ap (λ k. nat_eq k 97) i ∙ n) h

power_end : (down : Bool) (ds text : List ℕ) → AreDigits ds → IsPowerText down ds text → ends_with 97 text ≡ false
power_end true [] text a (d, e) = ap (ends_with 97) e
power_end false [] text a (d, e) = ap (ends_with 97) e
power_end true (b ∷ ds) text a (x, inl i, e) = ap (ends_with 97) e ∙ letter_is x (45 ∷ (b ∷ ds)) (digits_end (b ∷ ds) a) 101 i refl
power_end true (b ∷ ds) text a (x, inr i, e) = ap (ends_with 97) e ∙ letter_is x (45 ∷ (b ∷ ds)) (digits_end (b ∷ ds) a) 69 i refl
power_end false (b ∷ ds) text a (x, inl i, inl e) = ap (ends_with 97) e ∙ letter_is x (b ∷ ds) (digits_end (b ∷ ds) a) 101 i refl
power_end false (b ∷ ds) text a (x, inl i, inr e) = ap (ends_with 97) e ∙ letter_is x (43 ∷ (b ∷ ds)) (digits_end (b ∷ ds) a) 101 i refl
power_end false (b ∷ ds) text a (x, inr i, inl e) = ap (ends_with 97) e ∙ letter_is x (b ∷ ds) (digits_end (b ∷ ds) a) 69 i refl
power_end false (b ∷ ds) text a (x, inr i, inr e) = ap (ends_with 97) e ∙ letter_is x (43 ∷ (b ∷ ds)) (digits_end (b ∷ ds) a) 69 i refl

minus_end : (m : Bool) → ends_with 97 (minus_text m) ≡ false
minus_end true = refl
minus_end false = refl

number_end : (t : List ℕ) (n : Num) → IsNumber t n → ends_with 97 t ≡ false
number_end t n h =
    let s = h.spelled in
    let p = h.parts in
    ap (ends_with 97) s.joined
    ∙ ends_append (minus_text p.minus) (p.whole ++ (fraction_text p.fraction ++ s.exponent)) (minus_end p.minus)
    (ends_append p.whole (fraction_text p.fraction ++ s.exponent) (whole_end p.whole s.whole) (ends_append (fraction_text p.fraction) s.exponent (fraction_end p.fraction s.fraction) (power_end p.down p.power s.exponent s.power s.exponent_is)))

signed_end : (t : List ℕ) (n : Num) → IsSignedNumber t n → ends_with 97 t ≡ false
signed_end t n (inl h) = number_end t n h
signed_end t n (inr (rest, e, m, h)) = ap (ends_with 97) e ∙ ends_more 43 rest refl (number_end rest n h)

null_end : (t : List ℕ) → IsNullWord t → ends_with 97 t ≡ false
null_end t (inl e) = ap (ends_with 97) e
null_end t (inr (inl e)) = ap (ends_with 97) e
null_end t (inr (inr (inl e))) = ap (ends_with 97) e
null_end t (inr (inr (inr (inl e)))) = ap (ends_with 97) e
null_end t (inr (inr (inr (inr e)))) = ap (ends_with 97) e

true_end : (t : List ℕ) → IsTrueWord t → ends_with 97 t ≡ false
true_end t (inl e) = ap (ends_with 97) e
true_end t (inr (inl e)) = ap (ends_with 97) e
true_end t (inr (inr e)) = ap (ends_with 97) e

false_end : (t : List ℕ) → IsFalseWord t → ends_with 97 t ≡ false
false_end t (inl e) = ap (ends_with 97) e
false_end t (inr (inl e)) = ap (ends_with 97) e
false_end t (inr (inr e)) = ap (ends_with 97) e

pub letter_kind : (typed : Bool) (t : List ℕ) → ends_with 97 t ≡ true → HasKind typed t kind.Text
letter_kind false t h = refl
letter_kind true t h = (λ w. true≢false (sym h ∙ null_end t w), λ w. true≢false (sym h ∙ true_end t w), λ w. true≢false (sym h ∙ false_end t w), λ n w. true≢false (sym h ∙ signed_end t n w))
