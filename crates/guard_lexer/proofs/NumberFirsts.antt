-- What stands in front of bytes that begin with a digit or a minus.
use Rattle.std.proofs.Common.{◌≡◌, ℕ, zero, suc, ◌+◌, ◌<◌, lit<, Bool, true, false, List, [], ◌∷◌, ◌++◌, length, take, drop, refl, sym, ap, ◌∙◌, subst, arith, inl, inr, ◌⊎◌}
use Rattle.std.specs.Prelude.{IsAscii}
use Rattle.std.proofs.lemmas.Bool.{true≢false}
use Rattle.std.proofs.lemmas.Bool.Decides.{nat_tests}
use Rattle.std.proofs.lemmas.List.{take_at, drop_at}
use Rattle.std.proofs.lemmas.Str.{IsAscii-append}
use Rattle.std.proofs.lemmas.Str.Ascii.{IsAscii-nil, IsAscii-cons}
use Rattle.decimals.specs.Number.{is_digit, AreDigits, IsWholePart, minus_text, fraction_text, IsPowerText, IsNumber}
use Rattle.decimals.specs.declared.decimal.Num.{Num}
use Rattle.decimals.specs.declared.decimal.Num.TheVariants as num
use Rattle.guard_lexer.specs.declared.token.LexRefusal.TheVariants as r
use Rattle.guard_lexer.specs.Bytes.{is_letter}
use Rattle.guard_lexer.specs.Forms.{IsNumeral, Numeral, HasForm, form_of, IsWorth}
use Rattle.guard_lexer.specs.Lexes.{IsUnclosed, BeginsWord, IsFigure, IsFault}
use Rattle.guard_lexer.specs.code.Reach.{is_zero, is_quote, is_blank, begins_numeral, numeral_reach, reach}
use Rattle.guard_lexer.specs.code.Firsts.{number_kind, begins_word, BeginsNumeral}
use Rattle.guard_lexer.proofs.Lists.{no_clash}
use Rattle.guard_lexer.proofs.NumeralForms.{NumeralForm, numeral_form}
use Rattle.guard_lexer.proofs.Reaches.{is_longest}
use Rattle.guard_lexer.proofs.Firsts.{Found, found, not_open, bad_first}

numeral_byte : (b : ℕ) → begins_numeral b ≡ true → (is_letter b ≡ false) × (is_quote b ≡ false) × (is_blank b ≡ false) × (b ≡ 60 → ⊥)
numeral_byte b e = (grind (arith, nat_tests), grind (arith, nat_tests), grind (arith, nat_tests), λ h. true≢false (sym e ∙ ap begins_numeral h))

front_reach : (dot : Bool) (bs : List ℕ) → BeginsNumeral bs → reach dot bs ≡ numeral_reach dot bs
front_reach dot [] h = absurd h
front_reach dot (b ∷ bs) h = let p = numeral_byte b h in rw (p.0, h) refl

pub front_closed : (bs : List ℕ) → BeginsNumeral bs → IsUnclosed bs → ⊥
front_closed [] h = absurd h
front_closed (b ∷ bs) h = let p = numeral_byte b h in not_open b bs p.1 (λ _ _ e _ _. p.3 e)

pub front_bad : (dot : Bool) (at : ℕ) (bs : List ℕ) → BeginsNumeral bs → numeral_reach dot bs ≡ 0 → IsFault dot at bs (r.BadByte at)
front_bad dot at [] h z = absurd h
front_bad dot at (b ∷ bs) h z = let p = numeral_byte b h in bad_first dot at b bs p.2 (front_reach dot (b ∷ bs) h ∙ z) (front_closed (b ∷ bs) h)

pub some_reach : (n : ℕ) → (n ≡ 0 → ⊥) → is_zero n ≡ false
some_reach zero h = absurd (h refl)
some_reach (suc n) h = refl

figure : (dot : Bool) (bs : List ℕ) (f : NumeralForm dot bs) → BeginsNumeral bs → IsFigure dot f.text f.rest
figure dot bs f h = record { form = f.is; longest = is_longest dot bs f.text f.rest f.joined (front_reach dot bs h ∙ sym f.size) }

taken : (dot : Bool) (bs : List ℕ) (n : ℕ) (f : NumeralForm dot bs) → n ≡ numeral_reach dot bs → (take n bs ≡ f.text) × (drop n bs ≡ f.rest)
taken dot bs n f e = let s : length f.text ≡ n = f.size ∙ sym e in (ap (take n) f.joined ∙ take_at f.text f.rest n s, ap (drop n) f.joined ∙ drop_at f.text f.rest n s)

pub front_range : (dot : Bool) (at : ℕ) (bs : List ℕ) (n : ℕ) → BeginsNumeral bs → n ≡ numeral_reach dot bs → (n ≡ 0 → ⊥) → ((v : Num) → IsNumber (take n bs) v → ⊥) → IsFault dot at bs (r.NumberRange at)
front_range dot at bs n h e z none =
    let f = numeral_form dot bs (ap is_zero (sym e) ∙ some_reach n z) in
    let t = taken dot bs n f e in
    (refl, (f.text, f.rest, f.joined, figure dot bs f h, λ v i. none v (subst (λ x. IsNumber x v) (sym t.0) i)))

word_begins : (bs : List ℕ) → begins_word bs ≡ true → BeginsWord bs
word_begins [] e = true≢false (sym e)
word_begins (b ∷ bs) e = e

word_not : (bs : List ℕ) → begins_word bs ≡ false → BeginsWord bs → ⊥
word_not [] e h = h
word_not (b ∷ bs) e h = no_clash h e

pub front_mixed : (dot : Bool) (at : ℕ) (bs : List ℕ) (n : ℕ) (v : Num) → BeginsNumeral bs → n ≡ numeral_reach dot bs → (n ≡ 0 → ⊥) → IsNumber (take n bs) v → begins_word (drop n bs) ≡ true → IsFault dot at bs (r.BadByte (at + n))
front_mixed dot at bs n v h e z i w =
    let f = numeral_form dot bs (ap is_zero (sym e) ∙ some_reach n z) in
    let t = taken dot bs n f e in
    inr (f.text, f.rest, f.joined, figure dot bs f h, (v, subst (λ x. IsNumber x v) t.0 i), word_begins f.rest (ap begins_word (sym t.1) ∙ w), ap (λ x. at + x) (e ∙ sym f.size))

kind_form : (v : Num) → form_of (number_kind v) ≡ Numeral
kind_form (num.Whole n) = refl
kind_form (num.Fraction d) = refl

kind_worth : (v : Num) (text : List ℕ) → IsNumber text v → IsWorth (number_kind v) text
kind_worth (num.Whole n) text i = i
kind_worth (num.Fraction d) text i = i

pub front_found : (dot : Bool) (bs : List ℕ) (n : ℕ) (v : Num) → BeginsNumeral bs → n ≡ numeral_reach dot bs → (n ≡ 0 → ⊥) → IsNumber (take n bs) v → begins_word (drop n bs) ≡ false → Found dot (number_kind v) bs n
front_found dot bs n v h e z i w =
    let f = numeral_form dot bs (ap is_zero (sym e) ∙ some_reach n z) in
    let t = taken dot bs n f e in
    found dot (number_kind v) bs f.text f.rest n f.joined (f.size ∙ sym e) (front_reach dot bs h ∙ sym e) (subst (λ x. HasForm dot x f.text) (sym (kind_form v)) f.is)
    (kind_worth v f.text (subst (λ x. IsNumber x v) t.0 i)) (front_closed bs h) (λ _. word_not f.rest (ap begins_word (sym t.1) ∙ w))

-- ---- number texts are ASCII

digit_small : (b : ℕ) → is_digit b ≡ true → b < 128
digit_small b e = grind (arith, nat_tests)

digits_ascii : (w : List ℕ) → AreDigits w → IsAscii w
digits_ascii [] d = IsAscii-nil
digits_ascii (b ∷ w) (e, d) = IsAscii-cons b w (digit_small b e) (digits_ascii w d)

whole_ascii : (w : List ℕ) → IsWholePart w → IsAscii w
whole_ascii [] h = absurd h
whole_ascii (b ∷ w) (e, d, z) = digits_ascii (b ∷ w) (e, d)

minus_ascii : (m : Bool) → IsAscii (minus_text m)
minus_ascii true = IsAscii-cons 45 [] (lit< tt) IsAscii-nil
minus_ascii false = IsAscii-nil

fraction_ascii : (f : List ℕ) → AreDigits f → IsAscii (fraction_text f)
fraction_ascii [] d = IsAscii-nil
fraction_ascii (b ∷ f) d = IsAscii-cons 46 (b ∷ f) (lit< tt) (digits_ascii (b ∷ f) d)

mark_small : (e : ℕ) → (e ≡ 101) ⊎ (e ≡ 69) → e < 128
mark_small e (inl h) = omega arith
mark_small e (inr h) = omega arith

power_ascii : (down : Bool) (w x : List ℕ) → AreDigits w → IsPowerText down w x → IsAscii x
power_ascii down [] x d (u, e) = subst IsAscii (sym e) IsAscii-nil
power_ascii true (c ∷ w) x d (e, m, is) = subst IsAscii (sym is) (IsAscii-cons e (45 ∷ c ∷ w) (mark_small e m) (IsAscii-cons 45 (c ∷ w) (lit< tt) (digits_ascii (c ∷ w) d)))
power_ascii false (c ∷ w) x d (e, m, inl is) = subst IsAscii (sym is) (IsAscii-cons e (c ∷ w) (mark_small e m) (digits_ascii (c ∷ w) d))
power_ascii false (c ∷ w) x d (e, m, inr is) = subst IsAscii (sym is) (IsAscii-cons e (43 ∷ c ∷ w) (mark_small e m) (IsAscii-cons 43 (c ∷ w) (lit< tt) (digits_ascii (c ∷ w) d)))

numeral_ascii : (dot : Bool) (text : List ℕ) → IsNumeral dot text → IsAscii text
numeral_ascii true text h = whole_ascii text h
numeral_ascii false text (p, s) = subst IsAscii (sym s.joined)
    (IsAscii-append (minus_text p.minus) (p.whole ++ (fraction_text p.fraction ++ s.exponent)) (minus_ascii p.minus)
    (IsAscii-append p.whole (fraction_text p.fraction ++ s.exponent) (whole_ascii p.whole s.whole)
    (IsAscii-append (fraction_text p.fraction) s.exponent (fraction_ascii p.fraction s.fraction) (power_ascii p.down p.power s.exponent s.power s.exponent_is))))

pub front_ascii : (dot : Bool) (bs : List ℕ) (n : ℕ) → n ≡ numeral_reach dot bs → (n ≡ 0 → ⊥) → IsAscii (take n bs)
front_ascii dot bs n e z =
    let f = numeral_form dot bs (ap is_zero (sym e) ∙ some_reach n z) in
    subst IsAscii (sym (taken dot bs n f e).0) (numeral_ascii dot f.text f.is)
