-- Numbers with a sign.
use Rattle.std.proofs.Common.{◌≡◌, ℕ, Bool, true, false, Option, Some, None, drop, List, [], ◌∷◌, ◌++◌, ◌<◌, length, get_or, sym, ap, inl, inr, ◌∙◌, arith, subst}
use Rattle.std.specs.Prelude.{MatchOption}
use Rattle.std.proofs.lemmas.Bool.Decides.{nat_tests}
use Rattle.decimals.specs.declared.decimal.Num.{Num}
use Rattle.decimals.specs.Number.{is_digit, IsWholePart, IsNumber, minus_text, fraction_text}
use Rattle.yaml_scalars.specs.Lines.{begins_with}
use Rattle.decimals.specs.declared.decimal.Num.TheVariants as num
use Rattle.yaml_scalars.specs.Kinds.{IsSignedNumber, IsPlainKind}
use Rattle.yaml_scalars.specs.code.KindSteps.{kind_of}

head_of : List ℕ → ℕ
head_of [] = 0
head_of (b ∷ bs) = b

heads : (a b : ℕ) (xs ys : List ℕ) → a ∷ xs ≡ b ∷ ys → a ≡ b
unfolding head_of
heads a b xs ys e = ap head_of e

-- a number text begins with no plus
no_plus : (minus : Bool) (whole rest text : List ℕ) → IsWholePart whole → 43 ∷ text ≡ minus_text minus ++ (whole ++ rest) → ⊥
no_plus true whole rest text w e = let h : 43 ≡ 45 = heads 43 45 text (whole ++ rest) e in absurd (omega (arith, h))
no_plus false [] rest text w e = w
no_plus false (b ∷ bs) rest text w e =
    let h : 43 ≡ b = heads 43 b text (bs ++ rest) e in
    let d : is_digit b ≡ true = w.0 in
    let n : is_digit b ≡ false = grind (arith, nat_tests) in
    absurd (let x : true ≡ false = sym d ∙ n in cc)

pub plus_no_number : (text : List ℕ) (n : Num) → IsNumber (43 ∷ text) n → ⊥
plus_no_number text n h = no_plus h.parts.minus h.parts.whole (fraction_text h.parts.fraction ++ h.spelled.exponent) text h.spelled.whole h.spelled.joined

-- no plus in front: only a number text counts
unsigned : (text : List ℕ) (n : Num) → begins_with 43 text ≡ false → IsSignedNumber text n → IsNumber text n
unsigned text n e (inl h) = h
unsigned text n e (inr h) = absurd (let x : true ≡ false = sym (ap (begins_with 43) h.1) ∙ e in cc)

tail_of : List ℕ → List ℕ
tail_of [] = []
tail_of (b ∷ bs) = bs

tails : (a b : ℕ) (xs ys : List ℕ) → a ∷ xs ≡ b ∷ ys → xs ≡ ys
unfolding tail_of
tails a b xs ys e = ap tail_of e

-- behind a plus a number text without a minus counts
behind_plus : (rest : List ℕ) (n : Num) → IsSignedNumber (43 ∷ rest) n → (begins_with 45 rest ≡ false) × IsNumber rest n
behind_plus rest n (inl h) = absurd (plus_no_number rest n h)
behind_plus rest n (inr h) =
    let e : h.0 ≡ rest = sym (tails 43 43 rest h.0 h.1) in
    (ap (begins_with 45) (sym e) ∙ h.2, subst (λ t. IsNumber t n) e h.3)

-- what is read of a text without a plus is its number
pub unsigned_number : (text : List ℕ) (r : Option Num) → begins_with 43 text ≡ false → MatchOption r ((n : Num) → IsNumber text n → ⊥) (λ n. IsNumber text n) → MatchOption r ((n : Num) → IsSignedNumber text n → ⊥) (λ n. IsSignedNumber text n)
unsigned_number text None e h = λ n g. h n (unsigned text n e g)
unsigned_number text (Some n) e h = inl h

-- what is read behind a plus is the number of the text
pub plus_number : (text rest : List ℕ) (r : Option Num) → text ≡ 43 ∷ rest → begins_with 45 rest ≡ false → MatchOption r ((n : Num) → IsNumber rest n → ⊥) (λ n. IsNumber rest n) → MatchOption r ((n : Num) → IsSignedNumber text n → ⊥) (λ n. IsSignedNumber text n)
plus_number text rest None t e h = λ n g. h n (behind_plus rest n (subst (λ u. IsSignedNumber u n) t g)).1
plus_number text rest (Some n) t e h = inr (rest, t, e, h)

pub plus_minus : (text rest : List ℕ) (n : Num) → text ≡ 43 ∷ rest → begins_with 45 rest ≡ true → IsSignedNumber text n → ⊥
plus_minus text rest n t e g = let x : true ≡ false = sym e ∙ (behind_plus rest n (subst (λ u. IsSignedNumber u n) t g)).0 in absurd (cc)

split_plus : (text : List ℕ) → begins_with 43 text ≡ true → text ≡ 43 ∷ drop 1 text
split_plus [] e = absurd (cc)
split_plus (b ∷ bs) e = let h : b ≡ 43 = grind (arith, nat_tests) in ap (λ c. c ∷ bs) h

pub plus_rest : (text rest : List ℕ) → begins_with 43 text ≡ true → rest ≡ drop 1 text → text ≡ 43 ∷ rest
plus_rest text rest e r = split_plus text e ∙ ap (λ t. 43 ∷ t) (sym r)

pub begins_in : (c : ℕ) (text : List ℕ) → begins_with c text ≡ true → (0 < length text) × (get_or text 0 0 ≡ c)
begins_in c [] e = absurd (cc)
begins_in c (b ∷ bs) e = (omega arith, grind (arith, nat_tests))

pub kind_is : (text : List ℕ) (n : Num) → IsSignedNumber text n → IsPlainKind text (kind_of n)
kind_is text (num.Whole n) h = h
kind_is text (num.Fraction d) h = h
