-- Texts with a sign of either kind.
use Rattle.std.proofs.Common.{ℤ, ◌≡◌, ◌≢◌, ◌==◌, ℕ, Bool, true, false, List, [], ◌∷◌, Option, Some, None, MatchOption, refl, sym, ap, subst, arith}
use Rattle.std.proofs.lemmas.Bool.Decides.{nat_tests}
use Rattle.decimals.proofs.Numbers.{IsNumber-unique}
use Rattle.decimals.specs.Decimal.{Decimal}
use Rattle.decimals.specs.Number.{IsNumber}
use Rattle.decimals.specs.declared.decimal.Num.TheVariants as num
use Rattle.doc_values.specs.declared.kind.Kind.TheVariants as kind
use Rattle.decimals.specs.declared.decimal.Num.{Num}
use Rattle.rule_meaning.specs.Functions.{behind_plus, IsDecimal, IsDecimalBy, IsSigned}

-- a text without a plus in front is left as it is
pub behind_plus-none : (text : List ℕ) → ((rest : List ℕ) → text ≢ 43 ∷ rest) → behind_plus text ≡ Some text
behind_plus-none [] h = refl
behind_plus-none (b ∷ bs) h = here (b == 43) refl
  where
    here : (t : Bool) → (b == 43) ≡ t → behind_plus (b ∷ bs) ≡ Some (b ∷ bs)
    here true e = absurd (h bs (ap (λ n. n ∷ bs) (grind (arith, nat_tests, e))))
    here false e = rw e refl

-- what is read behind the plus is the number of the text
pub signed-read : (text rest : List ℕ) (r : Option Num) → Some rest ≡ behind_plus text → MatchOption r ((n : Num) → IsNumber rest n → ⊥) (λ n. IsNumber rest n)
    → MatchOption r ((n : Num) → IsSigned text n → ⊥) (λ n. IsSigned text n)
signed-read text rest (Some n) same is = (rest, sym same, is)
signed-read text rest None same none = each
  where
    each : (n : Num) → IsSigned text n → ⊥
    each n (other, there, is) = let e : rest ≡ other = cc in none n (subst (λ r. IsNumber r n) (sym e) is)

-- a text has one number at most
IsSigned-unique : (text : List ℕ) (a b : Num) → IsSigned text a → IsSigned text b → a ≡ b
IsSigned-unique text a b (ra, sa, ia) (rb, sb, ib) = let e : ra ≡ rb = cc in IsNumber-unique rb a b (subst (λ r. IsNumber r a) e ia) ib

-- one that is a decimal is no whole number
pub fraction-no_whole : (text : List ℕ) (d : Decimal) → IsSigned text (num.Fraction d) → (n : ℤ) → IsSigned text (num.Whole n) → ⊥
fraction-no_whole text d is n other = apart (IsSigned-unique text (num.Fraction d) (num.Whole n) is other)
  where
    apart : num.Fraction d ≡ num.Whole n → ⊥
    apart e = cc

-- the decimal of the number is that of the text
pub decimal-read : (text : List ℕ) (n : Num) (r : Option Decimal) → IsSigned text n → MatchOption r ((d : Decimal) → IsDecimal n d → ⊥) (λ d. IsDecimal n d)
    → MatchOption r ((d : Decimal) → IsDecimalBy kind.Text text d → ⊥) (λ d. IsDecimalBy kind.Text text d)
decimal-read text n (Some d) is of = (n, is, of)
decimal-read text n None is none = each
  where
    each : (d : Decimal) → IsDecimalBy kind.Text text d → ⊥
    each d (m, other, of) = none d (subst (λ k. IsDecimal k d) (IsSigned-unique text m n other is) of)

-- a text without a number has no decimal
pub no-decimal : (text : List ℕ) → ((n : Num) → IsSigned text n → ⊥) → (d : Decimal) → IsDecimalBy kind.Text text d → ⊥
no-decimal text none d (n, is, of) = none n is
