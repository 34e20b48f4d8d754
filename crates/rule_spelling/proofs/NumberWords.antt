-- Numbers are read from their spellings.
use Rattle.std.proofs.Common.{◌≡◌, ℕ, zero, suc, ◌+◌, ◌*◌, ◌^◌, ◌%◌, ◌<◌, Bool, true, false, List, [], ◌∷◌, ◌++◌, length, decimal, refl, sym, ap, ◌∙◌, subst, arith, inl, inr, append_assoc, ℤ, pos, negsuc, ◌+ℤ◌, ◌-ℤ◌, unsigned_abs}
use Rattle.std.specs.Prelude.{FitsSigned}
use mir.Syntax.{w64}
use Rattle.std.specs.Fmt.{signed_decimal}
use Rattle.std.specs.Int.{is_negative}
use Rattle.std.proofs.lemmas.Bool.{le-ltb}
use Rattle.std.proofs.lemmas.Int.{ints}
use Rattle.std.proofs.lemmas.List.{append-nil}
use Rattle.decimals.specs.declared.decimal.Num.{Num}
use Rattle.decimals.specs.declared.decimal.Num.TheVariants as num
use Rattle.decimals.specs.Decimal.{Decimal, IsNormal}
use Rattle.decimals.specs.Number.{number, minus_text, fraction_text, signed, scaled, Parts, IsStripped, IsDecimalOf, IsNumber}
use Rattle.decimals.proofs.NumberValue.{number-append}
use Rattle.guard_lexer.specs.Forms.{HasForm, Numeral}
use Rattle.rule_meaning.specs.Functions.{filled}
use Rattle.rule_spelling.specs.Spelling.{number_text}
use Rattle.rule_spelling.specs.code.Pieces.{IsInRange}
use Rattle.rule_spelling.proofs.Decimals.{decimal_number, decimal_whole, Cut, whole_of, fraction_of, pointed, pointed_number, stripped, zero_stripped}

-- ---- whole numbers

whole_number : (minus : Bool) (n : ℕ) (z : ℤ) → n < 2 ^ 64 → z ≡ signed minus n → FitsSigned w64 z → IsNumber (minus_text minus ++ decimal n) (num.Whole z)
whole_number minus n z h e f = record {
  parts = record { minus = minus; whole = decimal n; fraction = []; down = false; power = [] };
  spelled = record {
    whole = decimal_whole n h;
    fraction = tt;
    power = tt;
    exponent = [];
    exponent_is = (refl, refl);
    joined = ap (λ x. minus_text minus ++ x) (sym (append-nil (decimal n)));
  };
  value = (refl, refl, e ∙ ap (signed minus) (sym (decimal_number n h)), f);
}

pub whole_is : (z : ℤ) → FitsSigned w64 z → IsNumber (signed_decimal z) (num.Whole z)
whole_is (pos n) f = whole_number false n (pos n) (omega arith) refl f
whole_is (negsuc n) f = whole_number true (suc n) (negsuc n) (omega arith) refl f

-- ---- decimals

sign_is : (z : ℤ) → signed (is_negative z) (unsigned_abs z) ≡ z
sign_is (pos n) = ap (λ b. signed b n) (le-ltb n 0 (omega arith))
sign_is (negsuc n) = refl

below : (m : ℕ) → m < 10 ^ 18 → m < 2 ^ 64
below m h = omega arith

no_fraction : (b : ℕ) (f : List ℕ) → b ∷ f ≡ [] → ⊥
no_fraction b f e = cc

abs_zero : (z : ℤ) → unsigned_abs z ≡ 0 → z ≡ pos 0
abs_zero (pos n) e = ap pos e
abs_zero (negsuc n) e = absurd (omega arith)

abbrev point_zero_parts : ℤ → Parts
point_zero_parts z = record { minus = is_negative z; whole = decimal (unsigned_abs z); fraction = 48 ∷ []; down = false; power = [] }

none_minus_one : (z : ℕ) → (pos 0 -ℤ pos 1) +ℤ pos (z + 1) ≡ pos z
none_minus_one z = omega (arith, ints)

none_minus : (k : ℕ) → (pos 0 -ℤ pos (suc k)) +ℤ pos 0 ≡ negsuc k
none_minus k = omega (arith, ints)

abbrev units_at : ℤ → Decimal
units_at z = record { units = z; scale = 0 }

ten_number : (m : ℕ) → m < 2 ^ 64 → number (decimal m ++ (48 ∷ [])) ≡ m * 10
ten_number m h = number-append 0 (decimal m) (48 ∷ []) ∙ ap (λ n. n * 10 + 0) (decimal_number m h) ∙ omega arith

scale_zero : (z : ℤ) (m : ℕ) → m ≡ unsigned_abs z → m < 10 ^ 18 → IsDecimalOf (point_zero_parts z) (units_at z)
scale_zero z zero e h = inl (ap (λ n. number (decimal n ++ (48 ∷ []))) (sym e) ∙ ten_number 0 (omega arith), ap units_at (abs_zero z (sym e)))
scale_zero z (suc n) e h =
    let m : ℕ = suc n in
    let s = stripped m m (omega arith) (omega arith) in
    let t : IsStripped (number (decimal (unsigned_abs z) ++ (48 ∷ []))) s.kept (s.zeros + 1) =
    subst (λ x. IsStripped x s.kept (s.zeros + 1)) (sym (ap (λ n. number (decimal n ++ (48 ∷ []))) (sym e) ∙ ten_number m (below m h))) (zero_stripped m s.kept s.zeros s.is) in
    let u : z ≡ signed (is_negative z) (s.kept * 10 ^ s.zeros) = sym (sign_is z) ∙ ap (signed (is_negative z)) (sym e ∙ s.is.same) in
    inr (s.kept, s.zeros + 1, t, ap units_at u ∙ ap (scaled (is_negative z) s.kept) (sym (none_minus_one s.zeros)))

zero_number : (z : ℤ) → IsNormal (units_at z) → IsNumber ((minus_text (is_negative z) ++ decimal (unsigned_abs z)) ++ (46 ∷ 48 ∷ [])) (num.Fraction (units_at z))
zero_number z n = record {
  parts = point_zero_parts z;
  spelled = record {
    whole = decimal_whole (unsigned_abs z) (below (unsigned_abs z) n.small);
    fraction = (refl, tt);
    power = tt;
    exponent = [];
    exponent_is = (refl, refl);
    joined = append_assoc (minus_text (is_negative z)) (decimal (unsigned_abs z)) (46 ∷ 48 ∷ []);
  };
  value = ((λ e. absurd (no_fraction 48 [] e)), scale_zero z (unsigned_abs z) refl n.small, n);
}

with_fraction : (k : ℕ) (f : List ℕ) → length f ≡ suc k → fraction_text f ≡ 46 ∷ f
with_fraction k [] e = absurd (omega arith)
with_fraction k (b ∷ f) e = refl

some_fraction : (k : ℕ) (f : List ℕ) → length f ≡ suc k → f ≡ [] → ⊥
some_fraction k [] e h = omega arith
some_fraction k (b ∷ f) e h = cc

not_zero : (m : ℕ) → (m % 10 ≡ 0 → ⊥) → 0 < m
not_zero zero h = absurd (h refl)
not_zero (suc m) h = omega arith

same_power : (m : ℕ) → m ≡ m * 10 ^ 0
same_power m = omega arith

module _ (z : ℤ) (k : ℕ) (n : IsNormal (record { units = z; scale = suc k })) where
  abbrev m : ℕ
  m = unsigned_abs z

  last : m % 10 ≡ 0 → ⊥
  last = n.short (omega arith)

  some : 0 < m
  some = not_zero m last

  abbrev whole : List ℕ
  whole = whole_of (suc k) (decimal m)

  abbrev fraction : List ℕ
  fraction = fraction_of (suc k) (decimal m)

  cut : Cut (suc k) (filled (suc (suc k)) (decimal m)) whole fraction
  cut = pointed (suc k) m some (below m n.small)

  abbrev parts : Parts
  parts = record { minus = is_negative z; whole = whole; fraction = fraction; down = false; power = [] }

  value_is : record { units = z; scale = suc k } ≡ scaled (is_negative z) m ((signed false (number []) -ℤ pos (length fraction)) +ℤ pos 0)
  value_is =
      ap (λ u. record { units = u; scale = suc k }) (sym (sign_is z)) ∙ ap (scaled (is_negative z) m) (sym (none_minus k)) ∙ ap (λ i. scaled (is_negative z) m ((pos 0 -ℤ pos i) +ℤ pos 0)) (sym cut.size)

  stripped_is : IsStripped (number (whole ++ fraction)) m 0
  stripped_is = record { same = pointed_number (suc k) m some (below m n.small) ∙ same_power m; last = last }

  point_number : IsNumber ((minus_text (is_negative z) ++ (whole ++ (46 ∷ fraction))) ++ []) (num.Fraction (record { units = z; scale = suc k }))
  point_number = record {
    parts = parts;
    spelled = record {
      whole = cut.wholes;
      fraction = cut.digits;
      power = tt;
      exponent = [];
      exponent_is = (refl, refl);
      joined =
          append-nil (minus_text (is_negative z) ++ (whole ++ (46 ∷ fraction)))
          ∙ ap (λ x. minus_text (is_negative z) ++ (whole ++ x)) (sym (with_fraction k fraction cut.size) ∙ sym (append-nil (fraction_text fraction)));
    };
    value = ((λ e. absurd (some_fraction k fraction cut.size e)), inr (m, 0, stripped_is, value_is), n);
  }

decimal_is : (z : ℤ) (scale : ℕ) → IsNormal (record { units = z; scale = scale }) → IsNumber (number_text (num.Fraction (record { units = z; scale = scale }))) (num.Fraction (record { units = z; scale = scale }))
decimal_is z zero n = zero_number z n
decimal_is z (suc k) n = point_number z k n

pub number_is : (v : Num) → IsInRange v → IsNumber (number_text v) v
number_is (num.Whole z) f = whole_is z f
number_is (num.Fraction d) n = decimal_is d.units d.scale n

pub numeral_is : (v : Num) → IsInRange v → HasForm false Numeral (number_text v)
numeral_is v h = let i = number_is v h in (i.parts, i.spelled)

pub index_is : (n : ℕ) → n < 2 ^ 64 → HasForm true Numeral (decimal n)
index_is n h = decimal_whole n h
