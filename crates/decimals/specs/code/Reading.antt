-- How a number text is taken apart, byte by byte from the left.
use Rattle.std.specs.Prelude.{ℕ, ◌≡◌, ◌*◌, ◌^◌, ◌%◌, min, Bool, true, false, not, ◌&&◌, ◌||◌, ◌==◌, List, [], ◌∷◌, if◌then◌else◌, refl}
use Rattle.std.specs.Coded.{Coded, code_by, coded×, coded_bool, coded_ℕ, coded_list}
use Rattle.decimals.specs.Number.{Parts, is_digit}

-- the digits in front, and what stands behind them
abbrev pub digits : List ℕ → List ℕ
digits [] = []
digits (b ∷ bs) = if is_digit b then b ∷ digits bs else []

abbrev pub behind : List ℕ → List ℕ
behind [] = []
behind (b ∷ bs) = if is_digit b then behind bs else b ∷ bs

-- whether a minus stands in front, and what stands behind it
abbrev pub minus_of : List ℕ → Bool
minus_of [] = false
minus_of (b ∷ bs) = b == 45

abbrev pub behind_minus : List ℕ → List ℕ
behind_minus [] = []
behind_minus (b ∷ bs) = if b == 45 then bs else b ∷ bs

-- the same for a plus or a minus
abbrev pub behind_sign : List ℕ → List ℕ
behind_sign [] = []
behind_sign (b ∷ bs) = if b == 45 || b == 43 then bs else b ∷ bs

-- whether a point stands in front, the digits behind it, and what stands behind them
abbrev pub point_of : List ℕ → Bool
point_of [] = false
point_of (b ∷ bs) = b == 46

abbrev pub fraction_of : List ℕ → List ℕ
fraction_of [] = []
fraction_of (b ∷ bs) = if b == 46 then digits bs else []

abbrev pub behind_fraction : List ℕ → List ℕ
behind_fraction [] = []
behind_fraction (b ∷ bs) = if b == 46 then behind bs else b ∷ bs

-- the same for an exponent
abbrev pub is_mark : ℕ → Bool
is_mark b = b == 101 || b == 69

abbrev pub mark_of : List ℕ → Bool
mark_of [] = false
mark_of (b ∷ bs) = is_mark b

abbrev pub down_of : List ℕ → Bool
down_of [] = false
down_of (b ∷ bs) = if is_mark b then minus_of bs else false

abbrev pub power_of : List ℕ → List ℕ
power_of [] = []
power_of (b ∷ bs) = if is_mark b then digits (behind_sign bs) else []

abbrev pub behind_power : List ℕ → List ℕ
behind_power [] = []
behind_power (b ∷ bs) = if is_mark b then behind (behind_sign bs) else b ∷ bs

-- what stands behind the whole part
abbrev pub tail_of : List ℕ → List ℕ
tail_of bs = behind (behind_minus bs)

abbrev pub read : List ℕ → Parts
read bs = record { minus = minus_of bs; whole = digits (behind_minus bs); fraction = fraction_of (tail_of bs); down = down_of (behind_fraction (tail_of bs)); power = power_of (behind_fraction (tail_of bs)) }

abbrev pub is_whole : List ℕ → Bool
is_whole [] = false
is_whole (b ∷ []) = true
is_whole (b ∷ (c ∷ bs)) = not (b == 48)

-- digits stand where they must
abbrev pub is_filled : Bool → List ℕ → Bool
is_filled false bs = true
is_filled true [] = false
is_filled true (b ∷ bs) = true

abbrev pub is_nil : List ℕ → Bool
is_nil [] = true
is_nil (b ∷ bs) = false

abbrev pub is_number : List ℕ → Bool
is_number bs =
    let t : List ℕ = tail_of bs in
    let e : List ℕ = behind_fraction t in
    is_whole (digits (behind_minus bs)) && (is_filled (point_of t) (fraction_of t) && (is_filled (mark_of e) (power_of e) && is_nil (behind_power e)))

abbrev pub parts_code : Coded Parts
parts_code = code_by (Bool × (List ℕ × (List ℕ × (Bool × List ℕ)))) (coded× coded_bool (coded× (coded_list coded_ℕ) (coded× (coded_list coded_ℕ) (coded× coded_bool (coded_list coded_ℕ))))) (λ p. (p.minus, (p.whole, (p.fraction, (p.down, p.power))))) (λ p. record { minus = p.0; whole = p.1.0; fraction = p.1.1.0; down = p.1.1.1.0; power = p.1.1.1.1 }) (λ _. refl)

-- no exponent from here on leads into the range of decimals
abbrev pub cap : ℕ → ℕ
cap n = min n (10 ^ 30)

-- the number m without the zeros at its end, capped at 10^18, and how many zeros these are
pub record IsHeld (m kept zeros : ℕ) : Type 0 where
  pub full : ℕ
  pub same : m ≡ full * 10 ^ zeros
  pub last : full % 10 ≡ 0 → full ≡ 0
  pub capped : kept ≡ min full (10 ^ 18)
