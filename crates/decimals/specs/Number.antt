-- The number that a text spells.
use Rattle.std.specs.Prelude.{ℕ, suc, ◌+◌, ◌-◌, ◌*◌, ◌%◌, ◌^◌, ◌≡◌, ◌⊎◌, Bool, true, false, ◌&&◌, List, [], ◌∷◌, ◌++◌, length, ℤ, pos, negsuc, ◌+ℤ◌, ◌-ℤ◌, neg_ℤ, FitsSigned, nat_le}
use mir.Syntax.{w64}
use Rattle.decimals.specs.declared.decimal.Num.{Num}
use Rattle.decimals.specs.declared.decimal.Num.TheVariants as num
use Rattle.decimals.specs.Decimal.{Decimal, IsNormal}

-- RFC 8259, section 6: digit1-9 / "0"
abbrev pub is_digit : ℕ → Bool
is_digit b = nat_le 48 b && nat_le b 57

-- every byte is a digit
abbrev pub AreDigits : List ℕ → Type 0
AreDigits [] = Unit {0}
AreDigits (b ∷ bs) = (is_digit b ≡ true) × AreDigits bs

-- the number that digits spell, behind a number that those before them spell
abbrev pub number_behind : ℕ → List ℕ → ℕ
number_behind n [] = n
number_behind n (b ∷ bs) = number_behind (n * 10 + (b - 48)) bs

abbrev pub number : List ℕ → ℕ
number ds = number_behind 0 ds

-- a number text in parts: a minus or none, the digits before the point, those behind it (none where there is no point),
-- and the exponent's: a minus or none, its digits (none where there is no exponent)
pub record Parts : Type 0 where
  pub minus : Bool
  pub whole : List ℕ
  pub fraction : List ℕ
  pub down : Bool
  pub power : List ℕ

-- minus = "-"
abbrev pub minus_text : Bool → List ℕ
minus_text true = 45 ∷ []
minus_text false = []

-- int = zero / ( digit1-9 *DIGIT )
abbrev pub IsWholePart : List ℕ → Type 0
IsWholePart [] = ⊥
IsWholePart (b ∷ bs) = (is_digit b ≡ true) × AreDigits bs × (b ≡ 48 → bs ≡ [])

-- [ frac ], frac = decimal-point 1*DIGIT
abbrev pub fraction_text : List ℕ → List ℕ
fraction_text [] = []
fraction_text (b ∷ bs) = 46 ∷ (b ∷ bs)

-- [ exp ], exp = e [ minus / plus ] 1*DIGIT, e = %x65 / %x45
abbrev pub IsPowerText : Bool → List ℕ → List ℕ → Type 0
IsPowerText down [] text = (down ≡ false) × (text ≡ [])
IsPowerText true (b ∷ bs) text = (e : ℕ) × ((e ≡ 101) ⊎ (e ≡ 69)) × (text ≡ e ∷ (45 ∷ (b ∷ bs)))
IsPowerText false (b ∷ bs) text = (e : ℕ) × ((e ≡ 101) ⊎ (e ≡ 69)) × ((text ≡ e ∷ (b ∷ bs)) ⊎ (text ≡ e ∷ (43 ∷ (b ∷ bs))))

-- number = [ minus ] int [ frac ] [ exp ]
pub record IsSpelled (text : List ℕ) (p : Parts) : Type 0 where
  pub whole : IsWholePart p.whole
  pub fraction : AreDigits p.fraction
  pub power : AreDigits p.power
  pub exponent : List ℕ
  pub exponent_is : IsPowerText p.down p.power exponent
  pub joined : text ≡ minus_text p.minus ++ (p.whole ++ (fraction_text p.fraction ++ exponent))

abbrev pub signed : Bool → ℕ → ℤ
signed true n = neg_ℤ (pos n)
signed false n = pos n

-- m' times 10 to the x: units with scale 0 where x is 0 or more, and units m' with scale -x where it is not
abbrev pub scaled : Bool → ℕ → ℤ → Decimal
scaled minus m (pos x) = record { units = signed minus (m * 10 ^ x); scale = 0 }
scaled minus m (negsuc x) = record { units = signed minus m; scale = suc x }

-- the number m without the zeros at its end: m' with z of them
pub record IsStripped (m kept zeros : ℕ) : Type 0 where
  pub same : m ≡ kept * 10 ^ zeros
  pub last : kept % 10 ≡ 0 → ⊥

-- m all digits before the exponent, f those behind the point, e the exponent: 0 where m is 0, else m' times 10 to the e - f + z
abbrev pub IsDecimalOf : Parts → Decimal → Type 0
IsDecimalOf p d =
    let m : ℕ = number (p.whole ++ p.fraction) in
    ((m ≡ 0) × (d ≡ record { units = pos 0; scale = 0 }))
    ⊎ ((kept zeros : ℕ) × IsStripped m kept zeros × (d ≡ scaled p.minus kept ((signed p.down (number p.power) -ℤ pos (length p.fraction)) +ℤ pos zeros)))

-- without fraction and exponent a whole number, within 64 bits with a sign; else a decimal, its units below 10^18 in size and its scale at most 18
abbrev pub IsValue : Parts → Num → Type 0
IsValue p (num.Whole n) = (p.fraction ≡ []) × (p.power ≡ []) × (n ≡ signed p.minus (number p.whole)) × FitsSigned w64 n
IsValue p (num.Fraction d) = ((p.fraction ≡ [] → p.power ≡ [] → ⊥) × IsDecimalOf p d × IsNormal d)

-- the text is that of the number, and the number is in range
pub record IsNumber (text : List ℕ) (n : Num) : Type 0 where
  pub parts : Parts
  pub spelled : IsSpelled text parts
  pub value : IsValue parts n
