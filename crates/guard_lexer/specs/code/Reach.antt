-- How far a form goes at the front of bytes, as functions; 0 where it does not begin there.
use Rattle.std.specs.Prelude.{ℕ, zero, suc, ◌+◌, Bool, true, false, not, ◌&&◌, ◌||◌, ◌==◌, List, [], ◌∷◌, drop, Option, Some, None, if◌then◌else◌, option_map}
use Rattle.decimals.specs.Number.{is_digit}
use Rattle.decimals.specs.code.Reading.{is_mark}
use Rattle.guard_lexer.specs.Bytes.{is_letter, is_word, is_white}

-- how many bytes pass
abbrev pub run : (ℕ → Bool) → List ℕ → ℕ
run f [] = 0
run f (b ∷ bs) = if f b then suc (run f bs) else 0

-- how far a name or a type name goes on behind its first letter
abbrev pub in_name : List ℕ → ℕ
in_name [] = 0
in_name (b ∷ []) = if is_word b then 1 else 0
in_name (b ∷ c ∷ []) = if is_word b then suc (in_name (c ∷ [])) else 0
in_name (b ∷ c ∷ d ∷ bs) =
    if is_word b then suc (in_name (c ∷ d ∷ bs)) else (if b == 58 && (c == 58 && is_letter d) then suc (suc (suc (in_name bs))) else 0)

-- whether a double colon stands in it
abbrev pub typed : List ℕ → Bool
typed [] = false
typed (b ∷ []) = false
typed (b ∷ c ∷ []) = if is_word b then typed (c ∷ []) else false
typed (b ∷ c ∷ d ∷ bs) = if is_word b then typed (c ∷ d ∷ bs) else (b == 58 && (c == 58 && is_letter d))

-- its next byte, or its next double colon and letter
abbrev pub second_step : ℕ → ℕ → List ℕ → ℕ
second_step b c [] = 0
second_step b c (d ∷ bs) = if b == 58 && (c == 58 && is_letter d) then 3 else 0

abbrev pub colon_step : ℕ → List ℕ → ℕ
colon_step b [] = 0
colon_step b (c ∷ bs) = second_step b c bs

abbrev pub name_step : List ℕ → ℕ
name_step [] = 0
name_step (b ∷ bs) = if is_word b then 1 else colon_step b bs

abbrev pub var_reach : List ℕ → ℕ
var_reach [] = 0
var_reach (b ∷ bs) = if is_letter b then suc (suc (run is_word bs)) else 0

-- the number of bytes up to the closing quote and with it; the test tells whether the byte before is a backslash
abbrev pub closing : ℕ → Bool → List ℕ → Option ℕ
closing q behind [] = None
closing q behind (b ∷ bs) = if b == q && not behind then Some 1 else option_map (λ n. suc n) (closing q (b == 92) bs)

-- the same of a note; the test tells whether the byte before is a `>`
abbrev pub note_end : Bool → List ℕ → Option ℕ
note_end behind [] = None
note_end behind (b ∷ bs) = if b == 62 && behind then Some 1 else option_map (λ n. suc n) (note_end (b == 62) bs)

abbrev pub opened : ℕ → Option ℕ → ℕ
opened k None = 0
opened k (Some n) = k + n

abbrev pub is_quote : ℕ → Bool
is_quote b = b == 34 || b == 39 || b == 47

-- ---- numbers

abbrev pub is_zero : ℕ → Bool
is_zero zero = true
is_zero (suc n) = false

-- so many bytes before digits, and these, if there are some
abbrev pub with_digits : ℕ → List ℕ → ℕ
with_digits k bs = if is_zero (run is_digit bs) then 0 else k + run is_digit bs

abbrev pub is_plus_minus : ℕ → Bool
is_plus_minus b = b == 45 || b == 43

abbrev pub signed_reach : List ℕ → ℕ
signed_reach [] = 0
signed_reach (b ∷ bs) = if is_plus_minus b then with_digits 2 bs else with_digits 1 (b ∷ bs)

abbrev pub power_reach : List ℕ → ℕ
power_reach [] = 0
power_reach (b ∷ bs) = if is_mark b then signed_reach bs else 0

-- digits, and an exponent behind them
abbrev pub digits_reach : List ℕ → ℕ
digits_reach bs = run is_digit bs + power_reach (drop (run is_digit bs) bs)

abbrev pub fraction_reach : List ℕ → ℕ
fraction_reach [] = 0
fraction_reach (b ∷ bs) = if b == 46 && not (is_zero (run is_digit bs)) then suc (digits_reach bs) else power_reach (b ∷ bs)

abbrev pub whole_reach : List ℕ → ℕ
whole_reach [] = 0
whole_reach (b ∷ bs) = if b == 48 then 1 else run is_digit (b ∷ bs)

abbrev pub plain_reach : List ℕ → ℕ
plain_reach bs = if is_zero (whole_reach bs) then 0 else whole_reach bs + fraction_reach (drop (whole_reach bs) bs)

abbrev pub behind_minus : ℕ → ℕ
behind_minus n = if is_zero n then 0 else suc n

abbrev pub minus_reach : List ℕ → ℕ
minus_reach [] = 0
minus_reach (b ∷ bs) = if b == 45 then behind_minus (plain_reach bs) else plain_reach (b ∷ bs)

abbrev pub numeral_reach : Bool → List ℕ → ℕ
numeral_reach true bs = whole_reach bs
numeral_reach false bs = minus_reach bs

-- ---- marks

abbrev pub is_single : ℕ → Bool
is_single b =
    b == 123 || b == 125 || b == 40 || b == 41 || b == 91 || b == 93 || b == 44 || b == 124 || b == 46 || b == 42 || b == 58 || b == 61 || b == 33 || b == 60
    || b == 62

abbrev pub is_doubled : ℕ → Bool
is_doubled b = b == 58 || b == 61 || b == 33 || b == 60 || b == 62

abbrev pub single_reach : ℕ → ℕ
single_reach b = if is_single b then 1 else 0

abbrev pub sign_reach : ℕ → List ℕ → ℕ
sign_reach b [] = single_reach b
sign_reach b (c ∷ bs) = if b == 60 && c == 60 then suc (suc (opened 0 (note_end false bs))) else (if c == 61 && is_doubled b then 2 else single_reach b)

-- ---- all

abbrev pub begins_numeral : ℕ → Bool
begins_numeral b = is_digit b || b == 45

abbrev pub reach : Bool → List ℕ → ℕ
reach dot [] = 0
reach dot (b ∷ bs) =
    if is_letter b
    then suc (in_name bs)
    else (if begins_numeral b then numeral_reach dot (b ∷ bs) else (if b == 37 then var_reach bs else (if is_quote b then opened 1 (closing b false bs) else sign_reach b bs)))

-- ---- gaps

abbrev pub is_blank : ℕ → Bool
is_blank b = is_white b || b == 35

abbrev pub goes : Bool → ℕ → Bool
goes inside b = inside || is_blank b

abbrev pub into : Bool → ℕ → Bool
into true b = not (b == 10)
into false b = b == 35

-- how far white space and comments go; the test tells whether the first byte stands in a comment
abbrev pub gap_reach : Bool → List ℕ → ℕ
gap_reach inside [] = 0
gap_reach inside (b ∷ bs) = if goes inside b then suc (gap_reach (into inside b) bs) else 0
