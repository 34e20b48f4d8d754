-- Classes of bytes.
use Rattle.std.specs.Prelude.{◌≡◌, ℕ, Bool, true, List, [], ◌∷◌, ◌==◌, ◌||◌, ◌&&◌, nat_le}
use Rattle.decimals.specs.Number.{is_digit}

-- an ASCII letter or `_`
abbrev pub is_letter : ℕ → Bool
is_letter b = (nat_le 97 b && nat_le b 122) || (nat_le 65 b && nat_le b 90) || b == 95

-- a letter, a digit or `_`
abbrev pub is_word : ℕ → Bool
is_word b = is_letter b || is_digit b

-- space, tab, LF, CR
abbrev pub is_white : ℕ → Bool
is_white b = b == 32 || b == 9 || b == 10 || b == 13

-- each byte passes
abbrev pub Each : (ℕ → Bool) → List ℕ → Type 0
Each f [] = Unit {0}
Each f (b ∷ bs) = (f b ≡ true) × Each f bs
