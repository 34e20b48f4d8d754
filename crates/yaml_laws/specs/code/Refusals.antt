-- Where it shows that no scalar stands at a place, said by what texts agree with a text.
use Rattle.std.specs.Prelude.{ℕ, ◌≡◌, ◌≤◌, ◌⊎◌, Bool, true, List, ◌∷◌, ◌++◌, length, drop, nat_lt}
use Rattle.yaml_scalars.specs.declared.scalar.Setting.{Setting}
use Rattle.yaml_scalars.specs.Lines.{Stands, ends_with, each}
use Rattle.yaml_scalars.specs.Scalar.{begins_quoted, scalar_at}

-- no text that agrees with this one up to a place and with the byte there has a scalar of the setting at `at`
abbrev pub IsDead : Setting → List ℕ → ℕ → ℕ → Type 0
IsDead s text at place =
    (before behind : List ℕ) × (b : ℕ) × (text ≡ before ++ (b ∷ behind)) × (length before ≡ place)
    × ((more scalar : List ℕ) (end : ℕ) → scalar_at s (before ++ (b ∷ more)) at ≡ Stands scalar end → ⊥)

abbrev pub is_ascii : ℕ → Bool
is_ascii b = nat_lt b 128

-- the text ends too early: with some more bytes of ASCII behind it, it has a scalar of the setting at `at`
abbrev pub IsShort : Setting → List ℕ → ℕ → Type 0
IsShort s text at = (more scalar : List ℕ) × (end : ℕ) × (each is_ascii more ≡ true) × (scalar_at s (text ++ more) at ≡ Stands scalar end)

-- with some more bytes of ASCII behind it, a scalar of the setting at `at` ends with them; the text of a plain one ends in the letter a
abbrev pub IsEndedBy : Setting → List ℕ → ℕ → Type 0
IsEndedBy s text at =
    (more scalar : List ℕ) × (each is_ascii more ≡ true) × (scalar_at s (text ++ more) at ≡ Stands scalar (length (text ++ more)))
    × ((begins_quoted (drop at text) ≡ true) ⊎ (ends_with 97 scalar ≡ true))

-- the same of a key, whose text has at least so many bytes
abbrev pub IsLengthened : Setting → List ℕ → ℕ → ℕ → Type 0
IsLengthened s text at size = (more scalar : List ℕ) × (each is_ascii more ≡ true) × (scalar_at s (text ++ more) at ≡ Stands scalar (length (text ++ more))) × (size ≤ length scalar)

-- a place of a refusal: such a one, or the length of a text that ends too early
abbrev pub IsSyntax : Setting → List ℕ → ℕ → ℕ → Type 0
IsSyntax s text at place = IsDead s text at place ⊎ ((place ≡ length text) × IsShort s text at)
