-- Elements of lists: none is among none, one alone is the one, lists joined to none are none; an option that has a value; and numbers that count along a list.
use Rattle.std.proofs.Common.{◌≡◌, ◌<◌, ◌≤◌, ◌+◌, ◌^◌, ℕ, zero, suc, Fits, w64, refl, ap, arith, List, [], ◌∷◌, ◌++◌, Contains, Option, Some, is_some}
use Rattle.std.specs.Prelude.{IsSome}

pub none-among : (n : ℕ) → Contains [] n → ⊥
none-among n (k, within, is) = absurd (omega (arith, within))

pub one-among : (m n : ℕ) → Contains (m ∷ []) n → m ≡ n
one-among m n (zero, within, is) = is
one-among m n (suc k, within, is) = absurd (omega (arith, within))

pub none-both : {A : Type 0} (xs ys : List A) → xs ++ ys ≡ [] → (xs ≡ []) × (ys ≡ [])
none-both [] ys none = (refl, none)
none-both (x ∷ xs) ys none = absurd cc

pub some-there : {X : Type 0} (o : Option X) (x : X) → o ≡ Some x → IsSome o
some-there o x is = ap is_some is

-- the number behind one that counts along a list fits, and it is within another list of the same length
pub next-fits : (i len cap n : ℕ) → i < n → len ≡ n → len ≤ cap → cap < 2 ^ 63 → Fits w64 (i + 1)
next-fits i len cap n within are room small = omega (arith, within, are, room, small)

pub within-len : (i n len : ℕ) → i < n → len ≡ n → i < len
within-len i n len within are = omega (arith, within, are)
