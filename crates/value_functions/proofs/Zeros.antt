-- Bytes in a row.
use Rattle.std.proofs.Common.{◌≡◌, ℕ, zero, suc, [], ◌∷◌, replicate, refl, ap}
use Rattle.std.specs.List.{repeat}

pub repeat-one : (n b : ℕ) → repeat n (b ∷ []) ≡ replicate n b
repeat-one zero b = refl
repeat-one (suc n) b = ap (λ bs. b ∷ bs) (repeat-one n b)
