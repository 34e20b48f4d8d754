-- The last byte of a text tells whether it ends in a backslash. By induction on the text.
use Rattle.std.proofs.Common.{◌≡◌, ℕ, suc, ◌-◌, false, List, [], ◌∷◌, length, slice_get, Some, None, refl, ap, ◌∙◌, arith}
use Rattle.std.specs.Prelude.{◌==◌}
use Rattle.rule_spelling.specs.Spelling.{ends_in_backslash}

next-last : (b c : ℕ) (bs : List ℕ) → slice_get (b ∷ c ∷ bs) (length (b ∷ c ∷ bs) - 1) ≡ slice_get (c ∷ bs) (length (c ∷ bs) - 1)
next-last b c bs = let e : length (b ∷ c ∷ bs) - 1 ≡ suc (length (c ∷ bs) - 1) = omega arith in ap (slice_get (b ∷ c ∷ bs)) e

pub ends-some : (bs : List ℕ) (b : ℕ) → Some b ≡ slice_get bs (length bs - 1) → (b == 92) ≡ ends_in_backslash bs
ends-some [] b e = absurd cc
ends-some (c ∷ []) b e = let same : b ≡ c = cc in ap (λ x. x == 92) same
ends-some (c ∷ d ∷ bs) b e = ends-some (d ∷ bs) b (e ∙ next-last c d bs)

pub ends-none : (bs : List ℕ) → None ≡ slice_get bs (length bs - 1) → false ≡ ends_in_backslash bs
ends-none [] e = refl
ends-none (c ∷ []) e = absurd cc
ends-none (c ∷ d ∷ bs) e = ends-none (d ∷ bs) (e ∙ next-last c d bs)
