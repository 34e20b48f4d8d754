-- The bits of a block for its control characters and two bytes more: three comparisons, joined lane by lane.
use Rattle.std.proofs.Common.{◌≡◌, ℕ, ◌%◌, ◌^◌, Bool, true, false, cond, eqb, ltb, List, [], ◌∷◌, map, length, refl, ap, ap₂, ◌∙◌, arith}
use Rattle.std.specs.Prelude.{◌||◌, replicate}
use Rattle.std.specs.Int.Bits.{bit_or}
use Rattle.std.proofs.lemmas.Simd.{zip2_splat, zip2_of_maps, map-map, mask_l-mod}
use Rattle.std.proofs.lemmas.List.{length-map}
use lib.Lanes.{zip2, mask_l, top}
use Rattle.byte_lanes.specs.code.Controls.{is_control_or}

-- the lanes of a comparison: all bits of a lane, or none
abbrev lane : Bool → ℕ
lane b = cond b 255 0

abbrev compared : (ℕ → ℕ → Bool) → List ℕ → ℕ → List ℕ
compared t v y = zip2 (λ a b. lane (t a b)) v (replicate 16 y)

-- three of them joined
joined_lane : (p q r : Bool) → top 7 (bit_or (bit_or (lane p) (lane q)) (lane r)) ≡ (p || q || r)
joined_lane true true true = refl
joined_lane true true false = refl
joined_lane true false true = refl
joined_lane true false false = refl
joined_lane false true true = refl
joined_lane false true false = refl
joined_lane false false true = refl
joined_lane false false false = refl

same_map : (f g : ℕ → Bool) → ((x : ℕ) → f x ≡ g x) → (v : List ℕ) → map f v ≡ map g v
same_map f g e [] = refl
same_map f g e (x ∷ v) = ap₂ ◌∷◌ (e x) (same_map f g e v)

module _ (one other : ℕ) (v : List ℕ) (long : length v ≡ 16) where
  lanes_are : (t : ℕ → ℕ → Bool) (y : ℕ) → compared t v y ≡ map (λ x. lane (t x y)) v
  lanes_are t y = zip2_splat (λ a b. lane (t a b)) v 16 y long

  joined_are : zip2 bit_or (zip2 bit_or (compared ltb v 32) (compared eqb v one)) (compared eqb v other) ≡ map (λ x. bit_or (bit_or (lane (ltb x 32)) (lane (eqb x one))) (lane (eqb x other))) v
  joined_are = zip2_of_maps bit_or (λ x. bit_or (lane (ltb x 32)) (lane (eqb x one))) (λ x. lane (eqb x other)) v (zip2_of_maps bit_or (λ x. lane (ltb x 32)) (λ x. lane (eqb x one)) v (lanes_are ltb 32) (lanes_are eqb one)) (lanes_are eqb other)

  tops_are : map (top 7) (zip2 bit_or (zip2 bit_or (compared ltb v 32) (compared eqb v one)) (compared eqb v other)) ≡ map (is_control_or one other) v
  tops_are =
      ap (map (top 7)) joined_are ∙ map-map (top 7) (λ x. bit_or (bit_or (lane (ltb x 32)) (lane (eqb x one))) (lane (eqb x other))) v
      ∙ same_map (λ x. top 7 (bit_or (bit_or (lane (ltb x 32)) (lane (eqb x one))) (lane (eqb x other)))) (is_control_or one other) (λ x. joined_lane (ltb x 32) (eqb x one) (eqb x other)) v

  pub control_hits : mask_l (map (top 7) (zip2 bit_or (zip2 bit_or (compared ltb v 32) (compared eqb v one)) (compared eqb v other))) % 2 ^ 64 ≡ mask_l (map (is_control_or one other) v)
  control_hits =
      ap (λ ms. mask_l ms % 2 ^ 64) tops_are
      ∙ mask_l-mod (map (is_control_or one other) v) 64 (omega (arith, length-map v (is_control_or one other), long))
