-- A name goes on by its next byte, or by its next double colon and letter.
use Rattle.std.proofs.Common.{◌≡◌, ℕ, ◌+◌, ◌≤◌, Bool, true, false, List, [], ◌∷◌, length, drop, refl, sym, ap, ◌∙◌, arith, inl, inr, ◌||◌, ◌&&◌}
use Rattle.std.specs.Prelude.{◌==◌}
use Rattle.std.proofs.lemmas.List.{drop-drop, length-drop}
use Rattle.guard_lexer.specs.Bytes.{is_letter, is_word}
use Rattle.guard_lexer.specs.code.Reach.{in_name, typed, name_step}
use Rattle.guard_lexer.proofs.Lists.{tested}

step_size : (xs : List ℕ) → in_name xs ≡ name_step xs + in_name (drop (name_step xs) xs)
step_size [] = refl
step_size (b ∷ []) = elim (tested (is_word b)) [ inl e ↦ rw e refl | inr e ↦ rw e (rw e refl) ]
step_size (b ∷ c ∷ []) = elim (tested (is_word b)) [ inl e ↦ rw e (omega arith) | inr e ↦ rw e (rw e refl) ]
step_size (b ∷ c ∷ d ∷ bs) = elim (tested (is_word b)) [
  | inl e ↦ rw e (omega arith)
  | inr e ↦ elim (tested (b == 58 && (c == 58 && is_letter d))) [ inl t ↦ rw (e, t) (omega arith) | inr t ↦ rw (e, t) (rw (e, t) refl) ]
]

step_typed : (xs : List ℕ) → typed xs ≡ ((name_step xs == 3) || typed (drop (name_step xs) xs))
step_typed [] = refl
step_typed (b ∷ []) = elim (tested (is_word b)) [ inl e ↦ rw e refl | inr e ↦ rw e refl ]
step_typed (b ∷ c ∷ []) = elim (tested (is_word b)) [ inl e ↦ rw e refl | inr e ↦ rw e (rw e refl) ]
step_typed (b ∷ c ∷ d ∷ bs) = elim (tested (is_word b)) [
  | inl e ↦ rw e refl
  | inr e ↦ elim (tested (b == 58 && (c == 58 && is_letter d))) [ inl t ↦ rw (e, t) refl | inr t ↦ rw (e, t) (rw (e, t) refl) ]
]

step_within : (xs : List ℕ) → name_step xs ≤ length xs
step_within [] = omega arith
step_within (b ∷ []) = elim (tested (is_word b)) [ inl e ↦ rw e (omega arith) | inr e ↦ rw e (omega arith) ]
step_within (b ∷ c ∷ []) = elim (tested (is_word b)) [ inl e ↦ rw e (omega arith) | inr e ↦ rw e (omega arith) ]
step_within (b ∷ c ∷ d ∷ bs) = elim (tested (is_word b)) [
  | inl e ↦ rw e (omega arith)
  | inr e ↦ elim (tested (b == 58 && (c == 58 && is_letter d))) [ inl t ↦ rw (e, t) (omega arith) | inr t ↦ rw (e, t) (omega arith) ]
]

or_assoc : (a b c : Bool) → ((a || b) || c) ≡ (a || (b || c))
or_assoc true b c = refl
or_assoc false b c = refl

-- one turn of the loop over a name
pub name_turn : (bs : List ℕ) (at step : ℕ) (t u : Bool) → at ≤ length bs → step ≡ name_step (drop at bs) → u ≡ (t || (step == 3)) →
    at + in_name (drop at bs) ≡ in_name bs → (t || typed (drop at bs)) ≡ typed bs →
    (at + step ≤ length bs) × (at + step + in_name (drop (at + step) bs) ≡ in_name bs) × ((u || typed (drop (at + step) bs)) ≡ typed bs)
name_turn bs at step t u h e f g k =
    let d : drop step (drop at bs) ≡ drop (at + step) bs = drop-drop step at bs in
    let w = step_within (drop at bs) in
    let l = length-drop at bs in
    let s : in_name (drop at bs) ≡ step + in_name (drop (at + step) bs) = step_size (drop at bs) ∙ ap (λ n. n + in_name (drop n (drop at bs))) (sym e) ∙ ap (λ x. step + in_name x) d in
    let y : typed (drop at bs) ≡ ((step == 3) || typed (drop (at + step) bs)) = step_typed (drop at bs) ∙ ap (λ n. (n == 3) || typed (drop n (drop at bs))) (sym e) ∙ ap (λ x. (step == 3) || typed x) d in
    (omega arith, omega arith, ap (λ v. v || typed (drop (at + step) bs)) f ∙ or_assoc t (step == 3) (typed (drop (at + step) bs)) ∙ ap (λ v. t || v) (sym y) ∙ k)
