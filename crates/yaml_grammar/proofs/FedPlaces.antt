-- A text that ends in a carriage return, decided by the same text with a line feed behind it. By the cases of places.
use Rattle.std.proofs.Common.{◌≡◌, ℕ, suc, ◌<◌, ◌≤◌, inl, inr, List, [], ◌∷◌, ◌++◌, length, sym, ap, ◌∙◌, subst, arith, append_assoc, length-append}
use Rattle.yaml_grammar.specs.Places.{IsFront, IsDead, IsSyntax}
use Rattle.yaml_grammar.proofs.DeadPlaces.{front_less, front_more, parted}
use Rattle.yaml_grammar.proofs.LoneReturns.{return_dead}

-- a place that is dead with more bytes behind the text is dead in it
pub dead_front : (text more : List ℕ) (at : ℕ) → at < length text → IsDead (text ++ more) at → IsDead text at
dead_front text more at l (before, behind, b, e, size, none) =
    let (a, z, c, f, long) = parted text at l in
    let whole : before ++ (b ∷ behind) ≡ a ++ (c ∷ (z ++ more)) = sym e ∙ ap (λ t. t ++ more) f ∙ append_assoc a (c ∷ z) more in
    let (w, longer) = front_more before a behind (z ++ more) b c whole (omega (arith, size, long)) in
    (a, z, c, f, long, (λ h. none (front_less (before ++ (b ∷ [])) w (subst IsFront longer h))))

dead_within : (text : List ℕ) (at : ℕ) → IsDead text at → at < length text
dead_within text at (before, behind, b, e, size, none) = let n = ap (λ (t : List ℕ). length t) e in omega (arith, n, size, length-append before (b ∷ behind))

-- of two fronts of a text that are as long the one begins no document where the other does not
dead_last : (text : List ℕ) (b : ℕ) → IsDead (text ++ (b ∷ [])) (length text) → IsFront (text ++ (b ∷ [])) → ⊥
dead_last text b (before, behind, c, e, size, none) h =
    let (w, longer) = front_more before text behind [] c b (sym e) (omega (arith, size)) in
    none (front_less (before ++ (c ∷ [])) w (subst IsFront longer h))

module _ (front : List ℕ) where
  abbrev text : List ℕ
  text = front ++ (13 ∷ [])

  fed : (front ++ (13 ∷ [])) ++ (10 ∷ []) ≡ front ++ (13 ∷ 10 ∷ [])
  fed = append_assoc front (13 ∷ []) (10 ∷ [])

  size : length (front ++ (13 ∷ [])) ≡ suc (length front)
  size = length-append front (13 ∷ []) ∙ omega arith

  fed_size : length ((front ++ (13 ∷ [])) ++ (10 ∷ [])) ≡ suc (suc (length front))
  fed_size = let s = size in omega (arith, s, length-append (front ++ (13 ∷ [])) (10 ∷ []))

  -- no document begins with it
  pub fed_none : (IsFront ((front ++ (13 ∷ [])) ++ (10 ∷ [])) → ⊥) → IsSyntax (front ++ (13 ∷ [])) (length front)
  fed_none none = inl (return_dead front (λ h. none (subst IsFront (sym fed) h)))

  pub fed_some : IsFront ((front ++ (13 ∷ [])) ++ (10 ∷ [])) → IsSyntax (front ++ (13 ∷ [])) (suc (length front))
  fed_some h = inr (sym size, front_less (front ++ (13 ∷ [])) (10 ∷ []) h)

  pub fed_before : (at : ℕ) → at ≤ length front → IsSyntax ((front ++ (13 ∷ [])) ++ (10 ∷ [])) at → IsSyntax (front ++ (13 ∷ [])) at
  fed_before at l (inl dead) = let s = size in inl (dead_front (front ++ (13 ∷ [])) (10 ∷ []) at (omega (arith, l, s)) dead)
  fed_before at l (inr (e, h)) = let s = fed_size in absurd (omega (arith, l, e, s))

  pub fed_at : (at : ℕ) → at ≡ suc (length front) → IsSyntax ((front ++ (13 ∷ [])) ++ (10 ∷ [])) at → IsSyntax (front ++ (13 ∷ [])) (length front)
  fed_at at l (inl dead) = let s = size in fed_none (dead_last (front ++ (13 ∷ [])) 10 (subst (IsDead ((front ++ (13 ∷ [])) ++ (10 ∷ []))) (l ∙ sym s) dead))
  fed_at at l (inr (e, h)) = let s = fed_size in absurd (omega (arith, l, e, s))

  pub fed_behind : (at : ℕ) → suc (length front) < at → IsSyntax ((front ++ (13 ∷ [])) ++ (10 ∷ [])) at → IsSyntax (front ++ (13 ∷ [])) (suc (length front))
  fed_behind at l (inl dead) = let s = fed_size in let w = dead_within ((front ++ (13 ∷ [])) ++ (10 ∷ [])) at dead in absurd (omega (arith, l, w, s))
  fed_behind at l (inr (e, (more, tree, utf8, y))) = fed_some (more, tree, utf8, y)
