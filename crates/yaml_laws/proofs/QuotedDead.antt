-- A part of a line that fails is one in each text that agrees so far.
use Rattle.std.proofs.Common.{◌≡◌, ℕ, zero, suc, ◌+◌, ◌<◌, ◌≤◌, Bool, true, false, List, [], ◌∷◌, ◌++◌, length, refl, sym, ap, inl, inr, subst, ◌∙◌, arith, cond, append_assoc, length-append}
use Rattle.std.specs.Prelude.{nat_lt}
use Rattle.std.proofs.lemmas.Bool.Decides.{nat_tests}
use Rattle.std.proofs.lemmas.List.{append-nil}
use Rattle.yaml_scalars.specs.Lines.{is_white}
use Rattle.yaml_scalars.specs.Quoted.{Piece, Itself, Closes, Means, Joins, Returns, Wrong, Part, Closed, Open, Joined, Returned, Refused, piece, add_piece, line_part}
use Rattle.yaml_laws.proofs.Agree.{IsReturn, SameAhead}
use Rattle.yaml_scalars.proofs.EscapeFits.{IsWithin, piece_within}
use Rattle.yaml_laws.proofs.QuotedAlike.{IsFar, IsOpen, piece_alike, piece_return, open_return, wrong_return, return_piece, at_once}
use Rattle.yaml_laws.proofs.QuotedBounds.{IsBetween, part_between}

-- a part shows at a place that a scalar on one line or another fails, with so much of the line from the place on
abbrev pub IsAt : Bool → ℕ → List ℕ → Part → Type 0
IsAt one p x (Closed t end) = ⊥
IsAt true p x (Open t) = x ≡ []
IsAt false p x (Open t) = ⊥
IsAt true p x (Joined t) = x ≡ []
IsAt false p x (Joined t) = ⊥
IsAt true p x (Returned r) = r ≡ p
IsAt false p x (Returned r) = suc r ≡ p
IsAt one p x (Refused r) = r ≡ p

-- it fails
abbrev pub IsFailing : Bool → Part → Type 0
IsFailing one (Closed t end) = ⊥
IsFailing true (Open t) = Unit {0}
IsFailing false (Open t) = ⊥
IsFailing true (Joined t) = Unit {0}
IsFailing false (Joined t) = ⊥
IsFailing one (Returned r) = Unit {0}
IsFailing one (Refused r) = Unit {0}

-- what lies behind the place does not show it
beyond : (one : Bool) (low high p : ℕ) (x : List ℕ) (r : Part) → p < low → (x ≡ [] → ⊥) → IsBetween low high r → IsAt one p x r → ⊥
beyond one low high p x (Closed t end) l n b h = h
beyond true low high p x (Open t) l n b h = n h
beyond false low high p x (Open t) l n b h = h
beyond true low high p x (Joined t) l n b h = n h
beyond false low high p x (Joined t) l n b h = h
beyond true low high p x (Returned r) l n b h = let a = b.0 in omega arith
beyond false low high p x (Returned r) l n b h = let a = b.0 in omega arith
beyond one low high p x (Refused r) l n b h = let a = b.0 in omega arith

return_fails : (one : Bool) (quote at : ℕ) (text : List ℕ) (kept b : ℕ) (v : List ℕ) → b ≡ 13 → IsFailing one (line_part quote at 0 text kept (b ∷ v))
return_fails one quote at text kept b v e = subst (λ p. IsFailing one (add_piece p b at text kept (λ n t k. line_part quote (suc at) n t k v))) (sym (return_piece quote b v e)) tt

-- the line ends, or a carriage return stands there
ends_fail : (quote at : ℕ) (text : List ℕ) (kept : ℕ) (y : List ℕ) → IsReturn y → IsFailing true (line_part quote at 0 text kept y)
ends_fail quote at text kept [] r = tt
ends_fail quote at text kept (b ∷ v) r = return_fails true quote at text kept b v r

same_empty : (y : List ℕ) → SameAhead [] y → IsReturn y
same_empty y (inl (b, u, v, e, f)) = absurd (cc)
same_empty y (inr h) = h.1

same_returned : (b : ℕ) (u y : List ℕ) → b ≡ 13 → SameAhead (b ∷ u) y → IsReturn y
same_returned b u y n (inl (c, w, v, e, f)) = let same : b ≡ c = cc in subst (λ z. IsReturn z) (sym f) (sym same ∙ n)
same_returned b u y n (inr h) = h.1

-- at the place itself only a carriage return or the line's end shows anything
pub at_place : (one : Bool) (quote at : ℕ) (text : List ℕ) (kept : ℕ) (x y : List ℕ) → SameAhead x y → IsAt one at x (line_part quote at 0 text kept x) → IsFailing one (line_part quote at 0 text kept y)
at_place true quote at text kept [] y s h = ends_fail quote at text kept y (same_empty y s)
at_place false quote at text kept [] y s h = absurd h
at_place one quote at text kept (b ∷ u) y s h = by_piece (piece quote b u) refl (piece_within quote b u) h where
  far : (n : ℕ) (t : List ℕ) (k : ℕ) → IsAt one at (b ∷ u) (line_part quote (suc at) n t k u) → ⊥
  far n t k g = beyond one (suc at + n) (suc at + length u) at (b ∷ u) (line_part quote (suc at) n t k u) (omega arith) (λ e. cc) (part_between quote (suc at) n t k u) g

  by_white : (q : Bool) → IsAt one at (b ∷ u) (cond q (line_part quote (suc at) 0 (text ++ (b ∷ [])) kept u) (line_part quote (suc at) 0 (text ++ (b ∷ [])) (suc (length text)) u)) → ⊥
  by_white true g = far 0 (text ++ (b ∷ [])) kept g
  by_white false g = far 0 (text ++ (b ∷ [])) (suc (length text)) g

  joined : (o : Bool) → IsAt o at (b ∷ u) (Joined text) → ⊥
  joined true g = cc
  joined false g = g

  returned : (o : Bool) (n : ℕ) → piece quote b u ≡ Returns n → IsAt o at (b ∷ u) (Returned (at + n)) → IsFailing o (line_part quote at 0 text kept y)
  returned true zero e g = ends_fail quote at text kept y (same_returned b u y (at_once quote b u e) s)
  returned true (suc n) e g = absurd (omega arith)
  returned false n e g = absurd (omega arith)

  by_piece : (p : Piece) → piece quote b u ≡ p → IsWithin (length u) p → IsAt one at (b ∷ u) (add_piece p b at text kept (λ n t k. line_part quote (suc at) n t k u)) → IsFailing one (line_part quote at 0 text kept y)
  by_piece Itself e w g = absurd (by_white (is_white b) g)
  by_piece Closes e w g = absurd g
  by_piece (Means taken t) e w g = absurd (far taken (text ++ t) (length (text ++ t)) g)
  by_piece Joins e w g = absurd (joined one g)
  by_piece (Returns n) e w g = returned one n e g
  by_piece (Wrong n) e w g = absurd (let a = w.0 in omega arith)

-- what a line comes to behind a piece
abbrev pub went : ℕ → ℕ → ℕ → List ℕ → ℕ → List ℕ → Piece → Part
went quote c at text kept xs r = add_piece r c at text kept (λ n t k. line_part quote (suc at) n t k xs)

-- the claim for the bytes behind one
abbrev pub Rest : Bool → ℕ → List ℕ → List ℕ → List ℕ → ℕ → ℕ → Type 0
Rest one quote f x y at p = (n : ℕ) (t : List ℕ) (k : ℕ) → n ≤ length f → IsAt one p x (line_part quote (suc at) n t k (f ++ x)) → IsFailing one (line_part quote (suc at) n t k (f ++ y))

-- the piece at a byte before the place
module _ (one : Bool) (quote c : ℕ) (f x y : List ℕ) (at : ℕ) (text : List ℕ) (kept p : ℕ) (place : at + suc (length f) ≡ p) where
  skipped : (taken : ℕ) (t : List ℕ) (k : ℕ) → length f < taken → taken ≤ length (f ++ x) → IsAt one p x (line_part quote (suc at) taken t k (f ++ x)) → ⊥
  skipped taken t k l w g =
      let some : x ≡ [] → ⊥ = λ e. let z = ap (λ (t : List ℕ). length (f ++ t)) e in let a = ap (λ (t : List ℕ). length t) (append-nil f) in omega (arith, z, a) in
      beyond one (suc at + taken) (suc at + length (f ++ x)) p x (line_part quote (suc at) taken t k (f ++ x)) (omega arith) some (part_between quote (suc at) taken t k (f ++ x)) g

  -- the same piece in both
  alike : (r : Piece) → IsWithin (length (f ++ x)) r → Rest one quote f x y at p → IsAt one p x (went quote c at text kept (f ++ x) r) → IsFailing one (went quote c at text kept (f ++ y) r)
  alike Itself w next g = by_white (is_white c) g where
    by_white : (q : Bool) → IsAt one p x (cond q (line_part quote (suc at) 0 (text ++ (c ∷ [])) kept (f ++ x)) (line_part quote (suc at) 0 (text ++ (c ∷ [])) (suc (length text)) (f ++ x))) → IsFailing one (cond q (line_part quote (suc at) 0 (text ++ (c ∷ [])) kept (f ++ y)) (line_part quote (suc at) 0 (text ++ (c ∷ [])) (suc (length text)) (f ++ y)))
    by_white true h = next 0 (text ++ (c ∷ [])) kept (omega arith) h
    by_white false h = next 0 (text ++ (c ∷ [])) (suc (length text)) (omega arith) h
  alike Closes w next g = g
  alike (Means taken t) w next g = by_size (nat_lt (length f) taken) (λ h. grind (arith, nat_tests)) (λ h. grind (arith, nat_tests)) where
    by_size : (q : Bool) → (q ≡ true → length f < taken) → (q ≡ false → taken ≤ length f) → IsFailing one (line_part quote (suc at) taken (text ++ t) (length (text ++ t)) (f ++ y))
    by_size true l m = absurd (skipped taken (text ++ t) (length (text ++ t)) (l refl) w g)
    by_size false l m = next taken (text ++ t) (length (text ++ t)) (m refl) g
  alike Joins w next g = by_line one g where
    by_line : (o : Bool) → IsAt o p x (Joined text) → IsFailing o (Joined text)
    by_line true h = tt
    by_line false h = h
  alike (Returns n) w next g = tt
  alike (Wrong n) w next g = tt

  equal : piece quote c (f ++ x) ≡ piece quote c (f ++ y) → Rest one quote f x y at p → IsAt one p x (went quote c at text kept (f ++ x) (piece quote c (f ++ x))) → IsFailing one (went quote c at text kept (f ++ y) (piece quote c (f ++ y)))
  equal e next g = subst (λ r. IsFailing one (went quote c at text kept (f ++ y) r)) e (alike (piece quote c (f ++ x)) (piece_within quote c (f ++ x)) next g)

  -- so many bytes show it that the place is not among them
  farther : (n : ℕ) (r : Piece) → suc (length f) ≤ n → IsWithin (length (f ++ x)) r → (x ≡ [] → ⊥) → IsFar n r → IsAt one p x (went quote c at text kept (f ++ x) r) → ⊥
  farther n Itself l w some h g = h
  farther n Closes l w some h g = g
  farther n (Means taken t) l w some h g = skipped taken (text ++ t) (length (text ++ t)) (omega arith) w g
  farther n Joins l w some h g = by_line one g where
    by_line : (o : Bool) → IsAt o p x (Joined text) → ⊥
    by_line true h = some h
    by_line false h = h
  farther n (Returns m) l w some h g = by_line one g where
    by_line : (o : Bool) → IsAt o p x (Returned (at + m)) → ⊥
    by_line true e = omega arith
    by_line false e = omega arith
  farther n (Wrong m) l w some h g = omega arith

  -- the same byte stands at the place
  same_byte : (b : ℕ) (u v : List ℕ) → x ≡ b ∷ u → y ≡ b ∷ v → Rest one quote f x y at p → IsAt one p x (went quote c at text kept (f ++ x) (piece quote c (f ++ x))) → IsFailing one (went quote c at text kept (f ++ y) (piece quote c (f ++ y)))
  same_byte b u v ex ey next h =
      let front = f ++ (b ∷ []) in
      let in_x : front ++ u ≡ f ++ x = append_assoc f (b ∷ []) u ∙ ap (λ t. f ++ t) (sym ex) in
      let in_y : front ++ v ≡ f ++ y = append_assoc f (b ∷ []) v ∙ ap (λ t. f ++ t) (sym ey) in
      elim (piece_alike quote c front u v) [
        | inl e ↦ equal (ap (piece quote c) (sym in_x) ∙ e ∙ ap (piece quote c) in_y) next h
        | inr far ↦ absurd (farther (length front) (piece quote c (f ++ x)) (omega (arith, length-append f (b ∷ []))) (piece_within quote c (f ++ x)) (λ e. let z = sym ex ∙ e in cc) (subst (λ xs. IsFar (length front) (piece quote c xs)) in_x far) h)
      ]

-- a carriage return or the line's end stands at the place, behind one byte or more
open_fails : (quote c at : ℕ) (text : List ℕ) (kept : ℕ) (xs : List ℕ) (r : Piece) → IsOpen r → IsFailing true (went quote c at text kept xs r)
open_fails quote c at text kept xs Itself h = absurd h
open_fails quote c at text kept xs Closes h = h
open_fails quote c at text kept xs (Means taken t) h = absurd h
open_fails quote c at text kept xs Joins h = tt
open_fails quote c at text kept xs (Returns n) h = tt
open_fails quote c at text kept xs (Wrong n) h = absurd h

behind_byte : (one : Bool) (quote c : ℕ) (x y : List ℕ) (at : ℕ) (text : List ℕ) (kept p : ℕ) → at + 1 ≡ p → IsReturn x → IsReturn y → Rest one quote [] x y at p → IsAt one p x (went quote c at text kept x (piece quote c x)) → IsFailing one (went quote c at text kept y (piece quote c y))
behind_byte one quote c x y at text kept p place rx ry next h = elim (piece_alike quote c [] x y) [
  | inl e ↦ equal one quote c [] x y at text kept p place e next h
  | inr far ↦ by_piece (piece quote c x) refl (piece_within quote c x) far h
] where
  opened : IsOpen (piece quote c x) → (o : Bool) → o ≡ true → IsFailing o (went quote c at text kept y (piece quote c y))
  opened w true e = open_fails quote c at text kept y (piece quote c y) (open_return quote c x y rx ry w)
  opened w false e = absurd (cc)

  joined : (o : Bool) → IsOpen (piece quote c x) → IsAt o p x (Joined text) → IsFailing o (went quote c at text kept y (piece quote c y))
  joined true w g = opened w true refl
  joined false w g = absurd g

  returned : (o : Bool) (m : ℕ) → 0 < m → IsOpen (piece quote c x) → IsAt o p x (Returned (at + m)) → IsFailing o (went quote c at text kept y (piece quote c y))
  returned true m l w g = opened w true refl
  returned false m l w g = absurd (omega arith)

  by_piece : (r : Piece) → piece quote c x ≡ r → IsWithin (length x) r → IsFar 0 r → IsAt one p x (went quote c at text kept x r) → IsFailing one (went quote c at text kept y (piece quote c y))
  by_piece Itself e w far g = absurd far
  by_piece Closes e w far g = absurd g
  by_piece (Means taken t) e w far g = absurd (skipped one quote c [] x y at text kept p place taken (text ++ t) (length (text ++ t)) far w g)
  by_piece Joins e w far g = joined one (subst (λ r. IsOpen r) (sym e) tt) g
  by_piece (Returns m) e w far g = returned one m far (subst (λ r. IsOpen r) (sym e) tt) g
  by_piece (Wrong m) e w far g = absurd (wrong_return quote c x m rx e)

one_piece : (one : Bool) (quote c : ℕ) (f x y : List ℕ) (at : ℕ) (text : List ℕ) (kept p : ℕ) → at + suc (length f) ≡ p → SameAhead x y → Rest one quote f x y at p → IsAt one p x (went quote c at text kept (f ++ x) (piece quote c (f ++ x))) → IsFailing one (went quote c at text kept (f ++ y) (piece quote c (f ++ y)))
one_piece one quote c f x y at text kept p place (inl (b, u, v, ex, ey)) next h = same_byte one quote c f x y at text kept p place b u v ex ey next h
one_piece one quote c [] x y at text kept p place (inr r) next h = behind_byte one quote c x y at text kept p place r.0 r.1 next h
one_piece one quote c (d ∷ f) x y at text kept p place (inr r) next h = equal one quote c (d ∷ f) x y at text kept p place (piece_return quote c d f x r.0 ∙ sym (piece_return quote c d f y r.1)) next h

-- a part of a line that fails at a place: each with the same bytes up to the place fails
pub part_dead : (one : Bool) (quote : ℕ) (f x y : List ℕ) (at skip : ℕ) (text : List ℕ) (kept p : ℕ) → SameAhead x y → skip ≤ length f → at + length f ≡ p → IsAt one p x (line_part quote at skip text kept (f ++ x)) → IsFailing one (line_part quote at skip text kept (f ++ y))
part_dead one quote [] x y at zero text kept p s l e h =
    let n : p ≡ at = omega (arith, e) in
    at_place one quote at text kept x y s (subst (λ p. IsAt one p x (line_part quote at 0 text kept x)) n h)
part_dead one quote [] x y at (suc skip) text kept p s l e h = absurd (omega arith)
part_dead one quote (c ∷ f) x y at (suc skip) text kept p s l e h = part_dead one quote f x y (suc at) skip text kept p s (omega arith) (omega (arith, e)) h
part_dead one quote (c ∷ f) x y at zero text kept p s l e h =
    one_piece one quote c f x y at text kept p e s (λ n t k m g. part_dead one quote f x y (suc at) n t k p s m (omega (arith, e)) g) h
