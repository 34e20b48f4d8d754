-- Where a quoted scalar fails at the text's end, a longer text has one.
use Rattle.std.proofs.Common.{◌≡◌, ℕ, zero, suc, ◌+◌, ◌<◌, ◌≤◌, ◌⊎◌, Bool, true, false, List, [], ◌∷◌, ◌++◌, length, take, drop, refl, sym, ap, inl, inr, ◌∙◌, arith, cond, subst, append_assoc, append-nil, length-append, length-drop}
use Rattle.std.specs.Prelude.{nat_eq, nat_lt, ◌||◌, ◌&&◌}
use Rattle.std.proofs.lemmas.Bool.Decides.{nat_tests}
use Rattle.yaml_scalars.specs.Lines.{Line, Outcome, Fails, Documents, begins_with, ends_with, is_white, is_blank, is_mark, is_cut_mark, is_end, each, lead, past_white}
use Rattle.yaml_scalars.specs.Quoted.{Piece, Itself, Closes, Means, Joins, Returns, Wrong, Part, Closed, Open, Joined, Returned, Refused, piece, add_piece, line_part, gap, behind_part, quoted_more}
use Rattle.yaml_laws.proofs.Agree.{drop_before}
use Rattle.yaml_scalars.proofs.Places.{lead_le}
use Rattle.yaml_laws.proofs.Longer.{glue, joint, rest_of, Ends, ends_more, IsScalar, StandsTo}
use Rattle.yaml_laws.proofs.BlockHeads.{cases}
use Rattle.yaml_laws.proofs.PlainShown.{blank_front}
use Rattle.yaml_scalars.proofs.EscapeFits.{IsWithin, piece_within}
use Rattle.yaml_laws.proofs.EscapeLonger.{is_fit, AllFit, piece_fills, Shape, piece_shape}
use Rattle.yaml_laws.proofs.QuotedAlike.{IsFar, piece_alike, piece_return, return_piece}
use Rattle.yaml_laws.proofs.QuotedBounds.{IsBetween, part_between, cut_length}
use Rattle.yaml_laws.proofs.QuotedDead.{went}
use Rattle.yaml_laws.proofs.QuotedLaw.{lead_some, part_of, starts}

abbrev pub IsQuote : ℕ → Type 0
IsQuote q = (q ≡ 34) ⊎ (q ≡ 39)

abbrev pub IsClosed : Part → Type 0
IsClosed p = (t : List ℕ) × (e : ℕ) × (p ≡ Closed t e)

-- the quotation mark closes
pub closes_at : (quote at : ℕ) (text : List ℕ) (kept : ℕ) → IsQuote quote → IsClosed (line_part quote at 0 text kept (quote ∷ []))
closes_at quote at text kept (inl e) = subst (λ q. IsClosed (line_part q at 0 text kept (q ∷ []))) (sym e) (text, suc at, refl)
closes_at quote at text kept (inr e) = subst (λ q. IsClosed (line_part q at 0 text kept (q ∷ []))) (sym e) (text, suc at, refl)

pub quote_fit : (quote : ℕ) → IsQuote quote → is_fit quote ≡ true
quote_fit quote (inl e) = ap is_fit e
quote_fit quote (inr e) = ap is_fit e

skip_line : (quote at : ℕ) (a b text : List ℕ) (kept : ℕ) → line_part quote at (length a) text kept (a ++ b) ≡ line_part quote (at + length a) 0 text kept b
skip_line quote at [] b text kept = let n : at ≡ at + 0 = omega arith in ap (λ k. line_part quote k 0 text kept b) n
skip_line quote at (c ∷ a) b text kept = let n : suc at + length a ≡ at + suc (length a) = omega arith in skip_line quote (suc at) a b text kept ∙ ap (λ k. line_part quote k 0 text kept b) n

-- a piece with more bytes behind it
abbrev IsNear : Piece → Type 0
IsNear Itself = Unit {0}
IsNear (Means n t) = Unit {0}
IsNear Closes = ⊥
IsNear Joins = ⊥
IsNear (Returns n) = ⊥
IsNear (Wrong n) = ⊥

same_piece : (quote b : ℕ) (g y : List ℕ) (p : Piece) → piece quote b g ≡ p → IsNear p → piece quote b (g ++ y) ≡ p
same_piece quote b g y p e near = elim (piece_alike quote b g [] y) [
  | inl h ↦ sym h ∙ ap (piece quote b) (append-nil g) ∙ e
  | inr far ↦ absurd (none p near (subst (λ r. IsFar (length g) r) (ap (piece quote b) (append-nil g) ∙ e) far) (subst (λ r. IsWithin (length g) r) e (piece_within quote b g)))
] where
  none : (p : Piece) → IsNear p → IsFar (length g) p → IsWithin (length g) p → ⊥
  none Itself n far w = far
  none (Means m t) n far w = omega (arith, far, w)
  none Closes n far w = n
  none Joins n far w = n
  none (Returns m) n far w = n
  none (Wrong m) n far w = n

-- a part that ends with the text: closed by more bytes
abbrev pub Stops : ℕ → Part → Type 0
Stops p (Closed t e) = ⊥
Stops p (Open t) = Unit {0}
Stops p (Joined t) = Unit {0}
Stops p (Returned r) = ⊥
Stops p (Refused r) = r ≡ p

abbrev pub ClosedBy : ℕ → List ℕ → (List ℕ → Part) → Type 0
ClosedBy quote g F = (w : List ℕ) × AllFit w × IsClosed (F (g ++ (w ++ (quote ∷ []))))

pub part_longer : (quote : ℕ) → IsQuote quote → (g : List ℕ) (at skip : ℕ) (text : List ℕ) (kept : ℕ) → skip ≤ length g → Stops (at + length g) (line_part quote at skip text kept g) → ClosedBy quote g (λ xs. line_part quote at skip text kept xs)
part_longer quote q [] at zero text kept l s = ([], refl, closes_at quote at text kept q)
part_longer quote q [] at (suc n) text kept l s = absurd (omega (arith, l))
part_longer quote q (b ∷ g) at (suc n) text kept l s =
    let m : at + suc (length g) ≡ suc at + length g = omega arith in
    part_longer quote q g (suc at) n text kept (omega (arith, l)) (subst (λ k. Stops k (line_part quote (suc at) n text kept g)) m s)
part_longer quote q (b ∷ g) at zero text kept l s = by_piece (piece quote b g) refl (piece_within quote b g) (piece_shape quote b g) s (λ n t k i j. part_longer quote q g (suc at) n t k i j) where
  m : at + suc (length g) ≡ suc at + length g
  m = omega arith

  Next : Type 0
  Next = (n : ℕ) (t : List ℕ) (k : ℕ) → n ≤ length g → Stops (suc at + length g) (line_part quote (suc at) n t k g) → ClosedBy quote g (λ xs. line_part quote (suc at) n t k xs)

  -- the same piece
  near : (p : Piece) → piece quote b g ≡ p → IsNear p → ClosedBy quote g (λ xs. went quote b at text kept xs p) → ClosedBy quote (b ∷ g) (λ xs. line_part quote at 0 text kept xs)
  near p e n (w, f, (t, i, c)) = (w, f, (t, i, ap (λ r. went quote b at text kept (g ++ (w ++ (quote ∷ []))) r) (same_piece quote b g (w ++ (quote ∷ [])) p e n) ∙ c))

  by_white : (r : Bool) → Next → Stops (at + suc (length g)) (cond r (line_part quote (suc at) 0 (text ++ (b ∷ [])) kept g) (line_part quote (suc at) 0 (text ++ (b ∷ [])) (suc (length text)) g))
      → ClosedBy quote g (λ xs. cond r (line_part quote (suc at) 0 (text ++ (b ∷ [])) kept xs) (line_part quote (suc at) 0 (text ++ (b ∷ [])) (suc (length text)) xs))
  by_white true next s = next 0 (text ++ (b ∷ [])) kept (omega arith) (subst (λ k. Stops k (line_part quote (suc at) 0 (text ++ (b ∷ [])) kept g)) m s)
  by_white false next s = next 0 (text ++ (b ∷ [])) (suc (length text)) (omega arith) (subst (λ k. Stops k (line_part quote (suc at) 0 (text ++ (b ∷ [])) (suc (length text)) g)) m s)

  joins : (g ≡ []) × (nat_eq b 92 ≡ true) × (nat_eq quote 34 ≡ true) → ClosedBy quote (b ∷ g) (λ xs. line_part quote at 0 text kept xs)
  joins (none, slash, double) =
      let b_is : b ≡ 92 = grind (arith, nat_tests, slash) in
      let q_is : quote ≡ 34 = grind (arith, nat_tests, double) in
      let closed : IsClosed (line_part 34 at 0 text kept (92 ∷ 34 ∷ 34 ∷ [])) = (_, _, refl) in
      (quote ∷ [], ap (λ i. cond i true false) (quote_fit quote q), subst (λ x. IsClosed (line_part quote at 0 text kept (b ∷ (x ++ (quote ∷ quote ∷ []))))) (sym none) (subst (λ x. IsClosed (line_part quote at 0 text kept (x ∷ quote ∷ quote ∷ []))) (sym b_is) (subst (λ x. IsClosed (line_part x at 0 text kept (92 ∷ x ∷ x ∷ []))) (sym q_is) closed)))

  wrong : (n : ℕ) → piece quote b g ≡ Wrong n → at + n ≡ at + suc (length g) → ClosedBy quote (b ∷ g) (λ xs. line_part quote at 0 text kept xs)
  wrong n e p =
      let i : n ≡ suc (length g) = omega (arith, p) in
      let f = piece_fills quote b g (e ∙ ap Wrong i) in
      let w = f.1.0 in
      let t = f.1.1 in
      let q_is : quote ≡ 34 = grind (arith, nat_tests, f.0) in
      let is : piece quote b (g ++ (w ++ (quote ∷ []))) ≡ Means (0 + length g + length w) t = ap (λ x. piece quote b (g ++ (w ++ (x ∷ [])))) q_is ∙ f.1.3 in
      let size : 0 + length g + length w ≡ length (g ++ w) = omega (arith, length-append g w) in
      let c = closes_at quote (suc at + length (g ++ w)) (text ++ t) (length (text ++ t)) q in (
        w,
        f.1.2,
        (
          c.0,
          c.1,
          ap (λ r. went quote b at text kept (g ++ (w ++ (quote ∷ []))) r) is
              ∙ ap (λ k. line_part quote (suc at) k (text ++ t) (length (text ++ t)) (g ++ (w ++ (quote ∷ [])))) size
              ∙ ap (line_part quote (suc at) (length (g ++ w)) (text ++ t) (length (text ++ t))) (sym (append_assoc g w (quote ∷ [])))
              ∙ skip_line quote (suc at) (g ++ w) (quote ∷ []) (text ++ t) (length (text ++ t)) ∙ c.2,
        ),
      )

  by_piece : (p : Piece) → piece quote b g ≡ p → IsWithin (length g) p → Shape quote b g p → Stops (at + suc (length g)) (went quote b at text kept g p) → Next → ClosedBy quote (b ∷ g) (λ xs. line_part quote at 0 text kept xs)
  by_piece Itself e i h s next = near Itself e tt (by_white (is_white b) next s)
  by_piece Closes e i h s next = absurd s
  by_piece (Means n t) e i h s next = near (Means n t) e tt (next n (text ++ t) (length (text ++ t)) i (subst (λ k. Stops k (line_part quote (suc at) n (text ++ t) (length (text ++ t)) g)) m s))
  by_piece Joins e i h s next = joins h
  by_piece (Returns n) e i h s next = absurd s
  by_piece (Wrong n) e i h s next = wrong n e s

-- a part that fails behind its last byte ends in a carriage return
pub part_returned : (quote : ℕ) (g : List ℕ) (at skip : ℕ) (text : List ℕ) (kept p : ℕ) → skip ≤ length g → line_part quote at skip text kept g ≡ Returned p → suc p ≡ at + length g → ends_with 13 g ≡ true
part_returned quote [] at zero text kept p l h e = absurd (cc)
part_returned quote [] at (suc n) text kept p l h e = absurd (omega (arith, l))
part_returned quote (b ∷ g) at (suc n) text kept p l h e = ends_more b g (part_returned quote g (suc at) n text kept p (omega (arith, l)) h (omega (arith, e)))
part_returned quote (b ∷ g) at zero text kept p l h e = by_piece (piece quote b g) (piece_within quote b g) (piece_shape quote b g) h (λ n t k i j. part_returned quote g (suc at) n t k p i j (omega (arith, e))) where
  Next : Type 0
  Next = (n : ℕ) (t : List ℕ) (k : ℕ) → n ≤ length g → line_part quote (suc at) n t k g ≡ Returned p → ends_with 13 g ≡ true

  by_white : (r : Bool) → Next → cond r (line_part quote (suc at) 0 (text ++ (b ∷ [])) kept g) (line_part quote (suc at) 0 (text ++ (b ∷ [])) (suc (length text)) g) ≡ Returned p → ends_with 13 (b ∷ g) ≡ true
  by_white true next h = ends_more b g (next 0 (text ++ (b ∷ [])) kept (omega arith) h)
  by_white false next h = ends_more b g (next 0 (text ++ (b ∷ [])) (suc (length text)) (omega arith) h)

  alone : (g : List ℕ) → length g ≡ 0 → nat_eq b 13 ≡ true → ends_with 13 (b ∷ g) ≡ true
  alone [] z i = i
  alone (c ∷ g) z i = absurd (omega (arith, z))

  slash : (g : List ℕ) → length g ≡ 1 → begins_with 13 g ≡ true → ends_with 13 (b ∷ g) ≡ true
  slash [] z i = absurd (omega (arith, z))
  slash (c ∷ []) z i = i
  slash (c ∷ d ∷ g) z i = absurd (omega (arith, z))

  by_piece : (r : Piece) → IsWithin (length g) r → Shape quote b g r → went quote b at text kept g r ≡ Returned p → Next → ends_with 13 (b ∷ g) ≡ true
  by_piece Itself i s h next = by_white (is_white b) next h
  by_piece Closes i s h next = absurd (cc)
  by_piece (Means n t) i s h next = ends_more b g (next n (text ++ t) (length (text ++ t)) i h)
  by_piece Joins i s h next = absurd (cc)
  by_piece (Returns n) i (inl s) h next = let a : at + n ≡ p = cc in let z = s.0 in alone g (omega (arith, a, e, z)) s.1
  by_piece (Returns n) i (inr s) h next = let a : at + n ≡ p = cc in let z = s.0 in slash g (omega (arith, a, e, z)) s.1
  by_piece (Wrong n) i s h next = absurd (cc)

-- a carriage return behind a part: without it the part goes on
abbrev pub IsGoing : Part → Type 0
IsGoing (Closed t e) = ⊥
IsGoing (Open t) = Unit {0}
IsGoing (Joined t) = Unit {0}
IsGoing (Returned r) = ⊥
IsGoing (Refused r) = ⊥

abbrev pub Cut : ℕ → Part → Part → Type 0
Cut size (Closed t e) q = Unit {0}
Cut size (Open t) q = ⊥
Cut size (Joined t) q = ⊥
Cut size (Returned r) q = r ≡ size → IsGoing q
Cut size (Refused r) q = r ≤ size

pub part_cut : (quote : ℕ) (f : List ℕ) (at skip : ℕ) (text : List ℕ) (kept : ℕ) → skip ≤ length f → Cut (at + length f) (line_part quote at skip text kept (f ++ (13 ∷ []))) (line_part quote at skip text kept f)
part_cut quote [] at zero text kept l = subst (λ r. Cut (at + 0) (went quote 13 at text kept [] r) (line_part quote at 0 text kept [])) (sym (return_piece quote 13 [] refl)) (λ e. tt)
part_cut quote [] at (suc n) text kept l = absurd (omega (arith, l))
part_cut quote (b ∷ f) at (suc n) text kept l =
    let m : suc at + length f ≡ at + suc (length f) = omega arith in
    subst (λ k. Cut k (line_part quote (suc at) n text kept (f ++ (13 ∷ []))) (line_part quote (suc at) n text kept f)) m (part_cut quote f (suc at) n text kept (omega (arith, l)))
part_cut quote (b ∷ []) at zero text kept l = by_tests (nat_eq b 13) (nat_eq quote 34) (nat_eq b 34) (nat_eq b 92) (nat_eq b 39) (is_white b) where
  opened : (t u : List ℕ) (k : ℕ) → Cut (at + 1) (line_part quote (suc at) 0 t k (13 ∷ [])) (Open u)
  opened t u k = subst (λ r. Cut (at + 1) (went quote 13 (suc at) t k [] r) (Open u)) (sym (return_piece quote 13 [] refl)) (λ e. tt)

  whites : (w : Bool) → Cut (at + 1) (cond w (line_part quote (suc at) 0 (text ++ (b ∷ [])) kept (13 ∷ [])) (line_part quote (suc at) 0 (text ++ (b ∷ [])) (suc (length text)) (13 ∷ []))) (cond w (line_part quote (suc at) 0 (text ++ (b ∷ [])) kept []) (line_part quote (suc at) 0 (text ++ (b ∷ [])) (suc (length text)) []))
  whites true = opened (text ++ (b ∷ [])) (take kept (text ++ (b ∷ []))) kept
  whites false = opened (text ++ (b ∷ [])) (take (suc (length text)) (text ++ (b ∷ []))) (suc (length text))

  by_tests : (p q d e g w : Bool) → Cut (at + 1) (add_piece (cond p (Returns 0) (cond q (cond d Closes (cond e (Returns 1) Itself)) (cond g Closes Itself))) b at text kept (λ n t k. line_part quote (suc at) n t k (13 ∷ []))) (add_piece (cond p (Returns 0) (cond q (cond d Closes (cond e Joins Itself)) (cond g Closes Itself))) b at text kept (λ n t k. line_part quote (suc at) n t k []))
  by_tests true q d e g w = λ z. absurd (omega (arith, z))
  by_tests false true true e g w = tt
  by_tests false true false true g w = λ z. tt
  by_tests false true false false g w = whites (is_white b)
  by_tests false false d e true w = tt
  by_tests false false d e false w = whites (is_white b)
part_cut quote (b ∷ d ∷ f) at zero text kept l =
    let e = piece_return quote b d f (13 ∷ []) refl in
    subst (λ r. Cut (at + suc (suc (length f))) (went quote b at text kept (d ∷ (f ++ (13 ∷ []))) r) (line_part quote at 0 text kept (b ∷ d ∷ f))) (sym e)
    (by_piece (piece quote b (d ∷ f)) (piece_within quote b (d ∷ f)) (piece_shape quote b (d ∷ f)) (λ n t k i. part_cut quote (d ∷ f) (suc at) n t k i)) where
      m : suc at + suc (length f) ≡ at + suc (suc (length f))
      m = omega arith

      Next : Type 0
      Next = (n : ℕ) (t : List ℕ) (k : ℕ) → n ≤ suc (length f) → Cut (suc at + suc (length f)) (line_part quote (suc at) n t k (d ∷ (f ++ (13 ∷ [])))) (line_part quote (suc at) n t k (d ∷ f))

      moved : (n : ℕ) (t : List ℕ) (k : ℕ) → Cut (suc at + suc (length f)) (line_part quote (suc at) n t k (d ∷ (f ++ (13 ∷ [])))) (line_part quote (suc at) n t k (d ∷ f)) → Cut (at + suc (suc (length f))) (line_part quote (suc at) n t k (d ∷ (f ++ (13 ∷ [])))) (line_part quote (suc at) n t k (d ∷ f))
      moved n t k c = subst (λ j. Cut j (line_part quote (suc at) n t k (d ∷ (f ++ (13 ∷ [])))) (line_part quote (suc at) n t k (d ∷ f))) m c

      by_white : (w : Bool) → Next → Cut (at + suc (suc (length f))) (cond w (line_part quote (suc at) 0 (text ++ (b ∷ [])) kept (d ∷ (f ++ (13 ∷ [])))) (line_part quote (suc at) 0 (text ++ (b ∷ [])) (suc (length text)) (d ∷ (f ++ (13 ∷ []))))) (cond w (line_part quote (suc at) 0 (text ++ (b ∷ [])) kept (d ∷ f)) (line_part quote (suc at) 0 (text ++ (b ∷ [])) (suc (length text)) (d ∷ f)))
      by_white true next = moved 0 (text ++ (b ∷ [])) kept (next 0 (text ++ (b ∷ [])) kept (omega arith))
      by_white false next = moved 0 (text ++ (b ∷ [])) (suc (length text)) (next 0 (text ++ (b ∷ [])) (suc (length text)) (omega arith))

      by_piece : (p : Piece) → IsWithin (suc (length f)) p → Shape quote b (d ∷ f) p → Next → Cut (at + suc (suc (length f))) (went quote b at text kept (d ∷ (f ++ (13 ∷ []))) p) (went quote b at text kept (d ∷ f) p)
      by_piece Itself i s next = by_white (is_white b) next
      by_piece Closes i s next = tt
      by_piece (Means n t) i s next = moved n (text ++ t) (length (text ++ t)) (next n (text ++ t) (length (text ++ t)) i)
      by_piece Joins i s next = absurd (let e = s.0 in cc)
      by_piece (Returns n) i s next = λ z. absurd (omega (arith, i, z))
      by_piece (Wrong n) i s next = let y = i.1 in omega (arith, y)

-- a line that goes on with a byte that is fit is a mark, or blank, only if it was before
fit_white : (c : ℕ) → is_fit c ≡ true → is_white c ≡ false
fit_white c h = grind (arith, nat_tests, h)

fit_return : (c : ℕ) → is_fit c ≡ true → nat_eq c 13 ≡ false
fit_return c h = grind (arith, nat_tests, h)

pub mark_fit : (f : List ℕ) (c : ℕ) (v : List ℕ) → is_fit c ≡ true → is_mark (f ++ (c ∷ v)) ≡ true → (is_mark f ≡ true) × (3 < length f)
mark_fit [] c [] i h = absurd (cc)
mark_fit [] c (d ∷ []) i h = absurd (cc)
mark_fit [] c (d ∷ e ∷ v) i h = absurd (no_first c (nat_eq c d && (nat_eq c e && is_end v)) i h) where
  no_first : (c : ℕ) (q : Bool) → is_fit c ≡ true → ((nat_eq c 45 || nat_eq c 46) && q) ≡ true → ⊥
  no_first c q i h = let z : false ≡ true = grind (arith, nat_tests, i, h) in cc
mark_fit (a ∷ []) c [] i h = absurd (cc)
mark_fit (a ∷ []) c (e ∷ v) i h = absurd (no_second a c (nat_eq a e && is_end v) i h) where
  no_second : (a c : ℕ) (q : Bool) → is_fit c ≡ true → ((nat_eq a 45 || nat_eq a 46) && (nat_eq a c && q)) ≡ true → ⊥
  no_second a c q i h = let z : false ≡ true = grind (arith, nat_tests, i, h) in cc
mark_fit (a ∷ b ∷ []) c v i h = absurd (no_third a b c (is_end v) i h) where
  no_third : (a b c : ℕ) (q : Bool) → is_fit c ≡ true → ((nat_eq a 45 || nat_eq a 46) && (nat_eq a b && (nat_eq a c && q))) ≡ true → ⊥
  no_third a b c q i h = let z : false ≡ true = grind (arith, nat_tests, i, h) in cc
mark_fit (a ∷ b ∷ d ∷ []) c v i h = absurd (no_end (nat_eq a 45 || nat_eq a 46) (nat_eq a b) (nat_eq a d) (is_white c) (fit_white c i) h) where
  no_end : (p q r w : Bool) → w ≡ false → (p && (q && (r && w))) ≡ true → ⊥
  no_end true true true w e h = let z : true ≡ false = sym h ∙ e in cc
  no_end true true false w e h = cc
  no_end true false r w e h = cc
  no_end false q r w e h = cc
mark_fit (a ∷ b ∷ d ∷ e ∷ f) c v i h = (h, omega arith)

pub cut_fit : (f : List ℕ) (c : ℕ) (v : List ℕ) → is_fit c ≡ true → is_cut_mark (f ++ (c ∷ v)) ≡ true → is_cut_mark f ≡ true
cut_fit [] c [] i h = absurd (cc)
cut_fit [] c (d ∷ []) i h = absurd (cc)
cut_fit [] c (d ∷ e ∷ v) i h = absurd (no_first c (nat_eq c d && (nat_eq c e && begins_with 13 v)) i h) where
  no_first : (c : ℕ) (q : Bool) → is_fit c ≡ true → ((nat_eq c 45 || nat_eq c 46) && q) ≡ true → ⊥
  no_first c q i h = let z : false ≡ true = grind (arith, nat_tests, i, h) in cc
cut_fit (a ∷ []) c [] i h = absurd (cc)
cut_fit (a ∷ []) c (e ∷ v) i h = absurd (no_second a c (nat_eq a e && begins_with 13 v) i h) where
  no_second : (a c : ℕ) (q : Bool) → is_fit c ≡ true → ((nat_eq a 45 || nat_eq a 46) && (nat_eq a c && q)) ≡ true → ⊥
  no_second a c q i h = let z : false ≡ true = grind (arith, nat_tests, i, h) in cc
cut_fit (a ∷ b ∷ []) c v i h = absurd (no_third a b c (begins_with 13 v) i h) where
  no_third : (a b c : ℕ) (q : Bool) → is_fit c ≡ true → ((nat_eq a 45 || nat_eq a 46) && (nat_eq a b && (nat_eq a c && q))) ≡ true → ⊥
  no_third a b c q i h = let z : false ≡ true = grind (arith, nat_tests, i, h) in cc
cut_fit (a ∷ b ∷ d ∷ []) c v i h = absurd (no_end (nat_eq a 45 || nat_eq a 46) (nat_eq a b) (nat_eq a d) (nat_eq c 13) (fit_return c i) h) where
  no_end : (p q r w : Bool) → w ≡ false → (p && (q && (r && w))) ≡ true → ⊥
  no_end true true true w e h = let z : true ≡ false = sym h ∙ e in cc
  no_end true true false w e h = cc
  no_end true false r w e h = cc
  no_end false q r w e h = cc
cut_fit (a ∷ b ∷ d ∷ e ∷ f) c v i h = h

lead_blank : (f : List ℕ) (c : ℕ) (v : List ℕ) → is_blank f ≡ true → is_white c ≡ false → lead is_white (f ++ (c ∷ v)) ≡ length f
lead_blank [] c v h i = ap (λ q. cond q (suc (lead is_white v)) 0) i
lead_blank (b ∷ f) c v h i = by_white (is_white b) h (λ g. lead_blank f c v g i) where
  by_white : (q : Bool) → cond q (is_blank f) false ≡ true → (is_blank f ≡ true → lead is_white (f ++ (c ∷ v)) ≡ length f) → cond q (suc (lead is_white (f ++ (c ∷ v)))) 0 ≡ suc (length f)
  by_white true h r = ap suc (r h)
  by_white false h r = absurd (cc)

-- a line below the first, by its tests
abbrev pub below_by : ℕ → ℕ → Line → List Line → List ℕ → Bool → ℕ → Bool → Bool → Bool → Part → Outcome
below_by quote size l ls text j k s c b r = cond s (Documents l.at) (cond c (Fails (l.at + 3)) (cond b (quoted_more quote size ls text j (suc k)) (behind_part r (λ i t. quoted_more quote size ls t i 0))))

-- behind a part that goes on, or is closed
pub closed_stands : (r : Part) (next : Bool → List ℕ → Outcome) → IsClosed r → IsScalar (behind_part r next)
closed_stands r next (t, e, h) = (t, e, ap (λ r. behind_part r next) h)

pub going_stands : (P : Outcome → Type 0) (r : Part) (next : Bool → List ℕ → Outcome) → IsGoing r → ((i : Bool) (t : List ℕ) → P (next i t)) → P (behind_part r next)
going_stands P (Closed t e) next g n = absurd g
going_stands P (Open t) next g n = n false t
going_stands P (Joined t) next g n = n true t
going_stands P (Returned r) next g n = absurd g
going_stands P (Refused r) next g n = absurd g

-- the lines behind it fail, or it fails itself
pub part_cases : {A : Type 0} (r : Part) (next : Bool → List ℕ → Outcome) (p : ℕ) → behind_part r next ≡ Fails p → ((i : Bool) (t : List ℕ) → next i t ≡ Fails p → ((other : Bool → List ℕ → Outcome) → behind_part r other ≡ other i t) → A) → ((a : ℕ) → r ≡ Returned a → suc a ≡ p → A) → (r ≡ Refused p → A) → A
part_cases (Closed t e) next p h f g i = absurd (cc)
part_cases (Open t) next p h f g i = f false t h (λ other. refl)
part_cases (Joined t) next p h f g i = f true t h (λ other. refl)
part_cases (Returned a) next p h f g i = g a refl (let e : suc a ≡ p = cc in e)
part_cases (Refused a) next p h f g i = i (let e : a ≡ p = cc in ap Refused e)

-- a quotation mark on a line of its own
pub close_line : (quote size at : ℕ) (text : List ℕ) (j : Bool) (k : ℕ) → IsQuote quote → StandsTo (suc (at + 0)) (quoted_more quote size (rest_of at (quote ∷ []) ∷ []) text j k)
close_line quote size at text j k (inl e) = subst (λ q. StandsTo (suc (at + 0)) (quoted_more q size (rest_of at (q ∷ []) ∷ []) text j k)) (sym e) (_, refl)
close_line quote size at text j k (inr e) = subst (λ q. StandsTo (suc (at + 0)) (quoted_more q size (rest_of at (q ∷ []) ∷ []) text j k)) (sym e) (_, refl)

abbrev pub LongerBy : ℕ → ℕ → List Line → (ℕ → List Line → Outcome) → Type 0
LongerBy quote size ls F = (w : List ℕ) × AllFit w × ((other : ℕ) → IsScalar (F other (glue ls (rest_of size (w ++ (quote ∷ [])) ∷ []))))

pub head_fit : (quote : ℕ) (w : List ℕ) → IsQuote quote → AllFit w → (c : ℕ) × (v : List ℕ) × (w ++ (quote ∷ []) ≡ c ∷ v) × (is_fit c ≡ true)
head_fit quote [] q h = (quote, [], refl, quote_fit quote q)
head_fit quote (b ∷ w) q h = (b, w ++ (quote ∷ []), refl, by_byte (is_fit b) h) where
  by_byte : (p : Bool) → cond p (each is_fit w) false ≡ true → p ≡ true
  by_byte true h = refl
  by_byte false h = absurd (cc)

-- the last line with more bytes, of which the first is fit
last_line : (quote other : ℕ) (l : Line) (size c : ℕ) (v text : List ℕ) (j : Bool) (k : ℕ) → l.broken ≡ false → starts l ≡ false → is_cut_mark l.bytes ≡ false → is_fit c ≡ true
    → IsClosed (part_of quote l.at (l.bytes ++ (c ∷ v)) (text ++ gap j k)) → IsScalar (quoted_more quote other (joint l (rest_of size (c ∷ v)) ∷ []) text j k)
last_line quote other l size c v text j k b s m i closed =
    let ys = l.bytes ++ (c ∷ v) in
    let new : Line = joint l (rest_of size (c ∷ v)) in
    let r = part_of quote l.at ys (text ++ gap j k) in
    let no_start : starts new ≡ false = by_mark (is_mark ys) refl in
    let no_cut : is_cut_mark ys ≡ false = cases (is_cut_mark ys) (λ h. absurd (let z : true ≡ false = sym (cut_fit l.bytes c v i h) ∙ m in cc)) (λ h. h) in
    let full = blank_front l.bytes c v (fit_white c i) in
    let z = closed_stands r (λ i t. quoted_more quote other [] t i 0) closed in
    (z.0, z.1, ap (λ q. below_by quote other new [] text j k q (is_cut_mark ys) (is_blank ys) r) no_start ∙ ap (λ q. below_by quote other new [] text j k false q (is_blank ys) r) no_cut ∙ ap (λ q. below_by quote other new [] text j k false false q r) full ∙ z.2) where
      by_mark : (q : Bool) → is_mark (l.bytes ++ (c ∷ v)) ≡ q → (q && (false || nat_lt 3 (length (l.bytes ++ (c ∷ v))))) ≡ false
      by_mark false e = refl
      by_mark true e =
          let f = mark_fit l.bytes c v i e in
          let long : nat_lt 3 (length l.bytes) ≡ true = lt_true (length l.bytes) f.1 in
          absurd (let z : true ≡ false = sym (ap (λ q. q && (l.broken || nat_lt 3 (length l.bytes))) f.0 ∙ ap (λ q. l.broken || q) long ∙ any l.broken) ∙ s in cc) where
            lt_true : (n : ℕ) → 3 < n → nat_lt 3 n ≡ true
            lt_true n l = grind (arith, nat_tests)

            any : (q : Bool) → (q || true) ≡ true
            any true = refl
            any false = refl

part_new : (quote at c : ℕ) (f v text : List ℕ) → is_blank f ≡ false → part_of quote at (f ++ (c ∷ v)) text ≡ line_part quote (at + lead is_white f) 0 text (length text) (drop (lead is_white f) f ++ (c ∷ v))
part_new quote at c f v text b =
    let s = lead_some f (c ∷ v) b in
    ap (λ n. line_part quote (at + n) 0 text (length text) (drop n (f ++ (c ∷ v)))) s.0 ∙ ap (line_part quote (at + lead is_white f) 0 text (length text)) (drop_before (lead is_white f) f (c ∷ v) s.1)

pub ends_drop : (n : ℕ) (f : List ℕ) → ends_with 13 (drop n f) ≡ true → ends_with 13 f ≡ true
ends_drop zero f h = h
ends_drop (suc n) [] h = h
ends_drop (suc n) (b ∷ f) h = ends_more b f (ends_drop n f h)

pub more_longer : (quote : ℕ) → IsQuote quote → (size : ℕ) (ls : List Line) (text : List ℕ) (j : Bool) (k : ℕ) → Ends size false ls → quoted_more quote size ls text j k ≡ Fails size → LongerBy quote size ls (λ other ms. quoted_more quote other ms text j k)
more_longer quote q size [] text j k x h = absurd x
more_longer quote q size (l ∷ []) text j k (x, y, z) h = by_tests (starts l) (is_cut_mark l.bytes) (is_blank l.bytes) refl refl refl h where
  T : List ℕ
  T = text ++ gap j k

  n : ℕ
  n = lead is_white l.bytes

  by_tests : (s c b : Bool) → starts l ≡ s → is_cut_mark l.bytes ≡ c → is_blank l.bytes ≡ b → below_by quote size l [] text j k s c b (part_of quote l.at l.bytes T) ≡ Fails size → LongerBy quote size (l ∷ []) (λ other ms. quoted_more quote other ms text j k)
  by_tests true c b i e f h = absurd (cc)
  by_tests false true b i e f h = absurd (let p : l.at + 3 ≡ size = cc in let w = cut_length l.bytes e in omega (arith, p, w, x))
  by_tests false false true i e f h =
      let white : is_white quote ≡ false = fit_white quote (quote_fit quote q) in
      let n_is = lead_blank l.bytes quote [] f white in
      let c = closes_at quote (l.at + length l.bytes) T (length T) q in
      let past : drop (length l.bytes) (l.bytes ++ (quote ∷ [])) ≡ quote ∷ [] = past_all l.bytes in
      let part : part_of quote l.at (l.bytes ++ (quote ∷ [])) T ≡ line_part quote (l.at + length l.bytes) 0 T (length T) (quote ∷ []) = ap (λ m. line_part quote (l.at + m) 0 T (length T) (drop m (l.bytes ++ (quote ∷ [])))) n_is ∙ ap (line_part quote (l.at + length l.bytes) 0 T (length T)) past in
      ([], refl, λ other. last_line quote other l size quote [] text j k y i e (quote_fit quote q) (c.0, c.1, part ∙ c.2)) where
        past_all : (f : List ℕ) → drop (length f) (f ++ (quote ∷ [])) ≡ quote ∷ []
        past_all [] = refl
        past_all (b ∷ f) = past_all f
  by_tests false false false i e f h = by_part (part_of quote l.at l.bytes T) refl h where
    g : List ℕ
    g = past_white l.bytes

    size_of : l.at + n + length g ≡ size
    size_of = let w = lead_le is_white l.bytes in omega (arith, x, w, length-drop n l.bytes)

    stops : Stops size (part_of quote l.at l.bytes T) → LongerBy quote size (l ∷ []) (λ other ms. quoted_more quote other ms text j k)
    stops s =
        let r = part_longer quote q g (l.at + n) 0 T (length T) (omega arith) (subst (λ m. Stops m (part_of quote l.at l.bytes T)) (sym size_of) s) in
        let w = r.0 in
        let hd = head_fit quote w q r.1 in
        let closed : IsClosed (part_of quote l.at (l.bytes ++ (hd.0 ∷ hd.1)) T) = (r.2.0, r.2.1, part_new quote l.at hd.0 l.bytes hd.1 T f ∙ ap (λ y. line_part quote (l.at + n) 0 T (length T) (g ++ y)) (sym hd.2) ∙ r.2.2) in
        (w, r.1, λ other. subst (λ y. IsScalar (quoted_more quote other (joint l (rest_of size y) ∷ []) text j k)) (sym hd.2) (last_line quote other l size hd.0 hd.1 text j k y i e hd.3 closed))

    by_part : (r : Part) → part_of quote l.at l.bytes T ≡ r → behind_part r (λ i t. quoted_more quote size [] t i 0) ≡ Fails size → LongerBy quote size (l ∷ []) (λ other ms. quoted_more quote other ms text j k)
    by_part (Closed t e) r h = absurd (cc)
    by_part (Open t) r h = stops (subst (λ r. Stops size r) (sym r) tt)
    by_part (Joined t) r h = stops (subst (λ r. Stops size r) (sym r) tt)
    by_part (Returned a) r h =
        let p : suc a ≡ size = cc in
        let last = part_returned quote g (l.at + n) 0 T (length T) a (omega arith) r (omega (arith, p, size_of)) in
        absurd (let v : false ≡ true = z (ends_drop n l.bytes last) in cc)
    by_part (Refused a) r h = let p : a ≡ size = cc in stops (subst (λ r. Stops size r) (sym r) p)
more_longer quote q size (l ∷ m ∷ ls) text j k (x, y, z) h = by_tests (starts l) (is_cut_mark l.bytes) (is_blank l.bytes) refl refl refl h (λ u i n g. more_longer quote q size (m ∷ ls) u i n z g) where
  T : List ℕ
  T = text ++ gap j k

  Next : Type 0
  Next = (u : List ℕ) (i : Bool) (n : ℕ) → quoted_more quote size (m ∷ ls) u i n ≡ Fails size → LongerBy quote size (m ∷ ls) (λ other ms. quoted_more quote other ms u i n)

  Goal : Type 0
  Goal = LongerBy quote size (l ∷ m ∷ ls) (λ other ms. quoted_more quote other ms text j k)

  between : IsBetween (l.at + lead is_white l.bytes + 0) (l.at + lead is_white l.bytes + length (past_white l.bytes)) (part_of quote l.at l.bytes T)
  between = part_between quote (l.at + lead is_white l.bytes) 0 T (length T) (past_white l.bytes)

  fits : l.at + lead is_white l.bytes + length (past_white l.bytes) < size
  fits = let w = lead_le is_white l.bytes in omega (arith, x, w, length-drop (lead is_white l.bytes) l.bytes)

  tested : (other : ℕ) (ms : List Line) (s c b : Bool) → starts l ≡ s → is_cut_mark l.bytes ≡ c → is_blank l.bytes ≡ b → quoted_more quote other (l ∷ ms) text j k ≡ below_by quote other l ms text j k s c b (part_of quote l.at l.bytes T)
  tested other ms s c b i e f = ap (λ q. below_by quote other l ms text j k q (is_cut_mark l.bytes) (is_blank l.bytes) (part_of quote l.at l.bytes T)) i ∙ ap (λ q. below_by quote other l ms text j k s q (is_blank l.bytes) (part_of quote l.at l.bytes T)) e ∙ ap (λ q. below_by quote other l ms text j k s c q (part_of quote l.at l.bytes T)) f

  by_tests : (s c b : Bool) → starts l ≡ s → is_cut_mark l.bytes ≡ c → is_blank l.bytes ≡ b → below_by quote size l (m ∷ ls) text j k s c b (part_of quote l.at l.bytes T) ≡ Fails size → Next → Goal
  by_tests true c b i e f h next = absurd (cc)
  by_tests false true b i e f h next = absurd (let p : l.at + 3 ≡ size = cc in let w = cut_length l.bytes e in omega (arith, p, w, x))
  by_tests false false true i e f h next = let r = next text j (suc k) h in (r.0, r.1, λ other. let s = r.2 other in (s.0, s.1, tested other (glue (m ∷ ls) (rest_of size (r.0 ++ (quote ∷ [])) ∷ [])) false false true i e f ∙ s.2))
  by_tests false false false i e f h next =
      part_cases (part_of quote l.at l.bytes T) (λ i t. quoted_more quote size (m ∷ ls) t i 0) size h
      (λ a t g back. let r = next t a 0 g in (
        r.0,
        r.1,
        λ other.
            let ms = glue (m ∷ ls) (rest_of size (r.0 ++ (quote ∷ [])) ∷ []) in
            let s = r.2 other in
            (s.0, s.1, tested other ms false false false i e f ∙ back (λ i t. quoted_more quote other ms t i 0) ∙ s.2),
      ))
      (λ a r p. absurd (let w = subst (λ r. IsBetween (l.at + lead is_white l.bytes + 0) (l.at + lead is_white l.bytes + length (past_white l.bytes)) r) r between in let v = w.1 in let u = fits in omega (arith, v, u, p)))
      (λ r. absurd (let w = subst (λ r. IsBetween (l.at + lead is_white l.bytes + 0) (l.at + lead is_white l.bytes + length (past_white l.bytes)) r) r between in let v = w.1 in let u = fits in omega (arith, v, u)))
