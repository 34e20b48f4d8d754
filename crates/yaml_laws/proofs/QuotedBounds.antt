-- Where quoted scalars fail: not before their places, and within their text.
use Rattle.std.proofs.Common.{◌≡◌, ℕ, zero, suc, ◌+◌, ◌-◌, ◌<◌, ◌≤◌, Bool, true, false, List, [], ◌∷◌, ◌++◌, length, drop, refl, sym, ap, subst, ◌∙◌, arith, cond, length-drop}
use Rattle.std.specs.Prelude.{nat_eq, nat_lt, ◌||◌, ◌&&◌}
use Rattle.yaml_scalars.specs.declared.scalar.Setting.{Setting}
use Rattle.yaml_scalars.specs.Lines.{Line, Fails, Documents, begins_with, is_white, is_blank, is_mark, is_cut_mark, lead, past_white}
use Rattle.yaml_scalars.specs.Quoted.{Piece, Itself, Closes, Means, Joins, Returns, Wrong, Part, Closed, Open, Joined, Returned, Refused, piece, add_piece, line_part, gap, behind_part, key_part, quoted_more, quoted_on}
use Rattle.yaml_scalars.specs.Scalar.{quoted_scalar}
use Rattle.yaml_scalars.specs.code.Walk.{line_at, has_break, behind}
use Rattle.yaml_scalars.proofs.Places.{lines_are, lead_le}
use Rattle.yaml_laws.proofs.Agree.{Later, Within, behind_later, lines_within}
use Rattle.yaml_scalars.proofs.EscapeFits.{IsWithin, piece_within}

-- a fault of a part lies behind a place, and not behind another
abbrev pub IsBetween : ℕ → ℕ → Part → Type 0
IsBetween low high (Closed text end) = Unit {0}
IsBetween low high (Open text) = Unit {0}
IsBetween low high (Joined text) = Unit {0}
IsBetween low high (Returned at) = (low ≤ at) × (at < high)
IsBetween low high (Refused at) = (low < at) × (at ≤ high)

wider : (low less high : ℕ) (p : Part) → less ≤ low → IsBetween low high p → IsBetween less high p
wider low less high (Closed text end) l h = tt
wider low less high (Open text) l h = tt
wider low less high (Joined text) l h = tt
wider low less high (Returned at) l h = (let a = h.0 in omega arith, h.1)
wider low less high (Refused at) l h = (let a = h.0 in omega arith, h.1)

moved : (low lower high higher : ℕ) (p : Part) → lower ≤ low → high ≡ higher → IsBetween low high p → IsBetween lower higher p
moved low lower high higher p l e h = wider low lower higher p l (subst (λ k. IsBetween low k p) e h)

pub part_between : (quote at skip : ℕ) (text : List ℕ) (kept : ℕ) (bs : List ℕ) → IsBetween (at + skip) (at + length bs) (line_part quote at skip text kept bs)
part_between quote at skip text kept [] = tt
part_between quote at (suc n) text kept (b ∷ bs) =
    moved (suc at + n) (at + suc n) (suc at + length bs) (at + suc (length bs)) (line_part quote (suc at) n text kept bs) (omega arith) (omega arith) (part_between quote (suc at) n text kept bs)
part_between quote at zero text kept (b ∷ bs) = by_piece (piece quote b bs) (piece_within quote b bs) (λ n t k. part_between quote (suc at) n t k bs) where
  further : (n : ℕ) (t : List ℕ) (k : ℕ) → IsBetween (suc at + n) (suc at + length bs) (line_part quote (suc at) n t k bs) → IsBetween (at + 0) (at + suc (length bs)) (line_part quote (suc at) n t k bs)
  further n t k r = moved (suc at + n) (at + 0) (suc at + length bs) (at + suc (length bs)) (line_part quote (suc at) n t k bs) (omega arith) (omega arith) r

  by_white : (q : Bool) → ((n : ℕ) (t : List ℕ) (k : ℕ) → IsBetween (suc at + n) (suc at + length bs) (line_part quote (suc at) n t k bs)) → IsBetween (at + 0) (at + suc (length bs)) (cond q (line_part quote (suc at) 0 (text ++ (b ∷ [])) kept bs) (line_part quote (suc at) 0 (text ++ (b ∷ [])) (suc (length text)) bs))
  by_white true r = further 0 (text ++ (b ∷ [])) kept (r 0 (text ++ (b ∷ [])) kept)
  by_white false r = further 0 (text ++ (b ∷ [])) (suc (length text)) (r 0 (text ++ (b ∷ [])) (suc (length text)))

  by_piece : (p : Piece) → IsWithin (length bs) p → ((n : ℕ) (t : List ℕ) (k : ℕ) → IsBetween (suc at + n) (suc at + length bs) (line_part quote (suc at) n t k bs)) → IsBetween (at + 0) (at + suc (length bs)) (add_piece p b at text kept (λ n t k. line_part quote (suc at) n t k bs))
  by_piece Itself w r = by_white (is_white b) r
  by_piece Closes w r = tt
  by_piece (Means taken t) w r = further taken (text ++ t) (length (text ++ t)) (r taken (text ++ t) (length (text ++ t)))
  by_piece Joins w r = tt
  by_piece (Returns n) w r = (omega arith, omega arith)
  by_piece (Wrong n) w r = let x = w.0 in let y = w.1 in (omega arith, omega arith)

-- a mark cut by a carriage return
pub cut_length : (xs : List ℕ) → is_cut_mark xs ≡ true → 4 ≤ length xs
cut_length [] h = absurd (cc)
cut_length (a ∷ []) h = absurd (cc)
cut_length (a ∷ b ∷ []) h = absurd (cc)
cut_length (a ∷ b ∷ c ∷ []) h = none (nat_eq a 45 || nat_eq a 46) (nat_eq a b) (nat_eq a c) h where
  none : (p q r : Bool) → (p && (q && (r && false))) ≡ true → 4 ≤ 3
  none true true true h = absurd (cc)
  none true true false h = absurd (cc)
  none true false r h = absurd (cc)
  none false q r h = absurd (cc)
cut_length (a ∷ b ∷ c ∷ d ∷ xs) h = omega arith

-- a scalar that goes on over lines behind a place fails behind it
pub more_later : (quote size q : ℕ) (ls : List Line) (text : List ℕ) (j : Bool) (k p : ℕ) → q < size → Later q ls → quoted_more quote size ls text j k ≡ Fails p → q < p
more_later quote size q [] text j k p s h e = let f : size ≡ p = cc in omega arith
more_later quote size q (l ∷ ls) text j k p s h e =
    by_line (is_mark l.bytes && (l.broken || nat_lt 3 (length l.bytes))) (is_cut_mark l.bytes) (is_blank l.bytes) (λ u i n f. more_later quote size q ls u i n p s h.1 f) e where
      by_part : (r : Part) → IsBetween (l.at + lead is_white l.bytes + 0) (l.at + lead is_white l.bytes + length (past_white l.bytes)) r → ((i : Bool) (u : List ℕ) → quoted_more quote size ls u i 0 ≡ Fails p → q < p) → behind_part r (λ i u. quoted_more quote size ls u i 0) ≡ Fails p → q < p
      by_part (Closed u end) w f g = absurd (cc)
      by_part (Open u) w f g = f false u g
      by_part (Joined u) w f g = f true u g
      by_part (Returned at) w f g = let n : suc at ≡ p = cc in let a = w.0 in let b = h.0 in omega arith
      by_part (Refused at) w f g = let n : at ≡ p = cc in let a = w.0 in let b = h.0 in omega arith

      by_line : (m c w : Bool) → ((u : List ℕ) (i : Bool) (n : ℕ) → quoted_more quote size ls u i n ≡ Fails p → q < p) → cond m (Documents l.at) (cond c (Fails (l.at + 3)) (cond w (quoted_more quote size ls text j (suc k)) (behind_part (line_part quote (l.at + lead is_white l.bytes) 0 (text ++ gap j k) (length (text ++ gap j k)) (past_white l.bytes)) (λ i u. quoted_more quote size ls u i 0)))) ≡ Fails p → q < p
      by_line true c w r g = absurd (cc)
      by_line false true w r g = let n : l.at + 3 ≡ p = cc in let b = h.0 in omega arith
      by_line false false true r g = r text j (suc k) g
      by_line false false false r g = by_part (line_part quote (l.at + lead is_white l.bytes) 0 (text ++ gap j k) (length (text ++ gap j k)) (past_white l.bytes)) (part_between quote (l.at + lead is_white l.bytes) 0 (text ++ gap j k) (length (text ++ gap j k)) (past_white l.bytes)) (λ i u f. r u i 0 f) g

-- and within the text, if the lines are
pub more_within : (quote size : ℕ) (ls : List Line) (text : List ℕ) (j : Bool) (k p : ℕ) → Within size ls → quoted_more quote size ls text j k ≡ Fails p → p ≤ size
more_within quote size [] text j k p h e = let f : size ≡ p = cc in omega arith
more_within quote size (l ∷ ls) text j k p h e =
    by_line (is_mark l.bytes && (l.broken || nat_lt 3 (length l.bytes))) (is_cut_mark l.bytes) (λ c. cut_length l.bytes c) (is_blank l.bytes) (λ u i n f. more_within quote size ls u i n p h.1 f) e where
      fits : l.at + lead is_white l.bytes + length (past_white l.bytes) ≤ size
      fits = let a = h.0 in let b = lead_le is_white l.bytes in omega (arith, a, b, length-drop (lead is_white l.bytes) l.bytes)

      by_part : (r : Part) → IsBetween (l.at + lead is_white l.bytes + 0) (l.at + lead is_white l.bytes + length (past_white l.bytes)) r → ((i : Bool) (u : List ℕ) → quoted_more quote size ls u i 0 ≡ Fails p → p ≤ size) → behind_part r (λ i u. quoted_more quote size ls u i 0) ≡ Fails p → p ≤ size
      by_part (Closed u end) w f g = absurd (cc)
      by_part (Open u) w f g = f false u g
      by_part (Joined u) w f g = f true u g
      by_part (Returned at) w f g = let n : suc at ≡ p = cc in let a = w.1 in let b = fits in omega arith
      by_part (Refused at) w f g = let n : at ≡ p = cc in let a = w.1 in let b = fits in omega arith

      by_line : (m c : Bool) → (c ≡ true → 4 ≤ length l.bytes) → (w : Bool) → ((u : List ℕ) (i : Bool) (n : ℕ) → quoted_more quote size ls u i n ≡ Fails p → p ≤ size) → cond m (Documents l.at) (cond c (Fails (l.at + 3)) (cond w (quoted_more quote size ls text j (suc k)) (behind_part (line_part quote (l.at + lead is_white l.bytes) 0 (text ++ gap j k) (length (text ++ gap j k)) (past_white l.bytes)) (λ i u. quoted_more quote size ls u i 0)))) ≡ Fails p → p ≤ size
      by_line true c v w r g = absurd (cc)
      by_line false true v w r g = let n : l.at + 3 ≡ p = cc in let a = h.0 in let b = v refl in omega arith
      by_line false false v true r g = r text j (suc k) g
      by_line false false v false r g = by_part (line_part quote (l.at + lead is_white l.bytes) 0 (text ++ gap j k) (length (text ++ gap j k)) (past_white l.bytes)) (part_between quote (l.at + lead is_white l.bytes) 0 (text ++ gap j k) (length (text ++ gap j k)) (past_white l.bytes)) (λ i u f. r u i 0 f) g

-- a line's first byte or none of it stands before the fault
pub on_lower : (one_line : Bool) (size : ℕ) (l : Line) (ls : List Line) (n p : ℕ) → l.at < size → Later l.at ls → n ≤ length l.bytes → n ≤ 1 → quoted_on one_line size (l ∷ ls) ≡ Fails p → l.at + n ≤ p
on_lower one_line size l ls n p s later fits one h = by_line one_line h where
  by_key : (r : Part) → IsBetween (suc l.at + 0) (suc l.at + length (drop 1 l.bytes)) r → key_part r (l.at + length l.bytes) ≡ Fails p → l.at + n ≤ p
  by_key (Closed t end) w g = absurd (cc)
  by_key (Open t) w g = let e : l.at + length l.bytes ≡ p = cc in omega arith
  by_key (Joined t) w g = let e : l.at + length l.bytes ≡ p = cc in omega arith
  by_key (Returned at) w g = let e : at ≡ p = cc in let a = w.0 in omega arith
  by_key (Refused at) w g = let e : at ≡ p = cc in let a = w.0 in omega arith

  by_part : (q : ℕ) (r : Part) → IsBetween (suc l.at + 0) (suc l.at + length (drop 1 l.bytes)) r → behind_part r (λ j t. quoted_more q size ls t j 0) ≡ Fails p → l.at + n ≤ p
  by_part q (Closed t end) w g = absurd (cc)
  by_part q (Open t) w g = let a = more_later q size l.at ls t false 0 p s later g in omega arith
  by_part q (Joined t) w g = let a = more_later q size l.at ls t true 0 p s later g in omega arith
  by_part q (Returned at) w g = let e : suc at ≡ p = cc in let a = w.0 in omega arith
  by_part q (Refused at) w g = let e : at ≡ p = cc in let a = w.0 in omega arith

  by_line : (b : Bool) → cond b (key_part (line_part (cond (begins_with 34 l.bytes) 34 39) (suc l.at) 0 [] 0 (drop 1 l.bytes)) (l.at + length l.bytes)) (behind_part (line_part (cond (begins_with 34 l.bytes) 34 39) (suc l.at) 0 [] 0 (drop 1 l.bytes)) (λ j t. quoted_more (cond (begins_with 34 l.bytes) 34 39) size ls t j 0)) ≡ Fails p → l.at + n ≤ p
  by_line true g = by_key (line_part (cond (begins_with 34 l.bytes) 34 39) (suc l.at) 0 [] 0 (drop 1 l.bytes)) (part_between (cond (begins_with 34 l.bytes) 34 39) (suc l.at) 0 [] 0 (drop 1 l.bytes)) g
  by_line false g = by_part (cond (begins_with 34 l.bytes) 34 39) (line_part (cond (begins_with 34 l.bytes) 34 39) (suc l.at) 0 [] 0 (drop 1 l.bytes)) (part_between (cond (begins_with 34 l.bytes) 34 39) (suc l.at) 0 [] 0 (drop 1 l.bytes)) g

pub on_upper : (one_line : Bool) (size : ℕ) (l : Line) (ls : List Line) (p : ℕ) → Within size (l ∷ ls) → quoted_on one_line size (l ∷ ls) ≡ Fails p → p ≤ size
on_upper one_line size l ls p within h = by_line one_line h where
  rest : length (drop 1 l.bytes) ≡ length l.bytes - 1
  rest = length-drop 1 l.bytes

  by_key : (r : Part) → IsBetween (suc l.at + 0) (suc l.at + length (drop 1 l.bytes)) r → key_part r (l.at + length l.bytes) ≡ Fails p → p ≤ size
  by_key (Closed t end) w g = absurd (cc)
  by_key (Open t) w g = let e : l.at + length l.bytes ≡ p = cc in let a = within.0 in omega arith
  by_key (Joined t) w g = let e : l.at + length l.bytes ≡ p = cc in let a = within.0 in omega arith
  by_key (Returned at) w g = let e : at ≡ p = cc in let a = w.0 in let b = w.1 in let c = within.0 in let d = rest in omega arith
  by_key (Refused at) w g = let e : at ≡ p = cc in let a = w.0 in let b = w.1 in let c = within.0 in let d = rest in omega arith

  by_part : (q : ℕ) (r : Part) → IsBetween (suc l.at + 0) (suc l.at + length (drop 1 l.bytes)) r → behind_part r (λ j t. quoted_more q size ls t j 0) ≡ Fails p → p ≤ size
  by_part q (Closed t end) w g = absurd (cc)
  by_part q (Open t) w g = more_within q size ls t false 0 p within.1 g
  by_part q (Joined t) w g = more_within q size ls t true 0 p within.1 g
  by_part q (Returned at) w g = let e : suc at ≡ p = cc in let a = w.0 in let b = w.1 in let c = within.0 in let d = rest in omega arith
  by_part q (Refused at) w g = let e : at ≡ p = cc in let a = w.0 in let b = w.1 in let c = within.0 in let d = rest in omega arith

  by_line : (b : Bool) → cond b (key_part (line_part (cond (begins_with 34 l.bytes) 34 39) (suc l.at) 0 [] 0 (drop 1 l.bytes)) (l.at + length l.bytes)) (behind_part (line_part (cond (begins_with 34 l.bytes) 34 39) (suc l.at) 0 [] 0 (drop 1 l.bytes)) (λ j t. quoted_more (cond (begins_with 34 l.bytes) 34 39) size ls t j 0)) ≡ Fails p → p ≤ size
  by_line true g = by_key (line_part (cond (begins_with 34 l.bytes) 34 39) (suc l.at) 0 [] 0 (drop 1 l.bytes)) (part_between (cond (begins_with 34 l.bytes) 34 39) (suc l.at) 0 [] 0 (drop 1 l.bytes)) g
  by_line false g = by_part (cond (begins_with 34 l.bytes) 34 39) (line_part (cond (begins_with 34 l.bytes) 34 39) (suc l.at) 0 [] 0 (drop 1 l.bytes)) (part_between (cond (begins_with 34 l.bytes) 34 39) (suc l.at) 0 [] 0 (drop 1 l.bytes)) g

-- a quoted scalar fails not before its place
pub quoted_lower : (s : Setting) (text : List ℕ) (at p : ℕ) → at < length text → quoted_scalar s text at ≡ Fails p → at ≤ p
quoted_lower s text at p l h =
    let r = on_lower s.one_line (length text) (record { at = at; bytes = line_at (drop at text); broken = has_break (drop at text) }) (behind at (drop at text)) 0 p l (behind_later at at (drop at text) (omega arith)) (omega arith) (omega arith) (ap (quoted_on s.one_line (length text)) (sym (lines_are at (drop at text))) ∙ h) in
    omega (arith, r)

-- and not behind its text
pub quoted_upper : (s : Setting) (text : List ℕ) (at p : ℕ) → at < length text → quoted_scalar s text at ≡ Fails p → p ≤ length text
quoted_upper s text at p l h =
    let size : at + length (drop at text) ≤ length text = omega (arith, length-drop at text) in
    let w = subst (λ ls. Within (length text) ls) (lines_are at (drop at text)) (lines_within (length text) at (drop at text) size) in
    on_upper s.one_line (length text) (record { at = at; bytes = line_at (drop at text); broken = has_break (drop at text) }) (behind at (drop at text)) p w (ap (quoted_on s.one_line (length text)) (sym (lines_are at (drop at text))) ∙ h)
