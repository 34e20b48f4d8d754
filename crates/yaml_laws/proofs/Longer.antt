-- The lines of a longer text: those of its front, with more behind the last of them.
use Rattle.std.proofs.Common.{◌≡◌, ℕ, suc, ◌+◌, ◌<◌, Bool, true, false, List, [], ◌∷◌, ◌++◌, length, refl, sym, ap, ◌∙◌, arith, cond, subst}
use Rattle.std.specs.Prelude.{nat_eq, ◌||◌, ◌&&◌}
use Rattle.yaml_scalars.specs.Lines.{Line, Outcome, Stands, begins_with, ends_with, each, put, begun, lines}
use Rattle.yaml_laws.specs.code.Refusals.{is_ascii}
use Rattle.yaml_scalars.specs.code.Walk.{line_at, has_break, behind}
use Rattle.yaml_scalars.proofs.Places.{lines_are}

-- lines with others behind them, the first of which goes on with the last
abbrev pub joint : Line → Line → Line
joint l f = record { at = l.at; bytes = l.bytes ++ f.bytes; broken = f.broken }

abbrev pub glue : List Line → List Line → List Line
glue [] fs = []
glue (l ∷ []) [] = l ∷ []
glue (l ∷ []) (f ∷ fs) = joint l f ∷ fs
glue (l ∷ m ∷ ls) fs = l ∷ glue (m ∷ ls) fs

-- a line of its own, and one with a break before it
abbrev pub rest_of : ℕ → List ℕ → Line
rest_of at w = record { at = at; bytes = w; broken = false }

abbrev pub feed_of : ℕ → Line
feed_of at = record { at = at; bytes = []; broken = true }

begins_glued : (xs y : List ℕ) → begins_with 10 y ≡ false → begins_with 10 (xs ++ y) ≡ begins_with 10 xs
begins_glued [] y h = h
begins_glued (x ∷ xs) y h = refl

glue_cons : (l : Line) (at : ℕ) (xs : List ℕ) (fs : List Line) → l ∷ glue (lines at xs) fs ≡ glue (l ∷ lines at xs) fs
glue_cons l at xs fs = subst (λ ls. l ∷ glue ls fs ≡ glue (l ∷ ls) fs) (sym (lines_are at xs)) refl

begun_glue : (at : ℕ) (ls fs : List Line) → begun at (glue ls fs) ≡ glue (begun at ls) fs
begun_glue at [] fs = refl
begun_glue at (l ∷ []) [] = refl
begun_glue at (l ∷ []) (f ∷ fs) = refl
begun_glue at (l ∷ m ∷ ls) fs = refl

put_glue : (at b : ℕ) (ls fs : List Line) → put at b (glue ls fs) ≡ glue (put at b ls) fs
put_glue at b [] fs = refl
put_glue at b (l ∷ []) [] = refl
put_glue at b (l ∷ []) (f ∷ fs) = refl
put_glue at b (l ∷ m ∷ ls) fs = refl

pub lines_glued : (at : ℕ) (xs y : List ℕ) → begins_with 10 y ≡ false → lines at (xs ++ y) ≡ glue (lines at xs) (lines (at + length xs) y)
lines_glued at [] y h =
    let n : at ≡ at + 0 = omega arith in
    ap (λ k. lines k y) n ∙ lines_are (at + 0) y ∙ ap (λ (k : ℕ). record { at = k; bytes = line_at y; broken = has_break y } ∷ behind (at + 0) y) (sym n) ∙ ap (glue (lines at [])) (sym (lines_are (at + 0) y))
lines_glued at (b ∷ xs) y h =
    let n : suc at + length xs ≡ at + suc (length xs) = omega arith in
    by_break (nat_eq b 10) (nat_eq b 13) (begins_glued xs y h) (lines_glued (suc at) xs y h ∙ ap (λ k. glue (lines (suc at) xs) (lines k y)) n) where
      fs : List Line
      fs = lines (at + suc (length xs)) y

      by_break : (p q : Bool) → begins_with 10 (xs ++ y) ≡ begins_with 10 xs → lines (suc at) (xs ++ y) ≡ glue (lines (suc at) xs) fs
          → cond p (feed_of at ∷ lines (suc at) (xs ++ y)) (cond (q && begins_with 10 (xs ++ y)) (begun at (lines (suc at) (xs ++ y))) (put at b (lines (suc at) (xs ++ y))))
          ≡ glue (cond p (feed_of at ∷ lines (suc at) xs) (cond (q && begins_with 10 xs) (begun at (lines (suc at) xs)) (put at b (lines (suc at) xs)))) fs
      by_break true q e g = ap (λ ls. feed_of at ∷ ls) g ∙ glue_cons (feed_of at) (suc at) xs fs
      by_break false q e g = ap (λ r. cond (q && r) (begun at (lines (suc at) (xs ++ y))) (put at b (lines (suc at) (xs ++ y)))) e ∙ by_return (q && begins_with 10 xs) where
        by_return : (r : Bool) → cond r (begun at (lines (suc at) (xs ++ y))) (put at b (lines (suc at) (xs ++ y))) ≡ glue (cond r (begun at (lines (suc at) xs)) (put at b (lines (suc at) xs))) fs
        by_return true = ap (begun at) g ∙ begun_glue at (lines (suc at) xs) fs
        by_return false = ap (put at b) g ∙ put_glue at b (lines (suc at) xs) fs

-- a carriage return and a line feed do not meet
return_glued : (b : ℕ) (xs y : List ℕ) → (ends_with 13 (b ∷ xs) && begins_with 10 y) ≡ false → (nat_eq b 13 && begins_with 10 (xs ++ y)) ≡ (nat_eq b 13 && begins_with 10 xs)
return_glued b [] y h = h ∙ none (nat_eq b 13) where
  none : (q : Bool) → false ≡ (q && false)
  none true = refl
  none false = refl
return_glued b (c ∷ xs) y h = refl

pub lines_apart : (at : ℕ) (xs y : List ℕ) → (ends_with 13 xs && begins_with 10 y) ≡ false → lines at (xs ++ y) ≡ glue (lines at xs) (lines (at + length xs) y)
lines_apart at [] y h =
    let n : at ≡ at + 0 = omega arith in
    ap (λ k. lines k y) n ∙ lines_are (at + 0) y ∙ ap (λ (k : ℕ). record { at = k; bytes = line_at y; broken = has_break y } ∷ behind (at + 0) y) (sym n) ∙ ap (glue (lines at [])) (sym (lines_are (at + 0) y))
lines_apart at (b ∷ xs) y h =
    let n : suc at + length xs ≡ at + suc (length xs) = omega arith in
    by_break (nat_eq b 10) (nat_eq b 13 && begins_with 10 (xs ++ y)) (nat_eq b 13 && begins_with 10 xs) (return_glued b xs y h) (lines_apart (suc at) xs y (further xs h) ∙ ap (λ k. glue (lines (suc at) xs) (lines k y)) n) where
      fs : List Line
      fs = lines (at + suc (length xs)) y

      further : (xs : List ℕ) → (ends_with 13 (b ∷ xs) && begins_with 10 y) ≡ false → (ends_with 13 xs && begins_with 10 y) ≡ false
      further [] h = refl
      further (c ∷ xs) h = h

      by_break : (p q r : Bool) → q ≡ r → lines (suc at) (xs ++ y) ≡ glue (lines (suc at) xs) fs
          → cond p (feed_of at ∷ lines (suc at) (xs ++ y)) (cond q (begun at (lines (suc at) (xs ++ y))) (put at b (lines (suc at) (xs ++ y)))) ≡ glue (cond p (feed_of at ∷ lines (suc at) xs) (cond r (begun at (lines (suc at) xs)) (put at b (lines (suc at) xs)))) fs
      by_break true q r e g = ap (λ ls. feed_of at ∷ ls) g ∙ glue_cons (feed_of at) (suc at) xs fs
      by_break false true true e g = ap (begun at) g ∙ begun_glue at (lines (suc at) xs) fs
      by_break false false false e g = ap (put at b) g ∙ put_glue at b (lines (suc at) xs) fs
      by_break false true false e g = absurd (cc)
      by_break false false true e g = absurd (cc)

-- a scalar stands
abbrev pub IsScalar : Outcome → Type 0
IsScalar o = (t : List ℕ) × (e : ℕ) × (o ≡ Stands t e)

-- and ends at a place
abbrev pub StandsTo : ℕ → Outcome → Type 0
StandsTo e o = (t : List ℕ) × (o ≡ Stands t e)

-- bytes with no line feed are one line
abbrev pub no_feed : List ℕ → Bool
no_feed [] = true
no_feed (b ∷ bs) = cond (nat_eq b 10) false (no_feed bs)

no_begin : (bs : List ℕ) → no_feed bs ≡ true → begins_with 10 bs ≡ false
no_begin [] h = refl
no_begin (b ∷ bs) h = by_byte (nat_eq b 10) h where
  by_byte : (q : Bool) → cond q false (no_feed bs) ≡ true → q ≡ false
  by_byte true h = absurd (cc)
  by_byte false h = refl

pub one_line : (at : ℕ) (w : List ℕ) → no_feed w ≡ true → lines at w ≡ rest_of at w ∷ []
one_line at [] h = refl
one_line at (b ∷ w) h = by_byte (nat_eq b 10) h (λ g. one_line (suc at) w g) (λ g. no_begin w g) where
  by_byte : (q : Bool) → cond q false (no_feed w) ≡ true → (no_feed w ≡ true → lines (suc at) w ≡ rest_of (suc at) w ∷ []) → (no_feed w ≡ true → begins_with 10 w ≡ false)
      → cond q (feed_of at ∷ lines (suc at) w) (cond (nat_eq b 13 && begins_with 10 w) (begun at (lines (suc at) w)) (put at b (lines (suc at) w))) ≡ rest_of at (b ∷ w) ∷ []
  by_byte true h f g = absurd (cc)
  by_byte false h f g = ap (λ q. cond (nat_eq b 13 && q) (begun at (lines (suc at) w)) (put at b (lines (suc at) w))) (g h) ∙ none (nat_eq b 13) ∙ ap (put at b) (f h) where
    none : (q : Bool) → cond (q && false) (begun at (lines (suc at) w)) (put at b (lines (suc at) w)) ≡ put at b (lines (suc at) w)
    none true = refl
    none false = refl

-- bytes of ASCII that go on with a line
abbrev pub IsRest : List ℕ → Type 0
IsRest w = (no_feed w ≡ true) × (each is_ascii w ≡ true)

pub lines_more : (at : ℕ) (xs w : List ℕ) → no_feed w ≡ true → lines at (xs ++ w) ≡ glue (lines at xs) (rest_of (at + length xs) w ∷ [])
lines_more at xs w h = lines_glued at xs w (no_begin w h) ∙ ap (glue (lines at xs)) (one_line (at + length xs) w h)

-- a carriage return and a line feed end the last line
abbrev pub ended : ℕ → List ℕ → List Line
ended at w = feed_of at ∷ rest_of (suc (suc at)) w ∷ []

-- the empty line behind that break
abbrev pub last_line : ℕ → Line
last_line at = rest_of (suc (suc at)) []

-- the last line ends in a carriage return, of which a line feed makes a break
abbrev pub cut : List Line → ℕ → List Line
cut ks place = glue ks (rest_of place (13 ∷ []) ∷ [])

pub ends_last : (a : List ℕ) → ends_with 13 (a ++ (13 ∷ [])) ≡ true
ends_last [] = refl
ends_last (b ∷ []) = refl
ends_last (b ∷ c ∷ a) = ends_last (c ∷ a)

pub lines_ended : (at : ℕ) (xs w : List ℕ) → no_feed w ≡ true → lines at (xs ++ (13 ∷ 10 ∷ w)) ≡ glue (lines at xs) (ended (at + length xs) w)
lines_ended at xs w h = lines_glued at xs (13 ∷ 10 ∷ w) refl ∙ ap (λ ls. glue (lines at xs) (feed_of (at + length xs) ∷ ls)) (one_line (suc (suc (at + length xs))) w h)

-- the last line ends at a place and has no break, those before end before it, with breaks; if it ends in a carriage return, so does the text
abbrev pub Ends : ℕ → Bool → List Line → Type 0
Ends size r [] = ⊥
Ends size r (l ∷ []) = (l.at + length l.bytes ≡ size) × (l.broken ≡ false) × (ends_with 13 l.bytes ≡ true → r ≡ true)
Ends size r (l ∷ m ∷ ls) = (l.at + length l.bytes < size) × (l.broken ≡ true) × Ends size r (m ∷ ls)

ends_wider : (size : ℕ) (r q : Bool) (ls : List Line) → (r ≡ true → q ≡ true) → Ends size r ls → Ends size q ls
ends_wider size r q [] f h = h
ends_wider size r q (l ∷ []) f (a, b, c) = (a, b, λ e. f (c e))
ends_wider size r q (l ∷ m ∷ ls) f (a, b, c) = (a, b, ends_wider size r q (m ∷ ls) f c)

ends_cons : (size : ℕ) (r : Bool) (l : Line) (ls : List Line) → l.at + length l.bytes < size → l.broken ≡ true → Ends size r ls → Ends size r (l ∷ ls)
ends_cons size r l [] h b e = absurd e
ends_cons size r l (m ∷ ls) h b e = (h, b, e)

ends_begun : (size : ℕ) (r : Bool) (at : ℕ) (l : Line) (ls : List Line) → at < l.at → l.broken ≡ true → Ends size r (l ∷ ls) → Ends size r (begun at (l ∷ ls))
ends_begun size r at l [] h b (x, y, z) = absurd (let q : true ≡ false = sym b ∙ y in cc)
ends_begun size r at l (m ∷ ls) h b (x, y, z) = (omega (arith, h, x), y, z)

ends_put : (size : ℕ) (r : Bool) (at b : ℕ) (l : Line) (ls : List Line) → l.at ≡ suc at → (ls ≡ [] → ends_with 13 (b ∷ l.bytes) ≡ true → r ≡ true) → Ends size r (l ∷ ls) → Ends size r (put at b (l ∷ ls))
ends_put size r at b l [] h f (x, y, z) = (omega (arith, h, x), y, f refl)
ends_put size r at b l (m ∷ ls) h f (x, y, z) = (omega (arith, h, x), y, z)

feed_ahead : (xs : List ℕ) → begins_with 10 xs ≡ true → has_break xs ≡ true
feed_ahead [] h = absurd (cc)
feed_ahead (x ∷ xs) h = ap (λ q. q || has_break xs) h

-- with no line behind it, a line is the text
pub behind_none : (at : ℕ) (xs : List ℕ) → behind at xs ≡ [] → (has_break xs ≡ false) × (line_at xs ≡ xs)
behind_none at [] h = (refl, refl)
behind_none at (b ∷ xs) h = by_feed (nat_eq b 10) (nat_eq b 13) (begins_with 10 xs) h (λ g. behind_none (suc at) xs g) (λ g. feed_ahead xs g) where
  by_feed : (p q r : Bool) → cond p (lines (suc at) xs) (behind (suc at) xs) ≡ [] → (behind (suc at) xs ≡ [] → (has_break xs ≡ false) × (line_at xs ≡ xs)) → (r ≡ true → has_break xs ≡ true)
      → ((p || has_break xs) ≡ false) × (cond (p || (q && r)) [] (b ∷ line_at xs) ≡ b ∷ xs)
  by_feed true q r h f g = absurd (let e = sym (lines_are (suc at) xs) ∙ h in cc)
  by_feed false true true h f g = absurd (let e : true ≡ false = sym (g refl) ∙ (f h).0 in cc)
  by_feed false true false h f g = let e = f h in (e.0, ap (λ t. b ∷ t) e.1)
  by_feed false false r h f g = let e = f h in (e.0, ap (λ t. b ∷ t) e.1)

pub ends_more : (b : ℕ) (xs : List ℕ) → ends_with 13 xs ≡ true → ends_with 13 (b ∷ xs) ≡ true
ends_more b [] h = absurd (cc)
ends_more b (x ∷ xs) h = h

pub lines_end : (at : ℕ) (xs : List ℕ) → Ends (at + length xs) (ends_with 13 xs) (lines at xs)
lines_end at [] = (refl, refl, λ h. absurd (cc))
lines_end at (b ∷ xs) =
    let n : suc at + length xs ≡ at + suc (length xs) = omega arith in
    by_break (nat_eq b 10) (nat_eq b 13) (begins_with 10 xs) (λ h. feed_ahead xs h)
    (subst (λ k. Ends k (ends_with 13 (b ∷ xs)) (lines (suc at) xs)) n (ends_wider (suc at + length xs) (ends_with 13 xs) (ends_with 13 (b ∷ xs)) (lines (suc at) xs) (ends_more b xs) (lines_end (suc at) xs))) where
      size : ℕ
      size = at + suc (length xs)

      r : Bool
      r = ends_with 13 (b ∷ xs)

      first : Line
      first = record { at = suc at; bytes = line_at xs; broken = has_break xs }

      by_break : (p q s : Bool) → (s ≡ true → has_break xs ≡ true) → Ends size r (lines (suc at) xs) → Ends size r (cond p (feed_of at ∷ lines (suc at) xs) (cond (q && s) (begun at (lines (suc at) xs)) (put at b (lines (suc at) xs))))
      by_break true q s f h = ends_cons size r (feed_of at) (lines (suc at) xs) (omega arith) refl h
      by_break false q s f h =
          let e = lines_are (suc at) xs in
          let g = subst (λ ls. Ends size r ls) e h in
          subst (λ ls. Ends size r (cond (q && s) (begun at ls) (put at b ls))) (sym e) (by_return q s f g) where
            puts : Ends size r (first ∷ behind (suc at) xs) → Ends size r (put at b (first ∷ behind (suc at) xs))
            puts g = ends_put size r at b first (behind (suc at) xs) refl (λ k m. sym (ap (λ (t : List ℕ). ends_with 13 (b ∷ t)) (behind_none (suc at) xs k).1) ∙ m) g

            by_return : (q s : Bool) → (s ≡ true → has_break xs ≡ true) → Ends size r (first ∷ behind (suc at) xs) → Ends size r (cond (q && s) (begun at (first ∷ behind (suc at) xs)) (put at b (first ∷ behind (suc at) xs)))
            by_return true true f g = ends_begun size r at first (behind (suc at) xs) (omega arith) (f refl) g
            by_return true false f g = puts g
            by_return false s f g = puts g
