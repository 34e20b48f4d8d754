-- A text's lines, by places.
use Rattle.std.proofs.Common.{◌≡◌, ℕ, zero, suc, ◌+◌, ◌-◌, ◌<◌, ◌≤◌, Bool, true, false, List, [], ◌∷◌, length, take, drop, refl, sym, ap, ◌∙◌, arith, cond, length-drop}
use Rattle.std.specs.Prelude.{nat_eq, ◌||◌, ◌&&◌}
use Rattle.yaml_scalars.specs.Lines.{begins_with, begins_break, put, begun, lines, is_mark, is_cut_mark, is_end, lead}
use Rattle.yaml_scalars.specs.code.Walk.{begins_mark, line_at, has_break, behind}

both : (p q : Bool) → (p && q) ≡ true → (p ≡ true) × (q ≡ true)
both true true h = (refl, refl)
both true false h = absurd (cc)
both false q h = absurd (cc)

feed_line : (bs : List ℕ) → begins_with 10 bs ≡ true → (line_at bs ≡ []) × (has_break bs ≡ true)
feed_line [] h = absurd (cc)
feed_line (b ∷ bs) h = by_feed (nat_eq b 10) h where
  by_feed : (q : Bool) → q ≡ true → (cond (q || (nat_eq b 13 && begins_with 10 bs)) [] (b ∷ line_at bs) ≡ []) × ((q || has_break bs) ≡ true)
  by_feed true e = (refl, refl)
  by_feed false e = absurd (cc)

-- the lines from a place on are its line and those behind
pub lines_are : (at : ℕ) (bs : List ℕ) → lines at bs ≡ record { at = at; bytes = line_at bs; broken = has_break bs } ∷ behind at bs
lines_are at [] = refl
lines_are at (b ∷ bs) = by_break (nat_eq b 10) (nat_eq b 13 && begins_with 10 bs) (λ h. (both (nat_eq b 13) (begins_with 10 bs) h).1) (lines_are (suc at) bs) where
  by_break : (q r : Bool) → (r ≡ true → begins_with 10 bs ≡ true) → lines (suc at) bs ≡ record { at = suc at; bytes = line_at bs; broken = has_break bs } ∷ behind (suc at) bs
      → cond q (record { at = at; bytes = []; broken = true } ∷ lines (suc at) bs) (cond r (begun at (lines (suc at) bs)) (put at b (lines (suc at) bs)))
      ≡ record { at = at; bytes = cond (q || r) [] (b ∷ line_at bs); broken = q || has_break bs } ∷ cond q (lines (suc at) bs) (behind (suc at) bs)
  by_break true r f h = refl
  by_break false true f h =
      let e = feed_line bs (f refl) in
      ap (begun at) h ∙ ap (λ (t : List ℕ). record { at = at; bytes = t; broken = has_break bs } ∷ behind (suc at) bs) e.0
  by_break false false f h = ap (put at b) h

-- a place in a line: the line from there on
pub line_drop : (n : ℕ) (xs : List ℕ) → n ≤ length (line_at xs) → drop n (line_at xs) ≡ line_at (drop n xs)
line_drop zero xs l = refl
line_drop (suc n) [] l = refl
line_drop (suc n) (x ∷ xs) l = by_break (begins_break x xs) l (λ m. line_drop n xs m) where
  by_break : (q : Bool) → suc n ≤ length (cond q [] (x ∷ line_at xs)) → (n ≤ length (line_at xs) → drop n (line_at xs) ≡ line_at (drop n xs)) → drop (suc n) (cond q [] (x ∷ line_at xs)) ≡ line_at (drop n xs)
  by_break true m h = absurd (omega arith)
  by_break false m h = h (omega arith)

-- and the lines behind it are those behind the place
pub behind_drop : (n : ℕ) (at : ℕ) (xs : List ℕ) → n ≤ length (line_at xs) → behind at xs ≡ behind (at + n) (drop n xs)
behind_drop zero at xs l = let e : at + 0 ≡ at = omega arith in ap (λ k. behind k xs) (sym e)
behind_drop (suc n) at [] l = refl
behind_drop (suc n) at (x ∷ xs) l = by_break (nat_eq x 10) (nat_eq x 13 && begins_with 10 xs) l (λ m. behind_drop n (suc at) xs m) where
  by_break : (q r : Bool) → suc n ≤ length (cond (q || r) [] (x ∷ line_at xs)) → (n ≤ length (line_at xs) → behind (suc at) xs ≡ behind (suc at + n) (drop n xs)) → cond q (lines (suc at) xs) (behind (suc at) xs) ≡ behind (at + suc n) (drop n xs)
  by_break true r m h = absurd (omega arith)
  by_break false true m h = absurd (omega arith)
  by_break false false m h = let e : suc at + n ≡ at + suc n = omega arith in h (omega arith) ∙ ap (λ k. behind k (drop n xs)) e

-- a line's bytes are those in front
pub line_front : (n : ℕ) (xs : List ℕ) → n ≤ length (line_at xs) → take n (line_at xs) ≡ take n xs
line_front zero xs l = refl
line_front (suc n) [] l = refl
line_front (suc n) (x ∷ xs) l = by_break (begins_break x xs) l (λ m. line_front n xs m) where
  by_break : (q : Bool) → suc n ≤ length (cond q [] (x ∷ line_at xs)) → (n ≤ length (line_at xs) → take n (line_at xs) ≡ take n xs) → take (suc n) (cond q [] (x ∷ line_at xs)) ≡ x ∷ take n xs
  by_break true m h = absurd (omega arith)
  by_break false m h = ap (λ t. x ∷ t) (h (omega arith))

pub line_fits : (xs : List ℕ) → length (line_at xs) ≤ length xs
line_fits [] = omega arith
line_fits (x ∷ xs) = by_break (begins_break x xs) (line_fits xs) where
  by_break : (q : Bool) → length (line_at xs) ≤ length xs → length (cond q [] (x ∷ line_at xs)) ≤ suc (length xs)
  by_break true h = omega arith
  by_break false h = omega arith

pub lead_le : (p : ℕ → Bool) (xs : List ℕ) → lead p xs ≤ length xs
lead_le p [] = omega arith
lead_le p (x ∷ xs) = by_byte (p x) (lead_le p xs) where
  by_byte : (q : Bool) → lead p xs ≤ length xs → cond q (suc (lead p xs)) 0 ≤ suc (length xs)
  by_byte true h = omega arith
  by_byte false h = omega arith

-- too few bytes for a mark
short_mark : (xs : List ℕ) → length xs < 3 → begins_mark (line_at xs) ≡ false
short_mark xs l = too_short (line_at xs) (let f = line_fits xs in omega arith) where
  too_short : (ys : List ℕ) → length ys < 3 → begins_mark ys ≡ false
  too_short [] m = refl
  too_short (a ∷ []) m = refl
  too_short (a ∷ b ∷ []) m = refl
  too_short (a ∷ b ∷ c ∷ ys) m = absurd (omega arith)

pub mark_short : (bytes : List ℕ) (i : ℕ) → length bytes - i < 3 → begins_mark (line_at (drop i bytes)) ≡ false
mark_short bytes i l = short_mark (drop i bytes) (omega (arith, length-drop i bytes))

-- a mark by its bytes and what is behind them
pub mark_three : (xs : List ℕ) → begins_mark xs ≡ true → 3 ≤ length xs
mark_three [] h = absurd (cc)
mark_three (a ∷ []) h = absurd (cc)
mark_three (a ∷ b ∷ []) h = absurd (cc)
mark_three (a ∷ b ∷ c ∷ xs) h = omega arith

parts : (p q r s : Bool) → (p && (q && (r && s))) ≡ ((p && (q && r)) && s)
parts true true r s = refl
parts true false r s = refl
parts false q r s = refl

pub mark_parts : (xs : List ℕ) → is_mark xs ≡ (begins_mark xs && is_end (drop 3 xs))
mark_parts [] = refl
mark_parts (a ∷ []) = refl
mark_parts (a ∷ b ∷ []) = refl
mark_parts (a ∷ b ∷ c ∷ xs) = parts (nat_eq a 45 || nat_eq a 46) (nat_eq a b) (nat_eq a c) (is_end xs)

pub cut_parts : (xs : List ℕ) → is_cut_mark xs ≡ (begins_mark xs && begins_with 13 (drop 3 xs))
cut_parts [] = refl
cut_parts (a ∷ []) = refl
cut_parts (a ∷ b ∷ []) = refl
cut_parts (a ∷ b ∷ c ∷ xs) = parts (nat_eq a 45 || nat_eq a 46) (nat_eq a b) (nat_eq a c) (begins_with 13 xs)
