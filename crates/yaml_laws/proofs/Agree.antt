-- Two texts that agree up to a place have the same lines up to it.
use Rattle.std.proofs.Common.{◌≡◌, ℕ, zero, suc, ◌+◌, ◌<◌, ◌≤◌, ◌⊎◌, Bool, true, false, List, [], ◌∷◌, ◌++◌, length, drop, refl, sym, ap, inl, inr, arith, cond, subst}
use Rattle.std.specs.Prelude.{nat_eq, ◌&&◌}
use Rattle.std.proofs.lemmas.Bool.Decides.{nat_tests}
use Rattle.yaml_scalars.specs.Lines.{Line, begins_with, put, begun, lines}
use Rattle.yaml_scalars.specs.code.Walk.{line_at, has_break, behind}
use Rattle.yaml_scalars.proofs.Places.{lines_are, line_fits}

-- a line's end, or a carriage return that is in no break, is ahead
abbrev pub IsReturn : List ℕ → Type 0
IsReturn [] = Unit {0}
IsReturn (c ∷ cs) = c ≡ 13

-- what two lines have behind the bytes in common, where the next byte of the texts is the same
abbrev pub SameAhead : List ℕ → List ℕ → Type 0
SameAhead x y = ((b : ℕ) × (u v : List ℕ) × (x ≡ b ∷ u) × (y ≡ b ∷ v)) ⊎ (IsReturn x × IsReturn y)

-- the lines begin behind a place
abbrev pub Later : ℕ → List Line → Type 0
Later p [] = Unit {0}
Later p (l ∷ ls) = (p < l.at) × Later p ls

-- the place is in these two lines, behind bytes in common
abbrev pub SplitAt : ℕ → ℕ → List ℕ → List ℕ → Type 0
SplitAt p at l m = (front x y : List ℕ) × (l ≡ front ++ x) × (m ≡ front ++ y) × (at + length front ≡ p) × SameAhead x y

-- the lines are the same up to a place and with the byte there: whole lines, and then two that it splits, of which the second has a break if it ends there, or one at whose line feed it is
abbrev pub Shares : ℕ → List Line → List Line → Type 0
Shares p [] ms = ⊥
Shares p (l ∷ ls) [] = ⊥
Shares p (l ∷ ls) (m ∷ ms) =
    ((l ≡ m) × Shares p ls ms)
    ⊎ (((l.at ≡ m.at) × SplitAt p l.at l.bytes m.bytes × Later p ls × (l.at + length m.bytes ≡ p → m.broken ≡ true)) ⊎ ((l ≡ m) × (p ≡ l.at + length l.bytes + 1) × Later p ls))

later_put : (q at b : ℕ) (ls : List Line) → q < at → Later q ls → Later q (put at b ls)
later_put q at b [] l h = tt
later_put q at b (x ∷ xs) l h = (l, h.1)

later_begun : (q at : ℕ) (ls : List Line) → q < at → Later q ls → Later q (begun at ls)
later_begun q at [] l h = tt
later_begun q at (x ∷ xs) l h = (l, h.1)

-- the lines from a place on lie behind an earlier one
pub lines_later : (q at : ℕ) (bs : List ℕ) → q < at → Later q (lines at bs)
lines_later q at [] l = (l, tt)
lines_later q at (b ∷ bs) l = by_break (nat_eq b 10) (nat_eq b 13 && begins_with 10 bs) (lines_later q (suc at) bs (omega arith)) where
  by_break : (x y : Bool) → Later q (lines (suc at) bs) → Later q (cond x (record { at = at; bytes = []; broken = true } ∷ lines (suc at) bs) (cond y (begun at (lines (suc at) bs)) (put at b (lines (suc at) bs))))
  by_break true y h = (l, h)
  by_break false true h = later_begun q at (lines (suc at) bs) l h
  by_break false false h = later_put q at b (lines (suc at) bs) l h

pub behind_later : (q at : ℕ) (bs : List ℕ) → q ≤ at → Later q (behind at bs)
behind_later q at [] l = tt
behind_later q at (b ∷ bs) l = by_break (nat_eq b 10) (behind_later q (suc at) bs (omega arith)) where
  by_break : (x : Bool) → Later q (behind (suc at) bs) → Later q (cond x (lines (suc at) bs) (behind (suc at) bs))
  by_break true h = lines_later q (suc at) bs (omega arith)
  by_break false h = h

-- a byte more in front of both
shares_put : (p at c : ℕ) (l m : List ℕ) (q r : Bool) (ls ms : List Line) → Shares p (record { at = suc at; bytes = l; broken = q } ∷ ls) (record { at = suc at; bytes = m; broken = r } ∷ ms) → Shares p (record { at = at; bytes = c ∷ l; broken = q } ∷ ls) (record { at = at; bytes = c ∷ m; broken = r } ∷ ms)
shares_put p at c l m q r ls ms (inl h) = inl (ap (λ (x : Line). record { at = at; bytes = c ∷ x.bytes; broken = x.broken }) h.0, h.1)
shares_put p at c l m q r ls ms (inr (inl h)) = let s = h.1 in inr (inl (refl, (c ∷ s.0, s.1, s.2, ap (λ t. c ∷ t) s.3, ap (λ t. c ∷ t) s.4, omega (arith, s.5), s.6), h.2, (λ e. h.3 (omega (arith, e)))))
shares_put p at c l m q r ls ms (inr (inr h)) = inr (inr (ap (λ (x : Line). record { at = at; bytes = c ∷ x.bytes; broken = x.broken }) h.0, omega (arith, h.1), h.2))

pub put_shares : (p at c : ℕ) (x y : List ℕ) → Shares p (lines (suc at) x) (lines (suc at) y) → Shares p (put at c (lines (suc at) x)) (put at c (lines (suc at) y))
put_shares p at c x y h =
    let l : Line = record { at = suc at; bytes = line_at x; broken = has_break x } in
    let m : Line = record { at = suc at; bytes = line_at y; broken = has_break y } in
    let h2 = subst (λ ls. Shares p ls (lines (suc at) y)) (lines_are (suc at) x) h in
    let h3 = subst (λ ms. Shares p (l ∷ behind (suc at) x) ms) (lines_are (suc at) y) h2 in
    let g = shares_put p at c (line_at x) (line_at y) (has_break x) (has_break y) (behind (suc at) x) (behind (suc at) y) h3 in
    let g2 = subst (λ ls. Shares p (put at c ls) (record { at = at; bytes = c ∷ line_at y; broken = has_break y } ∷ behind (suc at) y)) (sym (lines_are (suc at) x)) g in
    subst (λ ms. Shares p (put at c (lines (suc at) x)) (put at c ms)) (sym (lines_are (suc at) y)) g2

-- the line of a carriage return, in a break or not
abbrev returned : ℕ → ℕ → Bool → List ℕ → Line
returned at b q w = cond q (record { at = at; bytes = []; broken = true }) (record { at = at; bytes = b ∷ line_at w; broken = has_break w })

returned_is : (at b : ℕ) (q : Bool) (w : List ℕ) → begins_with 10 w ≡ q → cond q (begun at (lines (suc at) w)) (put at b (lines (suc at) w)) ≡ returned at b q w ∷ behind (suc at) w
returned_is at b true [] e = absurd (cc)
returned_is at b true (c ∷ w) e = by_feed (nat_eq c 10) e where
  by_feed : (q : Bool) → q ≡ true → begun at (cond q (record { at = suc at; bytes = []; broken = true } ∷ lines (suc (suc at)) w) (cond (nat_eq c 13 && begins_with 10 w) (begun (suc at) (lines (suc (suc at)) w)) (put (suc at) c (lines (suc (suc at)) w)))) ≡ record { at = at; bytes = []; broken = true } ∷ cond q (lines (suc (suc at)) w) (behind (suc (suc at)) w)
  by_feed true e = refl
  by_feed false e = absurd (cc)
returned_is at b false w e = ap (put at b) (lines_are (suc at) w)

split : (at b : ℕ) (u v : List ℕ) (q r : Bool) → b ≡ 13 → Shares (at + 0) (returned at b q u ∷ behind (suc at) u) (returned at b r v ∷ behind (suc at) v)
split at b u v true true e = inr (inl (refl, ([], [], [], refl, refl, refl, inr (tt, tt)), behind_later (at + 0) (suc at) u (omega arith), (λ e. refl)))
split at b u v true false e = inr (inl (refl, ([], [], b ∷ line_at v, refl, refl, refl, inr (tt, e)), behind_later (at + 0) (suc at) u (omega arith), (λ e. absurd (omega (arith, e)))))
split at b u v false true e = inr (inl (refl, ([], b ∷ line_at u, [], refl, refl, refl, inr (e, tt)), behind_later (at + 0) (suc at) u (omega arith), (λ e. refl)))
split at b u v false false e = inr (inl (refl, ([], b ∷ line_at u, b ∷ line_at v, refl, refl, refl, inr (e, e)), behind_later (at + 0) (suc at) u (omega arith), (λ e. absurd (omega (arith, e)))))

-- one byte in common
first_shares : (at b : ℕ) (u v : List ℕ) → Shares (at + 0) (lines at (b ∷ u)) (lines at (b ∷ v))
first_shares at b u v = by_break (nat_eq b 10) (nat_eq b 13) refl where
  by_break : (x y : Bool) → nat_eq b 13 ≡ y
      → Shares (at + 0) (cond x (record { at = at; bytes = []; broken = true } ∷ lines (suc at) u) (cond (y && begins_with 10 u) (begun at (lines (suc at) u)) (put at b (lines (suc at) u))))
      (cond x (record { at = at; bytes = []; broken = true } ∷ lines (suc at) v) (cond (y && begins_with 10 v) (begun at (lines (suc at) v)) (put at b (lines (suc at) v))))
  by_break true y f = inr (inl (refl, ([], [], [], refl, refl, refl, inr (tt, tt)), lines_later (at + 0) (suc at) u (omega arith), (λ e. refl)))
  by_break false true f =
      let n : b ≡ 13 = grind (arith, nat_tests, f) in
      let s = split at b u v (begins_with 10 u) (begins_with 10 v) n in
      let s2 = subst (λ ls. Shares (at + 0) ls (returned at b (begins_with 10 v) v ∷ behind (suc at) v)) (sym (returned_is at b (begins_with 10 u) u refl)) s in
      subst (λ ms. Shares (at + 0) (cond (begins_with 10 u) (begun at (lines (suc at) u)) (put at b (lines (suc at) u))) ms) (sym (returned_is at b (begins_with 10 v) v refl)) s2
  by_break false false f =
      let s : Shares (at + 0) (record { at = at; bytes = b ∷ line_at u; broken = has_break u } ∷ behind (suc at) u) (record { at = at; bytes = b ∷ line_at v; broken = has_break v } ∷ behind (suc at) v)
      = inr (inl (refl, ([], b ∷ line_at u, b ∷ line_at v, refl, refl, refl, inl (b, line_at u, line_at v, refl, refl)), behind_later (at + 0) (suc at) u (omega arith), (λ e. absurd (omega (arith, e))))) in
      let s2 = subst (λ ls. Shares (at + 0) (put at b ls) (record { at = at; bytes = b ∷ line_at v; broken = has_break v } ∷ behind (suc at) v)) (sym (lines_are (suc at) u)) s in
      subst (λ ms. Shares (at + 0) (put at b (lines (suc at) u)) (put at b ms)) (sym (lines_are (suc at) v)) s2

-- the same two bytes further on
abbrev Deep : ℕ → List ℕ → ℕ → List ℕ → List ℕ → Type 0
Deep at [] b u v = Unit {0}
Deep at (d ∷ ds) b u v = Shares (at + suc (suc (length ds))) (lines (suc (suc at)) (ds ++ (b ∷ u))) (lines (suc (suc at)) (ds ++ (b ∷ v)))

begun_is : (at d : ℕ) (x : List ℕ) → nat_eq d 10 ≡ true → begun at (lines (suc at) (d ∷ x)) ≡ record { at = at; bytes = []; broken = true } ∷ lines (suc (suc at)) x
begun_is at d x e = by_feed (nat_eq d 10) e where
  by_feed : (q : Bool) → q ≡ true → begun at (cond q (record { at = suc at; bytes = []; broken = true } ∷ lines (suc (suc at)) x) (cond (nat_eq d 13 && begins_with 10 x) (begun (suc at) (lines (suc (suc at)) x)) (put (suc at) d (lines (suc (suc at)) x)))) ≡ record { at = at; bytes = []; broken = true } ∷ lines (suc (suc at)) x
  by_feed true e = refl
  by_feed false e = absurd (cc)

begun_shares : (p at d : ℕ) (x y : List ℕ) → nat_eq d 10 ≡ true → Shares p (record { at = at; bytes = []; broken = true } ∷ lines (suc (suc at)) x) (record { at = at; bytes = []; broken = true } ∷ lines (suc (suc at)) y) → Shares p (begun at (lines (suc at) (d ∷ x))) (begun at (lines (suc at) (d ∷ y)))
begun_shares p at d x y e s =
    let s2 = subst (λ ls. Shares p ls (record { at = at; bytes = []; broken = true } ∷ lines (suc (suc at)) y)) (sym (begun_is at d x e)) s in
    subst (λ ms. Shares p (begun at (lines (suc at) (d ∷ x))) ms) (sym (begun_is at d y e)) s2

feed : (q : Bool) (at c d : ℕ) (x y : List ℕ) (p : ℕ) → Shares p (lines (suc at) (d ∷ x)) (lines (suc at) (d ∷ y)) → (q ≡ true → Shares p (begun at (lines (suc at) (d ∷ x))) (begun at (lines (suc at) (d ∷ y)))) → Shares p (cond q (begun at (lines (suc at) (d ∷ x))) (put at c (lines (suc at) (d ∷ x)))) (cond q (begun at (lines (suc at) (d ∷ y))) (put at c (lines (suc at) (d ∷ y))))
feed true at c d x y p h g = g refl
feed false at c d x y p h g = put_shares p at c (d ∷ x) (d ∷ y) h

share_step : (x y : Bool) (at c : ℕ) (cs : List ℕ) (b : ℕ) (u v : List ℕ) → Shares (at + suc (length cs)) (lines (suc at) (cs ++ (b ∷ u))) (lines (suc at) (cs ++ (b ∷ v))) → Deep at cs b u v
    → Shares (at + suc (length cs)) (cond x (record { at = at; bytes = []; broken = true } ∷ lines (suc at) (cs ++ (b ∷ u))) (cond (y && begins_with 10 (cs ++ (b ∷ u))) (begun at (lines (suc at) (cs ++ (b ∷ u)))) (put at c (lines (suc at) (cs ++ (b ∷ u))))))
    (cond x (record { at = at; bytes = []; broken = true } ∷ lines (suc at) (cs ++ (b ∷ v))) (cond (y && begins_with 10 (cs ++ (b ∷ v))) (begun at (lines (suc at) (cs ++ (b ∷ v)))) (put at c (lines (suc at) (cs ++ (b ∷ v))))))
share_step true y at c cs b u v h g = inl (refl, h)
share_step false false at c cs b u v h g = put_shares (at + suc (length cs)) at c (cs ++ (b ∷ u)) (cs ++ (b ∷ v)) h
share_step false true at c [] b u v h g = feed (nat_eq b 10) at c b u v (at + 1) h (λ e. begun_shares (at + 1) at b u v e (inr (inr (refl, omega arith, lines_later (at + 1) (suc (suc at)) u (omega arith)))))
share_step false true at c (d ∷ ds) b u v h g = feed (nat_eq d 10) at c d (ds ++ (b ∷ u)) (ds ++ (b ∷ v)) (at + suc (suc (length ds))) h (λ e. begun_shares (at + suc (suc (length ds))) at d (ds ++ (b ∷ u)) (ds ++ (b ∷ v)) e (inl (refl, g)))

-- bytes in common: the lines are the same up to the last of them
pub lines_share : (at : ℕ) (pre : List ℕ) (b : ℕ) (u v : List ℕ) → Shares (at + length pre) (lines at (pre ++ (b ∷ u))) (lines at (pre ++ (b ∷ v)))
lines_share at [] b u v = first_shares at b u v
lines_share at (c ∷ []) b u v =
    let e : suc at + 0 ≡ at + 1 = omega arith in
    share_step (nat_eq c 10) (nat_eq c 13) at c [] b u v (subst (λ p. Shares p (lines (suc at) (b ∷ u)) (lines (suc at) (b ∷ v))) e (lines_share (suc at) [] b u v)) tt
lines_share at (c ∷ d ∷ ds) b u v =
    let e : suc at + suc (length ds) ≡ at + suc (suc (length ds)) = omega arith in
    let f : suc (suc at) + length ds ≡ at + suc (suc (length ds)) = omega arith in
    share_step (nat_eq c 10) (nat_eq c 13) at c (d ∷ ds) b u v
    (subst (λ p. Shares p (lines (suc at) (d ∷ (ds ++ (b ∷ u)))) (lines (suc at) (d ∷ (ds ++ (b ∷ v))))) e (lines_share (suc at) (d ∷ ds) b u v))
    (subst (λ p. Shares p (lines (suc (suc at)) (ds ++ (b ∷ u))) (lines (suc (suc at)) (ds ++ (b ∷ v)))) f (lines_share (suc (suc at)) ds b u v))

pub drop_before : (n : ℕ) (a w : List ℕ) → n ≤ length a → drop n (a ++ w) ≡ drop n a ++ w
drop_before zero a w l = refl
drop_before (suc n) [] w l = absurd (omega arith)
drop_before (suc n) (x ∷ a) w l = drop_before n a w (omega arith)

pub drop_size : (n : ℕ) (a : List ℕ) → n ≤ length a → n + length (drop n a) ≡ length a
drop_size zero a l = omega arith
drop_size (suc n) [] l = absurd (omega arith)
drop_size (suc n) (x ∷ a) l = let h = drop_size n a (omega arith) in omega (arith, h)

-- texts with a front in common have the same lines from a place in it up to the byte behind it
pub texts_share : (before : List ℕ) (b : ℕ) (rest more : List ℕ) (at : ℕ) → at ≤ length before → Shares (length before) (lines at (drop at (before ++ (b ∷ rest)))) (lines at (drop at (before ++ (b ∷ more))))
texts_share before b rest more at l =
    let s = subst (λ p. Shares p (lines at (drop at before ++ (b ∷ rest))) (lines at (drop at before ++ (b ∷ more)))) (drop_size at before l) (lines_share at (drop at before) b rest more) in
    let s2 = subst (λ x. Shares (length before) (lines at x) (lines at (drop at before ++ (b ∷ more)))) (sym (drop_before at before (b ∷ rest) l)) s in
    subst (λ x. Shares (length before) (lines at (drop at (before ++ (b ∷ rest)))) (lines at x)) (sym (drop_before at before (b ∷ more) l)) s2

-- the lines end within a text of a length
abbrev pub Within : ℕ → List Line → Type 0
Within size [] = Unit {0}
Within size (l ∷ ls) = (l.at + length l.bytes ≤ size) × Within size ls

pub behind_within : (size at : ℕ) (bs : List ℕ) → at + length bs ≤ size → Within size (behind at bs)
behind_within size at [] l = tt
behind_within size at (b ∷ bs) l = by_break (nat_eq b 10) (behind_within size (suc at) bs (omega arith)) where
  by_break : (q : Bool) → Within size (behind (suc at) bs) → Within size (cond q (lines (suc at) bs) (behind (suc at) bs))
  by_break true h = let f = line_fits bs in subst (λ ls. Within size ls) (sym (lines_are (suc at) bs)) (omega (arith, f, l), h)
  by_break false h = h

pub lines_within : (size at : ℕ) (bs : List ℕ) → at + length bs ≤ size → Within size (lines at bs)
lines_within size at bs l = let f = line_fits bs in subst (λ ls. Within size ls) (sym (lines_are at bs)) (omega (arith, f, l), behind_within size at bs l)
