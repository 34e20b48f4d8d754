-- Where a quoted scalar stands, each text that agrees with this one through the byte behind it has the same scalar there.
use Rattle.std.proofs.Common.{◌≡◌, ℕ, zero, suc, ◌+◌, ◌<◌, ◌≤◌, ◌⊎◌, Bool, true, false, List, [], ◌∷◌, ◌++◌, length, drop, refl, sym, ap, inl, inr, subst, ◌∙◌, arith, cond, true≢false, length-append}
use Rattle.std.specs.Prelude.{nat_eq, nat_lt, encode_utf8, Option, Some, None, ◌||◌, ◌&&◌}
use Rattle.std.proofs.lemmas.Bool.{lt-ltb}
use Rattle.std.proofs.lemmas.Bool.Decides.{nat_tests}
use Rattle.yaml_scalars.specs.declared.scalar.Setting.{Setting}
use Rattle.yaml_scalars.specs.declared.escape.Wanted.TheVariants.{Character, FirstUnit, SecondUnit}
use Rattle.yaml_scalars.specs.Lines.{Line, Outcome, Stands, Fails, Documents, begins_with, is_white, is_blank, is_mark, is_cut_mark, lead, past_white, lines, each}
use Rattle.yaml_scalars.specs.Quoted.{Piece, Itself, Closes, Means, Joins, Returns, Wrong, Digits, Number, Short, is_high, digits, of_digits, of_low, of_pair, of_unit, letter, of_letter, escape, piece, Part, Closed, Open, Joined, Returned, Refused, line_part, gap, behind_part, key_part, quoted_more, quoted_on}
use Rattle.yaml_scalars.specs.Scalar.{quoted_scalar}
use Rattle.yaml_scalars.specs.code.Walk.{line_at, has_break, behind}
use Rattle.yaml_scalars.proofs.Places.{lines_are}
use Rattle.yaml_laws.proofs.Agree.{IsReturn, SameAhead, Later, SplitAt, Shares, texts_share, drop_before, drop_size}
use Rattle.yaml_laws.proofs.PlainLaw.{marked, dash, marks_end, mark_of, mark_made}
use Rattle.yaml_laws.proofs.QuotedAlike.{IsFar, piece_alike}
use Rattle.yaml_laws.proofs.QuotedDead.{went}
use Rattle.yaml_laws.proofs.QuotedLaw.{lead_all, lead_some, part_of, starts, comes, quote_of}

-- ---- a line's part

-- it ends behind what was passed over
pub closed_behind : (quote at skip : ℕ) (text : List ℕ) (kept : ℕ) (bs t : List ℕ) (e : ℕ) → line_part quote at skip text kept bs ≡ Closed t e → at + skip < e
closed_behind quote at skip text kept [] t e h = absurd (cc)
closed_behind quote at (suc n) text kept (b ∷ bs) t e h = let r = closed_behind quote (suc at) n text kept bs t e h in omega (arith, r)
closed_behind quote at zero text kept (b ∷ bs) t e h = by_piece (piece quote b bs) h (λ n x k g. closed_behind quote (suc at) n x k bs t e g) where
  by_white : (q : Bool) → cond q (line_part quote (suc at) 0 (text ++ (b ∷ [])) kept bs) (line_part quote (suc at) 0 (text ++ (b ∷ [])) (suc (length text)) bs) ≡ Closed t e → ((n : ℕ) (x : List ℕ) (k : ℕ) → line_part quote (suc at) n x k bs ≡ Closed t e → suc at + n < e) → at + 0 < e
  by_white true g r = let z = r 0 (text ++ (b ∷ [])) kept g in omega (arith, z)
  by_white false g r = let z = r 0 (text ++ (b ∷ [])) (suc (length text)) g in omega (arith, z)

  by_piece : (p : Piece) → went quote b at text kept bs p ≡ Closed t e → ((n : ℕ) (x : List ℕ) (k : ℕ) → line_part quote (suc at) n x k bs ≡ Closed t e → suc at + n < e) → at + 0 < e
  by_piece Itself g r = by_white (is_white b) g r
  by_piece Closes g r = let z : suc at ≡ e = cc in omega (arith, z)
  by_piece (Means taken x) g r = let z = r taken (text ++ x) (length (text ++ x)) g in omega (arith, z)
  by_piece Joins g r = absurd (cc)
  by_piece (Returns n) g r = absurd (cc)
  by_piece (Wrong n) g r = absurd (cc)

-- only a quote closes
abbrev Goes : Piece → Type 0
Goes Itself = Unit {0}
Goes Closes = ⊥
Goes (Means taken t) = Unit {0}
Goes Joins = Unit {0}
Goes (Returns n) = Unit {0}
Goes (Wrong n) = Unit {0}

goes_cond : (q : Bool) (p r : Piece) → Goes p → Goes r → Goes (cond q p r)
goes_cond true p r h g = h
goes_cond false p r h g = g

digits_go : (k : ℕ) (d : Digits) → Goes (of_digits k d)
digits_go k (Number n) = tt
digits_go k (Short c) = tt

low_goes : (high : ℕ) (d : Digits) → Goes (of_low high d)
low_goes high (Number n) = tt
low_goes high (Short c) = tt

pair_goes : (high : ℕ) (xs : List ℕ) → Goes (of_pair high xs)
pair_goes high [] = tt
pair_goes high (v ∷ []) = goes_cond (nat_eq v 92) (Wrong 7) (Wrong 6) tt tt
pair_goes high (v ∷ w ∷ xs) = goes_cond (nat_eq v 92) (cond (nat_eq w 117) (of_low high (digits SecondUnit 4 0 7 xs)) (Wrong 7)) (Wrong 6) (goes_cond (nat_eq w 117) (of_low high (digits SecondUnit 4 0 7 xs)) (Wrong 7) (low_goes high (digits SecondUnit 4 0 7 xs)) tt) tt

unit_goes : (d : Digits) (xs : List ℕ) → Goes (of_unit d xs)
unit_goes (Number n) xs = by_high (is_high n) where
  by_high : (q : Bool) → Goes (cond q (of_pair n xs) (Means 5 (encode_utf8 n)))
  by_high true = pair_goes n xs
  by_high false = tt
unit_goes (Short c) xs = tt

letter_goes : (o : Option ℕ) → Goes (of_letter o)
letter_goes (Some n) = tt
letter_goes None = tt

escape_goes : (xs : List ℕ) → Goes (escape xs)
escape_goes [] = tt
escape_goes (b ∷ xs) =
    let others = of_letter (letter b) in
    let eight = of_digits 9 (digits Character 8 0 1 xs) in
    let unit = of_unit (digits FirstUnit 4 0 1 xs) (drop 4 xs) in
    let two = of_digits 3 (digits Character 2 0 1 xs) in
    goes_cond (nat_eq b 13) (Returns 1) (cond (nat_eq b 120) two (cond (nat_eq b 117) unit (cond (nat_eq b 85) eight others))) tt
    (goes_cond (nat_eq b 120) two (cond (nat_eq b 117) unit (cond (nat_eq b 85) eight others)) (digits_go 3 (digits Character 2 0 1 xs))
    (goes_cond (nat_eq b 117) unit (cond (nat_eq b 85) eight others) (unit_goes (digits FirstUnit 4 0 1 xs) (drop 4 xs))
    (goes_cond (nat_eq b 85) eight others (digits_go 9 (digits Character 8 0 1 xs)) (letter_goes (letter b)))))

-- and the same byte closes where no quote stands behind it
closes_same : (quote c : ℕ) (xs ys : List ℕ) → (begins_with 39 xs ≡ false → begins_with 39 ys ≡ false) → piece quote c xs ≡ Closes → piece quote c ys ≡ Closes
closes_same quote c xs ys e h = by_tests (nat_eq c 13) (nat_eq quote 34) (nat_eq c 34) (nat_eq c 92) (nat_eq c 39) h where
  by_quote : (q : Bool) → begins_with 39 xs ≡ q → cond q (Means 1 (39 ∷ [])) Closes ≡ Closes → cond (begins_with 39 ys) (Means 1 (39 ∷ [])) Closes ≡ Closes
  by_quote true i h = absurd (cc)
  by_quote false i h = ap (λ q. cond q (Means 1 (39 ∷ [])) Closes) (e i)

  by_tests : (r q d s g : Bool) → cond r (Returns 0) (cond q (cond d Closes (cond s (escape xs) Itself)) (cond g (cond (begins_with 39 xs) (Means 1 (39 ∷ [])) Closes) Itself)) ≡ Closes
      → cond r (Returns 0) (cond q (cond d Closes (cond s (escape ys) Itself)) (cond g (cond (begins_with 39 ys) (Means 1 (39 ∷ [])) Closes) Itself)) ≡ Closes
  by_tests true q d s g h = absurd (cc)
  by_tests false true true s g h = refl
  by_tests false true false true g h = absurd (subst Goes h (escape_goes xs))
  by_tests false true false false g h = absurd (cc)
  by_tests false false d s true h = by_quote (begins_with 39 xs) refl h
  by_tests false false d s false h = absurd (cc)

begins_ahead : (x y : List ℕ) → SameAhead x y → begins_with 39 x ≡ begins_with 39 y
begins_ahead x y (inl (b, u, v, ex, ey)) = ap (begins_with 39) ex ∙ sym (ap (begins_with 39) ey)
begins_ahead x y (inr (rx, ry)) = none x rx ∙ sym (none y ry) where
  none : (z : List ℕ) → IsReturn z → begins_with 39 z ≡ false
  none [] r = refl
  none (c ∷ z) r = ap (λ c. nat_eq c 39) r

begins_front : (f x y : List ℕ) → (begins_with 39 x ≡ false → begins_with 39 y ≡ false) → begins_with 39 (f ++ x) ≡ false → begins_with 39 (f ++ y) ≡ false
begins_front [] x y s h = s h
begins_front (d ∷ f) x y s h = h

-- a part that closes within a front, with other bytes behind that, where no quote follows
pub part_like : (quote : ℕ) (f x y : List ℕ) (at skip : ℕ) (text : List ℕ) (kept p : ℕ) (t : List ℕ) (e : ℕ) → (begins_with 39 x ≡ false → begins_with 39 y ≡ false) → at + length f ≡ p → e ≤ p → line_part quote at skip text kept (f ++ x) ≡ Closed t e → line_part quote at skip text kept (f ++ y) ≡ Closed t e
part_like quote [] x y at skip text kept p t e s size l h = let b = closed_behind quote at skip text kept x t e h in absurd (omega (arith, b, size, l))
part_like quote (c ∷ f) x y at (suc n) text kept p t e s size l h = part_like quote f x y (suc at) n text kept p t e s (omega (arith, size)) l h
part_like quote (c ∷ f) x y at zero text kept p t e s size l h = by_piece (piece quote c (f ++ x)) refl h (λ n z k g. part_like quote f x y (suc at) n z k p t e s (omega (arith, size)) l g) where
  other : (r : Piece) → piece quote c (f ++ x) ≡ r → (IsFar (length f) r → ⊥) → piece quote c (f ++ y) ≡ r
  other r w near = elim (piece_alike quote c f x y) [ inl g ↦ sym g ∙ w | inr far ↦ absurd (near (subst (λ z. IsFar (length f) z) w far)) ]

  by_white : (q : Bool) → cond q (line_part quote (suc at) 0 (text ++ (c ∷ [])) kept (f ++ x)) (line_part quote (suc at) 0 (text ++ (c ∷ [])) (suc (length text)) (f ++ x)) ≡ Closed t e
      → ((n : ℕ) (z : List ℕ) (k : ℕ) → line_part quote (suc at) n z k (f ++ x) ≡ Closed t e → line_part quote (suc at) n z k (f ++ y) ≡ Closed t e)
      → cond q (line_part quote (suc at) 0 (text ++ (c ∷ [])) kept (f ++ y)) (line_part quote (suc at) 0 (text ++ (c ∷ [])) (suc (length text)) (f ++ y)) ≡ Closed t e
  by_white true g next = next 0 (text ++ (c ∷ [])) kept g
  by_white false g next = next 0 (text ++ (c ∷ [])) (suc (length text)) g

  by_piece : (r : Piece) → piece quote c (f ++ x) ≡ r → went quote c at text kept (f ++ x) r ≡ Closed t e
      → ((n : ℕ) (z : List ℕ) (k : ℕ) → line_part quote (suc at) n z k (f ++ x) ≡ Closed t e → line_part quote (suc at) n z k (f ++ y) ≡ Closed t e)
      → went quote c at text kept (f ++ y) (piece quote c (f ++ y)) ≡ Closed t e
  by_piece Itself w g next = ap (went quote c at text kept (f ++ y)) (other Itself w (λ far. far)) ∙ by_white (is_white c) g next
  by_piece Closes w g next = ap (went quote c at text kept (f ++ y)) (closes_same quote c (f ++ x) (f ++ y) (begins_front f x y s) w) ∙ g
  by_piece (Means taken z) w g next =
      let b = closed_behind quote (suc at) taken (text ++ z) (length (text ++ z)) (f ++ x) t e g in
      ap (went quote c at text kept (f ++ y)) (other (Means taken z) w (λ far. absurd (omega (arith, far, b, size, l)))) ∙ next taken (text ++ z) (length (text ++ z)) g
  by_piece Joins w g next = absurd (cc)
  by_piece (Returns n) w g next = absurd (cc)
  by_piece (Wrong n) w g next = absurd (cc)

-- dashes and points stand for themselves
dash_itself : (quote c : ℕ) (xs : List ℕ) → dash c ≡ true → piece quote c xs ≡ Itself
dash_itself quote c xs h =
    let a : nat_eq c 13 ≡ false = grind (arith, nat_tests, h) in
    let b : nat_eq c 34 ≡ false = grind (arith, nat_tests, h) in
    let d : nat_eq c 92 ≡ false = grind (arith, nat_tests, h) in
    let g : nat_eq c 39 ≡ false = grind (arith, nat_tests, h) in
    by_tests (nat_eq c 13) (nat_eq quote 34) (nat_eq c 34) (nat_eq c 92) (nat_eq c 39) a b d g where
      by_tests : (r q d s g : Bool) → r ≡ false → d ≡ false → s ≡ false → g ≡ false → cond r (Returns 0) (cond q (cond d Closes (cond s (escape xs) Itself)) (cond g (cond (begins_with 39 xs) (Means 1 (39 ∷ [])) Closes) Itself)) ≡ Itself
      by_tests false true false false g i j k l = refl
      by_tests false false d s false i j k l = refl
      by_tests true q d s g i j k l = absurd (true≢false i)
      by_tests false true true s g i j k l = absurd (true≢false j)
      by_tests false true false true g i j k l = absurd (true≢false k)
      by_tests false false d s true i j k l = absurd (true≢false l)

dashes_pass : (quote : ℕ) (f x : List ℕ) (at : ℕ) (text : List ℕ) (kept : ℕ) (t : List ℕ) (e : ℕ) → each dash f ≡ true → line_part quote at 0 text kept (f ++ x) ≡ Closed t e → at + length f < e
dashes_pass quote [] x at text kept t e d h = closed_behind quote at 0 text kept x t e h
dashes_pass quote (c ∷ f) x at text kept t e d h = by_dash (dash c) refl d (λ z k i g. dashes_pass quote f x (suc at) z k t e i g) where
  by_white : (q : Bool) → cond q (line_part quote (suc at) 0 (text ++ (c ∷ [])) kept (f ++ x)) (line_part quote (suc at) 0 (text ++ (c ∷ [])) (suc (length text)) (f ++ x)) ≡ Closed t e
      → ((z : List ℕ) (k : ℕ) → line_part quote (suc at) 0 z k (f ++ x) ≡ Closed t e → suc at + length f < e) → at + suc (length f) < e
  by_white true g r = let i = r (text ++ (c ∷ [])) kept g in omega (arith, i)
  by_white false g r = let i = r (text ++ (c ∷ [])) (suc (length text)) g in omega (arith, i)

  by_dash : (q : Bool) → dash c ≡ q → cond q (each dash f) false ≡ true → ((z : List ℕ) (k : ℕ) → each dash f ≡ true → line_part quote (suc at) 0 z k (f ++ x) ≡ Closed t e → suc at + length f < e) → at + suc (length f) < e
  by_dash true w i r = by_white (is_white c) (sym (ap (went quote c at text kept (f ++ x)) (dash_itself quote c (f ++ x) w)) ∙ h) (λ z k g. r z k i g)
  by_dash false w i r = absurd (true≢false (sym i))

-- ---- marks

same_dash : (a b : ℕ) → dash a ≡ true → nat_eq a b ≡ true → dash b ≡ true
same_dash a b h e = let s : b ≡ a = grind (arith, nat_tests, e) in ap dash s ∙ h

each_two : (p q : Bool) → p ≡ true → q ≡ true → cond p q false ≡ true
each_two true q h g = g
each_two false q h g = absurd (true≢false (sym h))

each_drop : (n : ℕ) (f : List ℕ) → each dash f ≡ true → each dash (drop n f) ≡ true
each_drop zero f h = h
each_drop (suc n) [] h = refl
each_drop (suc n) (c ∷ f) h = by_dash (dash c) h (λ g. each_drop n f g) where
  by_dash : (q : Bool) → cond q (each dash f) false ≡ true → (each dash f ≡ true → each dash (drop n f) ≡ true) → each dash (drop n f) ≡ true
  by_dash true g r = r g
  by_dash false g r = absurd (true≢false (sym g))

-- a line that begins as a mark: no more than its bytes are common with another, or that is a mark, too
front_of : (f x y r : List ℕ) (a b c : ℕ) → f ++ y ≡ a ∷ b ∷ c ∷ r → dash a ≡ true → nat_eq a b ≡ true → nat_eq a c ≡ true → marks_end r ≡ true → (each dash f ≡ true) ⊎ ((marked (f ++ x) ≡ true) × (3 < length f))
front_of [] x y r a b c e h i j k = inl refl
front_of (d ∷ []) x y r a b c e h i j k =
    let s : d ≡ a = cc in
    inl (each_two (dash d) true (ap dash s ∙ h) refl)
front_of (d ∷ g ∷ []) x y r a b c e h i j k =
    let s : d ≡ a = cc in
    let z : g ≡ b = cc in
    inl (each_two (dash d) (cond (dash g) true false) (ap dash s ∙ h) (each_two (dash g) true (ap dash z ∙ same_dash a b h i) refl))
front_of (d ∷ g ∷ n ∷ []) x y r a b c e h i j k =
    let s : d ≡ a = cc in
    let z : g ≡ b = cc in
    let w : n ≡ c = cc in
    inl (each_two (dash d) (cond (dash g) (cond (dash n) true false) false) (ap dash s ∙ h) (each_two (dash g) (cond (dash n) true false) (ap dash z ∙ same_dash a b h i) (each_two (dash n) true (ap dash w ∙ same_dash a c h j) refl)))
front_of (d ∷ g ∷ n ∷ o ∷ f) x y r a b c e h i j k =
    let s : d ≡ a = cc in
    let z : g ≡ b = cc in
    let w : n ≡ c = cc in
    let v : o ∷ (f ++ y) ≡ r = cc in
    let last : marks_end (o ∷ (f ++ x)) ≡ true = ap marks_end v ∙ k in
    inr (mark_made d g n (o ∷ (f ++ x)) (ap dash s ∙ h) (ap (λ k. nat_eq k g) s ∙ ap (nat_eq a) z ∙ i) (ap (λ k. nat_eq k n) s ∙ ap (nat_eq a) w ∙ j) last, omega arith)

pub mark_front : (f x y : List ℕ) → marked (f ++ y) ≡ true → (each dash f ≡ true) ⊎ ((marked (f ++ x) ≡ true) × (3 < length f))
mark_front f x y h = let k = mark_of (f ++ y) h in front_of f x y k.3 k.0 k.1 k.2 k.4 k.5 k.6 k.7 k.8

pub no_long_mark : (l : Line) → starts l ≡ false → is_cut_mark l.bytes ≡ false → marked l.bytes ≡ true → 3 < length l.bytes → ⊥
no_long_mark l s c m n = by_mark (is_mark l.bytes) (is_cut_mark l.bytes) s c m where
  by_mark : (q d : Bool) → (q && (l.broken || nat_lt 3 (length l.bytes))) ≡ false → d ≡ false → (q || d) ≡ true → ⊥
  by_mark true d h i j = by_break l.broken (nat_lt 3 (length l.bytes)) (lt-ltb 3 (length l.bytes) n) h where
    by_break : (b k : Bool) → k ≡ true → (b || k) ≡ false → ⊥
    by_break true k e h = true≢false h
    by_break false k e h = true≢false (sym e ∙ h)
  by_mark false d h i j = true≢false (sym j ∙ i)

pub unmarked : (m : Line) → marked m.bytes ≡ false → (starts m ≡ false) × (is_cut_mark m.bytes ≡ false)
unmarked m h = by_mark (is_mark m.bytes) (is_cut_mark m.bytes) h where
  by_mark : (q d : Bool) → (q || d) ≡ false → ((q && (m.broken || nat_lt 3 (length m.bytes))) ≡ false) × (d ≡ false)
  by_mark true d h = absurd (true≢false h)
  by_mark false d h = (refl, h)

-- ---- lines below the first

pub split_like : (quote p at : ℕ) (l m f x y : List ℕ) (text t : List ℕ) (e : ℕ) → l ≡ f ++ x → m ≡ f ++ y → at + length f ≡ p → (begins_with 39 x ≡ false → begins_with 39 y ≡ false) → (marked l ≡ true → 3 < length l → ⊥) → e ≤ p → part_of quote at l text ≡ Closed t e
    → (is_blank m ≡ false) × (marked m ≡ false) × (part_of quote at m text ≡ Closed t e)
split_like quote p at l m f x y text t e el em place s long near h = by_front (is_blank f) refl where
  by_front : (q : Bool) → is_blank f ≡ q → (is_blank m ≡ false) × (marked m ≡ false) × (part_of quote at m text ≡ Closed t e)
  by_front true w =
      let k = lead_all f x w in
      let z = ap (lead is_white) el in
      let b = closed_behind quote (at + lead is_white l) 0 text (length text) (past_white l) t e h in
      absurd (omega (arith, k, z, b, near, place))
  by_front false w =
      let a = lead_some f x w in
      let b = lead_some f y w in
      let n = lead is_white f in
      let in_l : part_of quote at l text ≡ line_part quote (at + n) 0 text (length text) (drop n f ++ x) =
      ap (λ z. part_of quote at z text) el ∙ ap (λ k. line_part quote (at + k) 0 text (length text) (drop k (f ++ x))) a.0 ∙ ap (line_part quote (at + n) 0 text (length text)) (drop_before n f x a.1) in
      let in_m : part_of quote at m text ≡ line_part quote (at + n) 0 text (length text) (drop n f ++ y) =
      ap (λ z. part_of quote at z text) em ∙ ap (λ k. line_part quote (at + k) 0 text (length text) (drop k (f ++ y))) b.0 ∙ ap (line_part quote (at + n) 0 text (length text)) (drop_before n f y b.1) in
      let size : at + n + length (drop n f) ≡ p = let z = drop_size n f a.1 in omega (arith, z, place) in
      let here : line_part quote (at + n) 0 text (length text) (drop n f ++ x) ≡ Closed t e = sym in_l ∙ h in
      (ap is_blank em ∙ b.2, ap marked em ∙ by_mark n size here (marked (f ++ y)) refl, in_m ∙ part_like quote (drop n f) x y (at + n) 0 text (length text) p t e s size near here) where
        by_mark : (n : ℕ) → at + n + length (drop n f) ≡ p → line_part quote (at + n) 0 text (length text) (drop n f ++ x) ≡ Closed t e → (q : Bool) → marked (f ++ y) ≡ q → marked (f ++ y) ≡ false
        by_mark n size here false k = k
        by_mark n size here true k = elim (mark_front f x y k) [
          | inl d ↦ (let b = dashes_pass quote (drop n f) x (at + n) text (length text) t e (each_drop n f d) here in absurd (omega (arith, b, size, near)))
          | inr d ↦ absurd (long (ap marked el ∙ d.0) (let z = ap (λ (t : List ℕ). length t) el in let w = d.1 in omega (arith, z, w, length-append f x)))
        ]

split_stays : (quote p at : ℕ) (l m : List ℕ) (text t : List ℕ) (e : ℕ) → SplitAt p at l m → (marked l ≡ true → 3 < length l → ⊥) → e ≤ p → part_of quote at l text ≡ Closed t e → (is_blank m ≡ false) × (marked m ≡ false) × (part_of quote at m text ≡ Closed t e)
split_stays quote p at l m text t e (f, x, y, el, em, place, s) long near h = split_like quote p at l m f x y text t e el em place (λ n. sym (begins_ahead x y s) ∙ n) long near h

-- a scalar that goes on over lines behind a place ends behind it
pub stands_later : (quote size q : ℕ) (ls : List Line) (text : List ℕ) (j : Bool) (k : ℕ) (t : List ℕ) (e : ℕ) → Later q ls → quoted_more quote size ls text j k ≡ Stands t e → q < e
stands_later quote size q [] text j k t e a h = absurd (cc)
stands_later quote size q (l ∷ ls) text j k t e a h = by_line (starts l) (is_cut_mark l.bytes) (is_blank l.bytes) (λ u i n g. stands_later quote size q ls u i n t e a.1 g) h where
  by_part : (r : Part) → part_of quote l.at l.bytes (text ++ gap j k) ≡ r → ((u : List ℕ) (i : Bool) (n : ℕ) → quoted_more quote size ls u i n ≡ Stands t e → q < e) → behind_part r (λ i u. quoted_more quote size ls u i 0) ≡ Stands t e → q < e
  by_part (Closed u end) w r g =
      let same : end ≡ e = cc in
      let b = closed_behind quote (l.at + lead is_white l.bytes) 0 (text ++ gap j k) (length (text ++ gap j k)) (past_white l.bytes) u end w in
      let c = a.0 in
      omega (arith, same, b, c)
  by_part (Open u) w r g = r u false 0 g
  by_part (Joined u) w r g = r u true 0 g
  by_part (Returned at) w r g = absurd (cc)
  by_part (Refused at) w r g = absurd (cc)

  by_line : (m c w : Bool) → ((u : List ℕ) (i : Bool) (n : ℕ) → quoted_more quote size ls u i n ≡ Stands t e → q < e)
      → cond m (Documents l.at) (cond c (Fails (l.at + 3)) (cond w (quoted_more quote size ls text j (suc k)) (behind_part (part_of quote l.at l.bytes (text ++ gap j k)) (λ i u. quoted_more quote size ls u i 0)))) ≡ Stands t e → q < e
  by_line true c w r g = absurd (cc)
  by_line false true w r g = absurd (cc)
  by_line false false true r g = r text j (suc k) g
  by_line false false false r g = by_part (part_of quote l.at l.bytes (text ++ gap j k)) refl r g

more_stays : (quote p size other : ℕ) (ls ms : List Line) (text : List ℕ) (j : Bool) (k : ℕ) (t : List ℕ) (e : ℕ) → e ≤ p → Shares p ls ms → quoted_more quote size ls text j k ≡ Stands t e → quoted_more quote other ms text j k ≡ Stands t e
more_stays quote p size other [] ms text j k t e near sh h = absurd sh
more_stays quote p size other (l ∷ ls) [] text j k t e near sh h = absurd sh
more_stays quote p size other (l ∷ ls) (m ∷ ms) text j k t e near sh h = by_shares sh (λ x y z a b. more_stays quote p size other ls ms x y z t e near a b) where
  late : {A : Type 0} (x : List ℕ) (i : Bool) (n : ℕ) → Later p ls → quoted_more quote size ls x i n ≡ Stands t e → A
  late x i n a b = let c = stands_later quote size p ls x i n t e a b in absurd (omega (arith, c, near))

  -- the same line
  same : (q c w : Bool) (r : Part) → ((x : List ℕ) (i : Bool) (n : ℕ) → quoted_more quote size ls x i n ≡ Stands t e → quoted_more quote other ms x i n ≡ Stands t e)
      → cond q (Documents l.at) (cond c (Fails (l.at + 3)) (cond w (quoted_more quote size ls text j (suc k)) (behind_part r (λ i u. quoted_more quote size ls u i 0)))) ≡ Stands t e
      → cond q (Documents l.at) (cond c (Fails (l.at + 3)) (cond w (quoted_more quote other ms text j (suc k)) (behind_part r (λ i u. quoted_more quote other ms u i 0)))) ≡ Stands t e
  same true c w r f a = absurd (cc)
  same false true w r f a = absurd (cc)
  same false false true r f a = f text j (suc k) a
  same false false false (Closed u end) f a = a
  same false false false (Open u) f a = f u false 0 a
  same false false false (Joined u) f a = f u true 0 a
  same false false false (Returned at) f a = absurd (cc)
  same false false false (Refused at) f a = absurd (cc)

  -- a line that the place splits
  by_part : Later p ls → (r : Part) → part_of quote l.at l.bytes (text ++ gap j k) ≡ r → behind_part r (λ i u. quoted_more quote size ls u i 0) ≡ Stands t e → part_of quote l.at l.bytes (text ++ gap j k) ≡ Closed t e
  by_part a (Closed u end) w b =
      let x : u ≡ t = cc in
      let y : end ≡ e = cc in
      w ∙ ap (λ z. Closed z end) x ∙ ap (Closed t) y
  by_part a (Open u) w b = late u false 0 a b
  by_part a (Joined u) w b = late u true 0 a b
  by_part a (Returned at) w b = absurd (cc)
  by_part a (Refused at) w b = absurd (cc)

  shut : Later p ls → (q d w : Bool) → starts l ≡ q → is_cut_mark l.bytes ≡ d → cond q (Documents l.at) (cond d (Fails (l.at + 3)) (cond w (quoted_more quote size ls text j (suc k)) (behind_part (part_of quote l.at l.bytes (text ++ gap j k)) (λ i u. quoted_more quote size ls u i 0)))) ≡ Stands t e
      → (starts l ≡ false) × (is_cut_mark l.bytes ≡ false) × (part_of quote l.at l.bytes (text ++ gap j k) ≡ Closed t e)
  shut a true d w x y b = absurd (cc)
  shut a false true w x y b = absurd (cc)
  shut a false false true x y b = late text j (suc k) a b
  shut a false false false x y b = (x, y, by_part a (part_of quote l.at l.bytes (text ++ gap j k)) refl b)

  other_line : (q d w : Bool) (r : Part) → q ≡ false → d ≡ false → w ≡ false → r ≡ Closed t e → cond q (Documents m.at) (cond d (Fails (m.at + 3)) (cond w (quoted_more quote other ms text j (suc k)) (behind_part r (λ i u. quoted_more quote other ms u i 0)))) ≡ Stands t e
  other_line true d w r a b c f = absurd (true≢false a)
  other_line false true w r a b c f = absurd (true≢false b)
  other_line false false true r a b c f = absurd (true≢false c)
  other_line false false false r a b c f = ap (λ r. behind_part r (λ i u. quoted_more quote other ms u i 0)) f

  by_shares : Shares p (l ∷ ls) (m ∷ ms) → ((x : List ℕ) (i : Bool) (n : ℕ) → Shares p ls ms → quoted_more quote size ls x i n ≡ Stands t e → quoted_more quote other ms x i n ≡ Stands t e) → quoted_more quote other (m ∷ ms) text j k ≡ Stands t e
  by_shares (inl q) r =
      subst (λ (z : Line). quoted_more quote other (z ∷ ms) text j k ≡ Stands t e) q.0
      (same (starts l) (is_cut_mark l.bytes) (is_blank l.bytes) (part_of quote l.at l.bytes (text ++ gap j k)) (λ x i n b. r x i n q.1 b) h)
  by_shares (inr (inr q)) r =
      subst (λ (z : Line). quoted_more quote other (z ∷ ms) text j k ≡ Stands t e) q.0
      (same (starts l) (is_cut_mark l.bytes) (is_blank l.bytes) (part_of quote l.at l.bytes (text ++ gap j k)) (λ x i n b. late x i n q.2 b) h)
  by_shares (inr (inl q)) r =
      let c = shut q.2 (starts l) (is_cut_mark l.bytes) (is_blank l.bytes) refl refl h in
      let d = split_stays quote p l.at l.bytes m.bytes (text ++ gap j k) t e q.1 (no_long_mark l c.0 c.1) near c.2 in
      let u = unmarked m d.1 in
      other_line (starts m) (is_cut_mark m.bytes) (is_blank m.bytes) (part_of quote m.at m.bytes (text ++ gap j k)) u.0 u.1 d.0 (subst (λ a. part_of quote a m.bytes (text ++ gap j k) ≡ Closed t e) q.0 d.2)

-- ---- from its first line on

pub same_part : (one : Bool) (r : Part) (over over2 : ℕ) (t : List ℕ) (e : ℕ) (next other : Bool → List ℕ → Outcome) → ((j : Bool) (u : List ℕ) → next j u ≡ Stands t e → other j u ≡ Stands t e) → comes one r over next ≡ Stands t e → comes one r over2 other ≡ Stands t e
same_part true (Closed u end) over over2 t e next other f a = a
same_part true (Open u) over over2 t e next other f a = absurd (cc)
same_part true (Joined u) over over2 t e next other f a = absurd (cc)
same_part true (Returned r) over over2 t e next other f a = absurd (cc)
same_part true (Refused r) over over2 t e next other f a = absurd (cc)
same_part false (Closed u end) over over2 t e next other f a = a
same_part false (Open u) over over2 t e next other f a = f false u a
same_part false (Joined u) over over2 t e next other f a = f true u a
same_part false (Returned r) over over2 t e next other f a = absurd (cc)
same_part false (Refused r) over over2 t e next other f a = absurd (cc)

-- where what follows lies behind the place, the part closes
pub shut_part : (one : Bool) (r : Part) (over : ℕ) (t : List ℕ) (e : ℕ) (next : Bool → List ℕ → Outcome) → ((j : Bool) (u : List ℕ) → next j u ≡ Stands t e → ⊥) → comes one r over next ≡ Stands t e → r ≡ Closed t e
shut_part true (Closed u end) over t e next f a =
    let x : u ≡ t = cc in
    let y : end ≡ e = cc in
    ap (λ z. Closed z end) x ∙ ap (Closed t) y
shut_part true (Open u) over t e next f a = absurd (cc)
shut_part true (Joined u) over t e next f a = absurd (cc)
shut_part true (Returned r) over t e next f a = absurd (cc)
shut_part true (Refused r) over t e next f a = absurd (cc)
shut_part false (Closed u end) over t e next f a =
    let x : u ≡ t = cc in
    let y : end ≡ e = cc in
    ap (λ z. Closed z end) x ∙ ap (Closed t) y
shut_part false (Open u) over t e next f a = absurd (f false u a)
shut_part false (Joined u) over t e next f a = absurd (f true u a)
shut_part false (Returned r) over t e next f a = absurd (cc)
shut_part false (Refused r) over t e next f a = absurd (cc)

pub closed_comes : (one : Bool) (r : Part) (over : ℕ) (t : List ℕ) (e : ℕ) (next : Bool → List ℕ → Outcome) → r ≡ Closed t e → comes one r over next ≡ Stands t e
closed_comes true r over t e next h = ap (λ r. key_part r over) h
closed_comes false r over t e next h = ap (λ r. behind_part r next) h

on_stays : (one : Bool) (p size other : ℕ) (l m : Line) (ls ms : List Line) (t : List ℕ) (e : ℕ) → e ≤ p → Shares p (l ∷ ls) (m ∷ ms) → quoted_on one size (l ∷ ls) ≡ Stands t e → quoted_on one other (m ∷ ms) ≡ Stands t e
on_stays one p size other l m ls ms t e near (inl q) h =
    subst (λ (z : Line). quoted_on one other (z ∷ ms) ≡ Stands t e) q.0
    (same_part one (line_part (quote_of l.bytes) (suc l.at) 0 [] 0 (drop 1 l.bytes)) (l.at + length l.bytes) (l.at + length l.bytes) t e (λ j u. quoted_more (quote_of l.bytes) size ls u j 0) (λ j u. quoted_more (quote_of l.bytes) other ms u j 0)
    (λ j u a. more_stays (quote_of l.bytes) p size other ls ms u j 0 t e near q.1 a) h)
on_stays one p size other l m ls ms t e near (inr (inr q)) h =
    subst (λ (z : Line). quoted_on one other (z ∷ ms) ≡ Stands t e) q.0
    (same_part one (line_part (quote_of l.bytes) (suc l.at) 0 [] 0 (drop 1 l.bytes)) (l.at + length l.bytes) (l.at + length l.bytes) t e (λ j u. quoted_more (quote_of l.bytes) size ls u j 0) (λ j u. quoted_more (quote_of l.bytes) other ms u j 0)
    (λ j u a. let c = stands_later (quote_of l.bytes) size p ls u j 0 t e q.2 a in absurd (omega (arith, c, near))) h)
on_stays one p size other l m ls ms t e near (inr (inl (at, (f, x, y, el, em, place, s), later, whole))) h =
    subst (λ (b : List ℕ). quoted_on one other (record { at = m.at; bytes = b; broken = m.broken } ∷ ms) ≡ Stands t e) (sym em)
    (by_front f place (subst (λ (b : List ℕ). quoted_on one size (record { at = l.at; bytes = b; broken = l.broken } ∷ ls) ≡ Stands t e) el h)) where
      none : (quote : ℕ) (j : Bool) (u : List ℕ) → quoted_more quote size ls u j 0 ≡ Stands t e → ⊥
      none quote j u a = let c = stands_later quote size p ls u j 0 t e later a in omega (arith, c, near)

      by_front : (f : List ℕ) → l.at + length f ≡ p → quoted_on one size (record { at = l.at; bytes = f ++ x; broken = l.broken } ∷ ls) ≡ Stands t e → quoted_on one other (record { at = m.at; bytes = f ++ y; broken = m.broken } ∷ ms) ≡ Stands t e
      by_front [] n d =
          let quote : ℕ = quote_of x in
          let r = shut_part one (line_part quote (suc l.at) 0 [] 0 (drop 1 x)) (l.at + length x) t e (λ j u. quoted_more quote size ls u j 0) (λ j u a. none quote j u a) d in
          let b = closed_behind quote (suc l.at) 0 [] 0 (drop 1 x) t e r in
          absurd (omega (arith, b, n, near))
      by_front (c ∷ f) n d =
          let quote : ℕ = cond (nat_eq c 34) 34 39 in
          let r = shut_part one (line_part quote (suc l.at) 0 [] 0 (f ++ x)) (l.at + suc (length (f ++ x))) t e (λ j u. quoted_more quote size ls u j 0) (λ j u a. none quote j u a) d in
          let z : line_part quote (suc l.at) 0 [] 0 (f ++ y) ≡ Closed t e = part_like quote f x y (suc l.at) 0 [] 0 p t e (λ n. sym (begins_ahead x y s) ∙ n) (omega (arith, n)) near r in
          closed_comes one (line_part quote (suc m.at) 0 [] 0 (f ++ y)) (m.at + suc (length (f ++ y))) t e (λ j u. quoted_more quote other ms u j 0) (subst (λ a. line_part quote (suc a) 0 [] 0 (f ++ y) ≡ Closed t e) at z)

-- texts that agree up to a place, not before the scalar's end, and with the byte there have the same quoted scalar
pub quoted_stays : (s : Setting) (before rest more : List ℕ) (b at : ℕ) (t : List ℕ) (e : ℕ) → at ≤ length before → e ≤ length before → quoted_scalar s (before ++ (b ∷ rest)) at ≡ Stands t e → quoted_scalar s (before ++ (b ∷ more)) at ≡ Stands t e
quoted_stays s before rest more b at t e l near h =
    let text : List ℕ = before ++ (b ∷ rest) in
    let other : List ℕ = before ++ (b ∷ more) in
    let first : Line = record { at = at; bytes = line_at (drop at text); broken = has_break (drop at text) } in
    let first2 : Line = record { at = at; bytes = line_at (drop at other); broken = has_break (drop at other) } in
    let h2 : quoted_on s.one_line (length text) (first ∷ behind at (drop at text)) ≡ Stands t e = ap (quoted_on s.one_line (length text)) (sym (lines_are at (drop at text))) ∙ h in
    let share = subst (λ ls. Shares (length before) ls (lines at (drop at other))) (lines_are at (drop at text)) (texts_share before b rest more at l) in
    let share2 = subst (λ ms. Shares (length before) (first ∷ behind at (drop at text)) ms) (lines_are at (drop at other)) share in
    ap (quoted_on s.one_line (length other)) (lines_are at (drop at other)) ∙ on_stays s.one_line (length before) (length text) (length other) first first2 (behind at (drop at text)) (behind at (drop at other)) t e near share2 h2
