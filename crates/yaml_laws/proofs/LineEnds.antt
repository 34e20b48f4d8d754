-- A line that ends a scalar above it does so in each text that agrees with this one through the byte that shows it.
use Rattle.std.proofs.Common.{◌≡◌, ℕ, zero, suc, ◌+◌, ◌<◌, ◌≤◌, Bool, true, false, List, [], ◌∷◌, ◌++◌, length, drop, refl, sym, ap, inl, inr, subst, ◌∙◌, arith, cond, true≢false, append_assoc}
use Rattle.std.specs.Prelude.{nat_eq, nat_lt, ◌||◌, ◌&&◌}
use Rattle.std.proofs.lemmas.Bool.Decides.{nat_tests}
use Rattle.std.proofs.lemmas.List.{drop-drop, length-append}
use Rattle.yaml_scalars.specs.Lines.{Line, begins_with, is_white, is_space, is_blank, is_mark, is_end, indent, lead, lines}
use Rattle.yaml_scalars.specs.Block.{shown}
use Rattle.yaml_laws.specs.code.Agreement.{end_shown, out_shown}
use Rattle.yaml_scalars.specs.code.Walk.{line_at, behind}
use Rattle.yaml_scalars.proofs.Places.{lines_are}
use Rattle.yaml_laws.proofs.Agree.{IsReturn, SameAhead, SplitAt}
use Rattle.yaml_laws.proofs.BlockHeads.{cases}
use Rattle.yaml_laws.proofs.BlockShown.{Alike, blank_not, blank_less, lead_same, spaces_less, shown_alike}

-- ---- the lines are those of a text

abbrev pub AreOf : List ℕ → List Line → Type 0
AreOf text [] = Unit {0}
AreOf text (l ∷ ls) = (l.bytes ≡ line_at (drop l.at text)) × AreOf text ls

lines_from : (text : List ℕ) (at : ℕ) (rest : List ℕ) → rest ≡ drop at text → AreOf text (behind at rest) → AreOf text (lines at rest)
lines_from text at rest e h = subst (AreOf text) (sym (lines_are at rest)) (ap line_at e, h)

pub behind_of : (text rest : List ℕ) (at : ℕ) → rest ≡ drop at text → AreOf text (behind at rest)
behind_of text [] at e = tt
behind_of text (b ∷ rest) at e = by_feed (nat_eq b 10) (behind_of text rest (suc at) next) where
  next : rest ≡ drop (suc at) text
  next = ap (drop 1) e ∙ drop-drop 1 at text ∙ (let h : at + 1 ≡ suc at = omega arith in ap (λ k. drop k text) h)

  by_feed : (q : Bool) → AreOf text (behind (suc at) rest) → AreOf text (cond q (lines (suc at) rest) (behind (suc at) rest))
  by_feed true h = lines_from text (suc at) rest next h
  by_feed false h = h

pub lines_of : (text : List ℕ) (at : ℕ) → AreOf text (lines at (drop at text))
lines_of text at = lines_from text at (drop at text) refl (behind_of text (drop at text) at refl)

-- ---- marks

pub mark_full : (xs : List ℕ) → is_mark xs ≡ true → is_blank xs ≡ false
mark_full [] h = absurd (cc)
mark_full (a ∷ []) h = absurd (cc)
mark_full (a ∷ b ∷ []) h = absurd (cc)
mark_full (a ∷ b ∷ c ∷ rest) h = by_byte (nat_eq a 45) (nat_eq a 46) (nat_eq a b && (nat_eq a c && is_end rest)) (λ k. grind (arith, nat_tests)) (λ k. grind (arith, nat_tests)) h where
  by_byte : (p q r : Bool) → (p ≡ true → is_white a ≡ false) → (q ≡ true → is_white a ≡ false) → ((p || q) && r) ≡ true → cond (is_white a) (is_blank (b ∷ c ∷ rest)) false ≡ false
  by_byte true q r f g e = ap (λ w. cond w (is_blank (b ∷ c ∷ rest)) false) (f refl)
  by_byte false true r f g e = ap (λ w. cond w (is_blank (b ∷ c ∷ rest)) false) (g refl)
  by_byte false false r f g e = absurd (true≢false (sym e))

pub mark_four : (f x y : List ℕ) → 4 ≤ length f → is_mark (f ++ y) ≡ is_mark (f ++ x)
mark_four [] x y l = absurd (omega (arith, l))
mark_four (a ∷ []) x y l = absurd (omega (arith, l))
mark_four (a ∷ b ∷ []) x y l = absurd (omega (arith, l))
mark_four (a ∷ b ∷ c ∷ []) x y l = absurd (omega (arith, l))
mark_four (a ∷ b ∷ c ∷ d ∷ f) x y l = refl

-- ---- other lines

cut_at : (n : ℕ) (f : List ℕ) → n < length f → (g : List ℕ) × (b : ℕ) × (h : List ℕ) × (f ≡ g ++ (b ∷ h)) × (length g ≡ n)
cut_at n [] l = absurd (omega (arith, l))
cut_at zero (b ∷ f) l = ([], b, f, refl, refl)
cut_at (suc n) (c ∷ f) l = let r = cut_at n f (omega (arith, l)) in (c ∷ r.0, r.1, r.2, ap (λ t. c ∷ t) r.3, ap suc r.4)

near_cut : (f x y g h : List ℕ) (b : ℕ) → f ≡ g ++ (b ∷ h) → length g ≡ shown (f ++ x) → is_blank (f ++ x) ≡ false → is_mark (f ++ x) ≡ false → Alike (f ++ x) (f ++ y)
near_cut f x y g h b e size full mark =
    let in_x : f ++ x ≡ g ++ (b ∷ (h ++ x)) = ap (λ z. z ++ x) e ∙ append_assoc g (b ∷ h) x in
    let in_y : f ++ y ≡ g ++ (b ∷ (h ++ y)) = ap (λ z. z ++ y) e ∙ append_assoc g (b ∷ h) y in
    let a = shown_alike g (b ∷ (h ++ x)) (b ∷ (h ++ y)) (inl (b, h ++ x, h ++ y, refl, refl)) (sym (ap is_blank in_x) ∙ full) (sym (ap is_mark in_x) ∙ mark) (sym (ap shown in_x) ∙ sym size) in
    subst (λ z. Alike z (f ++ y)) (sym in_x) (subst (λ z. Alike (g ++ (b ∷ (h ++ x))) z) (sym in_y) a)

shown_near : (f x y : List ℕ) → SameAhead x y → is_blank (f ++ x) ≡ false → is_mark (f ++ x) ≡ false → shown (f ++ x) ≤ length f → Alike (f ++ x) (f ++ y)
shown_near f x y s full mark l = cases (nat_eq (shown (f ++ x)) (length f)) (λ e. shown_alike f x y s full mark (grind (arith, nat_tests, e))) less where
  less : nat_eq (shown (f ++ x)) (length f) ≡ false → Alike (f ++ x) (f ++ y)
  less e =
      let k : shown (f ++ x) < length f = grind (arith, nat_tests, e, l) in
      let (g, b, h, whole, size) = cut_at (shown (f ++ x)) f k in
      near_cut f x y g h b whole size full mark

-- a line that is not blank, and another that shares a front with it: so is that one, and it is a mark if this is one, or else indented as much
pub record EndsAlike (l m : List ℕ) : Type 0 where
  pub full : is_blank m ≡ false
  pub mark : is_mark m ≡ is_mark l
  pub alike : is_mark l ≡ false → Alike l m

pub ends_alike : (p at : ℕ) (l m : List ℕ) → SplitAt p at l m → is_blank l ≡ false → at + end_shown l ≤ p → EndsAlike l m
ends_alike p at l m (f, x, y, el, em, size, s) full near = cases (is_mark l) marked other where
  marked : is_mark l ≡ true → EndsAlike l m
  marked k =
      let four : end_shown l ≡ 4 = ap (λ q. cond q 4 (shown l)) k in
      let same : is_mark m ≡ is_mark l = ap is_mark em ∙ mark_four f x y (omega (arith, four, near, size)) ∙ sym (ap is_mark el) in
      record { full = mark_full m (same ∙ k); mark = same; alike = λ n. absurd (true≢false (sym k ∙ n)) }

  other : is_mark l ≡ false → EndsAlike l m
  other k =
      let some : end_shown l ≡ shown (f ++ x) = ap (λ q. cond q 4 (shown l)) k ∙ ap shown el in
      let a = shown_near f x y s (sym (ap is_blank el) ∙ full) (sym (ap is_mark el) ∙ k) (omega (arith, some, near, size)) in
      let b : Alike l m = subst (λ z. Alike z m) (sym el) (subst (λ z. Alike (f ++ x) z) (sym em) a) in
      record { full = b.other_full; mark = b.mark; alike = λ n. b }

-- ---- whatever it is

lead_front : (q : ℕ → Bool) (f x : List ℕ) → length f ≤ lead q (f ++ x) → drop (lead q (f ++ x)) (f ++ x) ≡ drop (lead q x) x
lead_front q [] x l = refl
lead_front q (c ∷ f) x l = by_byte (q c) l (λ m. lead_front q f x m) where
  by_byte : (w : Bool) → suc (length f) ≤ cond w (suc (lead q (f ++ x))) 0 → (length f ≤ lead q (f ++ x) → drop (lead q (f ++ x)) (f ++ x) ≡ drop (lead q x) x) → drop (cond w (suc (lead q (f ++ x))) 0) (c ∷ (f ++ x)) ≡ drop (lead q x) x
  by_byte true l r = r (omega (arith, l))
  by_byte false l r = absurd (omega (arith, l))

-- a line that is not blank, and another that shares a front with it: nor is that one, and it is a mark if this is one, or else it is indented as much
pub record OutAlike (l m : List ℕ) : Type 0 where
  pub full : is_blank m ≡ false
  pub mark : is_mark l ≡ true → is_mark m ≡ true
  pub indented : is_mark l ≡ false → indent m ≡ indent l

-- the first byte that is no white space is shared
byte_shared : (g : List ℕ) (b : ℕ) (u v : List ℕ) → lead is_white (g ++ (b ∷ u)) ≤ length g → (is_blank (g ++ (b ∷ v)) ≡ false) × (indent (g ++ (b ∷ v)) ≡ indent (g ++ (b ∷ u)))
byte_shared g b u v l =
    let white : lead is_white (g ++ (b ∷ v)) ≡ lead is_white (g ++ (b ∷ u)) = lead_same is_white g b u v l in
    let size : length (g ++ (b ∷ v)) ≡ length g + suc (length v) = length-append g (b ∷ v) in
    let spaces = spaces_less (g ++ (b ∷ u)) in
    (blank_not (g ++ (b ∷ v)) (omega (arith, white, size, l)), lead_same is_space g b u v (omega (arith, spaces, l)))

pub outs_alike : (p at : ℕ) (l m : List ℕ) → SplitAt p at l m → is_blank l ≡ false → at + out_shown l ≤ p → OutAlike l m
outs_alike p at l m (f, x, y, el, em, size, s) full near = cases (is_mark l) marked other where
  marked : is_mark l ≡ true → OutAlike l m
  marked k =
      let four : out_shown l ≡ 4 = ap (λ q. cond q 4 (cond (begins_with 13 (drop (lead is_white l) l)) (suc (lead is_white l)) (lead is_white l))) k in
      let same : is_mark m ≡ is_mark l = ap is_mark em ∙ mark_four f x y (omega (arith, four, near, size)) ∙ sym (ap is_mark el) in
      record { full = mark_full m (same ∙ k); mark = λ n. same ∙ k; indented = λ n. absurd (true≢false (sym k ∙ n)) }

  shared : (g : List ℕ) (b : ℕ) (u v : List ℕ) → l ≡ g ++ (b ∷ u) → m ≡ g ++ (b ∷ v) → lead is_white l ≤ length g → is_mark l ≡ false → OutAlike l m
  shared g b u v e d low k =
      let r = byte_shared g b u v (let z = ap (lead is_white) e in omega (arith, z, low)) in
      record { full = ap is_blank d ∙ r.0; mark = λ n. absurd (true≢false (sym n ∙ k)); indented = λ n. ap indent d ∙ r.1 ∙ sym (ap indent e) }

  other : is_mark l ≡ false → OutAlike l m
  other k = by_return (begins_with 13 (drop (lead is_white l) l)) refl (let some : out_shown l ≡ cond (begins_with 13 (drop (lead is_white l) l)) (suc (lead is_white l)) (lead is_white l) = ap (λ q. cond q 4 (cond (begins_with 13 (drop (lead is_white l) l)) (suc (lead is_white l)) (lead is_white l))) k in omega (arith, some, near, size)) where
    -- behind the front
    within : lead is_white l < length f → OutAlike l m
    within low =
        let c = cut_at (lead is_white l) f low in
        shared c.0 c.1 (c.2 ++ x) (c.2 ++ y) (el ∙ ap (λ z. z ++ x) c.3 ∙ append_assoc c.0 (c.1 ∷ c.2) x) (em ∙ ap (λ z. z ++ y) c.3 ∙ append_assoc c.0 (c.1 ∷ c.2) y) (let z = c.4 in omega (arith, z)) k

    at_front : lead is_white l ≡ length f → begins_with 13 (drop (lead is_white l) l) ≡ false → SameAhead x y → OutAlike l m
    at_front e r (inl (b, u, v, ex, ey)) = shared f b u v (el ∙ ap (λ z. f ++ z) ex) (em ∙ ap (λ z. f ++ z) ey) (omega (arith, e)) k
    at_front e r (inr (h, g)) = by_bytes x el h where
      by_bytes : (x : List ℕ) → l ≡ f ++ x → IsReturn x → OutAlike l m
      by_bytes [] d h = absurd (let z = blank_less l full in let n = ap (λ (t : List ℕ). length t) d in omega (arith, z, n, e, length-append f []))
      by_bytes (c ∷ x) d h =
          let there : drop (lead is_white l) l ≡ drop (lead is_white (c ∷ x)) (c ∷ x) = ap (λ t. drop (lead is_white t) t) d ∙ lead_front is_white f (c ∷ x) (let z = ap (lead is_white) d in omega (arith, z, e)) in
          let byte : c ∷ x ≡ 13 ∷ x = ap (λ b. b ∷ x) h in
          absurd (true≢false (sym (ap (begins_with 13) (there ∙ ap (λ t. drop (lead is_white t) t) byte)) ∙ r))

    by_return : (r : Bool) → begins_with 13 (drop (lead is_white l) l) ≡ r → cond r (suc (lead is_white l)) (lead is_white l) ≤ length f → OutAlike l m
    by_return true r low = within (omega (arith, low))
    by_return false r low = cases (nat_lt (lead is_white l) (length f)) (λ e. within (grind (arith, nat_tests, e))) (λ e. at_front (let z : length f ≤ lead is_white l = grind (arith, nat_tests, e) in omega (arith, z, low)) r s)
