-- Where a plain scalar stands, over one line or more, each text that agrees with this one through the byte that shows its end has the same scalar there.
use Rattle.std.proofs.Common.{◌≡◌, ℕ, zero, suc, ◌+◌, ◌<◌, ◌≤◌, ◌⊎◌, Bool, true, false, List, [], ◌∷◌, ◌++◌, length, drop, refl, sym, ap, inl, inr, subst, ◌∙◌, arith, cond, true≢false, append_assoc, length-append}
use Rattle.std.specs.Prelude.{nat_eq, nat_lt, ◌||◌}
use Rattle.std.proofs.lemmas.Bool.Decides.{nat_tests}
use Rattle.yaml_scalars.specs.declared.scalar.Setting.{Setting}
use Rattle.yaml_scalars.specs.declared.plain_line.Why.{Why}
use Rattle.yaml_scalars.specs.declared.plain_line.Why.TheVariants.{Break, Return, Colon, Comment, Mark}
use Rattle.yaml_scalars.specs.declared.plain_line.Below.{Below}
use Rattle.yaml_scalars.specs.declared.plain_line.Below.TheVariants.{Blank, Outside, Further}
use Rattle.yaml_scalars.specs.Lines.{Line, Outcome, Stands, Fails, begins_with, begins_break, is_white, is_space, is_blank, is_mark, is_cut_mark, lead, indent, past_white, each, fold, lines}
use Rattle.yaml_scalars.specs.Plain.{above_of, plain_len, content, content_end, reason, content_at, inside, below, ends_on, joins, further, more, first, plain_on}
use Rattle.yaml_laws.specs.code.Agreement.{out_shown, shown_by, part_shown, line_shown, more_shown, plain_shown}
use Rattle.yaml_scalars.specs.code.Walk.{line_at, has_break, behind}
use Rattle.yaml_scalars.specs.Scalar.{is_first_column, plain_scalar}
use Rattle.yaml_scalars.proofs.Places.{lines_are}
use Rattle.yaml_laws.proofs.Agree.{Later, Shares, texts_share, drop_before, drop_size}
use Rattle.yaml_laws.proofs.BlockHeads.{cases}
use Rattle.yaml_laws.proofs.BlockShown.{blank_not, spaces_less}
use Rattle.yaml_laws.proofs.LineEnds.{AreOf, lines_of, mark_four, OutAlike, outs_alike}
use Rattle.yaml_laws.proofs.PlainLaw.{dash}
use Rattle.yaml_laws.proofs.QuotedLaw.{lead_some}
use Rattle.yaml_laws.proofs.QuotedStays.{mark_front}
use Rattle.yaml_laws.proofs.PlainStays.{Parted, parted, PartSame, part_same, shown_colon, dashes_long, opens_stands, made, line_stays}
use Rattle.yaml_laws.proofs.ScalarLaw.{column_same}

-- ---- what a line is whose front holds its first byte that is not white

lead_cut : (q : ℕ → Bool) (f u : List ℕ) → lead q (f ++ u) < length f → lead q f ≡ lead q (f ++ u)
lead_cut q [] u l = absurd (omega (arith, l))
lead_cut q (c ∷ f) u l = by_byte (q c) l (λ m. lead_cut q f u m) where
  by_byte : (w : Bool) → cond w (suc (lead q (f ++ u))) 0 < suc (length f) → (lead q (f ++ u) < length f → lead q f ≡ lead q (f ++ u)) → cond w (suc (lead q f)) 0 ≡ cond w (suc (lead q (f ++ u))) 0
  by_byte true l r = ap suc (r (omega (arith, l)))
  by_byte false l r = refl

lead_in : (q : ℕ → Bool) (f u : List ℕ) → lead q f < length f → lead q (f ++ u) ≡ lead q f
lead_in q [] u l = absurd (omega (arith, l))
lead_in q (c ∷ f) u l = by_byte (q c) l (λ m. lead_in q f u m) where
  by_byte : (w : Bool) → cond w (suc (lead q f)) 0 < suc (length f) → (lead q f < length f → lead q (f ++ u) ≡ lead q f) → cond w (suc (lead q (f ++ u))) 0 ≡ cond w (suc (lead q f)) 0
  by_byte true l r = ap suc (r (omega (arith, l)))
  by_byte false l r = refl

pub begins_in : (k n : ℕ) (f u : List ℕ) → n < length f → begins_with k (drop n (f ++ u)) ≡ begins_with k (drop n f)
begins_in k n [] u l = absurd (omega (arith, l))
begins_in k zero (c ∷ f) u l = refl
begins_in k (suc n) (c ∷ f) u l = begins_in k n f u (omega (arith, l))

inside_front : (s : Setting) (f u : List ℕ) → lead is_white f < length f → inside s (f ++ u) ≡ inside s f
inside_front s f u l =
    let a : lead is_white (f ++ u) ≡ lead is_white f = lead_in is_white f u l in
    let d : lead is_space f < length f = let z = spaces_less f in omega (arith, z, l) in
    let i : indent (f ++ u) ≡ indent f = lead_in is_space f u d in
    let flow : content_at (lead is_white (f ++ u)) (past_white (f ++ u)) ≡ content_at (lead is_white f) (past_white f) =
    ap (λ k. content_at k (drop k (f ++ u))) a ∙ ap (λ q. cond q Outside (Further (lead is_white f))) (begins_in 35 (lead is_white f) f u l) in
    let block : cond (nat_lt (indent (f ++ u)) (above_of s.parent) || begins_with 9 (drop (indent (f ++ u)) (f ++ u))) Outside (content_at (indent (f ++ u)) (drop (indent (f ++ u)) (f ++ u)))
    ≡ cond (nat_lt (indent f) (above_of s.parent) || begins_with 9 (drop (indent f) f)) Outside (content_at (indent f) (drop (indent f) f)) =
    ap (λ k. cond (nat_lt k (above_of s.parent) || begins_with 9 (drop k (f ++ u))) Outside (content_at k (drop k (f ++ u)))) i
    ∙ ap (λ q. cond (nat_lt (indent f) (above_of s.parent) || q) Outside (content_at (indent f) (drop (indent f) (f ++ u)))) (begins_in 9 (indent f) f u d)
    ∙ ap (λ q. cond (nat_lt (indent f) (above_of s.parent) || begins_with 9 (drop (indent f) f)) Outside (cond q Outside (Further (indent f)))) (begins_in 35 (indent f) f u d) in
    ap (λ x. cond s.flow x (cond (nat_lt (indent (f ++ u)) (above_of s.parent) || begins_with 9 (drop (indent (f ++ u)) (f ++ u))) Outside (content_at (indent (f ++ u)) (drop (indent (f ++ u)) (f ++ u))))) flow
    ∙ ap (λ y. cond s.flow (content_at (lead is_white f) (past_white f)) y) block

below_is : (s : Setting) (xs : List ℕ) (m : Bool) → is_blank xs ≡ false → is_mark xs ≡ m → below s xs ≡ cond m Outside (inside s xs)
below_is s xs m b e = ap (λ q. cond q Blank (cond (is_mark xs) Outside (inside s xs))) b ∙ ap (λ q. cond q Outside (inside s xs)) e

below_same : (s : Setting) (f u v : List ℕ) → lead is_white f < length f → is_mark (f ++ v) ≡ is_mark (f ++ u) → below s (f ++ v) ≡ below s (f ++ u)
below_same s f u v l m =
    let full = blank_not f l in
    below_is s (f ++ v) (is_mark (f ++ u)) (lead_some f v full).2 m
    ∙ ap (λ z. cond (is_mark (f ++ u)) Outside z) (inside_front s f v l ∙ sym (inside_front s f u l))
    ∙ sym (below_is s (f ++ u) (is_mark (f ++ u)) (lead_some f u full).2 refl)

-- ---- a further line

no_tab : (xs : List ℕ) → begins_with 9 (drop (lead is_space xs) xs) ≡ false → lead is_white xs ≡ lead is_space xs
no_tab [] h = refl
no_tab (x ∷ xs) h = by_byte (nat_eq x 32) (nat_eq x 9) refl h (λ g. no_tab xs g) where
  by_byte : (p q : Bool) → nat_eq x 9 ≡ q → begins_with 9 (drop (cond p (suc (lead is_space xs)) 0) (x ∷ xs)) ≡ false → (begins_with 9 (drop (lead is_space xs) xs) ≡ false → lead is_white xs ≡ lead is_space xs) → cond (p || q) (suc (lead is_white xs)) 0 ≡ cond p (suc (lead is_space xs)) 0
  by_byte true q e h r = ap suc (r h)
  by_byte false true e h r = absurd (true≢false (sym e ∙ h))
  by_byte false false e h r = refl

pub further_parts : (s : Setting) (xs : List ℕ) (n : ℕ) → below s xs ≡ Further n → (n ≡ lead is_white xs) × (is_mark xs ≡ false)
further_parts s xs n h = by_tests (is_blank xs) (is_mark xs) s.flow (begins_with 35 (past_white xs)) (nat_lt (indent xs) (above_of s.parent)) (begins_with 9 (drop (indent xs) xs)) refl (begins_with 35 (drop (indent xs) xs)) h where
  by_tests : (b m w c a t : Bool) → begins_with 9 (drop (indent xs) xs) ≡ t → (d : Bool)
      → cond b Blank (cond m Outside (cond w (cond c Outside (Further (lead is_white xs))) (cond (a || t) Outside (cond d Outside (Further (indent xs)))))) ≡ Further n → (n ≡ lead is_white xs) × (m ≡ false)
  by_tests true m w c a t e d h = absurd (cc)
  by_tests false true w c a t e d h = absurd (cc)
  by_tests false false true true a t e d h = absurd (cc)
  by_tests false false true false a t e d h = (let z : lead is_white xs ≡ n = cc in sym z, refl)
  by_tests false false false c true t e d h = absurd (cc)
  by_tests false false false c false true e d h = absurd (cc)
  by_tests false false false c false false e true h = absurd (cc)
  by_tests false false false c false false e false h = (let z : indent xs ≡ n = cc in sym z ∙ sym (no_tab xs e), refl)

joins_same : (flow : Bool) (w : Why) (l m : List ℕ) (at : ℕ) (t : List ℕ) (e k : ℕ) (next other : List ℕ → ℕ → ℕ → Outcome) (u : List ℕ) (f : ℕ) → PartSame flow l m → (w ≡ Break → ⊥) → joins flow w l at t e k next ≡ Stands u f → joins flow w m at t e k other ≡ Stands u f
joins_same flow w l m at t e k next other u f a n h = by_why w n h where
  ends : ends_on flow m at t e k ≡ ends_on flow l at t e k
  ends =
      ap (λ i. cond (nat_eq i 0) (Stands t e) (Stands (t ++ (fold k ++ content flow m)) (at + length (content flow m)))) a.len
      ∙ ap (λ (z : List ℕ). cond (nat_eq (plain_len flow false l) 0) (Stands t e) (Stands (t ++ (fold k ++ z)) (at + length z))) a.content

  by_colon : (q : Bool) → cond q (ends_on flow l at t e k) (Fails (at + plain_len flow false l + 1)) ≡ Stands u f → cond q (ends_on flow m at t e k) (Fails (at + plain_len flow false m + 1)) ≡ Stands u f
  by_colon true h = ends ∙ h
  by_colon false h = absurd (cc)

  by_why : (w : Why) → (w ≡ Break → ⊥) → joins flow w l at t e k next ≡ Stands u f → joins flow w m at t e k other ≡ Stands u f
  by_why Break n h = absurd (n refl)
  by_why Return n h = absurd (cc)
  by_why Colon n h = by_colon flow h
  by_why Comment n h = ap (λ (z : List ℕ). Stands (t ++ (fold k ++ z)) (at + length z)) a.content ∙ h
  by_why Mark n h = ends ∙ h

-- ---- bounds

shown_least : (w : Why) (n : ℕ) → n ≤ shown_by w n
shown_least Break n = omega arith
shown_least Return n = omega arith
shown_least Colon n = omega arith
shown_least Comment n = omega arith
shown_least Mark n = omega arith

part_later : (w : Why) (p n next : ℕ) → p < n → p < next → p < part_shown w n next
part_later Break p n next a b = b
part_later Return p n next a b = a
part_later Colon p n next a b = omega (arith, a)
part_later Comment p n next a b = a
part_later Mark p n next a b = a

more_later : (s : Setting) (size p : ℕ) (ls : List Line) → p < size → Later p ls → p < more_shown s size ls
more_later s size p [] z w = z
more_later s size p (l ∷ ls) z w = by_below (below s l.bytes) (more_later s size p ls z w.1) where
  by_below : (b : Below) → p < more_shown s size ls → p < line_shown s b l.at l.bytes (more_shown s size ls)
  by_below Blank r = r
  by_below Outside r = let a = w.0 in omega (arith, a)
  by_below (Further n) r = let a = w.0 in part_later (reason s.flow (drop n l.bytes)) p (l.at + n + plain_len s.flow false (drop n l.bytes)) (more_shown s size ls) (omega (arith, a)) r

white_least : (n : ℕ) (q : Bool) → n ≤ cond q (suc n) n
white_least n true = omega arith
white_least n false = omega arith

dashes_white : (f : List ℕ) → each dash f ≡ true → lead is_white f ≡ 0
dashes_white [] h = refl
dashes_white (c ∷ f) h = by_dash (dash c) refl h where
  by_dash : (q : Bool) → dash c ≡ q → cond q (each dash f) false ≡ true → cond (is_white c) (suc (lead is_white f)) 0 ≡ 0
  by_dash true w i = let z : is_white c ≡ false = grind (arith, nat_tests, w) in ap (λ q. cond q (suc (lead is_white f)) 0) z
  by_dash false w i = absurd (true≢false (sym i))

-- ---- a line that the place parts

module _ (s : Setting) (at p : ℕ) (g : List ℕ) (b : ℕ) (l m u v : List ℕ) (size : at + length g ≡ p) (el : l ≡ g ++ (b ∷ u)) (em : m ≡ g ++ (b ∷ v)) where
  front : List ℕ
  front = g ++ (b ∷ [])

  long : length front ≡ length g + 1
  unfolding front
  long = length-append g (b ∷ [])

  in_l : l ≡ front ++ u
  unfolding front
  in_l = el ∙ sym (append_assoc g (b ∷ []) u)

  in_m : m ≡ front ++ v
  unfolding front
  in_m = em ∙ sym (append_assoc g (b ∷ []) v)

  outside_same : below s l ≡ Outside → is_blank l ≡ false → at + out_shown l ≤ p → below s m ≡ Outside
  outside_same h full near = cases (is_mark l) (λ k. marks (a.mark k)) (λ k. cases (is_mark m) marks (others k)) where
    a : OutAlike l m
    a = outs_alike p at l m (g, b ∷ u, b ∷ v, el, em, size, inl (b, u, v, refl, refl)) full near

    marks : is_mark m ≡ true → below s m ≡ Outside
    marks k = below_is s m true a.full k

    others : is_mark l ≡ false → is_mark m ≡ false → below s m ≡ Outside
    others k n =
        let some : out_shown l ≡ cond (begins_with 13 (drop (lead is_white l) l)) (suc (lead is_white l)) (lead is_white l) = ap (λ q. cond q 4 (cond (begins_with 13 (drop (lead is_white l) l)) (suc (lead is_white l)) (lead is_white l))) k in
        let x = white_least (lead is_white l) (begins_with 13 (drop (lead is_white l) l)) in
        let y = ap (lead is_white) in_l in
        let z = long in
        let low : lead is_white (front ++ u) < length front = omega (arith, some, x, y, z, near, size) in
        let f : lead is_white front < length front = let c = lead_cut is_white front u low in omega (arith, c, low) in
        ap (below s) in_m ∙ below_same s front u v f (sym (ap is_mark in_m) ∙ n ∙ sym k ∙ ap is_mark in_l) ∙ sym (ap (below s) in_l) ∙ h

  further_same : (n : ℕ) → below s l ≡ Further n → shown_by (reason s.flow (drop n l)) (at + n + plain_len s.flow false (drop n l)) ≤ p → (below s m ≡ Further n) × PartSame s.flow (drop n l) (drop n m)
  further_same n h near =
      let parts = further_parts s l n h in
      let c = shown_colon (reason s.flow (drop n l)) (at + n + plain_len s.flow false (drop n l)) p near in
      let z = long in
      let low : n < length front = let y = c.0 in omega (arith, y, z, size) in
      let lead_l : lead is_white (front ++ u) ≡ n = sym (ap (lead is_white) in_l) ∙ sym parts.0 in
      let f : lead is_white front ≡ n = lead_cut is_white front u (omega (arith, lead_l, low)) ∙ lead_l in
      let drop_l : drop n l ≡ drop n front ++ u = ap (drop n) in_l ∙ drop_before n front u (omega (arith, low)) in
      let drop_m : drop n m ≡ drop n front ++ v = ap (drop n) in_m ∙ drop_before n front v (omega (arith, low)) in
      let far : n + length (drop n front) ≡ length front = drop_size n front (omega (arith, low)) in
      let len : plain_len s.flow false (drop n front ++ u) ≡ plain_len s.flow false (drop n l) = ap (plain_len s.flow false) (sym drop_l) in
      let within : plain_len s.flow false (drop n front ++ u) < length (drop n front) = let y = c.0 in omega (arith, len, far, y, z, size) in
      let colon : reason s.flow (drop n front ++ u) ≡ Colon → suc (plain_len s.flow false (drop n front ++ u)) < length (drop n front) = λ w. let y = c.1 (ap (reason s.flow) drop_l ∙ w) in omega (arith, len, far, y, z, size) in
      let same = part_same s.flow (drop n front) u v within colon in
      let unmarked : is_mark (front ++ v) ≡ false = no_mark n f within (sym (ap is_mark in_l) ∙ parts.1) (is_mark (front ++ v)) refl in (
        ap (below s) in_m ∙ below_same s front u v (omega (arith, f, low)) (unmarked ∙ sym (sym (ap is_mark in_l) ∙ parts.1)) ∙ sym (ap (below s) in_l) ∙ h,
        subst (λ x. PartSame s.flow x (drop n m)) (sym drop_l) (subst (λ x. PartSame s.flow (drop n front ++ u) x) (sym drop_m) same),
      ) where
        no_mark : (n : ℕ) → lead is_white front ≡ n → plain_len s.flow false (drop n front ++ u) < length (drop n front) → is_mark (front ++ u) ≡ false → (q : Bool) → is_mark (front ++ v) ≡ q → is_mark (front ++ v) ≡ false
        no_mark n f within k false e = e
        no_mark n f within k true e = elim (mark_front front u v (ap (λ q. q || is_cut_mark (front ++ v)) e)) [
          | inl d ↦ absurd (dashes n f within d)
          | inr d ↦ absurd (true≢false (sym e ∙ mark_four front u v (let w = d.1 in omega (arith, w)) ∙ k))
        ] where
          dashes : (n : ℕ) → lead is_white front ≡ n → plain_len s.flow false (drop n front ++ u) < length (drop n front) → each dash front ≡ true → ⊥
          dashes zero f within d = let k = dashes_long s.flow false front u d in omega (arith, k, within)
          dashes (suc n) f within d = let z = dashes_white front d in omega (arith, z, f)

-- ---- lines below the first

module _ (before rest other : List ℕ) (b : ℕ) (feed : begins_break b rest ≡ begins_break b other) where
  abbrev old : List ℕ
  old = before ++ (b ∷ rest)

  abbrev new : List ℕ
  new = before ++ (b ∷ other)

  abbrev place : ℕ
  place = length before

  -- two lines at one place of them
  lines_part : (at : ℕ) (l m : List ℕ) → at ≤ place → l ≡ line_at (drop at old) → m ≡ line_at (drop at new) → Parted (drop at before) b l m
  lines_part at l m low e f =
      let p = parted (drop at before) b rest other feed in
      let p2 = subst (λ z. Parted (drop at before) b z (line_at (drop at before ++ (b ∷ other)))) (sym (e ∙ ap line_at (drop_before at before (b ∷ rest) low))) p in
      subst (λ z. Parted (drop at before) b l z) (sym (f ∙ ap line_at (drop_before at before (b ∷ other) low))) p2

  module _ (s : Setting) (size : ℕ) (within : place < size) (u : List ℕ) (f : ℕ) where
    abbrev Goes : List Line → List Line → Type 0
    Goes ls ms = (t : List ℕ) (e k : ℕ) → more_shown s size ls ≤ place → more s ls t e k ≡ Stands u f → more s ms t e k ≡ Stands u f

    -- the same bytes
    same_line : (w : Below) (at : ℕ) (l : List ℕ) (ls ms : List Line) (t : List ℕ) (e k : ℕ) → Goes ls ms → line_shown s w at l (more_shown s size ls) ≤ place → further s w at l t e k (more s ls) ≡ Stands u f → further s w at l t e k (more s ms) ≡ Stands u f
    same_line Blank at l ls ms t e k goes near h = goes t e (suc k) near h
    same_line Outside at l ls ms t e k goes near h = h
    same_line (Further n) at l ls ms t e k goes near h = by_why (reason s.flow (drop n l)) near h where
      by_why : (w : Why) → part_shown w (at + n + plain_len s.flow false (drop n l)) (more_shown s size ls) ≤ place → joins s.flow w (drop n l) (at + n) t e k (more s ls) ≡ Stands u f → joins s.flow w (drop n l) (at + n) t e k (more s ms) ≡ Stands u f
      by_why Break near h = goes _ _ 0 near h
      by_why Return near h = absurd (cc)
      by_why Colon near h = by_flow s.flow h where
        by_flow : (q : Bool) → cond q (ends_on s.flow (drop n l) (at + n) t e k) (Fails (at + n + plain_len s.flow false (drop n l) + 1)) ≡ Stands u f → cond q (ends_on s.flow (drop n l) (at + n) t e k) (Fails (at + n + plain_len s.flow false (drop n l) + 1)) ≡ Stands u f
        by_flow q h = h
      by_why Comment near h = h
      by_why Mark near h = h

    -- lines that the place does not reach
    late : (ls ms : List Line) → Later place ls → Goes ls ms
    late ls ms w t e k near h = let c = more_later s size place ls within w in absurd (omega (arith, c, near))

    parted_line : (at : ℕ) (g l m : List ℕ) (ls ms : List Line) (t : List ℕ) (e k : ℕ) → at + length g ≡ place → Later place ls → Parted g b l m → line_shown s (below s l) at l (more_shown s size ls) ≤ place → further s (below s l) at l t e k (more s ls) ≡ Stands u f → further s (below s m) at m t e k (more s ms) ≡ Stands u f
    parted_line at g l m ls ms t e k far w (inl q) near h = subst (λ z. further s (below s z) at z t e k (more s ms) ≡ Stands u f) q.0 (same_line (below s l) at l ls ms t e k (late ls ms w) near h)
    parted_line at g l m ls ms t e k far w (inr (x, y, el, em)) near h = by_below (below s l) refl near h where
      gone : more_shown s size ls ≤ place → ⊥
      gone n = let c = more_later s size place ls within w in omega (arith, c, n)

      outside_full : below s l ≡ Outside → is_blank l ≡ false
      outside_full i = by_blank (is_blank l) refl i where
        by_blank : (q : Bool) → is_blank l ≡ q → cond q Blank (cond (is_mark l) Outside (inside s l)) ≡ Outside → is_blank l ≡ false
        by_blank true j i = absurd (cc)
        by_blank false j i = j

      by_why : (n : ℕ) → below s l ≡ Further n → (w : Why) → reason s.flow (drop n l) ≡ w → part_shown w (at + n + plain_len s.flow false (drop n l)) (more_shown s size ls) ≤ place → (shown_by w (at + n + plain_len s.flow false (drop n l)) ≤ place) × (w ≡ Break → ⊥)
      by_why n i Break j near = absurd (gone near)
      by_why n i Return j near = (near, (λ e. absurd (cc)))
      by_why n i Colon j near = (near, (λ e. absurd (cc)))
      by_why n i Comment j near = (near, (λ e. absurd (cc)))
      by_why n i Mark j near = (near, (λ e. absurd (cc)))

      by_below : (z : Below) → below s l ≡ z → line_shown s z at l (more_shown s size ls) ≤ place → further s z at l t e k (more s ls) ≡ Stands u f → further s (below s m) at m t e k (more s ms) ≡ Stands u f
      by_below Blank i near h = absurd (gone near)
      by_below Outside i near h = ap (λ z. further s z at m t e k (more s ms)) (outside_same s at place g b l m x y far el em i (outside_full i) near) ∙ h
      by_below (Further n) i near h =
          let c = by_why n i (reason s.flow (drop n l)) refl near in
          let a = further_same s at place g b l m x y far el em n i c.0 in
          ap (λ z. further s z at m t e k (more s ms)) a.0 ∙ ap (λ w. joins s.flow w (drop n m) (at + n) t e k (more s ms)) a.1.why ∙ joins_same s.flow (reason s.flow (drop n l)) (drop n l) (drop n m) (at + n) t e k (more s ls) (more s ms) u f a.1 c.1 h

    more_stays : (ls ms : List Line) → AreOf old ls → AreOf new ms → Shares place ls ms → Goes ls ms
    more_stays [] ms o n sh t e k near h = absurd sh
    more_stays (l ∷ ls) [] o n sh t e k near h = absurd sh
    more_stays (l ∷ ls) (m ∷ ms) o n (inl q) t e k near h =
        subst (λ (z : Line). more s (z ∷ ms) t e k ≡ Stands u f) q.0 (same_line (below s l.bytes) l.at l.bytes ls ms t e k (more_stays ls ms o.1 n.1 q.1) near h)
    more_stays (l ∷ ls) (m ∷ ms) o n (inr (inr q)) t e k near h =
        subst (λ (z : Line). more s (z ∷ ms) t e k ≡ Stands u f) q.0 (same_line (below s l.bytes) l.at l.bytes ls ms t e k (late ls ms q.2) near h)
    more_stays (l ∷ ls) (m ∷ ms) o n (inr (inl q)) t e k near h =
        let far = q.1.5 in
        let low : l.at ≤ place = omega (arith, far) in
        let part = lines_part l.at l.bytes m.bytes low o.0 (n.0 ∙ ap (λ i. line_at (drop i new)) (sym q.0)) in
        ap (λ i. further s (below s m.bytes) i m.bytes t e k (more s ms)) (sym q.0)
        ∙ parted_line l.at (drop l.at before) l.bytes m.bytes ls ms t e k (drop_size l.at before low) q.2 part near h

    -- ---- from its first line on

    first_goes : (w : Why) (at : ℕ) (l : List ℕ) (ls ms : List Line) → Goes ls ms → (s.one_line ≡ false → w ≡ Break → more_shown s size ls ≤ place) → first s w at l ls ≡ Stands u f → first s w at l ms ≡ Stands u f
    first_goes Break at l ls ms goes near h = by_line s.one_line refl h where
      by_line : (q : Bool) → s.one_line ≡ q → cond q (Stands (content s.flow l) (content_end s.flow l at)) (more s ls (content s.flow l) (content_end s.flow l at) 0) ≡ Stands u f → cond q (Stands (content s.flow l) (content_end s.flow l at)) (more s ms (content s.flow l) (content_end s.flow l at) 0) ≡ Stands u f
      by_line true i h = h
      by_line false i h = goes _ _ 0 (near i refl) h
    first_goes Return at l ls ms goes near h = absurd (cc)
    first_goes Colon at l ls ms goes near h = h
    first_goes Comment at l ls ms goes near h = h
    first_goes Mark at l ls ms goes near h = h

    -- what the bound of the first line says
    first_near : (w : Why) (q : Bool) (n next : ℕ) → cond q (shown_by w n) (part_shown w n next) ≤ place → (q ≡ false → w ≡ Break → next ≤ place) × (((w ≡ Break → q ≡ true) → ⊥) ⊎ ((w ≡ Break → q ≡ true) × (shown_by w n ≤ place)))
    first_near w true n next h = ((λ i. absurd (true≢false i)), inr ((λ e. refl), h))
    first_near Break false n next h = ((λ i e. h), inl (λ k. true≢false (sym (k refl))))
    first_near Return false n next h = ((λ i e. absurd (cc)), inr ((λ e. absurd (cc)), h))
    first_near Colon false n next h = ((λ i e. absurd (cc)), inr ((λ e. absurd (cc)), h))
    first_near Comment false n next h = ((λ i e. absurd (cc)), inr ((λ e. absurd (cc)), h))
    first_near Mark false n next h = ((λ i e. absurd (cc)), inr ((λ e. absurd (cc)), h))

    whole_line : (fresh : Bool) (l : Line) (ls ms : List Line) → Goes ls ms → (s.one_line ≡ false → reason s.flow l.bytes ≡ Break → more_shown s size ls ≤ place) → plain_on s fresh (l ∷ ls) ≡ Stands u f → plain_on s fresh (l ∷ ms) ≡ Stands u f
    whole_line fresh l ls ms goes near h = let o = opens_stands s fresh l ls u f h in made s fresh l ms u f o.0 o.1 (first_goes (reason s.flow l.bytes) l.at l.bytes ls ms goes near o.2)

    on_stays : (fresh : Bool) (l m : Line) (ls ms : List Line) → AreOf old (l ∷ ls) → AreOf new (m ∷ ms) → Shares place (l ∷ ls) (m ∷ ms) → plain_shown s size (l ∷ ls) ≤ place → plain_on s fresh (l ∷ ls) ≡ Stands u f → plain_on s fresh (m ∷ ms) ≡ Stands u f
    on_stays fresh l m ls ms o n (inl q) near h =
        let c = first_near (reason s.flow l.bytes) s.one_line (l.at + plain_len s.flow false l.bytes) (more_shown s size ls) near in
        subst (λ (z : Line). plain_on s fresh (z ∷ ms) ≡ Stands u f) q.0 (whole_line fresh l ls ms (more_stays ls ms o.1 n.1 q.1) c.0 h)
    on_stays fresh l m ls ms o n (inr (inr q)) near h =
        let c = first_near (reason s.flow l.bytes) s.one_line (l.at + plain_len s.flow false l.bytes) (more_shown s size ls) near in
        subst (λ (z : Line). plain_on s fresh (z ∷ ms) ≡ Stands u f) q.0 (whole_line fresh l ls ms (late ls ms q.2) c.0 h)
    on_stays fresh l m ls ms o n (inr (inl q)) near h =
        let far = q.1.5 in
        let low : l.at ≤ place = omega (arith, far) in
        let part = lines_part l.at l.bytes m.bytes low o.0 (n.0 ∙ ap (λ i. line_at (drop i new)) (sym q.0)) in
        let c = first_near (reason s.flow l.bytes) s.one_line (l.at + plain_len s.flow false l.bytes) (more_shown s size ls) near in
        subst (λ i. plain_on s fresh (record { at = i; bytes = m.bytes; broken = m.broken } ∷ ms) ≡ Stands u f) q.0 (by_line low part c.1) where
          over : (at : ℕ) → more_shown s size ls ≤ place → ⊥
          over at n = let c = more_later s size place ls within q.2 in omega (arith, c, n)

          by_line : l.at ≤ place → Parted (drop l.at before) b l.bytes m.bytes
              → ((reason s.flow l.bytes ≡ Break → s.one_line ≡ true) → ⊥) ⊎ ((reason s.flow l.bytes ≡ Break → s.one_line ≡ true) × (shown_by (reason s.flow l.bytes) (l.at + plain_len s.flow false l.bytes) ≤ place))
              → plain_on s fresh (record { at = l.at; bytes = m.bytes; broken = m.broken } ∷ ms) ≡ Stands u f
          by_line low part (inr c) =
              let size2 = drop_size l.at before low in
              let c1 = c.1 in
              line_stays s fresh l.at (drop l.at before) b l.bytes m.bytes l.broken m.broken ls ms u f part c.0 (omega (arith, c1, size2)) h
          by_line low part (inl c) = absurd (c (λ w. by_one s.one_line refl w)) where
            by_one : (q : Bool) → s.one_line ≡ q → reason s.flow l.bytes ≡ Break → s.one_line ≡ true
            by_one true i w = i
            by_one false i w = absurd (over l.at (first_near_break i w near)) where
              first_near_break : s.one_line ≡ false → reason s.flow l.bytes ≡ Break → plain_shown s size (l ∷ ls) ≤ place → more_shown s size ls ≤ place
              first_near_break i w near = (first_near (reason s.flow l.bytes) s.one_line (l.at + plain_len s.flow false l.bytes) (more_shown s size ls) near).0 i w

  pub plain_stay : (s : Setting) (at : ℕ) (u : List ℕ) (f : ℕ) → at ≤ place → plain_shown s (length old) (lines at (drop at old)) ≤ place → plain_scalar s old at ≡ Stands u f → plain_scalar s new at ≡ Stands u f
  plain_stay s at u f low near h =
      let within : place < length old = omega (arith, length-append before (b ∷ rest)) in
      let share = texts_share before b rest other at low in
      let e = lines_are at (drop at old) in
      let g = lines_are at (drop at new) in
      let l : Line = record { at = at; bytes = line_at (drop at old); broken = has_break (drop at old) } in
      let m : Line = record { at = at; bytes = line_at (drop at new); broken = has_break (drop at new) } in
      let sh = subst (λ ms. Shares place (l ∷ behind at (drop at old)) ms) g (subst (λ ls. Shares place ls (lines at (drop at new))) e share) in
      let o = subst (AreOf old) e (lines_of old at) in
      let n = subst (AreOf new) g (lines_of new at) in
      let near2 = subst (λ ls. plain_shown s (length old) ls ≤ place) e near in
      let h2 : plain_on s (is_first_column old at) (l ∷ behind at (drop at old)) ≡ Stands u f = sym (ap (plain_on s (is_first_column old at)) e) ∙ h in
      ap (λ q. plain_on s q (lines at (drop at new))) (sym (column_same before b rest other at low)) ∙ ap (plain_on s (is_first_column old at)) g
      ∙ on_stays s (length old) within u f (is_first_column old at) l m (behind at (drop at old)) (behind at (drop at new)) o n sh near2 h2
