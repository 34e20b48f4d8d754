-- Where a quoted scalar fails, no text that agrees so far has one.
use Rattle.std.proofs.Common.{◌≡◌, ℕ, suc, ◌+◌, ◌<◌, ◌≤◌, ◌⊎◌, Bool, true, false, List, [], ◌∷◌, ◌++◌, length, drop, refl, sym, ap, inl, inr, subst, ◌∙◌, arith, cond, length-append, true≢false}
use Rattle.std.specs.Prelude.{nat_eq, nat_lt, ◌||◌, ◌&&◌}
use Rattle.std.proofs.lemmas.List.{nil_from_length}
use Rattle.yaml_scalars.specs.declared.scalar.Setting.{Setting}
use Rattle.yaml_scalars.specs.Lines.{Line, Outcome, Stands, Fails, Documents, begins_with, is_white, is_blank, is_mark, is_cut_mark, lead, past_white, lines}
use Rattle.yaml_scalars.specs.Quoted.{Part, Closed, Open, Joined, Returned, Refused, line_part, gap, behind_part, key_part, quoted_more, quoted_on}
use Rattle.yaml_scalars.specs.Scalar.{begins_quoted, quoted_scalar}
use Rattle.yaml_scalars.specs.code.Walk.{line_at, has_break, behind}
use Rattle.yaml_scalars.proofs.Places.{lines_are}
use Rattle.yaml_laws.proofs.Agree.{SameAhead, Later, SplitAt, Shares, behind_later, texts_share, drop_before, drop_size}
use Rattle.yaml_laws.proofs.BlockHeads.{cases}
use Rattle.yaml_laws.proofs.PlainLaw.{three}
use Rattle.yaml_laws.proofs.QuotedBounds.{IsBetween, part_between, more_later, on_lower}
use Rattle.yaml_laws.proofs.QuotedDead.{IsAt, IsFailing, part_dead}
use Rattle.yaml_scalars.proofs.QuotedRuns.{quote_is, quote_ahead}

-- white space in front of other bytes
pub lead_all : (f x : List ℕ) → is_blank f ≡ true → length f ≤ lead is_white (f ++ x)
lead_all [] x h = omega arith
lead_all (b ∷ f) x h = by_white (is_white b) h (λ e. lead_all f x e) where
  by_white : (q : Bool) → cond q (is_blank f) false ≡ true → (is_blank f ≡ true → length f ≤ lead is_white (f ++ x)) → suc (length f) ≤ cond q (suc (lead is_white (f ++ x))) 0
  by_white true e r = let l = r e in omega arith
  by_white false e r = absurd (cc)

pub lead_whole : (w : List ℕ) (c : ℕ) (z : List ℕ) → is_blank w ≡ true → is_white c ≡ false → lead is_white (w ++ (c ∷ z)) ≡ length w
lead_whole [] c z h n = ap (λ q. cond q (suc (lead is_white z)) 0) n
lead_whole (b ∷ w) c z h n = by_white (is_white b) h (λ g. lead_whole w c z g n) where
  by_white : (q : Bool) → cond q (is_blank w) false ≡ true → (is_blank w ≡ true → lead is_white (w ++ (c ∷ z)) ≡ length w) → cond q (suc (lead is_white (w ++ (c ∷ z)))) 0 ≡ suc (length w)
  by_white true h r = ap suc (r h)
  by_white false h r = absurd (true≢false (sym h))

pub lead_some : (f x : List ℕ) → is_blank f ≡ false → (lead is_white (f ++ x) ≡ lead is_white f) × (lead is_white f ≤ length f) × (is_blank (f ++ x) ≡ false)
lead_some [] x h = absurd (cc)
lead_some (b ∷ f) x h = by_white (is_white b) h (λ e. lead_some f x e) where
  by_white : (q : Bool) → cond q (is_blank f) false ≡ false → (is_blank f ≡ false → (lead is_white (f ++ x) ≡ lead is_white f) × (lead is_white f ≤ length f) × (is_blank (f ++ x) ≡ false))
      → (cond q (suc (lead is_white (f ++ x))) 0 ≡ cond q (suc (lead is_white f)) 0) × (cond q (suc (lead is_white f)) 0 ≤ suc (length f)) × (cond q (is_blank (f ++ x)) false ≡ false)
  by_white true e r = let l = r e in (ap suc l.0, (let m = l.1 in omega arith), l.2)
  by_white false e r = (refl, omega arith, refl)

-- the part of a line below the first
abbrev pub part_of : ℕ → ℕ → List ℕ → List ℕ → Part
part_of quote at bytes text = line_part quote (at + lead is_white bytes) 0 text (length text) (past_white bytes)

-- behind a failing part no scalar stands
failing : (p : Part) (next : Bool → List ℕ → Outcome) (u : List ℕ) (e : ℕ) → IsFailing false p → behind_part p next ≡ Stands u e → ⊥
failing (Closed t end) next u e f g = f
failing (Open t) next u e f g = f
failing (Joined t) next u e f g = f
failing (Returned r) next u e f g = cc
failing (Refused r) next u e f g = cc

failing_key : (p : Part) (over : ℕ) (u : List ℕ) (e : ℕ) → IsFailing true p → key_part p over ≡ Stands u e → ⊥
failing_key (Closed t end) over u e f g = f
failing_key (Open t) over u e f g = cc
failing_key (Joined t) over u e f g = cc
failing_key (Returned r) over u e f g = cc
failing_key (Refused r) over u e f g = cc

-- a part fails at a place, or the lines below it do
part_fails : (r : Part) (next : Bool → List ℕ → Outcome) (p : ℕ) (x : List ℕ) → behind_part r next ≡ Fails p → IsAt false p x r ⊎ ((j : Bool) × (t : List ℕ) × (next j t ≡ Fails p))
part_fails (Closed t end) next p x h = absurd (cc)
part_fails (Open t) next p x h = inr (false, t, h)
part_fails (Joined t) next p x h = inr (true, t, h)
part_fails (Returned r) next p x h = inl (let e : suc r ≡ p = cc in e)
part_fails (Refused r) next p x h = inl (let e : r ≡ p = cc in e)

-- two lines that share a front, in which a fault shows
split_dead : (quote p at : ℕ) (l m : List ℕ) (text : List ℕ) → SplitAt p at l m → IsBetween (at + lead is_white l + 0) (at + lead is_white l + length (past_white l)) (part_of quote at l text)
    → ((x : List ℕ) → IsAt false p x (part_of quote at l text)) → (is_blank m ≡ false) × IsFailing false (part_of quote at m text)
split_dead quote p at l m text (f, x, y, el, em, e, s) between h = by_front (is_blank f) refl where
  early : (a : ℕ) (r : Part) → p ≤ a → IsBetween (a + 0) (a + length (past_white l)) r → IsAt false p x r → ⊥
  early a (Closed t end) k b g = g
  early a (Open t) k b g = g
  early a (Joined t) k b g = g
  early a (Returned r) k b g = let z = b.0 in omega arith
  early a (Refused r) k b g = let z = b.0 in omega arith

  by_front : (q : Bool) → is_blank f ≡ q → (is_blank m ≡ false) × IsFailing false (part_of quote at m text)
  by_front true w =
      let k : p ≤ at + lead is_white l = let z = lead_all f x w in let z2 = ap (lead is_white) el in omega (arith, z, z2, e) in
      absurd (early (at + lead is_white l) (part_of quote at l text) k between (h x))
  by_front false w =
      let a = lead_some f x w in
      let b = lead_some f y w in
      let n = lead is_white f in
      let in_l : part_of quote at l text ≡ line_part quote (at + n) 0 text (length text) (drop n f ++ x) =
      ap (λ z. part_of quote at z text) el ∙ ap (λ k. line_part quote (at + k) 0 text (length text) (drop k (f ++ x))) a.0 ∙ ap (line_part quote (at + n) 0 text (length text)) (drop_before n f x a.1) in
      let in_m : part_of quote at m text ≡ line_part quote (at + n) 0 text (length text) (drop n f ++ y) =
      ap (λ z. part_of quote at z text) em ∙ ap (λ k. line_part quote (at + k) 0 text (length text) (drop k (f ++ y))) b.0 ∙ ap (line_part quote (at + n) 0 text (length text)) (drop_before n f y b.1) in
      let size : at + n + length (drop n f) ≡ p = let z = drop_size n f a.1 in omega (arith, z, e) in
      (ap is_blank em ∙ b.2, subst (λ r. IsFailing false r) (sym in_m) (part_dead false quote (drop n f) x y (at + n) 0 text (length text) p s (omega arith) size (subst (λ r. IsAt false p x r) in_l (h x))))

-- a mark begins a document
abbrev pub starts : Line → Bool
starts l = is_mark l.bytes && (l.broken || nat_lt 3 (length l.bytes))

-- lines that agree up to the carriage return that cuts a mark: the other is cut, too, or a mark of three bytes
cut_tests : (d e f g : Bool) → (d && (e && (f && g))) ≡ true → (d ≡ true) × (e ≡ true) × (f ≡ true) × (g ≡ true)
cut_tests true true true g k = (refl, refl, refl, k)
cut_tests true true false g k = absurd (cc)
cut_tests true false f g k = absurd (cc)
cut_tests false e f g k = absurd (cc)

all_tests : (d e f : Bool) → d ≡ true → e ≡ true → f ≡ true → (d && (e && (f && true))) ≡ true
all_tests true true true x y z = refl
all_tests false e f x y z = absurd (cc)
all_tests true false f x y z = absurd (cc)
all_tests true true false x y z = absurd (cc)

cut_split : (l m : List ℕ) (at p : ℕ) → is_cut_mark l ≡ true → at + 3 ≡ p → SplitAt p at l m → (is_cut_mark m ≡ true) ⊎ ((is_mark m ≡ true) × (length m ≡ 3))
cut_split [] m at p c e sp = absurd (cc)
cut_split (a ∷ []) m at p c e sp = absurd (cc)
cut_split (a ∷ b ∷ []) m at p c e sp = absurd (cc)
cut_split (a ∷ b ∷ d ∷ r) m at p c e sp =
    let k = cut_tests (nat_eq a 45 || nat_eq a 46) (nat_eq a b) (nat_eq a d) (begins_with 13 r) c in
    let t = three sp.0 sp.1 r a b d at sp.3 (omega (arith, sp.5, e)) in
    let other : m ≡ a ∷ b ∷ d ∷ sp.2 = sp.4 ∙ ap (λ z. z ++ sp.2) t.0 in
    by_ahead sp.2 other (subst (λ z. SameAhead z sp.2) (sym t.1) sp.6) k.0 k.1 k.2 k.3 where
      by_ahead : (y : List ℕ) → m ≡ a ∷ b ∷ d ∷ y → SameAhead r y → (nat_eq a 45 || nat_eq a 46) ≡ true → nat_eq a b ≡ true → nat_eq a d ≡ true → begins_with 13 r ≡ true → (is_cut_mark m ≡ true) ⊎ ((is_mark m ≡ true) × (length m ≡ 3))
      by_ahead y o (inl s) f g h i =
          let z : begins_with 13 y ≡ true = ap (begins_with 13) s.4 ∙ sym (ap (begins_with 13) s.3) ∙ i in
          inl (ap is_cut_mark o ∙ ap (λ q. (nat_eq a 45 || nat_eq a 46) && (nat_eq a b && (nat_eq a d && q))) z ∙ all_tests (nat_eq a 45 || nat_eq a 46) (nat_eq a b) (nat_eq a d) f g h)
      by_ahead [] o (inr s) f g h i = inr (ap is_mark o ∙ all_tests (nat_eq a 45 || nat_eq a 46) (nat_eq a b) (nat_eq a d) f g h, ap (λ (t : List ℕ). length t) o)
      by_ahead (c ∷ y) o (inr s) f g h i =
          let z : begins_with 13 (c ∷ y) ≡ true = ap (λ (c : ℕ). nat_eq c 13) s.1 in
          inl (ap is_cut_mark o ∙ ap (λ q. (nat_eq a 45 || nat_eq a 46) && (nat_eq a b && (nat_eq a d && q))) z ∙ all_tests (nat_eq a 45 || nat_eq a 46) (nat_eq a b) (nat_eq a d) f g h)

more_dead : (quote p size other : ℕ) (ls ms : List Line) (text : List ℕ) (j : Bool) (k : ℕ) (u : List ℕ) (e : ℕ) → p < size → Shares p ls ms → quoted_more quote size ls text j k ≡ Fails p → quoted_more quote other ms text j k ≡ Stands u e → ⊥
more_dead quote p size other [] ms text j k u e s sh h g = sh
more_dead quote p size other (l ∷ ls) [] text j k u e s sh h g = sh
more_dead quote p size other (l ∷ ls) (m ∷ ms) text j k u e s sh h g = by_shares sh (λ x y z a b c. more_dead quote p size other ls ms x y z u e s a b c) where
  later : (x : List ℕ) (i : Bool) (n : ℕ) → Later p ls → quoted_more quote size ls x i n ≡ Fails p → ⊥
  later x i n a b = let c = more_later quote size p ls x i n p s a b in omega arith

  -- the same line
  same : (q c w : Bool) (r : Part) (n : Line) → ((x : List ℕ) (i : Bool) (n : ℕ) → quoted_more quote size ls x i n ≡ Fails p → quoted_more quote other ms x i n ≡ Stands u e → ⊥)
      → cond q (Documents n.at) (cond c (Fails (n.at + 3)) (cond w (quoted_more quote size ls text j (suc k)) (behind_part r (λ i t. quoted_more quote size ls t i 0)))) ≡ Fails p
      → cond q (Documents n.at) (cond c (Fails (n.at + 3)) (cond w (quoted_more quote other ms text j (suc k)) (behind_part r (λ i t. quoted_more quote other ms t i 0)))) ≡ Stands u e → ⊥
  same true c w r n f a b = cc
  same false true w r n f a b = cc
  same false false true r n f a b = f text j (suc k) a b
  same false false false (Closed t end) n f a b = cc
  same false false false (Open t) n f a b = f t false 0 a b
  same false false false (Joined t) n f a b = f t true 0 a b
  same false false false (Returned at) n f a b = cc
  same false false false (Refused at) n f a b = cc

  -- a line that the place splits
  shown : (q d w : Bool) → d ≡ false → Later p ls → cond q (Documents l.at) (cond d (Fails (l.at + 3)) (cond w (quoted_more quote size ls text j (suc k)) (behind_part (part_of quote l.at l.bytes (text ++ gap j k)) (λ i t. quoted_more quote size ls t i 0)))) ≡ Fails p
      → (x : List ℕ) → IsAt false p x (part_of quote l.at l.bytes (text ++ gap j k))
  shown true d w c a b x = absurd (cc)
  shown false true w c a b x = absurd (cc)
  shown false false true c a b x = absurd (later text j (suc k) a b)
  shown false false false c a b x = elim (part_fails (part_of quote l.at l.bytes (text ++ gap j k)) (λ i t. quoted_more quote size ls t i 0) p x b) [
    | inl c ↦ c
    | inr c ↦ absurd (later c.1 c.0 0 a c.2)
  ]

  other_line : (q d w : Bool) (at : ℕ) (r : Part) → w ≡ false → IsFailing false r → cond q (Documents at) (cond d (Fails (at + 3)) (cond w (quoted_more quote other ms text j (suc k)) (behind_part r (λ i t. quoted_more quote other ms t i 0)))) ≡ Stands u e → ⊥
  other_line true d w at r c f b = cc
  other_line false true w at r c f b = cc
  other_line false false true at r c f b = cc
  other_line false false false at r c f b = failing r (λ i t. quoted_more quote other ms t i 0) u e f b

  -- behind the bytes of a mark: the other line is one, or has a carriage return there
  starts_or_cut : (q d w : Bool) (r : Part) → (q ≡ true) ⊎ (d ≡ true) → cond q (Documents m.at) (cond d (Fails (m.at + 3)) (cond w (quoted_more quote other ms text j (suc k)) (behind_part r (λ i t. quoted_more quote other ms t i 0)))) ≡ Stands u e → ⊥
  starts_or_cut true d w r h b = cc
  starts_or_cut false true w r h b = cc
  starts_or_cut false false w r (inl h) b = cc
  starts_or_cut false false w r (inr h) b = cc

  first_cut : (q d w : Bool) (r : Part) → d ≡ true → cond q (Documents l.at) (cond d (Fails (l.at + 3)) (cond w (quoted_more quote size ls text j (suc k)) (behind_part r (λ i t. quoted_more quote size ls t i 0)))) ≡ Fails p → l.at + 3 ≡ p
  first_cut true d w r c a = absurd (cc)
  first_cut false true w r c a = cc
  first_cut false false w r c a = absurd (cc)

  cut_line : is_cut_mark l.bytes ≡ true → SplitAt p l.at l.bytes m.bytes → (l.at + length m.bytes ≡ p → m.broken ≡ true) → (starts m ≡ true) ⊎ (is_cut_mark m.bytes ≡ true)
  cut_line c sp whole =
      let at3 = first_cut (starts l) (is_cut_mark l.bytes) (is_blank l.bytes) (part_of quote l.at l.bytes (text ++ gap j k)) c h in
      elim (cut_split l.bytes m.bytes l.at p c at3 sp) [
        | inl i ↦ inr i
        | inr i ↦ inl (ap (λ q. q && (m.broken || nat_lt 3 (length m.bytes))) i.0 ∙ ap (λ q. q || nat_lt 3 (length m.bytes)) (whole (omega (arith, i.1, at3))))
      ]

  by_shares : Shares p (l ∷ ls) (m ∷ ms) → ((x : List ℕ) (y : Bool) (z : ℕ) → Shares p ls ms → quoted_more quote size ls x y z ≡ Fails p → quoted_more quote other ms x y z ≡ Stands u e → ⊥) → ⊥
  by_shares (inl q) r =
      same (starts l) (is_cut_mark l.bytes) (is_blank l.bytes) (part_of quote l.at l.bytes (text ++ gap j k)) l (λ x i n a b. r x i n q.1 a b) h
      (subst (λ (m : Line). quoted_more quote other (m ∷ ms) text j k ≡ Stands u e) (sym q.0) g)
  by_shares (inr (inl q)) r = cases (is_cut_mark l.bytes) (λ c. starts_or_cut (starts m) (is_cut_mark m.bytes) (is_blank m.bytes) (part_of quote m.at m.bytes (text ++ gap j k)) (cut_line c q.1 q.3) g) (λ c.
      let d = split_dead quote p l.at l.bytes m.bytes (text ++ gap j k) q.1 (part_between quote (l.at + lead is_white l.bytes) 0 (text ++ gap j k) (length (text ++ gap j k)) (past_white l.bytes)) (shown (starts l) (is_cut_mark l.bytes) (is_blank l.bytes) c q.2 h) in
      other_line (starts m) (is_cut_mark m.bytes) (is_blank m.bytes) m.at (part_of quote m.at m.bytes (text ++ gap j k)) d.0 (subst (λ a. IsFailing false (part_of quote a m.bytes (text ++ gap j k))) q.0 d.1) g)
  by_shares (inr (inr q)) r =
      same (starts l) (is_cut_mark l.bytes) (is_blank l.bytes) (part_of quote l.at l.bytes (text ++ gap j k)) l (λ x i n a b. later x i n q.2 a) h
      (subst (λ (m : Line). quoted_more quote other (m ∷ ms) text j k ≡ Stands u e) (sym q.0) g)

-- where the scalar begins
key_at : (r : Part) (over p : ℕ) (x : List ℕ) → (over ≡ p → x ≡ []) → key_part r over ≡ Fails p → IsAt true p x r
key_at (Closed t end) over p x f h = absurd (cc)
key_at (Open t) over p x f h = f (let e : over ≡ p = cc in e)
key_at (Joined t) over p x f h = f (let e : over ≡ p = cc in e)
key_at (Returned r) over p x f h = let e : r ≡ p = cc in e
key_at (Refused r) over p x f h = let e : r ≡ p = cc in e

abbrev pub comes : Bool → Part → ℕ → (Bool → List ℕ → Outcome) → Outcome
comes one r over next = cond one (key_part r over) (behind_part r next)

same_part : (one : Bool) (r : Part) (over p : ℕ) (u : List ℕ) (e : ℕ) (next other : Bool → List ℕ → Outcome) → ((j : Bool) (t : List ℕ) → next j t ≡ Fails p → other j t ≡ Stands u e → ⊥) → comes one r over next ≡ Fails p → comes one r over other ≡ Stands u e → ⊥
same_part true (Closed t end) over p u e next other f a b = cc
same_part true (Open t) over p u e next other f a b = cc
same_part true (Joined t) over p u e next other f a b = cc
same_part true (Returned r) over p u e next other f a b = cc
same_part true (Refused r) over p u e next other f a b = cc
same_part false (Closed t end) over p u e next other f a b = cc
same_part false (Open t) over p u e next other f a b = f false t a b
same_part false (Joined t) over p u e next other f a b = f true t a b
same_part false (Returned r) over p u e next other f a b = cc
same_part false (Refused r) over p u e next other f a b = cc

abbrev pub quote_of : List ℕ → ℕ
quote_of bytes = cond (begins_with 34 bytes) 34 39

split_part : (one : Bool) (quote p at over over2 : ℕ) (f x y : List ℕ) (u : List ℕ) (e : ℕ) (next other : Bool → List ℕ → Outcome) → SameAhead x y → at + length f ≡ p → over ≡ at + length (f ++ x) → ((j : Bool) (t : List ℕ) → next j t ≡ Fails p → ⊥)
    → comes one (line_part quote at 0 [] 0 (f ++ x)) over next ≡ Fails p → comes one (line_part quote at 0 [] 0 (f ++ y)) over2 other ≡ Stands u e → ⊥
split_part true quote p at over over2 f x y u e next other s size line later a b =
    let end : over ≡ p → x ≡ [] = λ k. nil_from_length x (omega (arith, k, line, size, length-append f x)) in
    failing_key (line_part quote at 0 [] 0 (f ++ y)) over2 u e (part_dead true quote f x y at 0 [] 0 p s (omega arith) size (key_at (line_part quote at 0 [] 0 (f ++ x)) over p x end a)) b
split_part false quote p at over over2 f x y u e next other s size line later a b = elim (part_fails (line_part quote at 0 [] 0 (f ++ x)) next p x a) [
  | inl c ↦ failing (line_part quote at 0 [] 0 (f ++ y)) other u e (part_dead false quote f x y at 0 [] 0 p s (omega arith) size c) b
  | inr c ↦ later c.0 c.1 c.2
]

on_dead : (one : Bool) (p size other : ℕ) (l m : Line) (ls ms : List Line) (u : List ℕ) (e : ℕ) → p < size → l.at < p → Shares p (l ∷ ls) (m ∷ ms) → quoted_on one size (l ∷ ls) ≡ Fails p → quoted_on one other (m ∷ ms) ≡ Stands u e → ⊥
on_dead one p size other l m ls ms u e s first (inl q) h g =
    same_part one (line_part (quote_of l.bytes) (suc l.at) 0 [] 0 (drop 1 l.bytes)) (l.at + length l.bytes) p u e (λ j t. quoted_more (quote_of l.bytes) size ls t j 0) (λ j t. quoted_more (quote_of l.bytes) other ms t j 0)
    (λ j t a b. more_dead (quote_of l.bytes) p size other ls ms t j 0 u e s q.1 a b) h (subst (λ (m : Line). quoted_on one other (m ∷ ms) ≡ Stands u e) (sym q.0) g)
on_dead one p size other l m ls ms u e s first (inr (inr q)) h g =
    same_part one (line_part (quote_of l.bytes) (suc l.at) 0 [] 0 (drop 1 l.bytes)) (l.at + length l.bytes) p u e (λ j t. quoted_more (quote_of l.bytes) size ls t j 0) (λ j t. quoted_more (quote_of l.bytes) other ms t j 0)
    (λ j t a b. let z = more_later (quote_of l.bytes) size p ls t j 0 p s q.2 a in omega arith) h (subst (λ (m : Line). quoted_on one other (m ∷ ms) ≡ Stands u e) (sym q.0) g)
on_dead one p size other l m ls ms u e s first (inr (inl (at, (f, x, y, el, em, place, same), later, whole))) h g =
    by_front f el em place (subst (λ (b : List ℕ). quoted_on one size (record { at = l.at; bytes = b; broken = l.broken } ∷ ls) ≡ Fails p) el h) (subst (λ (b : List ℕ). quoted_on one other (record { at = m.at; bytes = b; broken = m.broken } ∷ ms) ≡ Stands u e) em g) where
      by_front : (f : List ℕ) → l.bytes ≡ f ++ x → m.bytes ≡ f ++ y → l.at + length f ≡ p → quoted_on one size (record { at = l.at; bytes = f ++ x; broken = l.broken } ∷ ls) ≡ Fails p → quoted_on one other (record { at = m.at; bytes = f ++ y; broken = m.broken } ∷ ms) ≡ Stands u e → ⊥
      by_front [] a b c d k = omega arith
      by_front (c ∷ f) a b n d k =
          let quote : ℕ = cond (nat_eq c 34) 34 39 in
          split_part one quote p (suc l.at) (l.at + suc (length (f ++ x))) (m.at + suc (length (f ++ y))) f x y u e (λ j t. quoted_more quote size ls t j 0) (λ j t. quoted_more quote other ms t j 0) same (omega (arith, n)) (omega arith)
          (λ j t a. let z = more_later quote size p ls t j 0 p s later a in omega arith) d
          (subst (λ a. comes one (line_part quote (suc a) 0 [] 0 (f ++ y)) (m.at + suc (length (f ++ y))) (λ j t. quoted_more quote other ms t j 0) ≡ Stands u e) (sym at) k)

-- no text that agrees with this one up to the place of a fault and with the byte there has a quoted scalar
pub quoted_dead : (s : Setting) (before rest more : List ℕ) (b at : ℕ) (t : List ℕ) (e : ℕ) → at ≤ length before → begins_quoted (drop at (before ++ (b ∷ rest))) ≡ true → quoted_scalar s (before ++ (b ∷ rest)) at ≡ Fails (length before) → quoted_scalar s (before ++ (b ∷ more)) at ≡ Stands t e → ⊥
quoted_dead s before rest more b at t e l quoted h g =
    let text : List ℕ = before ++ (b ∷ rest) in
    let other : List ℕ = before ++ (b ∷ more) in
    let size : length before < length text = omega (arith, length-append before (b ∷ rest)) in
    let inside : at < length text = omega arith in
    let first : Line = record { at = at; bytes = line_at (drop at text); broken = has_break (drop at text) } in
    let first2 : Line = record { at = at; bytes = line_at (drop at other); broken = has_break (drop at other) } in
    let one : 1 ≤ length (line_at (drop at text)) = let z = ap (λ (x : List ℕ). length x) (quote_ahead text at inside (quote_is text at inside quoted)) in omega (arith, z) in
    let h2 : quoted_on s.one_line (length text) (first ∷ behind at (drop at text)) ≡ Fails (length before) = ap (quoted_on s.one_line (length text)) (sym (lines_are at (drop at text))) ∙ h in
    let g2 : quoted_on s.one_line (length other) (first2 ∷ behind at (drop at other)) ≡ Stands t e = ap (quoted_on s.one_line (length other)) (sym (lines_are at (drop at other))) ∙ g in
    let low = on_lower s.one_line (length text) first (behind at (drop at text)) 1 (length before) inside (behind_later at at (drop at text) (omega arith)) one (omega arith) h2 in
    let share = subst (λ ls. Shares (length before) ls (lines at (drop at other))) (lines_are at (drop at text)) (texts_share before b rest more at l) in
    let share2 = subst (λ ms. Shares (length before) (first ∷ behind at (drop at text)) ms) (lines_are at (drop at other)) share in
    on_dead s.one_line (length before) (length text) (length other) first first2 (behind at (drop at text)) (behind at (drop at other)) t e size (omega (arith, low)) share2 h2 g2
