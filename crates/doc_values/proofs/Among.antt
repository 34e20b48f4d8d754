-- The rows under a number are the values that stand there.
use Rattle.std.proofs.Common.{◌≡◌, ℕ, zero, suc, ◌+◌, ◌-◌, ◌<◌, ◌≤◌, true, false, List, [], ◌∷◌, ◌++◌, length, get_or, refl, sym, ap, inl, inr, ◌∙◌, arith, append-nil, length-append, Some, ◌⊎◌}
use Rattle.std.specs.Prelude.{nat_eq, if◌then◌else◌}
use Rattle.std.proofs.lemmas.Bool.Decides.{nat_tests}
use Rattle.std.proofs.lemmas.Bool.{cases_lt, cases_eq, lt-ltb, le-ltb}
use Rattle.doc_values.specs.Tree.{Label, Forest, Nil, Node, size, count, key_is}
use Rattle.doc_values.specs.Places.{find, first_kids, kids_at, child_place, key_place}
use Rattle.doc_values.specs.code.Rows.{Row, rows}
use Rattle.doc_values.specs.code.Index.{among, keyed}

abbrev pub row : ℕ → ℕ → ℕ → Label → Row
row d u i l = record { depth = d; under = u; index = i; label = l }

pub same_nat : (a b : ℕ) → a ≡ b → nat_eq a b ≡ true
same_nat a b h = grind (arith, nat_tests)

pub other_nat : (a b : ℕ) → (a ≡ b → ⊥) → nat_eq a b ≡ false
other_nat a b h = grind (arith, nat_tests)

pub length-rows : (d u n i : ℕ) (f : Forest) → length (rows d u n i f) ≡ size f
length-rows d u n i Nil = refl
length-rows d u n i (Node l kids rest) =
    let a = length-rows (suc d) (suc n) (suc n) 0 kids in
    let b = length-rows d u (suc (n + size kids)) (suc i) rest in
    omega (arith, length-append (rows (suc d) (suc n) (suc n) 0 kids) (rows d u (suc (n + size kids)) (suc i) rest))

-- a row in front
pub among-yes : (n w : ℕ) (r : Row) (rs : List Row) → r.under ≡ w → among n w (r ∷ rs) ≡ (n, r) ∷ among (suc n) w rs
among-yes n w r rs e = ap (λ b. if b then (n, r) ∷ among (suc n) w rs else among (suc n) w rs) (same_nat r.under w e)

pub among-no : (n w : ℕ) (r : Row) (rs : List Row) → (r.under ≡ w → ⊥) → among n w (r ∷ rs) ≡ among (suc n) w rs
among-no n w r rs e = ap (λ b. if b then (n, r) ∷ among (suc n) w rs else among (suc n) w rs) (other_nat r.under w e)

pub among-append : (n w : ℕ) (xs ys : List Row) → among n w (xs ++ ys) ≡ among n w xs ++ among (n + length xs) w ys
among-append n w [] ys = let e : n ≡ n + 0 = omega arith in ap (λ m. among m w ys) e
among-append n w (r ∷ xs) ys =
    let e : suc n + length xs ≡ n + suc (length xs) = omega arith in
    let more = among-append (suc n) w xs ys ∙ ap (λ m. among (suc n) w xs ++ among m w ys) e in
    elim (cases_eq r.under w) [
      | inl h ↦ among-yes n w r (xs ++ ys) h ∙ ap (λ t. (n, r) ∷ t) more ∙ ap (λ t. t ++ among (n + suc (length xs)) w ys) (sym (among-yes n w r xs h))
      | inr h ↦ among-no n w r (xs ++ ys) h ∙ more ∙ ap (λ t. t ++ among (n + suc (length xs)) w ys) (sym (among-no n w r xs h))
    ]

-- a number that is not in it has nothing in a forest
abbrev pub IsApartFrom : ℕ → ℕ → Forest → Type 0
IsApartFrom w n f = (w ≤ n) ⊎ (n + size f < w)

-- the parts of the rows of a forest, numbered
pub among-parts : (w d u n i : ℕ) (l : Label) (kids rest : Forest) → among (suc n) w (rows (suc d) (suc n) (suc n) 0 kids ++ rows d u (suc (n + size kids)) (suc i) rest) ≡ among (suc n) w (rows (suc d) (suc n) (suc n) 0 kids) ++ among (suc (n + size kids)) w (rows d u (suc (n + size kids)) (suc i) rest)
among-parts w d u n i l kids rest =
    let xs : List Row = rows (suc d) (suc n) (suc n) 0 kids in
    let ys : List Row = rows d u (suc (n + size kids)) (suc i) rest in
    let len : length xs ≡ size kids = length-rows (suc d) (suc n) (suc n) 0 kids in
    let e : suc n + length xs ≡ suc (n + size kids) = omega arith in
    among-append (suc n) w xs ys ∙ ap (λ m. among (suc n) w xs ++ among m w ys) e

pub among-none : (w d u n i : ℕ) (f : Forest) → (u ≡ w → ⊥) → IsApartFrom w n f → among n w (rows d u n i f) ≡ []
among-none w d u n i Nil h a = refl
among-none w d u n i (Node l kids rest) h a =
    let kids_h : suc n ≡ w → ⊥ = elim a [ inl low ↦ λ e. omega arith | inr high ↦ λ e. omega arith ] in
    let kids_a : IsApartFrom w (suc n) kids = elim a [ inl low ↦ inl (omega arith) | inr high ↦ inr (omega arith) ] in
    let rest_a : IsApartFrom w (suc (n + size kids)) rest = elim a [ inl low ↦ inl (omega arith) | inr high ↦ inr (omega arith) ] in
    among-no n w (row d u i l) (rows (suc d) (suc n) (suc n) 0 kids ++ rows d u (suc (n + size kids)) (suc i) rest) h
    ∙ among-parts w d u n i l kids rest
    ∙ ap (λ t. t ++ among (suc (n + size kids)) w (rows d u (suc (n + size kids)) (suc i) rest)) (among-none w (suc d) (suc n) (suc n) 0 kids kids_h kids_a)
    ∙ among-none w d u (suc (n + size kids)) (suc i) rest h rest_a

-- the rows of values side by side alone, with their numbers
abbrev pub tops : ℕ → ℕ → ℕ → ℕ → Forest → List (ℕ × Row)
tops d u n i Nil = []
tops d u n i (Node l kids rest) = (n, row d u i l) ∷ tops d u (suc (n + size kids)) (suc i) rest

pub among-here : (d u n i : ℕ) (f : Forest) → u ≤ n → among n u (rows d u n i f) ≡ tops d u n i f
among-here d u n i Nil h = refl
among-here d u n i (Node l kids rest) h =
    let off : suc n ≡ u → ⊥ = λ e. omega arith in
    let low : IsApartFrom u (suc n) kids = inl (omega arith) in
    among-yes n u (row d u i l) (rows (suc d) (suc n) (suc n) 0 kids ++ rows d u (suc (n + size kids)) (suc i) rest) refl
    ∙ ap (λ t. (n, row d u i l) ∷ t) (
    among-parts u d u n i l kids rest
    ∙ ap (λ t. t ++ among (suc (n + size kids)) u (rows d u (suc (n + size kids)) (suc i) rest)) (among-none u (suc d) (suc n) (suc n) 0 kids off low)
    ∙ among-here d u (suc (n + size kids)) (suc i) rest (omega arith))

pub find_in : (l : Label) (kids rest : Forest) (n : ℕ) → n < size kids → find (Node l kids rest) (suc n) ≡ find kids n
find_in l kids rest n h = ap (λ b. if b then find kids n else find rest (n - size kids)) (lt-ltb n (size kids) h)

pub find_past : (l : Label) (kids rest : Forest) (n : ℕ) → size kids ≤ n → find (Node l kids rest) (suc n) ≡ find rest (n - size kids)
find_past l kids rest n h = ap (λ b. if b then find kids n else find rest (n - size kids)) (le-ltb n (size kids) h)

-- the contents of a node stand under the number behind its own
pub record Under (d u n i p : ℕ) (f : Forest) : Type 0 where
  pub depth : ℕ
  pub same : among n (suc (n + p)) (rows d u n i f) ≡ tops depth (suc (n + p)) (suc (n + p)) 0 (kids_at f p)

pub among-under : (d u n i p : ℕ) (f : Forest) → u ≤ n → p < size f → Under d u n i p f
among-under d u n i p Nil h b = absurd (omega arith)
among-under d u n i zero (Node l kids rest) h b =
    let w : ℕ = suc (n + 0) in
    let e : suc n ≡ w = omega arith in
    let off : u ≡ w → ⊥ = λ e. omega arith in
    let low : IsApartFrom w (suc (n + size kids)) rest = inl (omega arith) in
    let in_kids : among (suc n) w (rows (suc d) (suc n) (suc n) 0 kids) ≡ tops (suc d) w w 0 kids = ap (λ m. among m w (rows (suc d) m m 0 kids)) e ∙ among-here (suc d) w w 0 kids (omega arith) in
    record {
      depth = suc d;
      same =
          among-no n w (row d u i l) (rows (suc d) (suc n) (suc n) 0 kids ++ rows d u (suc (n + size kids)) (suc i) rest) off
          ∙ among-parts w d u n i l kids rest
          ∙ ap (λ t. among (suc n) w (rows (suc d) (suc n) (suc n) 0 kids) ++ t) (among-none w d u (suc (n + size kids)) (suc i) rest off low)
          ∙ append-nil (among (suc n) w (rows (suc d) (suc n) (suc n) 0 kids))
          ∙ in_kids;
    }
among-under d u n i (suc q) (Node l kids rest) h b =
    let w : ℕ = suc (n + suc q) in
    let off : u ≡ w → ⊥ = λ e. omega arith in
    let kids_rows : List Row = rows (suc d) (suc n) (suc n) 0 kids in
    let rest_rows : List Row = rows d u (suc (n + size kids)) (suc i) rest in
    let front = among-no n w (row d u i l) (kids_rows ++ rest_rows) off ∙ among-parts w d u n i l kids rest in
    elim (cases_lt q (size kids)) [
      | inl k ↦
          let a = among-under (suc d) (suc n) (suc n) 0 q kids (omega arith) k in
          let e : suc (suc n + q) ≡ w = omega arith in
          let low : IsApartFrom w (suc (n + size kids)) rest = inl (omega arith) in
          let in_kids : among (suc n) w kids_rows ≡ tops a.depth w w 0 (kids_at kids q) = ap (λ m. among (suc n) m kids_rows) (sym e) ∙ a.same ∙ ap (λ m. tops a.depth m m 0 (kids_at kids q)) e in
          record {
            depth = a.depth;
            same = front ∙ ap (λ t. among (suc n) w kids_rows ++ t) (among-none w d u (suc (n + size kids)) (suc i) rest off low) ∙ append-nil (among (suc n) w kids_rows) ∙ in_kids ∙ ap (λ g. tops a.depth w w 0 (first_kids g)) (sym (find_in l kids rest q k));
          }
      | inr k ↦
          let a = among-under d u (suc (n + size kids)) (suc i) (q - size kids) rest (omega arith) (omega arith) in
          let e : suc (suc (n + size kids) + (q - size kids)) ≡ w = omega arith in
          let kids_off : suc n ≡ w → ⊥ = λ e. omega arith in
          let high : IsApartFrom w (suc n) kids = inr (omega arith) in
          let in_rest : among (suc (n + size kids)) w rest_rows ≡ tops a.depth w w 0 (kids_at rest (q - size kids)) = ap (λ m. among (suc (n + size kids)) m rest_rows) (sym e) ∙ a.same ∙ ap (λ m. tops a.depth m m 0 (kids_at rest (q - size kids))) e in
          record {
            depth = a.depth;
            same = front ∙ ap (λ t. t ++ among (suc (n + size kids)) w rest_rows) (among-none w (suc d) (suc n) (suc n) 0 kids kids_off high) ∙ in_rest ∙ ap (λ g. tops a.depth w w 0 (first_kids g)) (sym (find_past l kids rest q k));
          }
    ]

-- what the values side by side give
pub length-tops : (d u n i : ℕ) (f : Forest) → length (tops d u n i f) ≡ count f
length-tops d u n i Nil = refl
length-tops d u n i (Node l kids rest) = ap suc (length-tops d u (suc (n + size kids)) (suc i) rest)

pub keyed-tops : (d u n i : ℕ) (f : Forest) (k : List ℕ) → keyed k (tops d u n i f) ≡ key_place n f k
keyed-tops d u n i Nil k = refl
keyed-tops d u n i (Node l kids rest) k =
    let e : suc (n + size kids) ≡ n + 1 + size kids = omega arith in
    ap (λ t. if key_is l.key k then Some n else t) (keyed-tops d u (suc (n + size kids)) (suc i) rest k ∙ ap (λ m. key_place m rest k) e)

pub record Top (d u n i m : ℕ) (f : Forest) (c : ℕ × Row) : Type 0 where
  pub number : c.0 ≡ child_place n f m
  pub under : c.1.under ≡ u
  pub index : c.1.index ≡ i + m

pub tops-at : (d u n i m : ℕ) (f : Forest) (c : ℕ × Row) → m < count f → c ≡ get_or (tops d u n i f) m c → Top d u n i m f c
tops-at d u n i m Nil c h e = absurd (omega arith)
tops-at d u n i zero (Node l kids rest) c h e = record { number = ap (λ (x : ℕ × Row). x.0) e; under = ap (λ (x : ℕ × Row). x.1.under) e; index = let s = ap (λ (x : ℕ × Row). x.1.index) e in omega arith }
tops-at d u n i (suc m) (Node l kids rest) c h e =
    let t = tops-at d u (suc (n + size kids)) (suc i) m rest c (omega arith) e in
    let s : suc (n + size kids) ≡ n + 1 + size kids = omega arith in
    let x = t.index in
    record { number = t.number ∙ ap (λ a. child_place a rest m) s; under = t.under; index = omega arith }
