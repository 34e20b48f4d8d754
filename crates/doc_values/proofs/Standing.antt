-- Where the rows of a tree say that its nodes stand.
use Rattle.std.proofs.Common.{◌≡◌, ℕ, zero, suc, ◌+◌, ◌-◌, ◌<◌, ◌≤◌, Bool, false, List, length, take, get_or, sym, ap, inl, inr, ◌∙◌, arith, Option, Some}
use Rattle.std.specs.Prelude.{nat_lt, if◌then◌else◌}
use Rattle.std.proofs.Math.ListN.{get_or-append}
use Rattle.std.proofs.lemmas.List.{get_or-append_right, get_or_default}
use Rattle.std.proofs.lemmas.Bool.{cases_lt, cases_eq, lt-ltb, le-ltb}
use Rattle.doc_values.specs.Tree.{Label, Forest, Nil, Node, size, count}
use Rattle.doc_values.specs.Places.{first_label, label_at, kids_at, child_place, key_place, Spot, spot_in, spot_of}
use Rattle.doc_values.specs.code.Rows.{Row, rows, all_rows, above}
use Rattle.doc_values.specs.code.Index.{among, keyed, tally, AreInOrder, no_row}
use Rattle.doc_values.proofs.Among.{row, length-rows, same_nat, other_nat, among-here, among-under, tops, length-tops, keyed-tops, tops-at, find_in, find_past}
use Rattle.doc_values.proofs.Slots.{length-among, at-among, among-there, before-less}

pub record Stands (d u n i id : ℕ) (f : Forest) (r : Row) : Type 0 where
  pub spot : spot_in (above u) i n f id ≡ record { parent = above r.under; index = r.index }
  pub label : label_at f (id - n) ≡ r.label
  pub low : r.under ≤ id

-- the row at a number, behind the first
pub row-past : (d u n i q : ℕ) (l : Label) (kids rest : Forest) (r : Row) → size kids ≤ q → r ≡ get_or (rows d u n i (Node l kids rest)) (suc q) r → r ≡ get_or (rows d u (suc (n + size kids)) (suc i) rest) (q - size kids) r
row-past d u n i q l kids rest r h e = e ∙ get_or-append_right (rows (suc d) (suc n) (suc n) 0 kids) (rows d u (suc (n + size kids)) (suc i) rest) (size kids) q r (length-rows (suc d) (suc n) (suc n) 0 kids) h

pub row-in : (d u n i q : ℕ) (l : Label) (kids rest : Forest) (r : Row) → q < size kids → r ≡ get_or (rows d u n i (Node l kids rest)) (suc q) r → r ≡ get_or (rows (suc d) (suc n) (suc n) 0 kids) q r
row-in d u n i q l kids rest r h e =
    let len = length-rows (suc d) (suc n) (suc n) 0 kids in
    let b : q < length (rows (suc d) (suc n) (suc n) 0 kids) = omega arith in
    e ∙ get_or-append (rows (suc d) (suc n) (suc n) 0 kids) (rows d u (suc (n + size kids)) (suc i) rest) r q b

abbrev spot_with : (p : Option ℕ) (i at id : ℕ) (kids rest : Forest) (here inside : Bool) → Spot
spot_with p i at id kids rest here inside = if here then record { parent = p; index = i } else (if inside then spot_in (Some at) 0 (at + 1) kids id else spot_in p (i + 1) (at + 1 + size kids) rest id)

pub stands : (d u n i id : ℕ) (f : Forest) (r : Row) → u ≤ n → n ≤ id → id < n + size f → r ≡ get_or (rows d u n i f) (id - n) r → Stands d u n i id f r
stands d u n i id Nil r h a b e = absurd (omega arith)
stands d u n i id (Node l kids rest) r h a b e = elim (cases_eq id n) [
  | inl s ↦
      let z : id - n ≡ 0 = omega arith in
      let same : r ≡ row d u i l = e ∙ ap (λ m. get_or (rows d u n i (Node l kids rest)) m r) z in
      let under : r.under ≡ u = ap (λ (x : Row). x.under) same in
      record {
        spot = ap (λ b. spot_with (above u) i n id kids rest b (nat_lt id (n + 1 + size kids))) (same_nat id n s) ∙ ap (λ (x : Row). let s : Spot = record { parent = above x.under; index = x.index } in s) (sym same);
        label = ap (label_at (Node l kids rest)) z ∙ ap (λ (x : Row). x.label) (sym same);
        low = omega arith;
      }
  | inr s ↦
      let z : id - n ≡ suc (id - suc n) = omega arith in
      let off = ap (λ b. spot_with (above u) i n id kids rest b (nat_lt id (n + 1 + size kids))) (other_nat id n s) in
      let there : r ≡ get_or (rows d u n i (Node l kids rest)) (suc (id - suc n)) r = e ∙ ap (λ m. get_or (rows d u n i (Node l kids rest)) m r) z in
      elim (cases_lt id (n + 1 + size kids)) [
        | inl k ↦
            let q : id - suc n < size kids = omega arith in
            let t = stands (suc d) (suc n) (suc n) 0 id kids r (omega arith) (omega arith) (omega arith) (row-in d u n i (id - suc n) l kids rest r q there) in
            let m : n + 1 ≡ suc n = omega arith in
            record {
              spot = off ∙ ap (λ b. spot_with (above u) i n id kids rest false b) (lt-ltb id (n + 1 + size kids) k) ∙ ap (λ x. spot_in (Some n) 0 x kids id) m ∙ t.spot;
              label = ap (label_at (Node l kids rest)) z ∙ ap first_label (find_in l kids rest (id - suc n) q) ∙ t.label;
              low = t.low;
            }
        | inr k ↦
            let q : size kids ≤ id - suc n = omega arith in
            let w : id - suc n - size kids ≡ id - suc (n + size kids) = omega arith in
            let t = stands d u (suc (n + size kids)) (suc i) id rest r (omega arith) (omega arith) (omega arith) (row-past d u n i (id - suc n) l kids rest r q there ∙ ap (λ m. get_or (rows d u (suc (n + size kids)) (suc i) rest) m r) w) in
            let m : n + 1 + size kids ≡ suc (n + size kids) = omega arith in
            let o : i + 1 ≡ suc i = omega arith in
            record {
              spot = off ∙ ap (λ b. spot_with (above u) i n id kids rest false b) (le-ltb id (n + 1 + size kids) k) ∙ ap (λ x. spot_in (above u) x (n + 1 + size kids) rest id) o ∙ ap (λ x. spot_in (above u) (suc i) x rest id) m ∙ t.spot;
              label = ap (label_at (Node l kids rest)) z ∙ ap first_label (find_past l kids rest (id - suc n) q) ∙ ap (label_at rest) w ∙ t.label;
              low = t.low;
            }
      ]
]

-- the row of a node of a tree
pub record IsRow (f : Forest) (id : ℕ) (r : Row) : Type 0 where
  pub spot : spot_of f id ≡ record { parent = above r.under; index = r.index }
  pub label : label_at f id ≡ r.label
  pub low : r.under ≤ id

pub is_row : (f : Forest) (id : ℕ) (r : Row) → id < size f → r ≡ get_or (all_rows f) id r → IsRow f id r
is_row f id r h e =
    let z : id - 0 ≡ id = omega arith in
    let t = stands 0 0 0 0 id f r (omega arith) (omega arith) (omega arith) (e ∙ ap (λ m. get_or (all_rows f) m r) (sym z)) in
    record { spot = t.spot; label = ap (label_at f) (sym z) ∙ t.label; low = t.low }

-- what stands under a number: the values in the node before it
pub record Holds (f : Forest) (w : ℕ) : Type 0 where
  pub depth : ℕ
  pub kids : Forest
  pub same : among 0 w (all_rows f) ≡ tops depth w w 0 kids

pub holds_none : (f : Forest) → Holds f 0
holds_none f = record { depth = 0; kids = f; same = among-here 0 0 0 0 f (omega arith) }

pub record HoldsKids (f : Forest) (p : ℕ) : Type 0 where
  pub depth : ℕ
  pub same : among 0 (suc p) (all_rows f) ≡ tops depth (suc p) (suc p) 0 (kids_at f p)

pub holds_kids : (f : Forest) (p : ℕ) → p < size f → HoldsKids f p
holds_kids f p h =
    let a = among-under 0 0 0 0 p f (omega arith) h in
    let e : suc (0 + p) ≡ suc p = omega arith in
    record { depth = a.depth; same = ap (λ m. among 0 m (all_rows f)) (sym e) ∙ a.same ∙ ap (λ m. tops a.depth m m 0 (kids_at f p)) e }

holds_at : (f : Forest) (w : ℕ) → (w < suc (size f)) → Holds f w
holds_at f zero h = holds_none f
holds_at f (suc p) h = let a = holds_kids f p (omega arith) in record { depth = a.depth; kids = kids_at f p; same = a.same }

-- the rows of a tree are in order
pub in_order : (f : Forest) → AreInOrder (all_rows f)
in_order f = λ j r l e.
    let len = length-rows 0 0 0 0 f in
    let s = is_row f j r (omega arith) e in
    let low = s.low in
    let h = holds_at f r.under (omega arith) in
    let m : ℕ = tally r.under (take j (all_rows f)) in
    let x : ℕ × Row = (0 + j, r) in
    let here : get_or (among 0 r.under (all_rows f)) m x ≡ x = at-among 0 j (all_rows f) r x l e in
    let long : length (among 0 r.under (all_rows f)) ≡ count h.kids = ap (λ (t : List (ℕ × Row)). length t) h.same ∙ length-tops h.depth r.under r.under 0 h.kids in
    let all = length-among 0 r.under (all_rows f) in
    let less = before-less j (all_rows f) r l e in
    let t = tops-at h.depth r.under r.under 0 m h.kids x (omega arith) (sym here ∙ ap (λ (t : List (ℕ × Row)). get_or t m x) h.same) in
    let i = t.index in
    (omega arith, low)

-- how many values stand in a node
pub kids_counted : (f : Forest) (p : ℕ) → p < size f → tally (suc p) (all_rows f) ≡ count (kids_at f p)
kids_counted f p h = let a = holds_kids f p h in sym (length-among 0 (suc p) (all_rows f)) ∙ ap (λ (t : List (ℕ × Row)). length t) a.same ∙ length-tops a.depth (suc p) (suc p) 0 (kids_at f p)

pub kids_keyed : (f : Forest) (p : ℕ) (k : List ℕ) → p < size f → keyed k (among 0 (suc p) (all_rows f)) ≡ key_place (suc p) (kids_at f p) k
kids_keyed f p k h = let a = holds_kids f p h in ap (keyed k) a.same ∙ keyed-tops a.depth (suc p) (suc p) 0 (kids_at f p) k

-- the row of the value at an index in a node
pub record IsChild (f : Forest) (p i : ℕ) : Type 0 where
  pub row : Row
  pub within : child_place (suc p) (kids_at f p) i < size f
  pub is : row ≡ get_or (all_rows f) (child_place (suc p) (kids_at f p) i) row
  pub under : row.under ≡ suc p
  pub index : row.index ≡ i

pub is_child : (f : Forest) (p i : ℕ) → p < size f → i < count (kids_at f p) → IsChild f p i
is_child f p i h b =
    let a = holds_kids f p h in
    let x : ℕ × Row = get_or (among 0 (suc p) (all_rows f)) i (0, no_row) in
    let long : length (among 0 (suc p) (all_rows f)) ≡ count (kids_at f p) = ap (λ (t : List (ℕ × Row)). length t) a.same ∙ length-tops a.depth (suc p) (suc p) 0 (kids_at f p) in
    let x_is : x ≡ get_or (among 0 (suc p) (all_rows f)) i x = let within : i < length (among 0 (suc p) (all_rows f)) = omega arith in get_or_default (among 0 (suc p) (all_rows f)) i (0, no_row) (get_or (among 0 (suc p) (all_rows f)) i (0, no_row)) within in
    let there = among-there 0 (suc p) i (all_rows f) x (omega arith) x_is in
    let top = tops-at a.depth (suc p) (suc p) 0 i (kids_at f p) x b (x_is ∙ ap (λ (t : List (ℕ × Row)). get_or t i x) a.same) in
    let len = length-rows 0 0 0 0 f in
    let high = there.high in
    let number = top.number in
    let z : x.0 - 0 ≡ child_place (suc p) (kids_at f p) i = omega arith in
    let index = top.index in
    record {
      row = x.1;
      within = omega arith;
      is = there.row ∙ ap (λ m. get_or (all_rows f) m x.1) z;
      under = top.under;
      index = omega arith;
    }
