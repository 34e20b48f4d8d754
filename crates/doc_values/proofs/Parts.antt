-- The rows of a part of a tree: where they are among the rows of the whole, by induction on the values side by side, and that they make the tree below its node.
use Rattle.std.proofs.Common.{◌≡◌, ℕ, zero, suc, ◌+◌, ◌-◌, ◌<◌, ◌≤◌, Bool, false, List, [], ◌∷◌, ◌++◌, map, length, take, drop, get_or, refl, sym, ap, inl, inr, ◌∙◌, subst, arith, append-nil, append_assoc, length-append}
use Rattle.std.proofs.lemmas.Bool.{cases_lt, cases_eq}
use Rattle.std.proofs.lemmas.List.{map-append, get_or_at, get_or_append_left, get_or-append_right, take_at, drop_at}
use Rattle.doc_values.specs.Tree.{Label, Forest, Nil, Node, snoc, size, has_text, holds_values, is_map, AreValues, IsTree}
use Rattle.doc_values.specs.Places.{first_label, first_kids, label_at, kids_at, unkeyed, tree_at}
use Rattle.doc_values.specs.code.Rows.{Row, rows, all_rows}
use Rattle.doc_values.specs.code.Index.{no_row}
use Rattle.doc_values.specs.code.Parts.{row_below}
use Rattle.doc_values.proofs.Among.{row, length-rows, find_in, find_past}
use Rattle.doc_values.proofs.OpenRows.{high_rows}
use Rattle.doc_values.proofs.Lookups.{kids-formed}

-- the first row is no deeper than a depth
abbrev Stops : ℕ → List Row → Type 0
Stops d [] = Unit {0}
Stops d (r ∷ rs) = r.depth ≤ d

stops_rows : (d e u n i : ℕ) (f : Forest) → d ≤ e → Stops e (rows d u n i f)
stops_rows d e u n i Nil h = tt
stops_rows d e u n i (Node l kids rest) h = h

stops_append : (d : ℕ) (xs ys : List Row) → Stops d xs → Stops d ys → Stops d (xs ++ ys)
stops_append d [] ys a b = b
stops_append d (x ∷ xs) ys a b = a

-- a node's row, those of the nodes in it, and those behind, the first of which is no deeper than the node
record Part (d u n i p : ℕ) (f : Forest) : Type 0 where
  row : Row
  before : List Row
  after : List Row
  split : rows d u n i f ≡ before ++ (row ∷ (rows (suc row.depth) (suc (n + p)) (suc (n + p)) 0 (kids_at f p) ++ after))
  long : length before ≡ p
  deep : d ≤ row.depth
  stop : Stops row.depth after

in_front : (own r : Row) (before inner after next : List Row) → own ∷ ((before ++ (r ∷ (inner ++ after))) ++ next) ≡ (own ∷ before) ++ (r ∷ (inner ++ (after ++ next)))
in_front own r before inner after next = ap (λ t. own ∷ t) (append_assoc before (r ∷ (inner ++ after)) next ∙ ap (λ t. before ++ (r ∷ t)) (append_assoc inner after next))

part : (d u n i p : ℕ) (f : Forest) → p < size f → Part d u n i p f
part d u n i p Nil h = absurd (omega arith)
part d u n i zero (Node l kids rest) h =
    let e : suc n ≡ suc (n + 0) = omega arith in
    record {
      row = row d u i l;
      before = [];
      after = rows d u (suc (n + size kids)) (suc i) rest;
      split = ap (λ m. row d u i l ∷ (rows (suc d) m m 0 kids ++ rows d u (suc (n + size kids)) (suc i) rest)) e;
      long = refl;
      deep = omega arith;
      stop = stops_rows d d u (suc (n + size kids)) (suc i) rest (omega arith);
    }
part d u n i (suc q) (Node l kids rest) h =
    let own : Row = row d u i l in
    let inner : List Row = rows (suc d) (suc n) (suc n) 0 kids in
    let next : List Row = rows d u (suc (n + size kids)) (suc i) rest in
    elim (cases_lt q (size kids)) [
      | inl k ↦
          let a = part (suc d) (suc n) (suc n) 0 q kids k in
          let e : suc (suc n + q) ≡ suc (n + suc q) = omega arith in
          let deep = a.deep in
          let long = a.long in
          let here : kids_at kids q ≡ kids_at (Node l kids rest) (suc q) = ap first_kids (sym (find_in l kids rest q k)) in
          record {
            row = a.row;
            before = own ∷ a.before;
            after = a.after ++ next;
            split =
                ap (λ t. own ∷ (t ++ next)) a.split
                ∙ in_front own a.row a.before (rows (suc a.row.depth) (suc (suc n + q)) (suc (suc n + q)) 0 (kids_at kids q)) a.after next
                ∙ ap (λ m. (own ∷ a.before) ++ (a.row ∷ (rows (suc a.row.depth) m m 0 (kids_at kids q) ++ (a.after ++ next)))) e
                ∙ ap (λ g. (own ∷ a.before) ++ (a.row ∷ (rows (suc a.row.depth) (suc (n + suc q)) (suc (n + suc q)) 0 g ++ (a.after ++ next)))) here;
            long = omega arith;
            deep = omega arith;
            stop = stops_append a.row.depth a.after next a.stop (stops_rows d a.row.depth u (suc (n + size kids)) (suc i) rest (omega arith));
          }
      | inr k ↦
          let a = part d u (suc (n + size kids)) (suc i) (q - size kids) rest (omega arith) in
          let e : suc (suc (n + size kids) + (q - size kids)) ≡ suc (n + suc q) = omega arith in
          let long = a.long in
          let inner_long = length-rows (suc d) (suc n) (suc n) 0 kids in
          let whole = length-append inner a.before in
          let here : kids_at rest (q - size kids) ≡ kids_at (Node l kids rest) (suc q) = ap first_kids (sym (find_past l kids rest q k)) in
          record {
            row = a.row;
            before = own ∷ (inner ++ a.before);
            after = a.after;
            split =
                ap (λ t. own ∷ (inner ++ t)) a.split
                ∙ ap (λ t. own ∷ t) (sym (append_assoc inner a.before (a.row ∷ (rows (suc a.row.depth) (suc (suc (n + size kids) + (q - size kids))) (suc (suc (n + size kids) + (q - size kids))) 0 (kids_at rest (q - size kids)) ++ a.after))))
                ∙ ap (λ m. (own ∷ (inner ++ a.before)) ++ (a.row ∷ (rows (suc a.row.depth) m m 0 (kids_at rest (q - size kids)) ++ a.after))) e
                ∙ ap (λ g. (own ∷ (inner ++ a.before)) ++ (a.row ∷ (rows (suc a.row.depth) (suc (n + suc q)) (suc (n + suc q)) 0 g ++ a.after))) here;
            long = omega arith;
            deep = a.deep;
            stop = a.stop;
          }
    ]

-- rows of values side by side are as deep as these or deeper
deep_rows : (d u n i : ℕ) (f : Forest) (j : ℕ) → j < length (rows d u n i f) → d ≤ (get_or (rows d u n i f) j no_row).depth
deep_rows d u n i Nil j l = absurd (omega arith)
deep_rows d u n i (Node l kids rest) zero m = omega arith
deep_rows d u n i (Node l kids rest) (suc j) m =
    let inner : List Row = rows (suc d) (suc n) (suc n) 0 kids in
    let next : List Row = rows d u (suc (n + size kids)) (suc i) rest in
    let long : length inner ≡ size kids = length-rows (suc d) (suc n) (suc n) 0 kids in
    let whole = length-append inner next in
    elim (cases_lt j (size kids)) [
      | inl before ↦
          let here = deep_rows (suc d) (suc n) (suc n) 0 kids j (omega arith) in
          let same = ap (λ (r : Row). r.depth) (get_or_append_left inner next no_row j (omega arith)) in
          omega arith
      | inr behind ↦
          let here = deep_rows d u (suc (n + size kids)) (suc i) rest (j - size kids) (omega arith) in
          let same = ap (λ (r : Row). r.depth) (get_or-append_right inner next (size kids) j no_row long behind) in
          omega arith
    ]

abbrev pub depth_at : Forest → ℕ → ℕ
depth_at f id = (get_or (all_rows f) id no_row).depth

-- how far a node reaches
pub record Extent (f : Forest) (id : ℕ) : Type 0 where
  pub within : id + 1 + size (kids_at f id) ≤ size f
  pub inner : (j : ℕ) → id < j → j < id + 1 + size (kids_at f id) → (depth_at f id < depth_at f j) × (id < (get_or (all_rows f) j no_row).under)
  pub outer : id + 1 + size (kids_at f id) < size f → depth_at f (id + 1 + size (kids_at f id)) ≤ depth_at f id
  pub kids : take (size (kids_at f id)) (drop (id + 1) (all_rows f)) ≡ rows (depth_at f id + 1) (id + 1) (id + 1) 0 (kids_at f id)

stop_at : (d : ℕ) (rs : List Row) → Stops d rs → 0 < length rs → (get_or rs 0 no_row).depth ≤ d
stop_at d [] s h = absurd (omega arith)
stop_at d (r ∷ rs) s h = s

pub extent : (f : Forest) (id : ℕ) → id < size f → Extent f id
extent f id h =
    let a = part 0 0 0 0 id f h in
    let kids : Forest = kids_at f id in
    let e : suc (0 + id) ≡ id + 1 = omega arith in
    let g : suc a.row.depth ≡ a.row.depth + 1 = omega arith in
    let inner : List Row = rows (a.row.depth + 1) (id + 1) (id + 1) 0 kids in
    let split : all_rows f ≡ a.before ++ (a.row ∷ (inner ++ a.after)) = a.split ∙ ap (λ m. a.before ++ (a.row ∷ (rows (suc a.row.depth) m m 0 kids ++ a.after))) e ∙ ap (λ d. a.before ++ (a.row ∷ (rows d (id + 1) (id + 1) 0 kids ++ a.after))) g in
    let whole : length (all_rows f) ≡ size f = length-rows 0 0 0 0 f in
    let long = a.long in
    let inner_long : length inner ≡ size kids = length-rows (a.row.depth + 1) (id + 1) (id + 1) 0 kids in
    let all : length (all_rows f) ≡ length a.before + suc (length inner + length a.after) = ap (λ (t : List Row). length t) split ∙ length-append a.before (a.row ∷ (inner ++ a.after)) ∙ ap (λ m. length a.before + suc m) (length-append inner a.after) in
    let own : depth_at f id ≡ a.row.depth = ap (λ (t : List Row). (get_or t id no_row).depth) split ∙ ap (λ (r : Row). r.depth) (get_or_at a.before a.row (inner ++ a.after) no_row id long) in
    let past : (m : ℕ) → get_or (all_rows f) (id + 1 + m) no_row ≡ get_or (inner ++ a.after) m no_row = λ m.
    let q : id + 1 + m - id ≡ suc m = omega arith in
    ap (λ (t : List Row). get_or t (id + 1 + m) no_row) split ∙ get_or-append_right a.before (a.row ∷ (inner ++ a.after)) id (id + 1 + m) no_row long (omega arith) ∙ ap (λ k. get_or (a.row ∷ (inner ++ a.after)) k no_row) q in
    record {
      within = omega arith;
      inner = λ j from below.
          let m : ℕ = j - (id + 1) in
          let q : id + 1 + m ≡ j = omega arith in
          let there : m < length inner = omega arith in
          let same : get_or (all_rows f) j no_row ≡ get_or inner m no_row = ap (λ k. get_or (all_rows f) k no_row) (sym q) ∙ past m ∙ get_or_append_left inner a.after no_row m there in
          let deep = deep_rows (a.row.depth + 1) (id + 1) (id + 1) 0 kids m there in
          let high = high_rows (a.row.depth + 1) (id + 1) (id + 1) 0 kids m (omega arith) there in
          let x = ap (λ (r : Row). r.depth) same in
          let y = ap (λ (r : Row). r.under) same in
          (omega arith, omega arith);
      outer = λ more.
          let same : get_or (all_rows f) (id + 1 + size kids) no_row ≡ get_or a.after 0 no_row =
          past (size kids)
          ∙ get_or-append_right inner a.after (size kids) (size kids) no_row inner_long (omega arith)
          ∙ (let z : size kids - size kids ≡ 0 = omega arith in ap (λ k. get_or a.after k no_row) z) in
          let x = ap (λ (r : Row). r.depth) same in
          let s = stop_at a.row.depth a.after a.stop (omega arith) in
          omega arith;
      kids =
          (let back : drop (id + 1) (all_rows f) ≡ inner ++ a.after =
          ap (drop (id + 1)) (split ∙ sym (append_assoc a.before (a.row ∷ []) (inner ++ a.after)))
          ∙ drop_at (a.before ++ a.row ∷ []) (inner ++ a.after) (id + 1) (length-append a.before (a.row ∷ []) ∙ omega arith) in
          ap (take (size kids)) back ∙ take_at inner a.after (size kids) inner_long ∙ ap (λ d. rows (d + 1) (id + 1) (id + 1) 0 kids) (sym own));
    }

-- where a scan stops that goes on as long as rows are deeper
pub reached : (f : Forest) (id j : ℕ) → id < size f → id < j → j ≤ size f → ((k : ℕ) → id < k → k < j → depth_at f id < depth_at f k) → (j < size f → depth_at f j ≤ depth_at f id) → j ≡ id + 1 + size (kids_at f id)
reached f id j h from to passed stopped =
    let x = extent f id h in
    let end : ℕ = id + 1 + size (kids_at f id) in
    let within = x.within in
    elim (cases_lt j end) [
      | inl k ↦ let a = (x.inner j from k).0 in let b = stopped (omega arith) in absurd (omega arith)
      | inr k ↦ elim (cases_eq j end) [
        | inl e ↦ e
        | inr e ↦ let a = passed end (omega arith) (omega arith) in let b = x.outer (omega arith) in absurd (omega arith)
      ]
    ]

-- ---- the tree

rows_lowered : (d u n i e m : ℕ) (f : Forest) → rows d u n i f ≡ map (row_below e m) (rows (d + e) (u + m) (n + m) i f)
rows_lowered d u n i e m Nil = refl
rows_lowered d u n i e m (Node l kids rest) =
    let inner : List Row = rows (suc (d + e)) (suc (n + m)) (suc (n + m)) 0 kids in
    let next : List Row = rows (d + e) (u + m) (suc (n + m + size kids)) (suc i) rest in
    let depth : d ≡ d + e - e = omega arith in
    let under : u ≡ u + m - m = omega arith in
    let own : row d u i l ≡ row_below e m (row (d + e) (u + m) i l) = ap (λ x. row x u i l) depth ∙ ap (λ x. row (d + e - e) x i l) under in
    let a : suc d + e ≡ suc (d + e) = omega arith in
    let b : suc n + m ≡ suc (n + m) = omega arith in
    let c : suc (n + size kids) + m ≡ suc (n + m + size kids) = omega arith in
    let in_kids : rows (suc d) (suc n) (suc n) 0 kids ≡ map (row_below e m) inner = rows_lowered (suc d) (suc n) (suc n) 0 e m kids ∙ ap (λ x. map (row_below e m) (rows x (suc n + m) (suc n + m) 0 kids)) a ∙ ap (λ x. map (row_below e m) (rows (suc (d + e)) x x 0 kids)) b in
    let in_rest : rows d u (suc (n + size kids)) (suc i) rest ≡ map (row_below e m) next = rows_lowered d u (suc (n + size kids)) (suc i) e m rest ∙ ap (λ x. map (row_below e m) (rows (d + e) (u + m) x (suc i) rest)) c in
    ap (λ (r : Row). r ∷ (rows (suc d) (suc n) (suc n) 0 kids ++ rows d u (suc (n + size kids)) (suc i) rest)) own
    ∙ ap (λ (t : List Row). row_below e m (row (d + e) (u + m) i l) ∷ (t ++ rows d u (suc (n + size kids)) (suc i) rest)) in_kids
    ∙ ap (λ (t : List Row). row_below e m (row (d + e) (u + m) i l) ∷ (map (row_below e m) inner ++ t)) in_rest
    ∙ ap (λ (t : List Row). row_below e m (row (d + e) (u + m) i l) ∷ t) (sym (map-append (row_below e m) inner next))

abbrev pub top_row : Label → Row
top_row l = row 0 0 0 (unkeyed l)

-- the rows of the tree below a node
pub rows_of_part : (f : Forest) (id : ℕ) → id < size f → all_rows (tree_at f id) ≡ top_row (label_at f id) ∷ map (row_below (depth_at f id) id) (take (size (kids_at f id)) (drop (id + 1) (all_rows f)))
rows_of_part f id h =
    let kids : Forest = kids_at f id in
    let own : Row = top_row (label_at f id) in
    let d : ℕ = depth_at f id in
    let a : 1 + d ≡ d + 1 = omega arith in
    let b : 1 + id ≡ id + 1 = omega arith in
    let x = extent f id h in
    ap (λ (t : List Row). own ∷ t) (
    append-nil (rows 1 1 1 0 kids)
    ∙ rows_lowered 1 1 1 0 d id kids
    ∙ ap (λ k. map (row_below d id) (rows k (1 + id) (1 + id) 0 kids)) a
    ∙ ap (λ k. map (row_below d id) (rows (d + 1) k k 0 kids)) b
    ∙ ap (map (row_below d id)) (sym x.kids))

-- a node is well formed
record Formed (l : Label) (kids : Forest) : Type 0 where
  text : has_text l.kind ≡ false → l.text ≡ []
  kids_none : holds_values l.kind ≡ false → kids ≡ Nil

formed_at : (b : Bool) (before f : Forest) (n : ℕ) → AreValues b before f → n < size f → Formed (label_at f n) (kids_at f n)
formed_at b before Nil n v h = absurd (omega arith)
formed_at b before (Node l kids rest) zero (k, t, e, i, r) h = record { text = t; kids_none = e }
formed_at b before (Node l kids rest) (suc n) (k, t, e, i, r) h = elim (cases_lt n (size kids)) [
  | inl q ↦ subst (λ g. Formed (first_label g) (first_kids g)) (sym (find_in l kids rest n q)) (formed_at (is_map l.kind) Nil kids n i q)
  | inr q ↦ subst (λ g. Formed (first_label g) (first_kids g)) (sym (find_past l kids rest n q)) (formed_at b (snoc before l kids) rest (n - size kids) r (omega arith))
]

pub IsTree-part : (f : Forest) (id : ℕ) → IsTree f → id < size f → IsTree (tree_at f id)
IsTree-part f id t h =
    let own = formed_at false Nil f id t.values h in
    record {
      one = refl;
      values = (refl, own.text, own.kids_none, kids-formed f id t h, tt);
    }
