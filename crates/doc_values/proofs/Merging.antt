-- The tree of the first's rows and the second's behind them, by induction on the values side by side.
use Rattle.std.proofs.Common.{◌≡◌, ℕ, suc, ◌+◌, ◌-◌, ◌<◌, ◌≤◌, Bool, true, false, ◌||◌, List, [], ◌∷◌, ◌++◌, map, length, take, drop, get_or, refl, sym, ap, inl, inr, ◌∙◌, subst, arith, append-nil, append_assoc, length-append, Option, None, Some}
use Rattle.std.specs.Prelude.{slice_index, if◌then◌else◌}
use Rattle.std.proofs.lemmas.Bool.{true≢false, cases_lt}
use Rattle.std.proofs.lemmas.List.{map-append, length-map, length-drop, drop-map, get_or-drop, get_or-map, get_or_append_left, get_or-append_right, get_or_default, length-take-le}
use Rattle.doc_values.specs.declared.kind.Kind.{Kind}
use Rattle.doc_values.specs.declared.kind.Kind.TheVariants as kind
use Rattle.key_names.specs.declared.names.Names.{Names}
use Rattle.doc_values.specs.Tree.{Label, Forest, Nil, Node, snoc, joined, size, count, key_is, has_key, is_map, holds_values, IsKeyed, AreValues, IsTree}
use Rattle.doc_values.specs.Places.{first_label, first_kids, kids_at}
use Rattle.doc_values.specs.Merge.{is_map_tree, merged, is_shared, first_shared}
use Rattle.doc_values.specs.code.Rows.{Row, rows, all_rows, tree_of}
use Rattle.doc_values.specs.code.Laws.{joined-Nil, joined-snoc}
use Rattle.doc_values.specs.code.Entries.{Entry, named_in, row_in, rows_in, no_entry, IsNameAt, AreNamed}
use Rattle.key_names.specs.code.Names.{texts_of, Joins}
use Rattle.doc_values.specs.code.Index.{IsFinished, IsIndexed}
use Rattle.doc_values.specs.code.Merging.{MayMerge}
use Rattle.doc_values.specs.code.Behind.{under_behind, index_behind, row_behind, renamed, entry_behind, FitsBehind}
use Rattle.doc_values.proofs.Among.{row, length-rows, other_nat}
use Rattle.doc_values.proofs.Entries.{length-rows_in, row_read, rows_grown}
use Rattle.doc_values.proofs.Slots.{tally-le}
use Rattle.doc_values.proofs.Standing.{in_order}
use Rattle.doc_values.proofs.Answering.{ix_rows, ix_size}
use Rattle.doc_values.proofs.Finished.{finished_of}
use Rattle.doc_values.proofs.Roots.{Root, root_of, root_kids, some_size}

-- ---- the values of both are well formed

AreValues-joined : (b : Bool) (before f g : Forest) → AreValues b before f → AreValues b (joined before f) g → AreValues b before (joined f g)
AreValues-joined b before Nil g v w = subst (λ a. AreValues b a g) (joined-Nil before) w
AreValues-joined b before (Node l kids rest) g (key, t, i, ks, r) w = (key, t, i, ks, AreValues-joined b (snoc before l kids) rest g r (subst (λ a. AreValues b a g) (sym (joined-snoc before l kids rest)) w))

or_false : (b c : Bool) → b ≡ false → c ≡ false → (b || c) ≡ false
or_false b c e f = ap (λ x. x || c) e ∙ f

or_assoc : (a b c : Bool) → ((a || b) || c) ≡ (a || (b || c))
or_assoc true b c = refl
or_assoc false b c = refl

has_key-joined : (f g : Forest) (k : List ℕ) → has_key (joined f g) k ≡ (has_key f k || has_key g k)
has_key-joined Nil g k = refl
has_key-joined (Node l kids rest) g k = ap (λ b. key_is l.key k || b) (has_key-joined rest g k) ∙ sym (or_assoc (key_is l.key k) (has_key rest k) (has_key g k))

-- what no key of a list of values is shared says of the first and of the rest
record Apart (others : Forest) (l : Label) (kids rest : Forest) : Type 0 where
  own : is_shared others l.key ≡ false
  later : first_shared others rest ≡ None

some_none : (n : ℕ) → Some n ≡ None → ⊥
some_none n e = cc

apart_if : (others : Forest) (l : Label) (kids rest : Forest) (b : Bool) → is_shared others l.key ≡ b → (if b then Some l.at else first_shared others rest) ≡ None → Apart others l kids rest
apart_if others l kids rest true e h = absurd (some_none l.at h)
apart_if others l kids rest false e h = record { own = e; later = h }

apart_of : (others : Forest) (l : Label) (kids rest : Forest) → first_shared others (Node l kids rest) ≡ None → Apart others l kids rest
apart_of others l kids rest h = apart_if others l kids rest (is_shared others l.key) refl h

keyed_behind : (others before : Forest) (key : Option (List ℕ)) → is_shared others key ≡ false → IsKeyed true before key → IsKeyed true (joined others before) key
keyed_behind others before (Some k) h new = has_key-joined others before k ∙ or_false (has_key others k) (has_key before k) h new
keyed_behind others before None h new = new

joined-behind : (others before : Forest) (l : Label) (kids : Forest) → joined others (snoc before l kids) ≡ snoc (joined others before) l kids
joined-behind Nil before l kids = refl
joined-behind (Node m ks rest) before l kids = ap (Node m ks) (joined-behind rest before l kids)

-- behind others, none of whose keys is shared, entries are well formed
AreValues-behind : (others before f : Forest) → first_shared others f ≡ None → AreValues true before f → AreValues true (joined others before) f
AreValues-behind others before Nil h v = tt
AreValues-behind others before (Node l kids rest) h (key, t, i, ks, r) =
    let a = apart_of others l kids rest h in
    (keyed_behind others before l.key a.own key, t, i, ks, subst (λ g. AreValues true g rest) (joined-behind others before l kids) (AreValues-behind others (snoc before l kids) rest a.later r))

entries_of : (f : Forest) → IsTree f → is_map_tree f ≡ true → AreValues true Nil (first_kids f)
entries_of Nil t m = tt
entries_of (Node l kids rest) t m = subst (λ b. AreValues b Nil kids) m (values_in l kids rest t.values)
  where
    values_in : (l : Label) (kids rest : Forest) → AreValues false Nil (Node l kids rest) → AreValues (is_map l.kind) Nil kids
    values_in l kids rest (key, t, i, ks, r) = ks

holds_map : (k : Kind) → is_map k ≡ true → holds_values k ≡ false → ⊥
holds_map kind.Map m h = true≢false h
holds_map _ m h = true≢false (sym m)

-- two maps that have no key together make a tree
pub IsTree-merged : (f s : Forest) → IsTree f → IsTree s → MayMerge f s → IsTree (merged f s)
IsTree-merged Nil s t u m = let e = t.one in absurd (omega arith)
IsTree-merged (Node l kids rest) s t u m =
    let own : AreValues true Nil kids = entries_of (Node l kids rest) t m.first_map in
    let more : AreValues true kids (first_kids s) = subst (λ g. AreValues true g (first_kids s)) (joined-Nil kids) (AreValues-behind kids Nil (first_kids s) m.apart (entries_of s u m.second_map)) in
    let all : AreValues true Nil (joined kids (first_kids s)) = AreValues-joined true Nil kids (first_kids s) own more in
    let v = t.values in
    record {
      one = refl;
      values = (v.0, v.1, λ h. absurd (holds_map l.kind m.first_map h), subst (λ b. AreValues b Nil (joined kids (first_kids s))) (sym m.first_map) all, tt);
    }

-- ---- the rows

rows_joined : (d u n i : ℕ) (f g : Forest) → rows d u n i (joined f g) ≡ rows d u n i f ++ rows d u (n + size f) (i + count f) g
rows_joined d u n i Nil g =
    let a : n ≡ n + 0 = omega arith in
    let b : i ≡ i + 0 = omega arith in
    ap (λ m. rows d u m i g) a ∙ ap (λ j. rows d u (n + 0) j g) b
rows_joined d u n i (Node l kids rest) g =
    let inner : List Row = rows (suc d) (suc n) (suc n) 0 kids in
    let next : List Row = rows d u (suc (n + size kids)) (suc i) rest in
    let a : suc (n + size kids) + size rest ≡ n + suc (size kids + size rest) = omega arith in
    let b : suc i + count rest ≡ i + suc (count rest) = omega arith in
    let more = rows_joined d u (suc (n + size kids)) (suc i) rest g ∙ ap (λ m. next ++ rows d u m (suc i + count rest) g) a ∙ ap (λ j. next ++ rows d u (n + suc (size kids + size rest)) j g) b in
    ap (λ (t : List Row). row d u i l ∷ (inner ++ t)) more ∙ ap (λ (t : List Row). row d u i l ∷ t) (sym (append_assoc inner next (rows d u (n + suc (size kids + size rest)) (i + suc (count rest)) g)))

abbrev row_if : Bool → ℕ → ℕ → ℕ → ℕ → ℕ → Label → Row
row_if b d u i m c l = record { depth = d; under = if b then 1 else u + m; index = if b then i + c else i; label = l }

-- rows below the root's entries stand under higher numbers
rows_raised : (d u n i m c : ℕ) (f : Forest) → 1 < u → u ≤ n → rows d (u + m) (n + m) i f ≡ map (row_behind m c) (rows d u n i f)
rows_raised d u n i m c Nil h w = refl
rows_raised d u n i m c (Node l kids rest) h w =
    let inner : List Row = rows (suc d) (suc n) (suc n) 0 kids in
    let next : List Row = rows d u (suc (n + size kids)) (suc i) rest in
    let a : suc (n + m) ≡ suc n + m = omega arith in
    let b : suc (n + m + size kids) ≡ suc (n + size kids) + m = omega arith in
    let own : row d (u + m) i l ≡ row_behind m c (row d u i l) = sym (ap (λ x. row_if x d u i m c l) (other_nat u 1 (λ e. omega arith))) in
    let in_kids : rows (suc d) (suc (n + m)) (suc (n + m)) 0 kids ≡ map (row_behind m c) inner = ap (λ x. rows (suc d) x x 0 kids) a ∙ rows_raised (suc d) (suc n) (suc n) 0 m c kids (omega arith) (omega arith) in
    let in_rest : rows d (u + m) (suc (n + m + size kids)) (suc i) rest ≡ map (row_behind m c) next = ap (λ x. rows d (u + m) x (suc i) rest) b ∙ rows_raised d u (suc (n + size kids)) (suc i) m c rest h (omega arith) in
    ap (λ (r : Row). r ∷ (rows (suc d) (suc (n + m)) (suc (n + m)) 0 kids ++ rows d (u + m) (suc (n + m + size kids)) (suc i) rest)) own
    ∙ ap (λ (t : List Row). row_behind m c (row d u i l) ∷ (t ++ rows d (u + m) (suc (n + m + size kids)) (suc i) rest)) in_kids
    ∙ ap (λ (t : List Row). row_behind m c (row d u i l) ∷ (map (row_behind m c) inner ++ t)) in_rest
    ∙ ap (λ (t : List Row). row_behind m c (row d u i l) ∷ t) (sym (map-append (row_behind m c) inner next))

-- the root's entries stand behind others
rows_behind : (d n i m c : ℕ) (f : Forest) → 1 ≤ n → rows d 1 (n + m) (i + c) f ≡ map (row_behind m c) (rows d 1 n i f)
rows_behind d n i m c Nil h = refl
rows_behind d n i m c (Node l kids rest) h =
    let inner : List Row = rows (suc d) (suc n) (suc n) 0 kids in
    let next : List Row = rows d 1 (suc (n + size kids)) (suc i) rest in
    let a : suc (n + m) ≡ suc n + m = omega arith in
    let b : suc (n + m + size kids) ≡ suc (n + size kids) + m = omega arith in
    let j : suc (i + c) ≡ suc i + c = omega arith in
    let in_kids : rows (suc d) (suc (n + m)) (suc (n + m)) 0 kids ≡ map (row_behind m c) inner = ap (λ x. rows (suc d) x x 0 kids) a ∙ rows_raised (suc d) (suc n) (suc n) 0 m c kids (omega arith) (omega arith) in
    let in_rest : rows d 1 (suc (n + m + size kids)) (suc (i + c)) rest ≡ map (row_behind m c) next = ap (λ x. rows d 1 x (suc (i + c)) rest) b ∙ ap (λ x. rows d 1 (suc (n + size kids) + m) x rest) j ∙ rows_behind d (suc (n + size kids)) (suc i) m c rest (omega arith) in
    ap (λ (t : List Row). row d 1 (i + c) l ∷ (t ++ rows d 1 (suc (n + m + size kids)) (suc (i + c)) rest)) in_kids
    ∙ ap (λ (t : List Row). row d 1 (i + c) l ∷ (map (row_behind m c) inner ++ t)) in_rest
    ∙ ap (λ (t : List Row). row d 1 (i + c) l ∷ t) (sym (map-append (row_behind m c) inner next))

merged_nodes : (l q : Label) (kids ks : Forest) → all_rows (Node l (joined kids ks) Nil) ≡ all_rows (Node l kids Nil) ++ map (row_behind (size kids) (count kids)) (drop 1 (all_rows (Node q ks Nil)))
merged_nodes l q kids ks =
    let own : Row = row 0 0 0 l in
    let first : List Row = rows 1 1 1 0 kids in
    let second : List Row = rows 1 1 1 0 ks in
    let move : Row → Row = row_behind (size kids) (count kids) in
    let all : rows 1 1 1 0 (joined kids ks) ≡ first ++ map move second = rows_joined 1 1 1 0 kids ks ∙ ap (λ (t : List Row). first ++ t) (rows_behind 1 1 0 (size kids) (count kids) ks (omega arith)) in
    ap (λ (t : List Row). own ∷ t) (append-nil (rows 1 1 1 0 (joined kids ks)) ∙ all ∙ ap (λ (t : List Row). t ++ map move second) (sym (append-nil first)) ∙ ap (λ (t : List Row). (first ++ []) ++ map move t) (sym (append-nil second)))

pub merged_rows : (f s : Forest) (m c : ℕ) → Root f → Root s → size f ≡ suc m → c ≡ count (first_kids f) → all_rows (merged f s) ≡ all_rows f ++ map (row_behind m c) (drop 1 (all_rows s))
merged_rows f s m c a b nodes entries =
    let long = ap (λ (g : Forest). size g) a.whole in
    let n : size (first_kids f) ≡ m = omega arith in
    merged_nodes (first_label f) (first_label s) (first_kids f) (first_kids s)
    ∙ ap (λ (g : Forest). all_rows g ++ map (row_behind (size (first_kids f)) (count (first_kids f))) (drop 1 (all_rows (Node (first_label s) (first_kids s) Nil)))) (sym a.whole)
    ∙ ap (λ (g : Forest). all_rows f ++ map (row_behind (size (first_kids f)) (count (first_kids f))) (drop 1 (all_rows g))) (sym b.whole)
    ∙ ap (λ x. all_rows f ++ map (row_behind x (count (first_kids f))) (drop 1 (all_rows s))) n
    ∙ ap (λ x. all_rows f ++ map (row_behind m x) (drop 1 (all_rows s))) (sym entries)

-- ---- the rows as they are stored

abbrev with_key : ℕ → ℕ → Entry → Option (List ℕ) → Row
with_key m c e k = record { depth = e.depth; under = under_behind m e.under; index = index_behind c e.under e.index; label = record { kind = e.kind; text = e.text; key = k; at = e.at } }

named_moved : (us t : List (List ℕ)) (numbers : List ℕ) (o : Option ℕ) → ((n : ℕ) → o ≡ Some n → get_or t (slice_index numbers n) [] ≡ get_or us n []) → named_in t (renamed numbers o) ≡ named_in us o
named_moved us t numbers None h = refl
named_moved us t numbers (Some n) h = ap (λ k. let o : Option (List ℕ) = Some k in o) (h n refl)

rows_moved : (us t : List (List ℕ)) (numbers : List ℕ) (m c : ℕ) (es : List Entry) → ((i n : ℕ) → i < length es → IsNameAt es i n → get_or t (slice_index numbers n) [] ≡ get_or us n []) → rows_in t (map (entry_behind numbers m c) es) ≡ map (row_behind m c) (rows_in us es)
rows_moved us t numbers m c [] h = refl
rows_moved us t numbers m c (e ∷ es) h =
    let first : row_in t (entry_behind numbers m c e) ≡ row_behind m c (row_in us e) = ap (with_key m c e) (named_moved us t numbers e.name (λ n q. h 0 n (omega arith) q)) in
    ap (λ (r : Row). r ∷ rows_in t (map (entry_behind numbers m c) es)) first
    ∙ ap (λ (rs : List Row). row_behind m c (row_in us e) ∷ rs) (rows_moved us t numbers m c es (λ i n l q. h (suc i) n (omega arith) q))

record Renamed (numbers : List ℕ) (o : Option ℕ) (n : ℕ) : Type 0 where
  number : ℕ
  was : o ≡ Some number
  is : slice_index numbers number ≡ n

renamed_from : (numbers : List ℕ) (o : Option ℕ) (n : ℕ) → renamed numbers o ≡ Some n → Renamed numbers o n
renamed_from numbers None n e = absurd cc
renamed_from numbers (Some k) n e = record { number = k; was = refl; is = cc }

AreNamed-moved : (es fs : List Entry) (numbers : List ℕ) (m c before count : ℕ) → AreNamed es before → before ≤ count → ((i n : ℕ) → i < length fs → IsNameAt fs i n → slice_index numbers n < count) → AreNamed (es ++ map (entry_behind numbers m c) fs) count
AreNamed-moved es fs numbers m c before count own more moved = λ i n l e.
    let move : Entry → Entry = entry_behind numbers m c in
    let long = length-append es (map move fs) in
    let same = length-map fs move in
    elim (cases_lt i (length es)) [
      | inl k ↦
          let q = own i n k (sym (ap (λ (x : Entry). x.name) (get_or_append_left es (map move fs) no_entry i k)) ∙ e) in
          omega arith
      | inr k ↦
          let place : i - length es < length fs = omega arith in
          let there : get_or (es ++ map move fs) i no_entry ≡ move (get_or fs (i - length es) no_entry) = get_or-append_right es (map move fs) (length es) i no_entry refl k ∙ get_or-map move fs (i - length es) no_entry no_entry place in
          let r = renamed_from numbers (get_or fs (i - length es) no_entry).name n (sym (ap (λ (x : Entry). x.name) there) ∙ e) in
          let q = moved (i - length es) r.number place r.was in
          let s = r.is in
          omega arith
    ]

dropped_name : (fs : List Entry) (i n : ℕ) → i < length (drop 1 fs) → IsNameAt (drop 1 fs) i n → (1 + i < length fs) × IsNameAt fs (1 + i) n
dropped_name fs i n l e =
    let long = length-drop 1 fs in
    (omega arith, sym (ap (λ (x : Entry). x.name) (get_or-drop 1 fs i no_entry)) ∙ e)

-- ---- the tree

pub merged_finished : (es fs : List Entry) (old other new : Names) (numbers : List ℕ) (f s : Forest) (m c : ℕ) → rows_in (texts_of old) es ≡ all_rows f → rows_in (texts_of other) fs ≡ all_rows s → AreNamed es (length (texts_of old)) → AreNamed fs (length (texts_of other)) → Joins old other new numbers → IsTree f → IsTree s → MayMerge f s → size f ≡ suc m → c ≡ count (first_kids f) → size f + size s < 4294967296
    → (let gs : List Entry = es ++ map (entry_behind numbers m c) (drop 1 fs) in IsFinished gs new × (tree_of (rows_in (texts_of new) gs) ≡ merged f s))
merged_finished es fs old other new numbers f s m c rows_f rows_s named_f named_s j t u may nodes entries small =
    let move : Entry → Entry = entry_behind numbers m c in
    let first : rows_in (texts_of new) es ≡ all_rows f = ap (λ (ts : List (List ℕ)). rows_in ts es) j.grown ∙ rows_grown (texts_of old) j.more es named_f ∙ rows_f in
    let second : rows_in (texts_of new) (map move (drop 1 fs)) ≡ map (row_behind m c) (drop 1 (all_rows s)) =
    rows_moved (texts_of other) (texts_of new) numbers m c (drop 1 fs) (λ i n l e. let q = dropped_name fs i n l e in (j.moved n (named_s (1 + i) n q.0 q.1)).1)
    ∙ ap (map (row_behind m c)) (sym (drop-map (row_in (texts_of other)) 1 fs))
    ∙ ap (λ (rs : List Row). map (row_behind m c) (drop 1 rs)) rows_s in
    let both : rows_in (texts_of new) (es ++ map move (drop 1 fs)) ≡ all_rows (merged f s) =
    map-append (row_in (texts_of new)) es (map move (drop 1 fs))
    ∙ ap (λ (rs : List Row). rs ++ rows_in (texts_of new) (map move (drop 1 fs))) first
    ∙ ap (λ (rs : List Row). all_rows f ++ rs) second
    ∙ sym (merged_rows f s m c (root_of f t) (root_of s u) nodes entries) in
    let grown : length (texts_of new) ≡ length (texts_of old) + length j.more = ap (λ (ts : List (List ℕ)). length ts) j.grown ∙ length-append (texts_of old) j.more in
    let long_f : length es ≡ size f = sym (length-rows_in (texts_of old) es) ∙ ap (λ (rs : List Row). length rs) rows_f ∙ length-rows 0 0 0 0 f in
    let long_s : length fs ≡ size s = sym (length-rows_in (texts_of other) fs) ∙ ap (λ (rs : List Row). length rs) rows_s ∙ length-rows 0 0 0 0 s in
    let some = ap (λ (g : Forest). size g) (root_of s u).whole in
    let all = length-append es (map move (drop 1 fs)) in
    let moved_long = length-map (drop 1 fs) move in
    let cut = length-drop 1 fs in
    finished_of (es ++ map move (drop 1 fs)) new (merged f s) both (IsTree-merged f s t u may) j.table
    (AreNamed-moved es (drop 1 fs) numbers m c (length (texts_of old)) (length (texts_of new)) named_f (omega arith) (λ i n l e. let q = dropped_name fs i n l e in (j.moved n (named_s (1 + i) n q.0 q.1)).0))
    (omega arith)

-- ---- of finished trees

count_size : (f : Forest) → count f ≤ size f
count_size Nil = omega arith
count_size (Node l kids rest) = let r = count_size rest in omega arith

-- the nodes below a root, and the entries of it, are fewer than all nodes
record Below (f : Forest) (c : ℕ) : Type 0 where
  count : c ≡ count (first_kids f)
  few : c < size f

below_root : (f : Forest) (c : ℕ) → IsTree f → c ≡ count (kids_at f 0) → Below f c
below_root f c t e =
    let whole = ap (λ (g : Forest). size g) (root_of f t).whole in
    let own : c ≡ count (first_kids f) = e ∙ ap (λ (g : Forest). count g) (root_kids f) in
    let few = count_size (first_kids f) in
    record { count = own; few = omega arith }

ix_tree : (es : List Entry) (ss ps bs : List ℕ) (ns : Names) (f : Forest) → IsIndexed es ss ps bs ns → tree_of (rows_in (texts_of ns) es) ≡ f → IsTree f
ix_tree es ss ps bs ns f x v = subst IsTree v x.tree

pub fits_behind : (fs : List Entry) (ss ps bs : List ℕ) (other : Names) (s f : Forest) (numbers : List ℕ) (m c : ℕ) → IsIndexed fs ss ps bs other → tree_of (rows_in (texts_of other) fs) ≡ s → length numbers ≡ length (texts_of other) → IsTree f → size f ≡ suc m → c ≡ count (kids_at f 0) → size f + size s < 4294967296 → (j : ℕ) (e : Entry) → j < length fs → e ≡ get_or fs j e → FitsBehind numbers m c e
fits_behind fs ss ps bs other s f numbers m c x v counted t nodes entries small j e l is =
    let ts : List (List ℕ) = texts_of other in
    let rows_s : rows_in ts fs ≡ all_rows s = ix_rows fs ss ps bs other s x v in
    let long : length fs ≡ size s = ix_size fs ss ps bs other s x v in
    let long_rows = length-rows 0 0 0 0 s in
    let r : Row = row_in ts e in
    let there : r ≡ get_or (all_rows s) j r = row_read ts fs j e l is ∙ ap (λ (rs : List Row). get_or rs j r) rows_s in
    let order = in_order s j r (omega arith) there in
    let index = order.0 in
    let low = order.1 in
    let few = tally-le r.under (take j (all_rows s)) in
    let cut : length (take j (all_rows s)) ≡ j = length-take-le j (all_rows s) (omega arith) in
    let below = (below_root f c t entries).few in
    record {
      named = λ n q. let k = x.named j n l (ap (λ (y : Entry). y.name) (sym (is ∙ get_or_default fs j e no_entry l)) ∙ q) in omega arith;
      under = omega arith;
      index = omega arith;
    }

pub joined_finished : (es : List Entry) (ss ps bs : List ℕ) (old : Names) (f : Forest) (fs : List Entry) (st pt bt : List ℕ) (other : Names) (s : Forest) (new : Names) (numbers : List ℕ) (c : ℕ) (gs : List Entry) → IsIndexed es ss ps bs old → tree_of (rows_in (texts_of old) es) ≡ f → IsIndexed fs st pt bt other → tree_of (rows_in (texts_of other) fs) ≡ s → Joins old other new numbers → MayMerge f s → c ≡ count (kids_at f 0) → size f + size s < 4294967296 → gs ≡ es ++ map (entry_behind numbers (length es - 1) c) (drop 1 fs) → IsFinished gs new × (tree_of (rows_in (texts_of new) gs) ≡ merged f s)
joined_finished es ss ps bs old f fs st pt bt other s new numbers c gs x v y w j may entries small is =
    let t : IsTree f = ix_tree es ss ps bs old f x v in
    let u : IsTree s = ix_tree fs st pt bt other s y w in
    let long : length es ≡ size f = ix_size es ss ps bs old f x v in
    let some = some_size f t in
    let nodes : size f ≡ suc (length es - 1) = omega arith in
    subst (λ (ks : List Entry). IsFinished ks new × (tree_of (rows_in (texts_of new) ks) ≡ merged f s)) (sym is)
    (merged_finished es fs old other new numbers f s (length es - 1) c (ix_rows es ss ps bs old f x v) (ix_rows fs st pt bt other s y w) x.named y.named j t u may nodes (below_root f c t entries).count small)
