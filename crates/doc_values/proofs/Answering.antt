-- What a finished tree keeps says what its nodes are.
use Rattle.std.proofs.Common.{◌≡◌, ℕ, zero, suc, ◌+◌, ◌-◌, ◌<◌, ◌≤◌, Bool, true, false, List, [], ◌++◌, length, take, drop, get_or, sym, ap, inl, inr, ◌∙◌, subst, arith, append-nil, Option, Some}
use Rattle.std.specs.Prelude.{slice_index, if◌then◌else◌, IfSome, sum}
use Rattle.std.proofs.Math.Seq.{take-length}
use Rattle.std.proofs.lemmas.List.{get_or_default, take_all, drop_all}
use Rattle.std.proofs.lemmas.Bool.{cases_lt}
use Rattle.key_names.specs.declared.names.Names.{Names}
use Rattle.doc_values.specs.Tree.{Label, Forest, Nil, Node, size, count, key_is, IsTree}
use Rattle.doc_values.specs.Places.{first_kids, label_at, kids_at, child_place, key_place}
use Rattle.doc_values.specs.code.Rows.{Row, all_rows, tree_of}
use Rattle.doc_values.specs.code.Entries.{Entry, named_in, row_in, rows_in, no_entry, AreNamed}
use Rattle.key_names.specs.code.Names.{texts_of, IsTable}
use Rattle.doc_values.specs.code.Index.{tally, below, AreInOrder, AreStarts, AreSlots, AreByName, AreNew, IsIndexed}
use Rattle.doc_values.proofs.Entries.{length-rows_in, row_read, AreStarts-texts, AreSlots-texts, AreByName-texts}
use Rattle.doc_values.proofs.Among.{length-rows, find_in, find_past}
use Rattle.doc_values.proofs.Slots.{below-suc, below-le, below-all, slot-fits}
use Rattle.doc_values.proofs.Standing.{IsRow, is_row, in_order, kids_counted, is_child}
use Rattle.doc_values.proofs.Filling.{sum_counts}

pub ix_rows : (es : List Entry) (ss ps bs : List ℕ) (ns : Names) (f : Forest) → IsIndexed es ss ps bs ns → tree_of (rows_in (texts_of ns) es) ≡ f → rows_in (texts_of ns) es ≡ all_rows f
ix_rows es ss ps bs ns f x v = x.whole ∙ ap all_rows v

pub ix_size : (es : List Entry) (ss ps bs : List ℕ) (ns : Names) (f : Forest) → IsIndexed es ss ps bs ns → tree_of (rows_in (texts_of ns) es) ≡ f → length es ≡ size f
ix_size es ss ps bs ns f x v = sym (length-rows_in (texts_of ns) es) ∙ ap (λ (t : List Row). length t) (ix_rows es ss ps bs ns f x v) ∙ length-rows 0 0 0 0 f

pub ix_row : (es : List Entry) (ss ps bs : List ℕ) (ns : Names) (f : Forest) (id : ℕ) (e : Entry) → IsIndexed es ss ps bs ns → tree_of (rows_in (texts_of ns) es) ≡ f → id < size f → e ≡ get_or es id e → IsRow f id (row_in (texts_of ns) e)
ix_row es ss ps bs ns f id e x v h is =
    let long = ix_size es ss ps bs ns f x v in
    let within : id < length es = omega arith in
    is_row f id (row_in (texts_of ns) e) h (row_read (texts_of ns) es id e within is ∙ ap (λ (t : List Row). get_or t id (row_in (texts_of ns) e)) (ix_rows es ss ps bs ns f x v))

pub below_within : (w : ℕ) (f : Forest) → below w (all_rows f) ≤ size f
below_within w f = let a = below-le w (all_rows f) in let b = length-rows 0 0 0 0 f in omega arith

pub below_last : (f : Forest) → below (size f + 1) (all_rows f) ≡ size f
below_last f =
    let len = length-rows 0 0 0 0 f in
    below-all (size f + 1) (all_rows f) (λ j r l e. let i = (is_row f j r (omega arith) e).low in omega arith) ∙ len

pub ix_end : (es : List Entry) (ss ps bs : List ℕ) (ns : Names) (f : Forest) (u : ℕ) → IsIndexed es ss ps bs ns → tree_of (rows_in (texts_of ns) es) ≡ f → u < length ss → slice_index ss u ≡ below (u + 1) (all_rows f)
ix_end es ss ps bs ns f u x v h =
    let same = x.same in
    let long = length-rows_in (texts_of ns) es in
    let n : suc u ≡ u + 1 = omega arith in
    x.starts u (omega arith) ∙ ap (λ w. below w (rows_in (texts_of ns) es)) n ∙ ap (below (u + 1)) (ix_rows es ss ps bs ns f x v)

pub count_is : (f : Forest) (id : ℕ) → id < size f → below (id + 1 + 1) (all_rows f) ≡ below (id + 1) (all_rows f) + count (kids_at f id)
count_is f id h =
    let n : suc (suc id) ≡ id + 1 + 1 = omega arith in
    let m : suc id ≡ id + 1 = omega arith in
    let a : below (id + 1 + 1) (all_rows f) ≡ below (suc (suc id)) (all_rows f) = ap (λ w. below w (all_rows f)) (sym n) in
    let b = below-suc (suc id) (all_rows f) in
    let c : below (suc id) (all_rows f) ≡ below (id + 1) (all_rows f) = ap (λ w. below w (all_rows f)) m in
    let d = kids_counted f id h in
    omega arith

pub record Child (f : Forest) (ps : List ℕ) (id i : ℕ) : Type 0 where
  pub bound : below (id + 1) (all_rows f) + i < length ps
  pub place : slice_index ps (below (id + 1) (all_rows f) + i) ≡ child_place (id + 1) (kids_at f id) i
  pub within : child_place (id + 1) (kids_at f id) i < size f

pub ix_child : (es : List Entry) (ss ps bs : List ℕ) (ns : Names) (f : Forest) (id i : ℕ) → IsIndexed es ss ps bs ns → tree_of (rows_in (texts_of ns) es) ≡ f → id < size f → i < count (kids_at f id) → Child f ps id i
ix_child es ss ps bs ns f id i x v h b =
    let rs : List Row = rows_in (texts_of ns) es in
    let count = length-rows_in (texts_of ns) es in
    let rows_is = ix_rows es ss ps bs ns f x v in
    let len = ix_size es ss ps bs ns f x v in
    let long = x.as_long in
    let m : suc id ≡ id + 1 = omega arith in
    let c = is_child f id i h b in
    let place : child_place (suc id) (kids_at f id) i ≡ child_place (id + 1) (kids_at f id) i = ap (λ w. child_place w (kids_at f id) i) m in
    let at : ℕ = child_place (suc id) (kids_at f id) i in
    let within = c.within in
    let there : at < length rs = omega arith in
    let is : c.row ≡ get_or rs at c.row = c.is ∙ ap (λ (t : List Row). get_or t at c.row) (sym rows_is) in
    let order : AreInOrder rs = subst AreInOrder (sym rows_is) (in_order f) in
    let fits = slot-fits at rs c.row order there is in
    let under : c.row.under ≡ id + 1 = c.under ∙ m in
    let index = c.index in
    let start : below c.row.under rs ≡ below (id + 1) (all_rows f) = ap (λ w. below w rs) under ∙ ap (below (id + 1)) rows_is in
    let slot : below c.row.under rs + c.row.index ≡ below (id + 1) (all_rows f) + i = omega arith in
    record {
      bound = omega arith;
      place = ap (slice_index ps) (sym slot) ∙ x.slots at c.row there is ∙ place;
      within = omega arith;
    }

size_in : (f : Forest) (n : ℕ) → n < size f → n + 1 + size (kids_at f n) ≤ size f
size_in Nil n h = absurd (omega arith)
size_in (Node l kids rest) zero h = omega arith
size_in (Node l kids rest) (suc n) h = elim (cases_lt n (size kids)) [
  | inl k ↦ let a = size_in kids n k in let e = ap (λ (g : Forest). size (first_kids g)) (find_in l kids rest n k) in omega arith
  | inr k ↦ let a = size_in rest (n - size kids) (omega arith) in let e = ap (λ (g : Forest). size (first_kids g)) (find_past l kids rest n k) in omega arith
]

key_if : (at e : ℕ) (o : Option ℕ) (b : Bool) → at < e → IfSome o (λ n. n < e) → IfSome (if b then Some at else o) (λ n. n < e)
key_if at e o true h k = h
key_if at e o false h k = k

key_within : (at e : ℕ) (f : Forest) (k : List ℕ) → at + size f ≤ e → IfSome (key_place at f k) (λ n. n < e)
key_within at e Nil k h = tt
key_within at e (Node l kids rest) k h = key_if at e (key_place (at + 1 + size kids) rest k) (key_is l.key k) (omega arith) (key_within (at + 1 + size kids) e rest k (omega arith))

pub key_in_tree : (f : Forest) (id : ℕ) (k : List ℕ) → id < size f → IfSome (key_place (id + 1) (kids_at f id) k) (λ n. n < size f)
key_in_tree f id k h = key_within (id + 1) (size f) (kids_at f id) k (size_in f id h)

-- the counts, summed
pub sum_small : (rs : List Row) (counts : List ℕ) → ((w : ℕ) → w < length rs → slice_index counts w ≡ tally w rs) → length rs ≡ length counts → sum counts ≤ length rs
sum_small rs counts h len =
    let a : sum (take (length rs) counts) ≡ below (length rs) rs = sum_counts rs counts h len (length rs) (omega arith) in
    let whole : take (length rs) counts ≡ counts = ap (λ n. take n counts) len ∙ take-length counts in
    let b = ap (λ (t : List ℕ). sum t) whole in
    let c = below-le (length rs) rs in
    omega arith

pub starts_are : (rs : List Row) (counts starts : List ℕ) → ((w : ℕ) → w < length rs → slice_index counts w ≡ tally w rs) → length rs ≡ length counts → ((w : ℕ) → w < length counts → slice_index starts w ≡ sum (take (w + 1) counts)) → AreStarts rs starts
starts_are rs counts starts h len sums = λ w b. let n : suc w ≡ w + 1 = omega arith in sums w (omega arith) ∙ ap (λ m. sum (take m counts)) (sym n) ∙ sum_counts rs counts h len (suc w) b

-- the key of a node by its name
pub ix_key : (es : List Entry) (ss ps bs : List ℕ) (ns : Names) (f : Forest) (id : ℕ) (e : Entry) → IsIndexed es ss ps bs ns → tree_of (rows_in (texts_of ns) es) ≡ f → id < size f → e ≡ get_or es id e → (label_at f id).key ≡ named_in (texts_of ns) e.name
ix_key es ss ps bs ns f id e x v h is = ap (λ (l : Label). l.key) (ix_row es ss ps bs ns f id e x v h is).label

pub ix_named : (es : List Entry) (ss ps bs : List ℕ) (ns : Names) (f : Forest) (id n : ℕ) (e : Entry) → IsIndexed es ss ps bs ns → tree_of (rows_in (texts_of ns) es) ≡ f → id < size f → e ≡ get_or es id e → e.name ≡ Some n → n < length (texts_of ns)
ix_named es ss ps bs ns f id n e x v h is named =
    let long = ix_size es ss ps bs ns f x v in
    let within : id < length es = omega arith in
    x.named id n within (ap (λ (q : Entry). q.name) (sym (is ∙ get_or_default es id e no_entry within)) ∙ named)

-- the same texts by another table
pub IsIndexed-texts : (es : List Entry) (ss ps bs : List ℕ) (old new : Names) → IsTable new → texts_of new ≡ texts_of old → IsIndexed es ss ps bs old → IsIndexed es ss ps bs new
IsIndexed-texts es ss ps bs old new t e x =
    let rows : rows_in (texts_of old) es ≡ rows_in (texts_of new) es = ap (λ (us : List (List ℕ)). rows_in us es) (sym e) in
    record {
      whole = subst (λ (rs : List Row). rs ≡ all_rows (tree_of rs)) rows x.whole;
      tree = subst (λ (rs : List Row). IsTree (tree_of rs)) rows x.tree;
      starts = subst (λ (rs : List Row). AreStarts rs ss) rows x.starts;
      slots = subst (λ (rs : List Row). AreSlots rs ps) rows x.slots;
      by_name = subst (λ (rs : List Row). AreByName es rs ps bs) rows x.by_name;
      new = subst AreNew rows x.new;
      table = t;
      named = subst (λ (us : List (List ℕ)). AreNamed es (length us)) (sym e) x.named;
      same = x.same;
      as_long = x.as_long;
      ordered = x.ordered;
      small = x.small;
    }

-- what a finished tree keeps, from what its parts are without the texts of keys
pub IsIndexed-of : (es : List Entry) (ss ps bs : List ℕ) (ns : Names) → rows_in (texts_of ns) es ≡ all_rows (tree_of (rows_in (texts_of ns) es)) → IsTree (tree_of (rows_in (texts_of ns) es)) → AreStarts (rows_in [] es) ss → AreSlots (rows_in [] es) ps → AreByName es (rows_in [] es) ps bs → AreNew (rows_in (texts_of ns) es) → IsTable ns → AreNamed es (length (texts_of ns)) → length es ≡ length ss → length es ≡ length ps → length es ≡ length bs → length es < 4294967295 → IsIndexed es ss ps bs ns
IsIndexed-of es ss ps bs ns whole tree starts slots by_name new table named same as_long ordered small = record {
  whole = whole;
  tree = tree;
  starts = AreStarts-texts [] (texts_of ns) es ss starts;
  slots = AreSlots-texts [] (texts_of ns) es ps slots;
  by_name = AreByName-texts [] (texts_of ns) es ps bs by_name;
  new = new;
  table = table;
  named = named;
  same = same;
  as_long = as_long;
  ordered = ordered;
  small = small;
}

-- all of a vector is written over
pub slice_put : (n : ℕ) (xs ys : List ℕ) → length xs ≡ length ys → n ≡ length ys → take n (xs ++ drop (length xs) ys) ≡ xs
slice_put n xs ys e m = ap (λ t. take n (xs ++ t)) (drop_all (length xs) ys (omega arith)) ∙ ap (take n) (append-nil xs) ∙ take_all n xs (omega arith)

pub IsIndexed-put : (es : List Entry) (ss ps bs rs qs cs : List ℕ) (ns : Names) → rs ≡ ss → qs ≡ ps → cs ≡ bs → IsIndexed es ss ps bs ns → IsIndexed es rs qs cs ns
IsIndexed-put es ss ps bs rs qs cs ns e f g x = subst (λ t. IsIndexed es t qs cs ns) (sym e) (subst (λ t. IsIndexed es ss t cs ns) (sym f) (subst (λ t. IsIndexed es ss ps t ns) (sym g) x))
