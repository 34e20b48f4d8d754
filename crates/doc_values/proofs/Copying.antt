-- The tree below a node, copied node by node.
use Rattle.std.proofs.Common.{◌≡◌, ℕ, zero, suc, ◌+◌, ◌-◌, ◌<◌, ◌≤◌, List, [], ◌∷◌, ◌++◌, map, length, take, drop, get_or, sym, ap, inl, inr, ◌∙◌, subst, arith, length-append, Option, None, Some}
use Rattle.std.proofs.lemmas.Bool.{cases_lt}
use Rattle.std.proofs.lemmas.List.{map-append, get_or_at, get_or_append_left, get_or_default, get_or-drop, length-drop, take_more}
use Rattle.doc_values.specs.declared.kind.Kind.{Kind}
use Rattle.key_names.specs.declared.names.Names.{Names}
use Rattle.doc_values.specs.declared.node.Seat.{Seat}
use Rattle.doc_values.specs.Tree.{Label, Forest, size, IsTree}
use Rattle.doc_values.specs.Places.{label_at, kids_at, tree_at}
use Rattle.doc_values.specs.code.Rows.{Row, all_rows, tree_of}
use Rattle.doc_values.specs.code.Entries.{Entry, named_in, row_in, rows_in, no_entry, AreNamed}
use Rattle.key_names.specs.code.Names.{texts_of, IsTable, Has}
use Rattle.doc_values.specs.code.Index.{IsFinished, IsIndexed, no_row}
use Rattle.doc_values.specs.code.Parts.{row_below, seated, Notes}
use Rattle.doc_values.proofs.Among.{row, length-rows}
use Rattle.doc_values.proofs.Entries.{row_at, rows_grown}
use Rattle.doc_values.proofs.NamedKeys.{some_same}
use Rattle.doc_values.proofs.Answering.{ix_rows, ix_size, ix_row}
use Rattle.doc_values.proofs.Finished.{finished_of}
use Rattle.doc_values.proofs.Parts.{depth_at, extent, top_row, rows_of_part, IsTree-part}

-- the depth of a row by the nodes
pub depth_stored : (es : List Entry) (ss ps bs : List ℕ) (ns : Names) (f : Forest) (k : ℕ) → IsIndexed es ss ps bs ns → tree_of (rows_in (texts_of ns) es) ≡ f → k < size f → depth_at f k ≡ (get_or es k no_entry).depth
depth_stored es ss ps bs ns f k x v h =
    let long = ix_size es ss ps bs ns f x v in
    ap (λ (t : List Row). (get_or t k no_row).depth) (sym (ix_rows es ss ps bs ns f x v)) ∙ ap (λ (r : Row). r.depth) (row_at (texts_of ns) es k no_row (omega arith))

-- the same of a node that was read
pub depth_read : (es : List Entry) (ss ps bs : List ℕ) (ns : Names) (f : Forest) (k : ℕ) (e : Entry) → IsIndexed es ss ps bs ns → tree_of (rows_in (texts_of ns) es) ≡ f → k < size f → e ≡ get_or es k e → depth_at f k ≡ e.depth
depth_read es ss ps bs ns f k e x v h is =
    let long = ix_size es ss ps bs ns f x v in
    depth_stored es ss ps bs ns f k x v h ∙ ap (λ (y : Entry). y.depth) (sym (is ∙ get_or_default es k e no_entry (omega arith)))

-- the row of a node that was read
row_there : (es : List Entry) (ss ps bs : List ℕ) (ns : Names) (f : Forest) (k : ℕ) (e : Entry) → IsIndexed es ss ps bs ns → tree_of (rows_in (texts_of ns) es) ≡ f → k < size f → e ≡ get_or es k e → get_or (all_rows f) k no_row ≡ row_in (texts_of ns) e
row_there es ss ps bs ns f k e x v h is =
    let long = ix_size es ss ps bs ns f x v in
    ap (λ (t : List Row). get_or t k no_row) (sym (ix_rows es ss ps bs ns f x v)) ∙ row_at (texts_of ns) es k no_row (omega arith) ∙ ap (row_in (texts_of ns)) (sym (is ∙ get_or_default es k e no_entry (omega arith)))

-- a node in the node with a number stands deeper and under a higher number
pub record IsInside (f : Forest) (id : ℕ) (e : Entry) : Type 0 where
  pub deep : depth_at f id < e.depth
  pub high : id < e.under

pub inside_of : (es : List Entry) (ss ps bs : List ℕ) (ns : Names) (f : Forest) (id k : ℕ) (e : Entry) → IsIndexed es ss ps bs ns → tree_of (rows_in (texts_of ns) es) ≡ f → id < size f → id < k → k < id + 1 + size (kids_at f id) → e ≡ get_or es k e → IsInside f id e
inside_of es ss ps bs ns f id k e x v h from below is =
    let a = extent f id h in
    let within = a.within in
    let i = a.inner k from below in
    let r = row_there es ss ps bs ns f k e x v (omega arith) is in
    record { deep = subst (λ (q : Row). depth_at f id < q.depth) r i.0; high = subst (λ (q : Row). id < q.under) r i.1 }

-- the nodes up to a number are copied
pub record Copying (f : Forest) (id : ℕ) (names : Names) (copied : List Entry) (j : ℕ) : Type 0 where
  pub table : IsTable names
  pub named : AreNamed copied (length (texts_of names))
  pub long : length copied + id ≡ j
  pub rows : rows_in (texts_of names) copied ≡ top_row (label_at f id) ∷ map (row_below (depth_at f id) id) (take (j - (id + 1)) (drop (id + 1) (all_rows f)))

none_some : (n : ℕ) → None ≡ Some n → ⊥
none_some n e = cc

-- a root's node
abbrev pub top_entry : Entry → Entry
top_entry e = seated (record { depth = 0; under = 0; index = 0 }) None e

named_top : (e : Entry) (count : ℕ) → AreNamed (top_entry e ∷ []) count
named_top e count zero n l h = absurd (none_some n h)
named_top e count (suc i) n l h = absurd (omega arith)

abbrev row_with : Kind → List ℕ → ℕ → Row
row_with k t at = row 0 0 0 (record { kind = k; text = t; key = None; at = at })

pub copying_start : (es : List Entry) (ss ps bs : List ℕ) (ns : Names) (f : Forest) (id : ℕ) (e : Entry) (names : Names) → IsIndexed es ss ps bs ns → tree_of (rows_in (texts_of ns) es) ≡ f → id < size f → e ≡ get_or es id e → IsTable names → Copying f id names (top_entry e ∷ []) (id + 1)
copying_start es ss ps bs ns f id e names x v h is t =
    let label : label_at f id ≡ (row_in (texts_of ns) e).label = (ix_row es ss ps bs ns f id e x v h is).label in
    let z : 0 ≡ id + 1 - (id + 1) = omega arith in
    let own : row_in (texts_of names) (top_entry e) ≡ top_row (label_at f id) = ap (λ (l : Label). row_with l.kind l.text l.at) (sym label) in
    record {
      table = t;
      named = named_top e (length (texts_of names));
      long = omega arith;
      rows = ap (λ (r : Row). r ∷ []) own ∙ ap (λ m. top_row (label_at f id) ∷ map (row_below (depth_at f id) id) (take m (drop (id + 1) (all_rows f)))) z;
    }

abbrev row_keyed : ℕ → ℕ → Entry → Option (List ℕ) → Row
row_keyed d m e k = row (e.depth - d) (e.under - m) e.index (record { kind = e.kind; text = e.text; key = k; at = e.at })

named_more : (es : List Entry) (e : Entry) (before count : ℕ) → AreNamed es before → before ≤ count → ((n : ℕ) → e.name ≡ Some n → n < count) → AreNamed (es ++ e ∷ []) count
named_more es e before count old more own i n l h =
    let long = length-append es (e ∷ []) in
    elim (cases_lt i (length es)) [
      | inl k ↦ let q = old i n k (sym (ap (λ (y : Entry). y.name) (get_or_append_left es (e ∷ []) no_entry i k)) ∙ h) in omega arith
      | inr k ↦ let place : length es ≡ i = omega arith in own n (sym (ap (λ (y : Entry). y.name) (get_or_at es e [] no_entry i place)) ∙ h)
    ]

pub copying_step : (es : List Entry) (ss ps bs : List ℕ) (ns : Names) (f : Forest) (id j : ℕ) (e : Entry) (names after : Names) (copied : List Entry) (s : Seat) (found : Option ℕ) → IsIndexed es ss ps bs ns → tree_of (rows_in (texts_of ns) es) ≡ f → id < j → j < size f → e ≡ get_or es j e → Copying f id names copied j → Notes ns names after e.name found → s ≡ record { depth = e.depth - depth_at f id; under = e.under - id; index = e.index } → Copying f id after (copied ++ seated s found e ∷ []) (j + 1)
copying_step es ss ps bs ns f id j e names after copied s found x v from h is c w seat =
    let d : ℕ = depth_at f id in
    let top : Row = top_row (label_at f id) in
    let move : Row → Row = row_below d id in
    let src : List Row = drop (id + 1) (all_rows f) in
    let m : ℕ = j - (id + 1) in
    let long = length-rows 0 0 0 0 f in
    let src_long = length-drop (id + 1) (all_rows f) in
    let texts_long : length (texts_of after) ≡ length (texts_of names) + length w.more = ap (λ (ts : List (List ℕ)). length ts) w.grown ∙ length-append (texts_of names) w.more in
    let old : rows_in (texts_of after) copied ≡ rows_in (texts_of names) copied = ap (λ (ts : List (List ℕ)). rows_in ts copied) w.grown ∙ rows_grown (texts_of names) w.more copied c.named in
    let place : id + 1 + m ≡ j = omega arith in
    let next : j + 1 - (id + 1) ≡ m + 1 = omega arith in
    let read : get_or src m no_row ≡ row_in (texts_of ns) e = get_or-drop (id + 1) (all_rows f) m no_row ∙ ap (λ k. get_or (all_rows f) k no_row) place ∙ row_there es ss ps bs ns f j e x v h is in
    let one : row_in (texts_of after) (seated s found e) ≡ move (get_or src m no_row) =
    ap (λ (q : Seat). row_in (texts_of after) (seated q found e)) seat
    ∙ ap (row_keyed d id e) w.same
    ∙ ap move (sym read) in
    let more : take (j + 1 - (id + 1)) src ≡ take m src ++ get_or src m no_row ∷ [] = ap (λ k. take k src) next ∙ take_more src m no_row (omega arith) in
    let copied_long = length-append copied (seated s found e ∷ []) in
    let counted = c.long in
    record {
      table = w.table;
      named = named_more copied (seated s found e) (length (texts_of names)) (length (texts_of after)) c.named (omega arith) w.within;
      long = omega arith;
      rows =
          map-append (row_in (texts_of after)) copied (seated s found e ∷ [])
          ∙ ap (λ (t : List Row). t ++ row_in (texts_of after) (seated s found e) ∷ []) (old ∙ c.rows)
          ∙ ap (λ (r : Row). (top ∷ map move (take m src)) ++ r ∷ []) one
          ∙ ap (λ (t : List Row). top ∷ t) (sym (map-append move (take m src) (get_or src m no_row ∷ [])) ∙ ap (map move) (sym more));
    }

-- all nodes of the part
pub copying_end : (es : List Entry) (ss ps bs : List ℕ) (ns : Names) (f : Forest) (id j : ℕ) (names : Names) (copied : List Entry) → IsIndexed es ss ps bs ns → tree_of (rows_in (texts_of ns) es) ≡ f → id < size f → j ≡ id + 1 + size (kids_at f id) → Copying f id names copied j → IsFinished copied names × (tree_of (rows_in (texts_of names) copied) ≡ tree_at f id)
copying_end es ss ps bs ns f id j names copied x v h end c =
    let a = extent f id h in
    let within = a.within in
    let n : j - (id + 1) ≡ size (kids_at f id) = omega arith in
    let rows = c.rows ∙ ap (λ m. top_row (label_at f id) ∷ map (row_below (depth_at f id) id) (take m (drop (id + 1) (all_rows f)))) n ∙ sym (rows_of_part f id h) in
    let long = c.long in
    let whole = ix_size es ss ps bs ns f x v in
    let small = x.small in
    finished_of copied names (tree_at f id) rows (IsTree-part f id (subst IsTree v x.tree) h) c.table c.named (omega arith)

-- the name of a key is noted where its text is a name
pub notes_found : (own old new : Names) (name : Option ℕ) (m n : ℕ) (k : List ℕ) → name ≡ Some m → k ≡ get_or (texts_of own) m [] → Has old new k n → Notes own old new name (Some n)
notes_found own old new name m n k e f h = record {
  table = h.table;
  more = h.more;
  grown = h.grown;
  within = λ i q. subst (λ j. j < length (texts_of new)) (some_same n i q) h.within;
  same = ap (λ t. let o : Option (List ℕ) = Some t in o) (h.text ∙ f) ∙ ap (named_in (texts_of own)) (sym e);
}

-- numbers from that behind the root up to that behind the last node in it
pub from_next : (id j : ℕ) → id + 1 ≤ j → id < j
from_next id j h = omega arith

pub inside_all : (j e k s : ℕ) → j < e → e ≡ k → k ≤ s → j < s
inside_all j e k s h is within = omega arith

pub ends_at : (id j e s : ℕ) → (id + 1 ≤ e → j ≤ e) → e ≤ j → e ≡ id + 1 + s → j ≡ id + 1 + s
ends_at id j e s up h is =
    let low : id + 1 ≤ e = omega arith in
    let within : j ≤ e = up low in
    omega arith

-- what is read of a node in the root is no lower than what is read of the root
pub above_root : (own root e node : ℕ) → own ≡ root → own < e → node ≡ e → root ≤ node
above_root own root e node is above here = omega arith
