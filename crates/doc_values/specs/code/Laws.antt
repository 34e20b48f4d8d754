-- A tree and the list of its rows determine each other.
use Rattle.std.proofs.Common.{◌≡◌, ℕ, suc, ◌+◌, ◌≤◌, true, false, List, [], ◌∷◌, ◌++◌, length, refl, sym, ap, inl, inr, ◌∙◌, arith}
use Rattle.std.specs.Prelude.{nat_lt}
use Rattle.std.proofs.lemmas.Bool.{lt-ltb, le-ltb, cases_lt}
use Rattle.doc_values.specs.Tree.{Label, Forest, Nil, Node, snoc, joined, size}
use Rattle.doc_values.specs.Unfinished.{Level}
use Rattle.doc_values.specs.code.Rows.{Row, rows, all_rows, Open, nothing, entered, closed_to, placed, placed_all, tree_of}

pub joined-Nil : (f : Forest) → joined f Nil ≡ f
joined-Nil Nil = refl
joined-Nil (Node l kids rest) = ap (Node l kids) (joined-Nil rest)

pub joined-snoc : (f : Forest) (l : Label) (kids g : Forest) → joined (snoc f l kids) g ≡ joined f (Node l kids g)
joined-snoc Nil l kids g = refl
joined-snoc (Node m ks rest) l kids g = ap (Node m ks) (joined-snoc rest l kids g)

pub placed_all-append : (o : Open) (a b : List Row) → placed_all o (a ++ b) ≡ placed_all (placed_all o a) b
placed_all-append o [] b = refl
placed_all-append o (r ∷ a) b = placed_all-append (placed o r) a b

-- closing at a depth
abbrev pub closed_at : ℕ → Open → Open
closed_at d o = closed_to d o.outer o.done

-- where as many are open, nothing is closed
pub closed_to-same : (d : ℕ) (v : List Level) (done : Forest) → length v ≤ d → closed_to d v done ≡ record { outer = v; done = done }
closed_to-same d [] done h = refl
closed_to-same d (x ∷ v) done h = let e : nat_lt d (suc (length v)) ≡ false = le-ltb d (suc (length v)) (omega arith) in rw e refl

-- where more are open, the innermost is closed
pub closed_to-more : (d : ℕ) (x : Level) (v : List Level) (done : Forest) → d ≤ length v → closed_to d (x ∷ v) done ≡ closed_to d v (snoc x.before x.label done)
closed_to-more d x v done h = let e : nat_lt d (suc (length v)) ≡ true = lt-ltb d (suc (length v)) (omega arith) in rw e refl

pub closed_to-length : (d : ℕ) (v : List Level) (done : Forest) → d ≤ length v → length (closed_to d v done).outer ≡ d
closed_to-length d [] done h = omega arith
closed_to-length d (x ∷ v) done h =
    elim (cases_lt d (suc (length v))) [
      | inl l ↦ ap (λ (o : Open). length o.outer) (closed_to-more d x v done (omega arith)) ∙ closed_to-length d v (snoc x.before x.label done) (omega arith)
      | inr l ↦ ap (λ (o : Open). length o.outer) (closed_to-same d (x ∷ v) done (omega arith)) ∙ omega arith
    ]

pub closed_to-shorter : (d : ℕ) (v : List Level) (done : Forest) → length (closed_to d v done).outer ≤ length v
closed_to-shorter d [] done = omega arith
closed_to-shorter d (x ∷ v) done =
    elim (cases_lt d (suc (length v))) [
      | inl l ↦ let e = ap (λ (o : Open). length o.outer) (closed_to-more d x v done (omega arith)) in let s = closed_to-shorter d v (snoc x.before x.label done) in omega arith
      | inr l ↦ let e = ap (λ (o : Open). length o.outer) (closed_to-same d (x ∷ v) done (omega arith)) in omega arith
    ]

-- two closings are one
pub closed_to-twice : (d e : ℕ) (v : List Level) (done : Forest) → d ≤ e → closed_at d (closed_to e v done) ≡ closed_to d v done
closed_to-twice d e [] done h = refl
closed_to-twice d e (x ∷ v) done h =
    elim (cases_lt e (suc (length v))) [
      | inl l ↦ ap (closed_at d) (closed_to-more e x v done (omega arith)) ∙ closed_to-twice d e v (snoc x.before x.label done) h ∙ sym (closed_to-more d x v done (omega arith))
      | inr l ↦ ap (closed_at d) (closed_to-same e (x ∷ v) done (omega arith))
    ]

-- the values of a forest behind the complete ones
abbrev pub grown : Forest → Open → Open
grown f o = record { outer = o.outer; done = joined o.done f }

pub placed_rows : (d u n i : ℕ) (f : Forest) (o : Open) → d ≤ length o.outer → closed_at d (placed_all o (rows d u n i f)) ≡ grown f (closed_at d o)
placed_rows d u n i Nil o h = let c = closed_at d o in ap (λ g. let r : Open = record { outer = c.outer; done = g } in r) (sym (joined-Nil c.done))
placed_rows d u n i (Node l kids rest) o h =
    let c : Open = closed_at d o in
    let deep : length c.outer ≡ d = closed_to-length d o.outer o.done h in
    let o1 : Open = entered l c in
    let inner : List Row = rows (suc d) (suc n) (suc n) 0 kids in
    let next : List Row = rows d u (suc (n + size kids)) (suc i) rest in
    let o2 : Open = placed_all o1 inner in
    let split : placed_all o1 (inner ++ next) ≡ placed_all o2 next = placed_all-append o1 inner next in
    let in_kids : closed_at (suc d) o2 ≡ grown kids o1 = placed_rows (suc d) (suc n) (suc n) 0 kids o1 (omega arith) ∙ ap (grown kids) (closed_to-same (suc d) o1.outer o1.done (omega arith)) in
    let long : length (closed_at (suc d) o2).outer ≡ suc d = ap (λ (x : Open). length x.outer) in_kids ∙ ap suc deep in
    let shorter : length (closed_at (suc d) o2).outer ≤ length o2.outer = closed_to-shorter (suc d) o2.outer o2.done in
    let h2 : d ≤ length o2.outer = omega arith in
    let in_rest : closed_at d (placed_all o2 next) ≡ grown rest (closed_at d o2) = placed_rows d u (suc (n + size kids)) (suc i) rest o2 h2 in
    let up : closed_at d o2 ≡ record { outer = c.outer; done = snoc c.done l kids } = sym (closed_to-twice d (suc d) o2.outer o2.done (omega arith)) ∙ ap (closed_at d) in_kids ∙ closed_to-more d (record { label = l; before = c.done }) c.outer kids (omega arith) ∙ closed_to-same d c.outer (snoc c.done l kids) (omega arith) in
    ap (closed_at d) split ∙ in_rest ∙ ap (grown rest) up ∙ ap (λ g. let r : Open = record { outer = c.outer; done = g } in r) (joined-snoc c.done l kids rest)

-- the tree of the rows of a tree is that tree
pub tree_of-rows : (f : Forest) → tree_of (all_rows f) ≡ f
tree_of-rows f = ap (λ (o : Open). o.done) (placed_rows 0 0 0 0 f nothing (omega arith))
