-- Values side by side by their indexes, and the nodes of a tree that they are: by induction on the tree.
use Rattle.std.proofs.Common.{◌≡◌, ℕ, zero, suc, ◌+◌, ◌-◌, ◌<◌, ◌≤◌, true, false, refl, sym, ap, ap₂, ◌∙◌, arith, inl, inr}
use Rattle.std.specs.Prelude.{nat_lt}
use Rattle.std.proofs.lemmas.Bool.{lt-ltb, le-ltb, cases_lt}
use Rattle.doc_values.specs.Tree.{Label, Forest, Nil, Node, size, count}
use Rattle.doc_values.specs.Places.{find, first_label, first_kids, label_at, kids_at, child_place}

-- the values from an index on
abbrev pub from_index : Forest → ℕ → Forest
from_index f zero = f
from_index Nil (suc i) = Nil
from_index (Node l kids rest) (suc i) = from_index rest i

find_in : (l : Label) (kids rest : Forest) (n : ℕ) → n < size kids → find (Node l kids rest) (suc n) ≡ find kids n
find_in l kids rest n h = let e : nat_lt n (size kids) ≡ true = lt-ltb n (size kids) h in rw e refl

find_past : (l : Label) (kids rest : Forest) (n : ℕ) → size kids ≤ n → find (Node l kids rest) (suc n) ≡ find rest (n - size kids)
find_past l kids rest n h = let e : nat_lt n (size kids) ≡ false = le-ltb n (size kids) h in rw e refl

-- what stands in a node ends before the nodes behind it
within : (f : Forest) (p : ℕ) → p < size f → p + size (kids_at f p) < size f
within Nil p h = omega arith
within (Node l kids rest) zero h = omega arith
within (Node l kids rest) (suc p) h =
    elim (cases_lt p (size kids)) [
      | inl low ↦
          let e : size (kids_at (Node l kids rest) (suc p)) ≡ size (kids_at kids p) = ap (λ g. size (first_kids g)) (find_in l kids rest p low) in
          let w = within kids p low in
          omega arith
      | inr high ↦
          let bound : p - size kids < size rest = omega arith in
          let e : size (kids_at (Node l kids rest) (suc p)) ≡ size (kids_at rest (p - size kids)) = ap (λ g. size (first_kids g)) (find_past l kids rest p high) in
          let w = within rest (p - size kids) bound in
          omega arith
    ]

-- a node in a node
find_kids : (f : Forest) (p q : ℕ) → p < size f → q < size (kids_at f p) → find f (p + 1 + q) ≡ find (kids_at f p) q
find_kids Nil p q h k = absurd (omega arith)
find_kids (Node l kids rest) zero q h k = let e : 0 + 1 + q ≡ suc q = omega arith in ap (find (Node l kids rest)) e ∙ find_in l kids rest q k
find_kids (Node l kids rest) (suc p) q h k =
    let next : suc p + 1 + q ≡ suc (p + 1 + q) = omega arith in
    ap (find (Node l kids rest)) next
    ∙ elim (cases_lt p (size kids)) [
      | inl low ↦
          let e : kids_at (Node l kids rest) (suc p) ≡ kids_at kids p = ap first_kids (find_in l kids rest p low) in
          let inner : q < size (kids_at kids p) = rw (← e) k in
          let w = within kids p low in
          find_in l kids rest (p + 1 + q) (omega arith) ∙ find_kids kids p q low inner ∙ ap (λ g. find g q) (sym e)
      | inr high ↦
          let e : kids_at (Node l kids rest) (suc p) ≡ kids_at rest (p - size kids) = ap first_kids (find_past l kids rest p high) in
          let bound : p - size kids < size rest = omega arith in
          let inner : q < size (kids_at rest (p - size kids)) = rw (← e) k in
          let same : p + 1 + q - size kids ≡ p - size kids + 1 + q = omega arith in
          find_past l kids rest (p + 1 + q) (omega arith) ∙ ap (find rest) same ∙ find_kids rest (p - size kids) q bound inner ∙ ap (λ g. find g q) (sym e)
    ]

-- the value at an index: its number among its like, and what is found there
record IsChildAt (g : Forest) (at i place : ℕ) : Type 0 where
  number : ℕ
  moved : place ≡ at + number
  inside : number < size g
  found : find g number ≡ from_index g i

child_at : (g : Forest) (at i : ℕ) → i < count g → IsChildAt g at i (child_place at g i)
child_at Nil at i h = absurd (omega arith)
child_at (Node l kids rest) at zero h = record { number = 0; moved = omega arith; inside = omega arith; found = refl }
child_at (Node l kids rest) at (suc i) h =
    let r = child_at rest (at + 1 + size kids) i (omega arith) in
    let m = r.moved in
    let n = r.inside in
    record {
      number = suc (size kids + r.number);
      moved = omega arith;
      inside = omega arith;
      found = let e : size kids + r.number - size kids ≡ r.number = omega arith in find_past l kids rest (size kids + r.number) (omega arith) ∙ ap (find rest) e ∙ r.found;
    }

-- the value at an index in a node of a tree
record IsChild (f : Forest) (p i place : ℕ) : Type 0 where
  found : find f place ≡ from_index (kids_at f p) i
  less : size (kids_at f place) < size (kids_at f p)

child_found : (f : Forest) (p i place : ℕ) → p < size f → IsChildAt (kids_at f p) (p + 1) i place → IsChild f p i place
child_found f p i place h c =
    let e : find f place ≡ find (kids_at f p) c.number = ap (find f) c.moved ∙ find_kids f p c.number h c.inside in
    let w = within (kids_at f p) c.number c.inside in
    let s : size (kids_at f place) ≡ size (kids_at (kids_at f p) c.number) = ap (λ g. size (first_kids g)) e in
    record { found = e ∙ c.found; less = omega arith }

child_of : (f : Forest) (p i : ℕ) → p < size f → i < count (kids_at f p) → IsChild f p i (child_place (p + 1) (kids_at f p) i)
child_of f p i h k = child_found f p i (child_place (p + 1) (kids_at f p) i) h (child_at (kids_at f p) (p + 1) i k)

-- the node that a cursor gives for it
pub record IsAt (f : Forest) (p i : ℕ) (tree : Forest) (place : ℕ) : Type 0 where
  pub label : label_at tree place ≡ first_label (from_index (kids_at f p) i)
  pub kids : kids_at tree place ≡ first_kids (from_index (kids_at f p) i)
  pub less : size (kids_at tree place) < size (kids_at f p)

pub is_at : (f : Forest) (p i : ℕ) (tree : Forest) (place : ℕ) → p < size f → i < count (kids_at f p) → tree ≡ f → place ≡ child_place (p + 1) (kids_at f p) i → IsAt f p i tree place
is_at f p i tree place h k same is =
    let c = child_of f p i h k in
    let e : find tree place ≡ from_index (kids_at f p) i = ap₂ find same is ∙ c.found in
    let s : size (kids_at tree place) ≡ size (kids_at f (child_place (p + 1) (kids_at f p) i)) = ap₂ (λ t n. size (kids_at t n)) same is in
    let less = c.less in
    record { label = ap first_label e; kids = ap first_kids e; less = omega arith }

-- the values from an index on begin with the value there
pub index_step : (f : Forest) (i : ℕ) → i < count f → from_index f i ≡ Node (first_label (from_index f i)) (first_kids (from_index f i)) (from_index f (i + 1))
index_step Nil i h = absurd (omega arith)
index_step (Node l kids rest) zero h = refl
index_step (Node l kids rest) (suc i) h = let e : suc i + 1 ≡ suc (i + 1) = omega arith in rw e (index_step rest i (omega arith))

pub index_end : (f : Forest) (i : ℕ) → count f ≤ i → from_index f i ≡ Nil
index_end Nil zero h = refl
index_end Nil (suc i) h = refl
index_end (Node l kids rest) zero h = absurd (omega arith)
index_end (Node l kids rest) (suc i) h = index_end rest i (omega arith)
