-- Values side by side by their indexes and keys, and the nodes of a tree that they are.
use Rattle.std.proofs.Common.{◌≡◌, ℕ, zero, suc, ◌+◌, ◌-◌, ◌<◌, ◌≤◌, Bool, true, false, List, Some, None, refl, sym, ap, ap₂, ◌∙◌, arith, inl, inr}
use Rattle.std.specs.Prelude.{nat_lt, if◌then◌else◌}
use Rattle.std.proofs.lemmas.Bool.{lt-ltb, le-ltb, cases_lt}
use Rattle.doc_values.specs.Tree.{Label, Forest, Nil, Node, size, count, key_is}
use Rattle.doc_values.specs.Places.{find, first_label, first_kids, label_at, kids_at, child_place, key_place}
use Rattle.rule_meaning.specs.Pairs.{entry_of}
use Rattle.rule_meaning.specs.Values.{Value, value_of, value_at}

-- the values from an index on
abbrev pub from_index : Forest → ℕ → Forest
from_index f zero = f
from_index Nil (suc i) = Nil
from_index (Node l kids rest) (suc i) = from_index rest i

-- the first of the values side by side
abbrev pub first_value : Forest → Value
first_value f = value_of (first_label f) (first_kids f)

pub find_in : (l : Label) (kids rest : Forest) (n : ℕ) → n < size kids → find (Node l kids rest) (suc n) ≡ find kids n
find_in l kids rest n h = let e : nat_lt n (size kids) ≡ true = lt-ltb n (size kids) h in rw e refl

pub find_past : (l : Label) (kids rest : Forest) (n : ℕ) → size kids ≤ n → find (Node l kids rest) (suc n) ≡ find rest (n - size kids)
find_past l kids rest n h = let e : nat_lt n (size kids) ≡ false = le-ltb n (size kids) h in rw e refl

-- what stands in a node ends before the nodes behind it
pub within : (f : Forest) (p : ℕ) → p < size f → p + size (kids_at f p) < size f
within Nil p h = omega arith
within (Node l kids rest) zero h = omega arith
within (Node l kids rest) (suc p) h =
    elim (cases_lt p (size kids)) [
      | inl low ↦
          let e : size (kids_at (Node l kids rest) (suc p)) ≡ size (kids_at kids p) = ap (λ g. size (first_kids g)) (find_in l kids rest p low) in
          let w = within kids p low in
          omega arith
      | inr high ↦
          let bound : p - size kids < size rest = omega arith in
          let e : size (kids_at (Node l kids rest) (suc p)) ≡ size (kids_at rest (p - size kids)) = ap (λ g. size (first_kids g)) (find_past l kids rest p high) in
          let w = within rest (p - size kids) bound in
          omega arith
    ]

-- a node in a node
pub find_kids : (f : Forest) (p q : ℕ) → p < size f → q < size (kids_at f p) → find f (p + 1 + q) ≡ find (kids_at f p) q
find_kids Nil p q h k = absurd (omega arith)
find_kids (Node l kids rest) zero q h k = let e : 0 + 1 + q ≡ suc q = omega arith in ap (find (Node l kids rest)) e ∙ find_in l kids rest q k
find_kids (Node l kids rest) (suc p) q h k =
    let next : suc p + 1 + q ≡ suc (p + 1 + q) = omega arith in
    ap (find (Node l kids rest)) next
    ∙ elim (cases_lt p (size kids)) [
      | inl low ↦
          let e : kids_at (Node l kids rest) (suc p) ≡ kids_at kids p = ap first_kids (find_in l kids rest p low) in
          let inner : q < size (kids_at kids p) = rw (← e) k in
          let w = within kids p low in
          find_in l kids rest (p + 1 + q) (omega arith) ∙ find_kids kids p q low inner ∙ ap (λ g. find g q) (sym e)
      | inr high ↦
          let e : kids_at (Node l kids rest) (suc p) ≡ kids_at rest (p - size kids) = ap first_kids (find_past l kids rest p high) in
          let bound : p - size kids < size rest = omega arith in
          let inner : q < size (kids_at rest (p - size kids)) = rw (← e) k in
          let same : p + 1 + q - size kids ≡ p - size kids + 1 + q = omega arith in
          find_past l kids rest (p + 1 + q) (omega arith) ∙ ap (find rest) same ∙ find_kids rest (p - size kids) q bound inner ∙ ap (λ g. find g q) (sym e)
    ]

-- the value at an index: its number among its like, and what is found there
pub record IsChildAt (g : Forest) (at i place : ℕ) : Type 0 where
  pub number : ℕ
  pub moved : place ≡ at + number
  pub inside : number < size g
  pub found : find g number ≡ from_index g i

pub child_at : (g : Forest) (at i : ℕ) → i < count g → IsChildAt g at i (child_place at g i)
child_at Nil at i h = absurd (omega arith)
child_at (Node l kids rest) at zero h = record { number = 0; moved = omega arith; inside = omega arith; found = refl }
child_at (Node l kids rest) at (suc i) h =
    let r = child_at rest (at + 1 + size kids) i (omega arith) in
    let m = r.moved in
    let n = r.inside in
    record {
      number = suc (size kids + r.number);
      moved = omega arith;
      inside = omega arith;
      found = let e : size kids + r.number - size kids ≡ r.number = omega arith in find_past l kids rest (size kids + r.number) (omega arith) ∙ ap (find rest) e ∙ r.found;
    }

-- the value at an index in a node of a tree
pub record IsChild (f : Forest) (p i place : ℕ) : Type 0 where
  pub found : find f place ≡ from_index (kids_at f p) i
  pub less : size (kids_at f place) < size (kids_at f p)

child_found : (f : Forest) (p i place : ℕ) → p < size f → IsChildAt (kids_at f p) (p + 1) i place → IsChild f p i place
child_found f p i place h c =
    let e : find f place ≡ find (kids_at f p) c.number = ap (find f) c.moved ∙ find_kids f p c.number h c.inside in
    let w = within (kids_at f p) c.number c.inside in
    let s : size (kids_at f place) ≡ size (kids_at (kids_at f p) c.number) = ap (λ g. size (first_kids g)) e in
    record { found = e ∙ c.found; less = omega arith }

pub child_of : (f : Forest) (p i : ℕ) → p < size f → i < count (kids_at f p) → IsChild f p i (child_place (p + 1) (kids_at f p) i)
child_of f p i h k = child_found f p i (child_place (p + 1) (kids_at f p) i) h (child_at (kids_at f p) (p + 1) i k)

-- the node that a cursor gives for it
pub record IsAt (f : Forest) (p i : ℕ) (tree : Forest) (place : ℕ) : Type 0 where
  pub label : label_at tree place ≡ first_label (from_index (kids_at f p) i)
  pub value : value_at tree place ≡ first_value (from_index (kids_at f p) i)
  pub less : size (kids_at tree place) < size (kids_at f p)

pub is_at : (f : Forest) (p i : ℕ) (tree : Forest) (place : ℕ) → p < size f → i < count (kids_at f p) → tree ≡ f → place ≡ child_place (p + 1) (kids_at f p) i → IsAt f p i tree place
is_at f p i tree place h k same is =
    let c = child_of f p i h k in
    let e : find tree place ≡ from_index (kids_at f p) i = ap₂ find same is ∙ c.found in
    let s : size (kids_at tree place) ≡ size (kids_at f (child_place (p + 1) (kids_at f p) i)) = ap₂ (λ t n. size (kids_at t n)) same is in
    let less = c.less in
    record { label = ap first_label e; value = ap first_value e; less = omega arith }

-- the values from an index on begin with the value there
pub index_step : (f : Forest) (i : ℕ) → i < count f → from_index f i ≡ Node (first_label (from_index f i)) (first_kids (from_index f i)) (from_index f (i + 1))
index_step Nil i h = absurd (omega arith)
index_step (Node l kids rest) zero h = refl
index_step (Node l kids rest) (suc i) h = let e : suc i + 1 ≡ suc (i + 1) = omega arith in rw e (index_step rest i (omega arith))

pub index_end : (f : Forest) (i : ℕ) → count f ≤ i → from_index f i ≡ Nil
index_end Nil zero h = refl
index_end Nil (suc i) h = refl
index_end (Node l kids rest) zero h = absurd (omega arith)
index_end (Node l kids rest) (suc i) h = index_end rest i (omega arith)

-- a key is looked up where it has a number
pub record IsKeyAt (g : Forest) (key : List ℕ) (at place : ℕ) : Type 0 where
  pub number : ℕ
  pub moved : place ≡ at + number
  pub inside : number < size g
  pub entry : entry_of g (Some key) ≡ Some (value_at g number)

key_at_if : (l : Label) (kids rest : Forest) (key : List ℕ) (at place : ℕ) (b : Bool) → key_is l.key key ≡ b → (if b then Some at else key_place (at + 1 + size kids) rest key) ≡ Some place
    → (key_place (at + 1 + size kids) rest key ≡ Some place → IsKeyAt rest key (at + 1 + size kids) place) → IsKeyAt (Node l kids rest) key at place
key_at_if l kids rest key at place true is e later =
    let q : at ≡ place = cc in
    record { number = 0; moved = omega arith; inside = omega arith; entry = rw is refl }
key_at_if l kids rest key at place false is e later =
    let r = later e in
    let m = r.moved in
    let n = r.inside in
    let back : size kids + r.number - size kids ≡ r.number = omega arith in
    record {
      number = suc (size kids + r.number);
      moved = omega arith;
      inside = omega arith;
      entry = rw is (r.entry ∙ ap (λ v. Some v) (sym (ap first_value (find_past l kids rest (size kids + r.number) (omega arith) ∙ ap (find rest) back))));
    }

pub key_at : (g : Forest) (key : List ℕ) (at place : ℕ) → key_place at g key ≡ Some place → IsKeyAt g key at place
key_at Nil key at place e = absurd cc
key_at (Node l kids rest) key at place e = key_at_if l kids rest key at place (key_is l.key key) refl e (key_at rest key (at + 1 + size kids) place)

no_key_if : (l : Label) (kids rest : Forest) (key : List ℕ) (at : ℕ) (b : Bool) → key_is l.key key ≡ b → (if b then Some at else key_place (at + 1 + size kids) rest key) ≡ None
    → (key_place (at + 1 + size kids) rest key ≡ None → entry_of rest (Some key) ≡ None) → entry_of (Node l kids rest) (Some key) ≡ None
no_key_if l kids rest key at true is e later = absurd cc
no_key_if l kids rest key at false is e later = rw is (later e)

-- and where it has none
pub no_key : (g : Forest) (key : List ℕ) (at : ℕ) → key_place at g key ≡ None → entry_of g (Some key) ≡ None
no_key Nil key at e = refl
no_key (Node l kids rest) key at e = no_key_if l kids rest key at (key_is l.key key) refl e (no_key rest key (at + 1 + size kids))

pub key_value : (f : Forest) (p place : ℕ) (key : List ℕ) (tree : Forest) → p < size f → tree ≡ f → key_place (p + 1) (kids_at f p) key ≡ Some place → entry_of (kids_at f p) (Some key) ≡ Some (value_at tree place)
key_value f p place key tree h same e =
    let k = key_at (kids_at f p) key (p + 1) place e in
    k.entry ∙ ap (λ v. Some v) (sym (ap first_value (ap₂ find same k.moved ∙ find_kids f p k.number h k.inside)))
