-- Values side by side by their indexes and keys, and the nodes of a tree that they are: by induction on the values.
use Rattle.std.proofs.Common.{◌≡◌, ℕ, zero, suc, ◌+◌, ◌-◌, ◌<◌, ◌≤◌, Bool, true, false, List, Option, Some, None, refl, sym, ap, ap₂, ◌∙◌, ◌⊎◌, inl, inr, arith, true≢false}
use Rattle.std.specs.Prelude.{if◌then◌else◌}
use Rattle.std.proofs.lemmas.Option.{none-some}
use Rattle.std.proofs.lemmas.Slice.Eq.{bytes_eq-Decides}
use Rattle.doc_values.specs.Places.{find, first_label, first_kids, kids_at, label_at, child_place, key_place}
use Rattle.doc_values.specs.Tree.{Forest, Nil, Node, size, count, has_key, key_is}
use Rattle.doc_values.proofs.Among.{find_past}
use Rattle.doc_values.proofs.Lookups.{key_place-has, key_place-lacks}
use Rattle.value_store.proofs.Nodes.{below, child_least, child_most}
use Rattle.guard_testfile.specs.Cases.{contents_of}
use Rattle.guard_testfile.specs.code.Siblings.{from_index}

-- the values from an index on begin with the value there
pub index-step : (f : Forest) (i : ℕ) → i < count f → from_index f i ≡ Node (first_label (from_index f i)) (first_kids (from_index f i)) (from_index f (i + 1))
index-step Nil i h = absurd (omega arith)
index-step (Node l kids rest) zero h = refl
index-step (Node l kids rest) (suc i) h =
    let e : suc i + 1 ≡ suc (i + 1) = omega arith in
    index-step rest i (omega arith) ∙ ap (λ n. Node (first_label (from_index rest i)) (first_kids (from_index rest i)) (from_index (Node l kids rest) n)) (sym e)

pub index-end : (f : Forest) (i : ℕ) → count f ≤ i → from_index f i ≡ Nil
index-end Nil zero h = refl
index-end Nil (suc i) h = refl
index-end (Node l kids rest) zero h = absurd (omega arith)
index-end (Node l kids rest) (suc i) h = index-end rest i (omega arith)

-- the next value stands behind all that is in the one before
pub place-step : (at : ℕ) (f : Forest) (i : ℕ) → i < count f → child_place at f (i + 1) ≡ child_place at f i + 1 + size (first_kids (from_index f i))
place-step at Nil i h = absurd (omega arith)
place-step at (Node l kids Nil) zero h = refl
place-step at (Node l kids (Node m ks more)) zero h = refl
place-step at (Node l kids rest) (suc i) h =
    let e : suc i + 1 ≡ suc (i + 1) = omega arith in
    ap (child_place at (Node l kids rest)) e ∙ place-step (at + 1 + size kids) rest i (omega arith)

-- what is found at the number of a value side by side
found-at : (f : Forest) (n i m : ℕ) → i < count f → child_place n f i ≡ n + m → find f m ≡ from_index f i
found-at Nil n i m h e = absurd (omega arith)
found-at (Node l kids rest) n zero m h e = let z : m ≡ 0 = omega arith in ap (find (Node l kids rest)) z
found-at (Node l kids rest) n (suc i) zero h e = let r = child_least (n + 1 + size kids) rest i in absurd (omega arith)
found-at (Node l kids rest) n (suc i) (suc m) h e =
    let r = child_least (n + 1 + size kids) rest i in
    let low : size kids ≤ m = omega arith in
    find_past l kids rest m low ∙ found-at rest (n + 1 + size kids) i (m - size kids) (omega arith) (omega arith)

-- a value in a node of a tree, by its index there
pub child-found : (f : Forest) (p i : ℕ) → p < size f → i < count (kids_at f p) → find f (child_place (p + 1) (kids_at f p) i) ≡ from_index (kids_at f p) i
child-found f p i h k =
    let kids : Forest = kids_at f p in
    let low = child_least (p + 1) kids i in
    let high = child_most (p + 1) kids i k in
    let m : ℕ = child_place (p + 1) kids i - (p + 1) in
    let from : child_place (p + 1) kids i ≡ p + 1 + m = omega arith in
    let at : child_place (p + 1) kids i ≡ suc (p + m) = omega arith in
    ap (find f) at ∙ below f p m h (omega arith) ∙ found-at kids (p + 1) i m k from

-- as a cursor gives it
pub child-label : (f g : Forest) (p i q : ℕ) → p < size f → i < count (kids_at f p) → g ≡ f → q ≡ child_place (p + 1) (kids_at f p) i → label_at g q ≡ first_label (from_index (kids_at f p) i)
child-label f g p i q h k same is = ap₂ label_at same is ∙ ap first_label (child-found f p i h k)

pub child-kids : (f g : Forest) (p i q : ℕ) → p < size f → i < count (kids_at f p) → g ≡ f → q ≡ child_place (p + 1) (kids_at f p) i → kids_at g q ≡ first_kids (from_index (kids_at f p) i)
child-kids f g p i q h k same is = ap₂ kids_at same is ∙ ap first_kids (child-found f p i h k)

-- ---- keys

tested : (b : Bool) → (b ≡ true) ⊎ (b ≡ false)
tested true = inl refl
tested false = inr refl

-- a key that is a text
pub is-key : (key : Option (List ℕ)) (k : List ℕ) → key_is key k ≡ true → key ≡ Some k
is-key None k e = absurd (true≢false (sym e))
is-key (Some j) k e = ap Some ((bytes_eq-Decides j k).0 e)

-- the value of a key among values side by side, the first of which has the number `at`
pub record IsUnder (f : Forest) (name : List ℕ) (at place : ℕ) : Type 0 where
  pub index : ℕ
  pub within : index < count f
  pub there : child_place at f index ≡ place
  pub keyed : (first_label (from_index f index)).key ≡ Some name
  pub contents : first_kids (from_index f index) ≡ contents_of f name

pub key-under : (f : Forest) (key : List ℕ) (at place : ℕ) → key_place at f key ≡ Some place → IsUnder f key at place
key-under Nil key at place e = absurd (none-some place e)
key-under (Node l kids rest) key at place e = elim (tested (key_is l.key key)) [
  | inl is ↦
      let same : Some at ≡ Some place = sym (ap (λ b. if b then Some at else key_place (at + 1 + size kids) rest key) is) ∙ e in
      record {
        index = 0;
        within = omega arith;
        there = cc;
        keyed = is-key l.key key is;
        contents = sym (ap (λ b. if b then kids else contents_of rest key) is);
      }
  | inr other ↦
      let r = key-under rest key (at + 1 + size kids) place (sym (ap (λ b. if b then Some at else key_place (at + 1 + size kids) rest key) other) ∙ e) in
      let w = r.within in
      record {
        index = suc r.index;
        within = omega arith;
        there = r.there;
        keyed = r.keyed;
        contents = r.contents ∙ sym (ap (λ b. if b then kids else contents_of rest key) other);
      }
]

-- where no value has a key, nothing stands under it
pub nothing-under : (f : Forest) (key : List ℕ) (at : ℕ) → key_place at f key ≡ None → contents_of f key ≡ Nil
nothing-under Nil key at e = refl
nothing-under (Node l kids rest) key at e = elim (tested (key_is l.key key)) [
  | inl is ↦ absurd (none-some at (sym e ∙ ap (λ b. if b then Some at else key_place (at + 1 + size kids) rest key) is))
  | inr other ↦
      ap (λ b. if b then kids else contents_of rest key) other
      ∙ nothing-under rest key (at + 1 + size kids) (sym (ap (λ b. if b then Some at else key_place (at + 1 + size kids) rest key) other) ∙ e)
]

-- a key is there where it has a number
pub has-under : (f : Forest) (key : List ℕ) (at place : ℕ) → key_place at f key ≡ Some place → has_key f key ≡ true
has-under f key at place e = elim (tested (has_key f key)) [
  | inl has ↦ has
  | inr lacks ↦ absurd (none-some place (sym (key_place-lacks at f key lacks) ∙ e))
]

pub lacks-under : (f : Forest) (key : List ℕ) (at : ℕ) → key_place at f key ≡ None → has_key f key ≡ false
lacks-under f key at e = elim (tested (has_key f key)) [
  | inl has ↦ let (place, is) = key_place-has at f key has in absurd (none-some place (sym e ∙ is))
  | inr lacks ↦ lacks
]

-- the contents of the value of a key, in a tree
pub contents-under : (f g : Forest) (p q : ℕ) (key : List ℕ) → p < size f → g ≡ f → key_place (p + 1) (kids_at f p) key ≡ Some q → kids_at g q ≡ contents_of (kids_at f p) key
contents-under f g p q key h same e =
    let u : IsUnder (kids_at f p) key (p + 1) q = key-under (kids_at f p) key (p + 1) q e in
    child-kids f g p u.index q h u.within same (sym u.there) ∙ u.contents

-- the first value has the number that all begin with
pub place-first : (at : ℕ) (f : Forest) → child_place at f 0 ≡ at
place-first at Nil = refl
place-first at (Node l kids rest) = refl
