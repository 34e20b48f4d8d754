-- The first entry whose key others have, entry by entry.
use Rattle.std.proofs.Common.{◌≡◌, ℕ, zero, suc, ◌+◌, ◌-◌, ◌<◌, ◌≤◌, true, false, List, refl, sym, ap, ◌∙◌, arith, None, Some}
use Rattle.std.specs.Prelude.{if◌then◌else◌, is_some}
use Rattle.doc_values.specs.declared.kind.Kind.{Kind}
use Rattle.doc_values.specs.declared.kind.Kind.TheVariants as kind
use Rattle.doc_values.specs.Tree.{Label, Forest, Nil, Node, size, count, has_key, is_map, IsTree}
use Rattle.doc_values.specs.Places.{first_label, first_kids, label_at, kids_at, child_place, key_place}
use Rattle.doc_values.specs.Merge.{is_map_tree, is_shared, first_shared}
use Rattle.doc_values.proofs.Among.{find_in, find_past}
use Rattle.doc_values.proofs.Finding.{key_has}
use Rattle.doc_values.proofs.Roots.{root_of, root_label, root_kids}

-- the values from an index on
abbrev pub from : ℕ → Forest → Forest
from zero f = f
from (suc i) Nil = Nil
from (suc i) (Node l kids rest) = from i rest

from_more : (i : ℕ) (f : Forest) → i < count f → from i f ≡ Node (first_label (from i f)) (first_kids (from i f)) (from (suc i) f)
from_more i Nil h = absurd (omega arith)
from_more zero (Node l kids rest) h = refl
from_more (suc i) (Node l kids rest) h = from_more i rest (omega arith)

from_end : (i : ℕ) (f : Forest) → count f ≤ i → from i f ≡ Nil
from_end zero Nil h = refl
from_end (suc i) Nil h = refl
from_end zero (Node l kids rest) h = absurd (omega arith)
from_end (suc i) (Node l kids rest) h = from_end i rest (omega arith)

-- the number of the value at an index, counted from 0
child_place-add : (n at : ℕ) (f : Forest) (i : ℕ) → child_place (n + at) f i ≡ n + child_place at f i
child_place-add n at Nil i = refl
child_place-add n at (Node l kids rest) zero = refl
child_place-add n at (Node l kids rest) (suc i) =
    let e : n + at + 1 + size kids ≡ n + (at + 1 + size kids) = omega arith in
    ap (λ m. child_place m rest i) e ∙ child_place-add n (at + 1 + size kids) rest i

label_from : (i : ℕ) (f : Forest) → i < count f → (child_place 0 f i < size f) × (label_at f (child_place 0 f i) ≡ first_label (from i f))
label_from i Nil h = absurd (omega arith)
label_from zero (Node l kids rest) h = (omega arith, refl)
label_from (suc i) (Node l kids rest) h =
    let r = label_from i rest (omega arith) in
    let within = r.0 in
    let e : 0 + 1 + size kids ≡ suc (size kids) + 0 = omega arith in
    let place : child_place (0 + 1 + size kids) rest i ≡ suc (size kids + child_place 0 rest i) = ap (λ m. child_place m rest i) e ∙ child_place-add (suc (size kids)) 0 rest i ∙ omega arith in
    let past : size kids ≤ size kids + child_place 0 rest i = omega arith in
    let back : size kids + child_place 0 rest i - size kids ≡ child_place 0 rest i = omega arith in
    (omega arith, ap (label_at (Node l kids rest)) place ∙ ap first_label (find_past l kids rest (size kids + child_place 0 rest i) past) ∙ ap (label_at rest) back ∙ r.1)

-- the label of an entry of a tree
pub entry_label : (f : Forest) (i : ℕ) → IsTree f → i < count (first_kids f) → label_at f (child_place 1 (first_kids f) i) ≡ first_label (from i (first_kids f))
entry_label f i t h =
    let kids : Forest = first_kids f in
    let whole = (root_of f t).whole in
    let place : child_place 1 kids i ≡ suc (child_place 0 kids i) = child_place-add 1 0 kids i ∙ omega arith in
    let r = label_from i kids h in
    ap (λ g. label_at g (child_place 1 kids i)) whole ∙ ap (label_at (Node (first_label f) kids Nil)) place ∙ ap first_label (find_in (first_label f) kids Nil (child_place 0 kids i) r.0) ∙ r.1

pub shared_more : (others f : Forest) (i : ℕ) → i < count f → is_shared others (first_label (from i f)).key ≡ false → first_shared others (from i f) ≡ first_shared others (from (suc i) f)
shared_more others f i h e =
    let rest : Forest = from (suc i) f in
    let l : Label = first_label (from i f) in
    ap (first_shared others) (from_more i f h) ∙ ap (λ b. if b then Some l.at else first_shared others rest) e

pub shared_here : (others f : Forest) (i : ℕ) → i < count f → is_shared others (first_label (from i f)).key ≡ true → first_shared others (from i f) ≡ Some (first_label (from i f)).at
shared_here others f i h e =
    let rest : Forest = from (suc i) f in
    let l : Label = first_label (from i f) in
    ap (first_shared others) (from_more i f h) ∙ ap (λ b. if b then Some l.at else first_shared others rest) e

pub shared_end : (others f : Forest) (i : ℕ) → count f ≤ i → first_shared others (from i f) ≡ None
shared_end others f i h = ap (first_shared others) (from_end i f h)

-- the entry at an index, as it is looked up: D and E are the trees at whose roots the look-ups begin, e is the entry's number in G
pub record IsEntry (first second D E G : Forest) (a b e i : ℕ) : Type 0 where
  pub others : kids_at D a ≡ first_kids first
  pub label : label_at G e ≡ first_label (from i (first_kids second))
  pub within : i < count (first_kids second)

pub kids_there : (tree D : Forest) (a : ℕ) → D ≡ tree → a ≡ 0 → kids_at D a ≡ first_kids tree
kids_there tree D a d a0 = ap (λ x. kids_at x a) d ∙ ap (kids_at tree) a0 ∙ root_kids tree

pub entry_at : (first second D E G : Forest) (a b e i : ℕ) → IsTree second → D ≡ first → a ≡ 0 → E ≡ second → b ≡ 0 → G ≡ E → e ≡ child_place (b + 1) (kids_at E b) i → i < count (kids_at E b) → IsEntry first second D E G a b e i
entry_at first second D E G a b e i t d a0 s b0 g place h =
    let kids : kids_at E b ≡ first_kids second = kids_there second E b s b0 in
    let n : b + 1 ≡ 1 = omega arith in
    let within : i < count (first_kids second) = omega (arith, ap (λ (x : Forest). count x) kids) in
    let number : e ≡ child_place 1 (first_kids second) i = place ∙ ap (λ m. child_place m (kids_at E b) i) n ∙ ap (λ x. child_place 1 x i) kids in
    record {
      others = kids_there first D a d a0;
      label = ap (λ x. label_at x e) (g ∙ s) ∙ ap (label_at second) number ∙ entry_label second i t within;
      within = within;
    }

-- whether the key of an entry is among the keys of others
pub lacks_key : (f : Forest) (n : ℕ) (k : List ℕ) → key_place n f k ≡ None → has_key f k ≡ false
lacks_key f n k e = sym (key_has n f k) ∙ ap is_some e

pub keeps_key : (f : Forest) (n p : ℕ) (k : List ℕ) → key_place n f k ≡ Some p → has_key f k ≡ true
keeps_key f n p k e = sym (key_has n f k) ∙ ap is_some e

pub other_kind : (k : Kind) → (k ≡ kind.Map → ⊥) → is_map k ≡ false
other_kind kind.Map h = absurd (h refl)
other_kind _ h = refl

-- the root's kind, as it is looked up
pub map_there : (tree D : Forest) (a : ℕ) → D ≡ tree → a ≡ 0 → is_map_tree tree ≡ is_map (label_at D a).kind
map_there tree D a d a0 = ap (λ (l : Label). is_map l.kind) (sym (ap (λ x. label_at x a) d ∙ ap (label_at tree) a0 ∙ root_label tree))

pub place_there : (tree D : Forest) (a : ℕ) → D ≡ tree → a ≡ 0 → (label_at D a).at ≡ (first_label tree).at
place_there tree D a d a0 = ap (λ (l : Label). l.at) (ap (λ x. label_at x a) d ∙ ap (label_at tree) a0 ∙ root_label tree)

pub map_size : (f : Forest) → is_map_tree f ≡ true → 0 < size f
map_size Nil h = absurd cc
map_size (Node l kids rest) h = omega arith
