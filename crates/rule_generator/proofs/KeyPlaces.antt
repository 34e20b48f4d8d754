-- The value of a key among values side by side, and the node of a tree that it is. By induction on the values.
use Rattle.std.proofs.Common.{◌≡◌, ℕ, suc, ◌+◌, ◌-◌, ◌<◌, Bool, true, false, List, Some, None, refl, sym, ap, ap₂, ◌∙◌, arith}
use Rattle.std.specs.Prelude.{if◌then◌else◌}
use Rattle.doc_values.specs.Places.{find, first_kids, first_label, key_place, kids_at}
use Rattle.doc_values.specs.Tree.{Forest, Label, Nil, Node, key_is, size}
use Rattle.doc_values.proofs.Among.{find_past}
use Rattle.rule_meaning.specs.Pairs.{entry_of}
use Rattle.rule_meaning.specs.Values.{value_at, value_of}
use Rattle.value_store.proofs.Nodes.{below, size_in}

-- a key is looked up where it has a number
pub record IsKeyAt (g : Forest) (key : List ℕ) (at place : ℕ) : Type 0 where
  pub number : ℕ
  pub moved : place ≡ at + number
  pub inside : number < size g
  pub entry : entry_of g (Some key) ≡ Some (value_at g number)

key-at-if : (l : Label) (kids rest : Forest) (key : List ℕ) (at place : ℕ) (b : Bool) → key_is l.key key ≡ b → (if b then Some at else key_place (at + 1 + size kids) rest key) ≡ Some place
    → (key_place (at + 1 + size kids) rest key ≡ Some place → IsKeyAt rest key (at + 1 + size kids) place) → IsKeyAt (Node l kids rest) key at place
key-at-if l kids rest key at place true is e later =
    let q : at ≡ place = cc in
    record { number = 0; moved = omega arith; inside = omega arith; entry = rw is refl }
key-at-if l kids rest key at place false is e later =
    let r = later e in
    let m = r.moved in
    let n = r.inside in
    let back : size kids + r.number - size kids ≡ r.number = omega arith in
    record {
      number = suc (size kids + r.number);
      moved = omega arith;
      inside = omega arith;
      entry = rw is (r.entry ∙ ap (λ v. Some v) (sym (ap (λ (t : Forest). value_of (first_label t) (first_kids t)) (find_past l kids rest (size kids + r.number) (omega arith) ∙ ap (find rest) back))));
    }

pub key-at : (g : Forest) (key : List ℕ) (at place : ℕ) → key_place at g key ≡ Some place → IsKeyAt g key at place
key-at Nil key at place e = absurd cc
key-at (Node l kids rest) key at place e = key-at-if l kids rest key at place (key_is l.key key) refl e (key-at rest key (at + 1 + size kids) place)

no-key-if : (l : Label) (kids rest : Forest) (key : List ℕ) (at : ℕ) (b : Bool) → key_is l.key key ≡ b → (if b then Some at else key_place (at + 1 + size kids) rest key) ≡ None
    → (key_place (at + 1 + size kids) rest key ≡ None → entry_of rest (Some key) ≡ None) → entry_of (Node l kids rest) (Some key) ≡ None
no-key-if l kids rest key at true is e later = absurd cc
no-key-if l kids rest key at false is e later = rw is (later e)

-- and where it has none
pub no-key : (g : Forest) (key : List ℕ) (at : ℕ) → key_place at g key ≡ None → entry_of g (Some key) ≡ None
no-key Nil key at e = refl
no-key (Node l kids rest) key at e = no-key-if l kids rest key at (key_is l.key key) refl e (no-key rest key (at + 1 + size kids))

-- in a node of a tree
pub key-value : (f : Forest) (p place : ℕ) (key : List ℕ) (tree : Forest) → p < size f → tree ≡ f → key_place (p + 1) (kids_at f p) key ≡ Some place → entry_of (kids_at f p) (Some key) ≡ Some (value_at tree place)
key-value f p place key tree h same e =
    let k = key-at (kids_at f p) key (p + 1) place e in
    let m = k.moved in
    let at : place ≡ suc (p + k.number) = omega arith in
    k.entry ∙ ap (λ v. Some v) (sym (ap (λ (t : Forest). value_of (first_label t) (first_kids t)) (ap₂ find same at ∙ below f p k.number h k.inside)))

-- its number is that of a node
pub key-within : (f : Forest) (p place : ℕ) (key : List ℕ) → p < size f → key_place (p + 1) (kids_at f p) key ≡ Some place → place < size f
key-within f p place key h e =
    let k = key-at (kids_at f p) key (p + 1) place e in
    let m = k.moved in
    let n = k.inside in
    let s = size_in f p h in
    omega arith
