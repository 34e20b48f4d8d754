-- Values by their numbers: that of an item of a list, and all of a tree in document order. By induction on the tree.
use Rattle.std.proofs.Common.{◌≡◌, ℕ, zero, suc, ◌+◌, ◌-◌, ◌<◌, ◌≤◌, List, [], ◌∷◌, ◌++◌, length, get_or, refl, sym, ap, subst, ◌∙◌, inl, inr, arith, length-append}
use Rattle.std.specs.Prelude.{◌||◌}
use Rattle.std.specs.List.{flat_map, list_any}
use Rattle.std.proofs.lemmas.Bool.{cases_lt}
use Rattle.std.proofs.lemmas.List.Concat.{flat_map-append}
use Rattle.std.proofs.lemmas.List.Folds.{list_any-append}
use Rattle.std.proofs.lemmas.List.{get_or_append_left, get_or-append_right}
use Rattle.doc_values.specs.Tree.{Label, Forest, Nil, Node, size, count}
use Rattle.doc_values.specs.Places.{find, first_label, first_kids, label_at, kids_at, child_place}
use Rattle.doc_values.proofs.Among.{find_in, find_past}
use Rattle.value_store.specs.code.Books.{written}
use Rattle.rule_meaning.specs.Patterns.{patterns_in}
use Rattle.rule_meaning.specs.Values.{Value, value_of, value_at, values_in, is_pattern, has_pattern}

-- ---- items

pub child_least : (n : ℕ) (g : Forest) (i : ℕ) → n ≤ child_place n g i
child_least n Nil i = omega arith
child_least n (Node l kids rest) zero = omega arith
child_least n (Node l kids rest) (suc i) = let r = child_least (n + 1 + size kids) rest i in omega arith

pub child_most : (n : ℕ) (g : Forest) (i : ℕ) → i < count g → child_place n g i < n + size g
child_most n Nil i h = absurd (omega arith)
child_most n (Node l kids rest) zero h = omega arith
child_most n (Node l kids rest) (suc i) h = let r = child_most (n + 1 + size kids) rest i (omega arith) in omega arith

-- the value at an index among values side by side, the first of which has the number n
sibling : (g : Forest) (i n m : ℕ) (d : Value) → i < count g → child_place n g i ≡ n + m → value_at g m ≡ get_or (values_in g) i d
sibling Nil i n m d h e = absurd (omega arith)
sibling (Node l kids rest) zero n m d h e = let z : m ≡ 0 = omega arith in ap (value_at (Node l kids rest)) z
sibling (Node l kids rest) (suc i) n zero d h e = let r = child_least (n + 1 + size kids) rest i in absurd (omega arith)
sibling (Node l kids rest) (suc i) n (suc m) d h e =
    let r = child_least (n + 1 + size kids) rest i in
    let low : size kids ≤ m = omega arith in
    ap (λ (g : Forest). value_of (first_label g) (first_kids g)) (find_past l kids rest m low)
    ∙ sibling rest i (n + 1 + size kids) (m - size kids) d (omega arith) (omega arith)

pub size_in : (f : Forest) (n : ℕ) → n < size f → n + 1 + size (kids_at f n) ≤ size f
size_in Nil n h = absurd (omega arith)
size_in (Node l kids rest) zero h = omega arith
size_in (Node l kids rest) (suc n) h = elim (cases_lt n (size kids)) [
  | inl k ↦ let a = size_in kids n k in let e = ap (λ (g : Forest). size (first_kids g)) (find_in l kids rest n k) in omega arith
  | inr k ↦ let a = size_in rest (n - size kids) (omega arith) in let e = ap (λ (g : Forest). size (first_kids g)) (find_past l kids rest n k) in omega arith
]

-- what stands in a node is numbered behind it
pub below : (f : Forest) (id m : ℕ) → id < size f → m < size (kids_at f id) → find f (suc (id + m)) ≡ find (kids_at f id) m
below Nil id m h k = absurd (omega arith)
below (Node l kids rest) zero m h k = let e : suc (0 + m) ≡ suc m = omega arith in ap (find (Node l kids rest)) e ∙ find_in l kids rest m k
below (Node l kids rest) (suc n) m h k =
    let w : suc (suc n + m) ≡ suc (suc (n + m)) = omega arith in
    ap (find (Node l kids rest)) w ∙ elim (cases_lt n (size kids)) [
      | inl q ↦
          let e = find_in l kids rest n q in
          let inside : m < size (kids_at kids n) = subst (λ (g : Forest). m < size (first_kids g)) e k in
          let s = size_in kids n q in
          find_in l kids rest (suc (n + m)) (omega arith) ∙ below kids n m q inside ∙ ap (λ (g : Forest). find (first_kids g) m) (sym e)
      | inr q ↦
          let e = find_past l kids rest n q in
          let inside : m < size (kids_at rest (n - size kids)) = subst (λ (g : Forest). m < size (first_kids g)) e k in
          let v : suc (n + m) - size kids ≡ suc (n - size kids + m) = omega arith in
          find_past l kids rest (suc (n + m)) (omega arith) ∙ ap (find rest) v ∙ below rest (n - size kids) m (omega arith) inside
          ∙ ap (λ (g : Forest). find (first_kids g) m) (sym e)
    ]

-- an item of a list is the value of its number
pub item_at : (f : Forest) (id i : ℕ) (d : Value) → id < size f → i < count (kids_at f id)
    → get_or (values_in (kids_at f id)) i d ≡ value_at f (child_place (id + 1) (kids_at f id) i)
item_at f id i d h k =
    let kids : Forest = kids_at f id in
    let low = child_least (id + 1) kids i in
    let high = child_most (id + 1) kids i k in
    let m : ℕ = child_place (id + 1) kids i - (id + 1) in
    let from : child_place (id + 1) kids i ≡ id + 1 + m = omega arith in
    let at : child_place (id + 1) kids i ≡ suc (id + m) = omega arith in
    sym (ap (value_at f) at ∙ ap (λ (g : Forest). value_of (first_label g) (first_kids g)) (below f id m h (omega arith)) ∙ sibling kids i (id + 1) m d k from)

pub length-values_in : (g : Forest) → length (values_in g) ≡ count g
length-values_in Nil = refl
length-values_in (Node l kids rest) = ap suc (length-values_in rest)

-- ---- all values, in document order

pub labels : Forest → List Label
labels Nil = []
labels (Node l kids rest) = l ∷ (labels kids ++ labels rest)

pub length-labels : (f : Forest) → length (labels f) ≡ size f
unfolding labels
length-labels Nil = refl
length-labels (Node l kids rest) = let a = length-labels kids in let b = length-labels rest in let c = length-append (labels kids) (labels rest) in omega arith

pub label-labels : (f : Forest) (n : ℕ) (d : Label) → n < size f → get_or (labels f) n d ≡ label_at f n
unfolding labels
label-labels Nil n d h = absurd (omega arith)
label-labels (Node l kids rest) zero d h = refl
label-labels (Node l kids rest) (suc n) d h = let s = length-labels kids in elim (cases_lt n (size kids)) [
  | inl q ↦ get_or_append_left (labels kids) (labels rest) d n (omega arith) ∙ label-labels kids n d q ∙ ap first_label (sym (find_in l kids rest n q))
  | inr q ↦
      get_or-append_right (labels kids) (labels rest) (size kids) n d s q ∙ label-labels rest (n - size kids) d (omega arith)
      ∙ ap first_label (sym (find_past l kids rest n q))
]

pub patterns_in-labels : (f : Forest) → patterns_in f ≡ flat_map written (labels f)
unfolding labels
patterns_in-labels Nil = refl
patterns_in-labels (Node l kids rest) =
    ap (λ ws. written l ++ ws) (ap (λ ws. ws ++ patterns_in rest) (patterns_in-labels kids) ∙ ap (λ ws. flat_map written (labels kids) ++ ws) (patterns_in-labels rest) ∙ sym (flat_map-append written (labels kids) (labels rest)))

-- a tree has a pattern where one of its values is one
pub has_pattern-labels : (f : Forest) → has_pattern f ≡ list_any (λ (l : Label). is_pattern l.kind) (labels f)
unfolding labels
has_pattern-labels Nil = refl
has_pattern-labels (Node l kids rest) =
    ap (λ b. is_pattern l.kind || b) (ap (λ b. b || has_pattern rest) (has_pattern-labels kids) ∙ ap (λ b. list_any (λ (m : Label). is_pattern m.kind) (labels kids) || b) (has_pattern-labels rest) ∙ sym (list_any-append (λ (m : Label). is_pattern m.kind) (labels kids) (labels rest)))
