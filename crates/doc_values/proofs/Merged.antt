-- Numbers in a merged tree: those of the first tree's nodes stay, and those of the second's but its root come behind them.
use Rattle.std.proofs.Common.{◌≡◌, ℕ, zero, suc, ◌+◌, ◌-◌, ◌<◌, ◌≤◌, refl, sym, ap, inl, inr, ◌∙◌, arith}
use Rattle.std.proofs.lemmas.Bool.{cases_lt}
use Rattle.doc_values.specs.Tree.{Label, Forest, Nil, Node, joined, size, IsTree}
use Rattle.doc_values.specs.Places.{find, first_label, first_kids, label_at, kids_at}
use Rattle.doc_values.specs.Merge.{merged}
use Rattle.doc_values.proofs.Among.{find_in, find_past}
use Rattle.doc_values.proofs.Roots.{root_of}

size-joined : (f g : Forest) → size (joined f g) ≡ size f + size g
size-joined Nil g = omega arith
size-joined (Node l kids rest) g = let r = size-joined rest g in omega arith

-- the first node of two forests, and what stands in it, are the same
record Alike (f g : Forest) : Type 0 where
  label : first_label f ≡ first_label g
  kids : first_kids f ≡ first_kids g

alike : (f g : Forest) → f ≡ g → Alike f g
alike f g e = record { label = ap first_label e; kids = ap first_kids e }

alike_at : (f g p q : Forest) → f ≡ p → g ≡ q → Alike p q → Alike f g
alike_at f g p q e d a = record { label = ap first_label e ∙ a.label ∙ sym (ap first_label d); kids = ap first_kids e ∙ a.kids ∙ sym (ap first_kids d) }

find_front : (f g : Forest) (n : ℕ) → n < size f → Alike (find (joined f g) n) (find f n)
find_front Nil g n h = absurd (omega arith)
find_front (Node l kids rest) g zero h = record { label = refl; kids = refl }
find_front (Node l kids rest) g (suc n) h = elim (cases_lt n (size kids)) [
  | inl k ↦ alike (find (Node l kids (joined rest g)) (suc n)) (find (Node l kids rest) (suc n)) (find_in l kids (joined rest g) n k ∙ sym (find_in l kids rest n k))
  | inr k ↦ alike_at (find (Node l kids (joined rest g)) (suc n)) (find (Node l kids rest) (suc n)) (find (joined rest g) (n - size kids)) (find rest (n - size kids)) (find_past l kids (joined rest g) n k) (find_past l kids rest n k) (find_front rest g (n - size kids) (omega arith))
]

find_behind : (f g : Forest) (n : ℕ) → find (joined f g) (size f + n) ≡ find g n
find_behind Nil g n = let e : 0 + n ≡ n = omega arith in ap (find g) e
find_behind (Node l kids rest) g n =
    let e : size (Node l kids rest) + n ≡ suc (size kids + (size rest + n)) = omega arith in
    let past : size kids ≤ size kids + (size rest + n) = omega arith in
    let back : size kids + (size rest + n) - size kids ≡ size rest + n = omega arith in
    ap (find (Node l kids (joined rest g))) e ∙ find_past l kids (joined rest g) (size kids + (size rest + n)) past ∙ ap (find (joined rest g)) back ∙ find_behind rest g n

-- ---- below a root

in_first : (l : Label) (f g : Forest) (n : ℕ) → n < size f → Alike (find (Node l (joined f g) Nil) (suc n)) (find (Node l f Nil) (suc n))
in_first l f g n h =
    let long = size-joined f g in
    let within : n < size (joined f g) = omega arith in
    alike_at (find (Node l (joined f g) Nil) (suc n)) (find (Node l f Nil) (suc n)) (find (joined f g) n) (find f n) (find_in l (joined f g) Nil n within) (find_in l f Nil n h) (find_front f g n h)

in_second : (l m : Label) (f g : Forest) (n : ℕ) → find (Node l (joined f g) Nil) (suc (size f + n)) ≡ find (Node m g Nil) (suc n)
in_second l m f g n =
    let long = size-joined f g in
    elim (cases_lt n (size g)) [
      | inl k ↦ let within : size f + n < size (joined f g) = omega arith in find_in l (joined f g) Nil (size f + n) within ∙ find_behind f g n ∙ sym (find_in m g Nil n k)
      | inr k ↦ let past : size (joined f g) ≤ size f + n = omega arith in find_past l (joined f g) Nil (size f + n) past ∙ sym (find_past m g Nil n k)
    ]

-- ---- of trees

pub merged_size : (first second : Forest) → IsTree first → IsTree second → suc (size (merged first second)) ≡ size first + size second
merged_size first second t u =
    let a = ap (λ (f : Forest). size f) (root_of first t).whole in
    let b = ap (λ (f : Forest). size f) (root_of second u).whole in
    let c = size-joined (first_kids first) (first_kids second) in
    omega arith

below_first : (first second : Forest) (n : ℕ) → IsTree first → suc n < size first → Alike (find (merged first second) (suc n)) (find first (suc n))
below_first first second n t h =
    let whole = (root_of first t).whole in
    let long = ap (λ (f : Forest). size f) whole in
    alike_at (find (merged first second) (suc n)) (find first (suc n)) (find (merged first second) (suc n)) (find (Node (first_label first) (first_kids first) Nil) (suc n)) refl (ap (λ f. find f (suc n)) whole) (in_first (first_label first) (first_kids first) (first_kids second) n (omega arith))

-- a node of the first
pub label_of_first : (first second : Forest) (n : ℕ) → IsTree first → n < size first → label_at (merged first second) n ≡ label_at first n
label_of_first first second zero t h = sym (ap (λ f. label_at f 0) (root_of first t).whole)
label_of_first first second (suc n) t h = (below_first first second n t h).label

pub kids_of_first : (first second : Forest) (n : ℕ) → IsTree first → 0 < n → n < size first → kids_at (merged first second) n ≡ kids_at first n
kids_of_first first second zero t some h = absurd (omega arith)
kids_of_first first second (suc n) t some h = (below_first first second n t h).kids

find_second : (first second : Forest) (n : ℕ) → IsTree first → IsTree second → find (merged first second) (size first + suc n - 1) ≡ find second (suc n)
find_second first second n t u =
    let long = ap (λ (f : Forest). size f) (root_of first t).whole in
    let e : size first + suc n - 1 ≡ suc (size (first_kids first) + n) = omega arith in
    ap (find (merged first second)) e ∙ in_second (first_label first) (first_label second) (first_kids first) (first_kids second) n ∙ sym (ap (λ f. find f (suc n)) (root_of second u).whole)

-- a node of the second but its root
pub label_of_second : (first second : Forest) (n : ℕ) → IsTree first → IsTree second → 0 < n → label_at (merged first second) (size first + n - 1) ≡ label_at second n
label_of_second first second zero t u some = absurd (omega arith)
label_of_second first second (suc n) t u some = ap first_label (find_second first second n t u)

pub kids_of_second : (first second : Forest) (n : ℕ) → IsTree first → IsTree second → 0 < n → kids_at (merged first second) (size first + n - 1) ≡ kids_at second n
kids_of_second first second zero t u some = absurd (omega arith)
kids_of_second first second (suc n) t u some = ap first_kids (find_second first second n t u)
