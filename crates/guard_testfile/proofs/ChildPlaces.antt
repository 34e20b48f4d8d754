-- Where a value stands that stands in a node of a tree: one step down from where the node does. By induction on the tree.
use Rattle.std.proofs.Common.{◌≡◌, Bool, ℕ, zero, suc, ◌+◌, ◌-◌, ◌<◌, ◌≤◌, List, [], ◌∷◌, ◌++◌, Option, Some, None, refl, sym, ap, subst, ◌∙◌, inl, inr, arith, true, false, true≢false}
use Rattle.std.specs.Prelude.{if◌then◌else◌}
use Rattle.std.specs.List.{fold}
use Rattle.std.proofs.lemmas.Bool.{cases_lt}
use Rattle.std.proofs.lemmas.List.Sums.{fold-append}
use Rattle.doc_values.specs.Places.{first_label, first_kids, kids_at, label_at, child_place, key_place}
use Rattle.doc_values.specs.Tree.{Label, Forest, Nil, Node, size, count, snoc, is_map, AreValues, IsTree}
use Rattle.doc_values.specs.declared.kind.Kind.{Kind}
use Rattle.doc_values.specs.declared.kind.Kind.TheVariants as kind
use Rattle.doc_values.proofs.Among.{find_in, find_past, other_nat}
use Rattle.doc_values.proofs.Lookups.{kids-formed}
use Rattle.report_text.specs.Paths.{Down, ToEntry, step_to, steps_in, path_of}
use Rattle.report_text.proofs.Downwards.{steps-here, steps-inside, steps-behind}
use Rattle.value_store.proofs.Nodes.{child_least, child_most, size_in}
use Rattle.guard_testfile.specs.Refusals.{HasShape}
use Rattle.guard_testfile.specs.Shape.{inside, is_list, is_shaped, place_of}
use Rattle.guard_testfile.specs.code.Siblings.{from_index}
use Rattle.guard_testfile.specs.declared.place.Place.TheVariants as place
use Rattle.guard_testfile.proofs.Siblings.{IsUnder, key-under}

-- the step to a value at an index
abbrev step-at : Forest → ℕ → ℕ → Down
step-at f i j = step_to i (first_label (from_index f j)).key

-- to one of the values side by side
steps-beside : (i at : ℕ) (f : Forest) (j : ℕ) → j < count f → steps_in i at f (child_place at f j) ≡ step-at f (i + j) j ∷ []
steps-beside i at Nil j h = absurd (omega arith)
steps-beside i at (Node l kids rest) zero h =
    let e : i ≡ i + 0 = omega arith in
    steps-here i at at l kids rest refl ∙ ap (λ (n : ℕ). step_to n l.key ∷ []) e
steps-beside i at (Node l kids rest) (suc j) h =
    let low = child_least (at + 1 + size kids) rest j in
    let e : i + 1 + j ≡ i + suc j = omega arith in
    steps-behind i at (child_place (at + 1 + size kids) rest j) l kids rest (λ same. omega (arith, same, low)) low
    ∙ steps-beside (i + 1) (at + 1 + size kids) rest j (omega arith)
    ∙ ap (λ (n : ℕ). step-at rest n j ∷ []) e

-- to a value in the node that has the number `id` in a tree: behind the steps to that
abbrev IsOneMore : (i at : ℕ) (f g : Forest) (j id : ℕ) → Type 0
IsOneMore i at f g j id = steps_in i at f (child_place (id + 1) g j) ≡ steps_in i at f id ++ step-at g j j ∷ []

steps-below : (i at n : ℕ) (f : Forest) (j id : ℕ) → id ≡ at + n → n < size f → j < count (kids_at f n) → IsOneMore i at f (kids_at f n) j id
steps-below i at n Nil j id e h k = absurd (omega arith)
steps-below i at zero (Node l kids rest) j id e h k =
    let here : id ≡ at = omega arith in
    let one : id + 1 ≡ at + 1 = omega arith in
    let c : ℕ = child_place (at + 1) kids j in
    let low : at + 1 ≤ c = child_least (at + 1) kids j in
    let high : c < at + 1 + size kids = child_most (at + 1) kids j k in
    let z : 0 + j ≡ j = omega arith in
    ap (λ (m : ℕ). steps_in i at (Node l kids rest) (child_place m kids j)) one
    ∙ steps-inside i at c l kids rest (λ same. omega (arith, same, low)) high
    ∙ ap (λ (t : List Down). step_to i l.key ∷ t) (steps-beside 0 (at + 1) kids j k ∙ ap (λ (m : ℕ). step-at kids m j ∷ []) z)
    ∙ ap (λ (t : List Down). t ++ step-at kids j j ∷ []) (sym (steps-here i at id l kids rest here))
steps-below i at (suc n) (Node l kids rest) j id e h k = elim (cases_lt n (size kids)) [
  | inl q ↦
      let same : kids_at (Node l kids rest) (suc n) ≡ kids_at kids n = ap first_kids (find_in l kids rest n q) in
      let inner : j < count (kids_at kids n) = subst (λ (g : Forest). j < count g) same k in
      let c : ℕ = child_place (id + 1) (kids_at kids n) j in
      let low : id + 1 ≤ c = child_least (id + 1) (kids_at kids n) j in
      let high : c < id + 1 + size (kids_at kids n) = child_most (id + 1) (kids_at kids n) j inner in
      let room = size_in kids n q in
      subst (λ (g : Forest). IsOneMore i at (Node l kids rest) g j id) (sym same)
      (steps-inside i at c l kids rest (λ eq. omega (arith, eq, low, e)) (omega (arith, high, room, e))
      ∙ ap (λ (t : List Down). step_to i l.key ∷ t) (steps-below 0 (at + 1) n kids j id (omega (arith, e)) q inner)
      ∙ ap (λ (t : List Down). t ++ step-at (kids_at kids n) j j ∷ []) (sym (steps-inside i at id l kids rest (λ eq. omega (arith, eq, e)) (omega (arith, e, q)))))
  | inr q ↦
      let same : kids_at (Node l kids rest) (suc n) ≡ kids_at rest (n - size kids) = ap first_kids (find_past l kids rest n q) in
      let inner : j < count (kids_at rest (n - size kids)) = subst (λ (g : Forest). j < count g) same k in
      let c : ℕ = child_place (id + 1) (kids_at rest (n - size kids)) j in
      let low : id + 1 ≤ c = child_least (id + 1) (kids_at rest (n - size kids)) j in
      subst (λ (g : Forest). IsOneMore i at (Node l kids rest) g j id) (sym same)
      (steps-behind i at c l kids rest (λ eq. omega (arith, eq, low, e)) (omega (arith, low, e, q))
      ∙ steps-below (i + 1) (at + 1 + size kids) (n - size kids) rest j id (omega (arith, e, q)) (omega (arith, h, q)) inner
      ∙ ap (λ (t : List Down). t ++ step-at (kids_at rest (n - size kids)) j j ∷ []) (sym (steps-behind i at id l kids rest (λ eq. omega (arith, eq, e)) (omega (arith, e, q)))))
]

only-one : (rest : Forest) → suc (count rest) ≡ 1 → rest ≡ Nil
only-one Nil h = refl
only-one (Node l kids rest) h = absurd (omega arith)

-- the path of a node that is not the root
below-root : (l : Label) (kids rest : Forest) (c : ℕ) → 1 ≤ c → path_of (Node l kids rest) c ≡ steps_in 0 1 kids c
below-root l kids rest c low = ap (λ (b : Bool). if b then [] else steps_in 0 1 kids c) (other_nat c 0 (λ e. omega (arith, low, e)))

-- the path of a value in a node
path-below : (f : Forest) (p j : ℕ) → IsTree f → p < size f → j < count (kids_at f p) → path_of f (child_place (p + 1) (kids_at f p) j) ≡ path_of f p ++ step-at (kids_at f p) j j ∷ []
path-below Nil p j t h k = absurd (omega arith)
path-below (Node l kids rest) zero j t h k =
    let c : ℕ = child_place 1 kids j in
    let low : 1 ≤ c = child_least 1 kids j in
    let z : 0 + j ≡ j = omega arith in
    let one : 0 + 1 ≡ 1 = omega arith in
    ap (λ (m : ℕ). path_of (Node l kids rest) (child_place m kids j)) one
    ∙ below-root l kids rest c low
    ∙ steps-beside 0 1 kids j k ∙ ap (λ (m : ℕ). step-at kids m j ∷ []) z
path-below (Node l kids rest) (suc n) j t h k =
    let none : rest ≡ Nil = only-one rest t.one in
    let bare : size rest ≡ 0 = ap size none in
    let q : n < size kids = omega (arith, bare, h) in
    let same : kids_at (Node l kids rest) (suc n) ≡ kids_at kids n = ap first_kids (find_in l kids rest n q) in
    let inner : j < count (kids_at kids n) = subst (λ (g : Forest). j < count g) same k in
    let low : suc n + 1 ≤ child_place (suc n + 1) (kids_at kids n) j = child_least (suc n + 1) (kids_at kids n) j in
    subst (λ (g : Forest). path_of (Node l kids rest) (child_place (suc n + 1) g j) ≡ path_of (Node l kids rest) (suc n) ++ step-at g j j ∷ []) (sym same)
    (below-root l kids rest (child_place (suc n + 1) (kids_at kids n) j) (omega (arith, low))
    ∙ steps-below 0 1 n kids j (suc n) (omega arith) q inner
    ∙ ap (λ (t : List Down). t ++ step-at (kids_at kids n) j j ∷ []) (sym (below-root l kids rest (suc n) (omega arith))))

-- where it stands
pub place-below : (f : Forest) (p j : ℕ) → IsTree f → p < size f → j < count (kids_at f p)
    → place_of f (child_place (p + 1) (kids_at f p) j) ≡ inside (place_of f p) (step_to j (first_label (from_index (kids_at f p) j)).key)
place-below f p j t h k =
    ap (fold inside place.Cases) (path-below f p j t h k) ∙ fold-append inside place.Cases (path_of f p) (step-at (kids_at f p) j j ∷ [])

-- where the value of a key stands
pub place-under : (f : Forest) (p q : ℕ) (key : List ℕ) → IsTree f → p < size f → key_place (p + 1) (kids_at f p) key ≡ Some q → place_of f q ≡ inside (place_of f p) (ToEntry key)
place-under f p q key t h is =
    let u : IsUnder (kids_at f p) key (p + 1) q = key-under (kids_at f p) key (p + 1) q is in
    ap (place_of f) (sym u.there) ∙ place-below f p u.index t h u.within ∙ ap (λ k. inside (place_of f p) (step_to u.index k)) u.keyed

-- the root is the list of cases
pub place-root : (f : Forest) → place_of f 0 ≡ place.Cases
place-root Nil = refl
place-root (Node l kids rest) = refl

-- what stands in a map from names of rules stands there whatever its index
pub in-rules : (i j : ℕ) (key : Option (List ℕ)) → inside place.Rules (step_to i key) ≡ inside place.Rules (step_to j key)
in-rules i j None = refl
in-rules i j (Some key) = refl

-- ---- the items of the list of cases

items-keyless : (before f : Forest) (i : ℕ) → AreValues false before f → i < count f → (first_label (from_index f i)).key ≡ None
items-keyless before Nil i v h = absurd (omega (arith, h))
items-keyless before (Node l kids rest) zero v h = v.0
items-keyless before (Node l kids rest) (suc i) v h = items-keyless (snoc before l kids) rest i v.4 (omega (arith, h))

list-no-map : (k : Kind) → is_list k ≡ true → is_map k ≡ false
list-no-map kind.Null e = refl
list-no-map (kind.Truth b) e = refl
list-no-map (kind.Whole z) e = refl
list-no-map (kind.Fraction d) e = refl
list-no-map kind.Text e = refl
list-no-map kind.List e = refl
list-no-map kind.Map e = absurd (true≢false (sym e))
list-no-map kind.Pattern e = refl
list-no-map (kind.Limits r) e = refl

-- each is a case
pub case-place : (f : Forest) (i : ℕ) → IsTree f → HasShape f → 0 < size f → i < count (kids_at f 0) → place_of f (child_place 1 (kids_at f 0) i) ≡ place.Case
case-place f i t shape h k =
    let listed : is_list (label_at f 0).kind ≡ true = ap (λ p. is_shaped p (label_at f 0) (kids_at f 0)) (sym (place-root f)) ∙ shape 0 h in
    let bare : AreValues false Nil (kids_at f 0) = subst (λ b. AreValues b Nil (kids_at f 0)) (list-no-map (label_at f 0).kind listed) (kids-formed f 0 t h) in
    place-below f 0 i t h k
    ∙ ap (λ p. inside p (step_to i (first_label (from_index (kids_at f 0) i)).key)) (place-root f)
    ∙ ap (λ key. inside place.Cases (step_to i key)) (items-keyless Nil (kids_at f 0) i bare k)
