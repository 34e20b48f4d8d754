-- What the numbers of nodes say in a well-formed tree, by induction on the values before.
use Rattle.std.proofs.Common.{◌≡◌, ℕ, zero, suc, ◌+◌, ◌-◌, ◌<◌, ◌≤◌, Bool, true, false, ◌||◌, List, refl, sym, ap, ◌∙◌, inl, inr, ◌⊎◌, arith, subst, Some, None}
use Rattle.std.specs.Prelude.{nat_lt, nat_eq, if◌then◌else◌}
use Rattle.std.proofs.lemmas.Bool.Decides.{nat_tests}
use Rattle.std.proofs.lemmas.Bool.{cases_lt, true≢false}
use Rattle.doc_values.specs.Tree.{Label, Forest, Nil, Node, size, count, snoc, key_is, has_key, is_map, AreValues, IsTree}
use Rattle.doc_values.specs.Places.{first_label, first_kids, label_at, kids_at, key_place, Spot, spot_in, spot_of}
use Rattle.doc_values.proofs.Among.{find_in, find_past}

tested : (b : Bool) → (b ≡ true) ⊎ (b ≡ false)
tested true = inl refl
tested false = inr refl

-- no number where no key is
pub key_place-lacks : (at : ℕ) (f : Forest) (k : List ℕ) → has_key f k ≡ false → key_place at f k ≡ None
key_place-lacks at Nil k h = refl
key_place-lacks at (Node l kids rest) k h = elim (tested (key_is l.key k)) [
  | inl e ↦ absurd (true≢false (sym (ap (λ q. q || has_key rest k) e) ∙ h))
  | inr e ↦ ap (λ q. if q then Some at else key_place (at + 1 + size kids) rest k) e ∙ key_place-lacks (at + 1 + size kids) rest k (sym (ap (λ q. q || has_key rest k) e) ∙ h)
]

-- a number where a key is
pub key_place-has : (at : ℕ) (f : Forest) (k : List ℕ) → has_key f k ≡ true → (p : ℕ) × (key_place at f k ≡ Some p)
key_place-has at Nil k h = absurd (true≢false (sym h))
key_place-has at (Node l kids rest) k h = elim (tested (key_is l.key k)) [
  | inl e ↦ (at, ap (λ q. if q then Some at else key_place (at + 1 + size kids) rest k) e)
  | inr e ↦
      let r = key_place-has (at + 1 + size kids) rest k (sym (ap (λ q. q || has_key rest k) e) ∙ h) in
      (r.0, ap (λ q. if q then Some at else key_place (at + 1 + size kids) rest k) e ∙ r.1)
]

-- the values in each node are well formed
kids-values : (b : Bool) (before f : Forest) (n : ℕ) → AreValues b before f → n < size f → AreValues (is_map (label_at f n).kind) Nil (kids_at f n)
kids-values b before Nil n v h = absurd (omega arith)
kids-values b before (Node l kids rest) zero (k, t, e, i, r) h = i
kids-values b before (Node l kids rest) (suc n) (k, t, e, i, r) h = elim (cases_lt n (size kids)) [
  | inl q ↦ subst (λ g. AreValues (is_map (first_label g).kind) Nil (first_kids g)) (sym (find_in l kids rest n q)) (kids-values (is_map l.kind) Nil kids n i q)
  | inr q ↦ subst (λ g. AreValues (is_map (first_label g).kind) Nil (first_kids g)) (sym (find_past l kids rest n q)) (kids-values b (snoc before l kids) rest (n - size kids) r (omega arith))
]

pub kids-formed : (f : Forest) (n : ℕ) → IsTree f → n < size f → AreValues (is_map (label_at f n).kind) Nil (kids_at f n)
kids-formed f n t h = kids-values false Nil f n t.values h

-- values elsewhere than in a map have no key
keyless : (before f : Forest) (k : List ℕ) → AreValues false before f → has_key f k ≡ false
keyless before Nil k v = refl
keyless before (Node l kids rest) k (none, t, e, i, r) = ap (λ x. key_is x k || has_key rest k) none ∙ keyless (snoc before l kids) rest k r

-- in a value that is no map no key has a number
pub key_place-no_map : (f : Forest) (n at : ℕ) (k : List ℕ) → IsTree f → n < size f → is_map (label_at f n).kind ≡ false → key_place at (kids_at f n) k ≡ None
key_place-no_map f n at k t h e = key_place-lacks at (kids_at f n) k (keyless Nil (kids_at f n) k (subst (λ b. AreValues b Nil (kids_at f n)) e (kids-formed f n t h)))

none_some : (q : ℕ) → Some q ≡ None → ⊥
none_some q e = cc

-- a value in a node has a parent
in_some : (q i at id : ℕ) (f : Forest) → (spot_in (Some q) i at f id).parent ≡ None → ⊥
in_some q i at id Nil e = none_some q e
in_some q i at id (Node l kids rest) e = elim (tested (nat_eq id at)) [
  | inl a ↦ none_some q (sym (ap (λ (s : Spot). s.parent) (ap (λ b. if b then record { parent = Some q; index = i } else (if nat_lt id (at + 1 + size kids) then spot_in (Some at) 0 (at + 1) kids id else spot_in (Some q) (i + 1) (at + 1 + size kids) rest id)) a)) ∙ e)
  | inr a ↦ elim (tested (nat_lt id (at + 1 + size kids))) [
    | inl b ↦ in_some at 0 (at + 1) id kids (sym (ap (λ (s : Spot). s.parent) (ap (λ b. if b then record { parent = Some q; index = i } else (if nat_lt id (at + 1 + size kids) then spot_in (Some at) 0 (at + 1) kids id else spot_in (Some q) (i + 1) (at + 1 + size kids) rest id)) a ∙ ap (λ c. if c then spot_in (Some at) 0 (at + 1) kids id else spot_in (Some q) (i + 1) (at + 1 + size kids) rest id) b)) ∙ e)
    | inr b ↦ in_some q (i + 1) (at + 1 + size kids) id rest (sym (ap (λ (s : Spot). s.parent) (ap (λ b. if b then record { parent = Some q; index = i } else (if nat_lt id (at + 1 + size kids) then spot_in (Some at) 0 (at + 1) kids id else spot_in (Some q) (i + 1) (at + 1 + size kids) rest id)) a ∙ ap (λ c. if c then spot_in (Some at) 0 (at + 1) kids id else spot_in (Some q) (i + 1) (at + 1 + size kids) rest id) b)) ∙ e)
  ]
]

-- the root alone has no parent
at_top : (id : ℕ) (l : Label) (kids rest : Forest) → size rest ≡ 0 → id < size (Node l kids rest) → (spot_of (Node l kids rest) id).parent ≡ None → id ≡ 0
at_top id l kids rest s h e = elim (tested (nat_eq id 0)) [
  | inl a ↦ grind (arith, nat_tests)
  | inr a ↦ elim (tested (nat_lt id (0 + 1 + size kids))) [
    | inl b ↦ absurd (in_some 0 0 (0 + 1) id kids (sym (ap (λ (s : Spot). s.parent) (ap (λ b. if b then record { parent = None; index = 0 } else (if nat_lt id (0 + 1 + size kids) then spot_in (Some 0) 0 (0 + 1) kids id else spot_in None (0 + 1) (0 + 1 + size kids) rest id)) a ∙ ap (λ c. if c then spot_in (Some 0) 0 (0 + 1) kids id else spot_in None (0 + 1) (0 + 1 + size kids) rest id) b)) ∙ e))
    | inr b ↦ let q : 0 + 1 + size kids ≤ id = grind (arith, nat_tests) in absurd (omega arith)
  ]
]

last_size : (rest : Forest) → suc (count rest) ≡ 1 → size rest ≡ 0
last_size Nil h = refl
last_size (Node l kids rest) h = absurd (omega arith)

pub parent-root : (f : Forest) (id : ℕ) → IsTree f → id < size f → (spot_of f id).parent ≡ None → id ≡ 0
parent-root Nil id t h e = absurd (omega arith)
parent-root (Node l kids rest) id t h e = at_top id l kids rest (last_size rest t.one) h e
