-- Entries of a map have keys.
use Rattle.std.proofs.Common.{◌≡◌, ℕ, zero, suc, ◌+◌, ◌-◌, ◌<◌, ◌≤◌, Bool, true, false, ◌&&◌, List, [], ◌∷◌, map, Option, Some, None, refl, sym, ap, subst, ◌∙◌, inl, inr, arith, nat_lt, is_some}
use Rattle.std.specs.List.{list_all}
use Rattle.std.proofs.lemmas.Bool.{cases_lt, and_from, and_parts, true≢false}
use Rattle.std.proofs.lemmas.Bool.Decides.{nat_tests}
use Rattle.doc_values.specs.Tree.{Forest, Nil, Node, AreValues, IsKeyed, IsTree, size, snoc, is_map}
use Rattle.doc_values.specs.Places.{find, first_label, first_kids, kids_at, label_at}
use Rattle.doc_values.proofs.Among.{find_in, find_past}
use Rattle.guard_syntax.specs.declared.row.Ref.{Ref}
use Rattle.rule_meaning.specs.StoreModel.{StoreModel, is_known_ref, tree_of}
use Rattle.rule_meaning.specs.Values.{Value, value_at}
use Rattle.value_store.proofs.Nodes.{below, size_in}
use Rattle.rule_meaning.specs.Reached.{key_of, node_beside, numbers, value_for}

-- each of the values side by side has a key
all_keyed : Forest → Bool
all_keyed Nil = true
all_keyed (Node l kids rest) = is_some l.key && all_keyed rest

has_key : (o : Option (List ℕ)) (before : Forest) → IsKeyed true before o → is_some o ≡ true
has_key None before h = absurd h
has_key (Some key) before h = refl

side-keyed : (before f : Forest) → AreValues true before f → all_keyed f ≡ true
unfolding all_keyed
side-keyed before Nil v = refl
side-keyed before (Node l kids rest) v = and_from _ _ (has_key l.key before v.0) (side-keyed (snoc before l kids) rest v.4)

-- those of a map
kids-keyed : (b : Bool) (before f : Forest) (n : ℕ) → AreValues b before f → n < size f → is_map (label_at f n).kind ≡ true → all_keyed (kids_at f n) ≡ true
kids-keyed b before Nil n v h m = absurd (omega arith)
kids-keyed b before (Node l kids rest) zero v h m = side-keyed Nil kids (subst (λ (k : Bool). AreValues k Nil kids) m v.3)
kids-keyed b before (Node l kids rest) (suc n) v h m = elim (cases_lt n (size kids)) [
  | inl q ↦
      let e = find_in l kids rest n q in
      ap (λ (g : Forest). all_keyed (first_kids g)) e ∙ kids-keyed (is_map l.kind) Nil kids n v.3 q (ap (λ (g : Forest). is_map (first_label g).kind) (sym e) ∙ m)
  | inr q ↦
      let e = find_past l kids rest n q in
      ap (λ (g : Forest). all_keyed (first_kids g)) e
      ∙ kids-keyed b (snoc before l kids) rest (n - size kids) v.4 (omega arith) (ap (λ (g : Forest). is_map (first_label g).kind) (sym e) ∙ m)
]

-- whether a node of a tree has a key
abbrev is_entry : Forest → ℕ → Bool
is_entry f n = nat_lt n (size f) && is_some (label_at f n).key

-- values side by side where they stand in a tree, the first at the number n
side-entries : (f : Forest) (n : ℕ) (g : Forest) → n + size g ≤ size f → ((m : ℕ) → m < size g → find f (n + m) ≡ find g m) → all_keyed g ≡ true
    → list_all (is_entry f) (numbers n g) ≡ true
unfolding all_keyed
side-entries f n Nil fits at keyed = refl
side-entries f n (Node l kids rest) fits at keyed =
    let both : (is_some l.key ≡ true) × (all_keyed rest ≡ true) = and_parts _ _ keyed in
    let zero-is : n + 0 ≡ n = omega arith in
    let first : find f n ≡ Node l kids rest = ap (find f) (sym zero-is) ∙ at 0 (omega arith) in
    let within : nat_lt n (size f) ≡ true = grind (arith, nat_tests) in
    let here : is_entry f n ≡ true = and_from _ _ within (ap (λ (g : Forest). is_some (first_label g).key) first ∙ both.0) in
    and_from _ _ here (side-entries f (n + 1 + size kids) rest (omega arith) (λ m h. later m h) both.1)
  where
    later : (m : ℕ) → m < size rest → find f (n + 1 + size kids + m) ≡ find rest m
    later m h =
        let a : n + 1 + size kids + m ≡ n + suc (size kids + m) = omega arith in
        let b : size kids + m - size kids ≡ m = omega arith in
        ap (find f) a ∙ at (suc (size kids + m)) (omega arith) ∙ find_past l kids rest (size kids + m) (omega arith) ∙ ap (find rest) b

-- those of a map in a tree
entries : (f : Forest) (n : ℕ) → IsTree f → n < size f → is_map (label_at f n).kind ≡ true → list_all (is_entry f) (numbers (n + 1) (kids_at f n)) ≡ true
entries f n tree h m = side-entries f (n + 1) (kids_at f n) (size_in f n h) at (kids-keyed false Nil f n tree.values h m)
  where
    at : (m : ℕ) → m < size (kids_at f n) → find f (n + 1 + m) ≡ find (kids_at f n) m
    at m k = let e : n + 1 + m ≡ suc (n + m) = omega arith in ap (find f) e ∙ below f n m h k

key-known : (k : StoreModel) (r : Ref) (f : Forest) (n : ℕ) (o : Option (List ℕ)) → tree_of k r.origin ≡ Some f → nat_lt n (size f) ≡ true → (label_at f n).key ≡ o → is_some o ≡ true → is_known_ref k (key_of (node_beside r n)) ≡ true
key-known k r f n None there within keyed h = absurd (true≢false (sym h))
key-known k r f n (Some key) there within keyed h = rw (there, within, keyed) refl

keys-known : (k : StoreModel) (r : Ref) (f : Forest) (ns : List ℕ) → tree_of k r.origin ≡ Some f → list_all (is_entry f) ns ≡ true → list_all (λ q. is_known_ref k (key_of q)) (map (node_beside r) ns) ≡ true
keys-known k r f [] there h = refl
keys-known k r f (n ∷ ns) there h =
    let both : (is_entry f n ≡ true) × (list_all (is_entry f) ns ≡ true) = and_parts _ _ h in
    let here : (nat_lt n (size f) ≡ true) × (is_some (label_at f n).key ≡ true) = and_parts _ _ both.0 in
    and_from _ _ (key-known k r f n (label_at f n).key there here.0 refl here.1) (keys-known k r f ns there both.1)

-- the keys of a map are known
pub entries-known : (k : StoreModel) (r : Ref) (f : Forest) (n : ℕ) → tree_of k r.origin ≡ Some f → value_for k r ≡ value_at f n → IsTree f → n < size f → is_map (value_for k r).kind ≡ true
    → list_all (λ q. is_known_ref k (key_of q)) (map (node_beside r) (numbers (n + 1) (kids_at f n))) ≡ true
entries-known k r f n there is tree h m =
    keys-known k r f (numbers (n + 1) (kids_at f n)) there (entries f n tree h (ap (λ (v : Value). is_map v.kind) (sym is) ∙ m))
