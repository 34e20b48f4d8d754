-- In a map each key stands once, so an entry that has a key is the entry of that key. By induction on the entries.
use Rattle.std.proofs.Common.{◌≡◌, ℕ, zero, suc, ◌+◌, ◌<◌, Bool, true, false, ◌||◌, List, get_or, Option, Some, None, refl, sym, ap, subst, ◌∙◌, arith, true≢false}
use Rattle.std.specs.Prelude.{if◌then◌else◌}
use Rattle.std.proofs.lemmas.Slice.Eq.{bytes_eq-Decides}
use Rattle.doc_values.specs.Places.{child_place, key_place, kids_at, label_at}
use Rattle.doc_values.specs.Tree.{AreValues, Forest, IsKeyed, IsTree, Label, Nil, Node, count, has_key, is_map, key_is, size, snoc}
use Rattle.doc_values.proofs.Lookups.{kids-formed}
use Rattle.rule_generator.proofs.Nodes.{child-label, labels_in}

or-left : (a b : Bool) → (a || b) ≡ false → a ≡ false
or-left true b e = absurd (true≢false e)
or-left false b e = refl

or-right : (a b : Bool) → (a || b) ≡ false → b ≡ false
or-right true b e = absurd (true≢false e)
or-right false b e = e

-- neither the values before nor the one behind them has the key
not-before : (f : Forest) (l : Label) (kids : Forest) (k : List ℕ) → has_key (snoc f l kids) k ≡ false → (has_key f k ≡ false) × (key_is l.key k ≡ false)
not-before Nil l kids k e = (refl, or-left (key_is l.key k) false e)
not-before (Node m ks rest) l kids k e =
    let more = not-before rest l kids k (or-right (key_is m.key k) (has_key (snoc rest l kids) k) e) in
    (ap (λ b. b || has_key rest k) (or-left (key_is m.key k) (has_key (snoc rest l kids) k) e) ∙ more.0, more.1)

same-key : (o : Option (List ℕ)) (k : List ℕ) → key_is o k ≡ true → o ≡ Some k
same-key None k e = absurd (true≢false (sym e))
same-key (Some j) k e = ap (λ t. Some t) ((bytes_eq-Decides j k).0 e)

keyed-new : (before : Forest) (key : Option (List ℕ)) (k : List ℕ) → key_is key k ≡ true → IsKeyed true before key → has_key before k ≡ false
keyed-new before key k e new = subst (IsKeyed true before) (same-key key k e) new

-- the entry at an index has a key: so none before it has
pub record IsFirst (kids before : Forest) (at i : ℕ) (k : List ℕ) : Type 0 where
  pub place : key_place at kids k ≡ Some (child_place at kids i)
  pub new : has_key before k ≡ false

first : (kids before : Forest) (at i : ℕ) (k : List ℕ) (d : Label) → AreValues true before kids → i < count kids → key_is (get_or (labels_in kids) i d).key k ≡ true → IsFirst kids before at i k
unfolding labels_in
first Nil before at i k d v h e = absurd (omega arith)
first (Node l kids rest) before at zero k d v h e = record {
  place = ap (λ b. if b then Some at else key_place (at + 1 + size kids) rest k) e;
  new = keyed-new before l.key k e v.0;
}
first (Node l kids rest) before at (suc i) k d v h e =
    let r = first rest (snoc before l kids) (at + 1 + size kids) i k d v.4 (omega arith) e in
    let n = not-before before l kids k r.new in
    record { place = ap (λ b. if b then Some at else key_place (at + 1 + size kids) rest k) n.1 ∙ r.place; new = n.0 }

-- in a node of a tree
pub key-near : (f : Forest) (p i q : ℕ) (g : Forest) (k : List ℕ) → IsTree f → p < size f → is_map (label_at f p).kind ≡ true → i < count (kids_at f p) → g ≡ f
    → q ≡ child_place (p + 1) (kids_at f p) i → key_is (label_at g q).key k ≡ true → key_place (p + 1) (kids_at f p) k ≡ Some q
key-near f p i q g k tree h map inside same is e =
    let kids : Forest = kids_at f p in
    let l : Label = label_at g q in
    let formed : AreValues true Nil kids = subst (λ b. AreValues b Nil kids) map (kids-formed f p tree h) in
    let own : key_is (get_or (labels_in kids) i l).key k ≡ true = ap (λ (m : Label). key_is m.key k) (child-label f p i q g l h inside same is) ∙ e in
    (first kids Nil (p + 1) i k l formed inside own).place ∙ ap (λ n. Some n) (sym is)
