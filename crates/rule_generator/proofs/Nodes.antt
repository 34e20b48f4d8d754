-- What stands in a node, as cursors have it: the values side by side by their indexes, and the entry of a key.
use Rattle.std.proofs.Common.{◌≡◌, ℕ, zero, suc, ◌+◌, ◌-◌, ◌<◌, ◌≤◌, Bool, true, false, List, [], ◌∷◌, ◌++◌, length, get_or, Option, Some, None, refl, sym, ap, ap₂, ◌∙◌, arith}
use Rattle.std.specs.Prelude.{MatchOption, option_map, filter, if◌then◌else◌}
use Rattle.std.specs.List.{cons_option, flat_map}
use Rattle.doc_values.specs.Places.{first_label, label_at, kids_at, child_place, key_place}
use Rattle.doc_values.specs.Tree.{IsTree, Label, Forest, Nil, Node, size, count, is_map}
use Rattle.doc_values.specs.declared.cursor.Cursor.{Cursor}
use Rattle.doc_values.specs.declared.kind.Kind.{Kind}
use Rattle.doc_values.specs.declared.kind.Kind.TheVariants as kind
use Rattle.doc_values.proofs.Among.{find_past}
use Rattle.rule_generator.specs.GeneratedRules.{entry, keys_in}
use Rattle.rule_generator.specs.code.Seen.{see}
use Rattle.rule_meaning.specs.Pairs.{entry_of}
use Rattle.rule_meaning.specs.Values.{Value, value_at, values_in}
use Rattle.rule_generator.proofs.KeyPlaces.{key-value, no-key}
use Rattle.value_store.proofs.Nodes.{below, child_least, child_most, item_at}

-- ---- values by their indexes

-- the value of a node's child
pub child-value : (f : Forest) (p i q : ℕ) (g : Forest) (d : Value) → p < size f → i < count (kids_at f p) → g ≡ f → q ≡ child_place (p + 1) (kids_at f p) i
    → get_or (values_in (kids_at f p)) i d ≡ value_at g q
child-value f p i q g d h k same is = item_at f p i d h k ∙ sym (ap₂ value_at same is)

-- the labels side by side
unfoldable pub labels_in : Forest → List Label
labels_in Nil = []
labels_in (Node l kids rest) = l ∷ labels_in rest

pub length-labels : (f : Forest) → length (labels_in f) ≡ count f
unfolding labels_in
length-labels Nil = refl
length-labels (Node l kids rest) = ap suc (length-labels rest)

sibling : (g : Forest) (i n m : ℕ) (d : Label) → i < count g → child_place n g i ≡ n + m → label_at g m ≡ get_or (labels_in g) i d
unfolding labels_in
sibling Nil i n m d h e = absurd (omega arith)
sibling (Node l kids rest) zero n m d h e = let z : m ≡ 0 = omega arith in ap (label_at (Node l kids rest)) z
sibling (Node l kids rest) (suc i) n zero d h e = let r = child_least (n + 1 + size kids) rest i in absurd (omega arith)
sibling (Node l kids rest) (suc i) n (suc m) d h e =
    let r = child_least (n + 1 + size kids) rest i in
    let low : size kids ≤ m = omega arith in
    ap first_label (find_past l kids rest m low) ∙ sibling rest i (n + 1 + size kids) (m - size kids) d (omega arith) (omega arith)

pub child-label : (f : Forest) (p i q : ℕ) (g : Forest) (d : Label) → p < size f → i < count (kids_at f p) → g ≡ f → q ≡ child_place (p + 1) (kids_at f p) i
    → get_or (labels_in (kids_at f p)) i d ≡ label_at g q
child-label f p i q g d h k same is =
    let kids : Forest = kids_at f p in
    let low = child_least (p + 1) kids i in
    let high = child_most (p + 1) kids i k in
    let m : ℕ = child_place (p + 1) kids i - (p + 1) in
    let from : child_place (p + 1) kids i ≡ p + 1 + m = omega arith in
    let at : child_place (p + 1) kids i ≡ suc (p + m) = omega arith in
    sym (ap₂ label_at same is ∙ ap (label_at f) at ∙ ap first_label (below f p m h (omega arith)) ∙ sibling kids i (p + 1) m d k from)

-- keys that pass a test, label by label
pub keys-joined : (test : List ℕ → Bool) (f : Forest) → flat_map (λ (l : Label). filter test (cons_option l.key [])) (labels_in f) ≡ filter test (keys_in f)
unfolding labels_in
keys-joined test Nil = refl
keys-joined test (Node l kids rest) = one l.key _ (keys_in rest) (keys-joined test rest)
  where
    both : (k : List ℕ) (b : Bool) (more ks : List (List ℕ)) → more ≡ filter test ks → test k ≡ b → filter test (k ∷ []) ++ more ≡ filter test (k ∷ ks)
    both k true more ks e is = rw is (ap (λ l. k ∷ l) e)
    both k false more ks e is = rw is e

    one : (key : Option (List ℕ)) (more ks : List (List ℕ)) → more ≡ filter test ks → filter test (cons_option key []) ++ more ≡ filter test (cons_option key ks)
    one None more ks e = e
    one (Some k) more ks e = both k (test k) more ks e refl

-- ---- the entry of a key

pub map-has : (f : Forest) (p : ℕ) (key : List ℕ) (k : Kind) → (label_at f p).kind ≡ k → is_map k ≡ true → entry key (value_at f p) ≡ entry_of (kids_at f p) (Some key)
map-has f p key k is map = ap (λ b. if b then entry_of (kids_at f p) (Some key) else None) (ap is_map is ∙ map)

pub other-has : (f : Forest) (p : ℕ) (key : List ℕ) → is_map (label_at f p).kind ≡ false → entry key (value_at f p) ≡ None
other-has f p key off = ap (λ b. if b then entry_of (kids_at f p) (Some key) else None) off

-- a kind that is not that of maps
pub not-map : (k : Kind) → (k ≡ kind.Map → ⊥) → is_map k ≡ false
not-map kind.Null h = refl
not-map (kind.Truth b) h = refl
not-map (kind.Whole n) h = refl
not-map (kind.Fraction d) h = refl
not-map kind.Text h = refl
not-map kind.List h = refl
not-map kind.Map h = absurd (h refl)
not-map kind.Pattern h = refl
not-map (kind.Limits r) h = refl

-- as a cursor looks it up
abbrev pub IsLookup : Cursor → List ℕ → Option Cursor → Type 0
IsLookup node key found = MatchOption found (key_place (node.id + 1) (kids_at node.doc.now node.id) key ≡ None)
    (λ (c : Cursor). (c.doc.now ≡ node.doc.now) × (key_place (node.id + 1) (kids_at node.doc.now node.id) key ≡ Some c.id))

pub entry-looked : (node : Cursor) (key : List ℕ) (found : Option Cursor) → node.id < size node.doc.now → IsLookup node key found → option_map see found ≡ entry_of (kids_at node.doc.now node.id) (Some key)
entry-looked node key None h is = sym (no-key (kids_at node.doc.now node.id) key (node.id + 1) is)
entry-looked node key (Some c) h is = sym (key-value node.doc.now node.id c.id key c.doc.now h is.0 is.1)

-- a tree has a root
pub tree-some : (f : Forest) → IsTree f → 0 < size f
tree-some Nil t = let e = t.one in absurd (omega arith)
tree-some (Node l kids rest) t = omega arith
