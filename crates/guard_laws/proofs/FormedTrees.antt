-- What a text stands for is a tree: one value, in which keys stand in maps alone, each once; as JSON by induction on the tree, by the
-- cases of values, as YAML by the lemma on YAML.
use Rattle.std.proofs.Common.{◌≡◌, ℕ, List, [], Option, Some, None, Bool, true, false, true≢false, inl, inr, refl, sym, subst}
use Rattle.doc_values.specs.declared.kind.Kind.TheVariants as kind
use Rattle.doc_values.specs.Tree.{AreValues, Forest, IsKeyed, IsTree, Label, Nil, Node, is_map, snoc}
use Rattle.json_reader.specs.Json as json
use Rattle.json_reader.specs.Json.{AreDistinct, Json, IsNew, kind_of}
use Rattle.yaml_grammar.proofs.FormedTrees.{IsFormed, leaf-formed, node-formed, root-formed, yaml-formed}
use Rattle.guard_ends.specs.Inputs.{IsTemplate, IsTreeOf}
use Rattle.guard_ends.specs.declared.format.Format.{Format}
use Rattle.guard_ends.specs.declared.format.Format.TheVariants as format

abbrev AreHeld : json.Contents → Forest → Type 0
AreHeld holds kids = (o : json.Collection) (at : ℕ) (bytes : List ℕ) → holds o at bytes → AreValues (is_map (kind_of o)) Nil kids

bracketed : (o : json.Collection) (key : Option (List ℕ)) (at : ℕ) (kids : Forest) → AreValues (is_map (kind_of o)) Nil kids
    → IsFormed key (record { kind = kind_of o; text = []; key = key; at = at }) kids
bracketed json.Object key at kids values = (refl, λ e. refl, λ e. absurd (true≢false e), values)
bracketed json.Array key at kids values = (refl, λ e. refl, λ e. absurd (true≢false e), values)

json-value : (holds : json.Contents) (kids : Forest) → AreHeld holds kids → (at : ℕ) (key : Option (List ℕ)) (l : Label) (bytes : List ℕ)
    → json.IsValue holds at key l kids bytes → IsFormed key l kids
json-value holds kids inner at key l bytes (inl (c, t, spelled, chars, label, none)) =
    leaf-formed (record { kind = kind.Text; text = t; key = key; at = at }) l kids label none (λ e. absurd (true≢false e))
json-value holds kids inner at key l bytes (inr (inl (p, k, spelled, stands, label, none))) =
    leaf-formed (record { kind = k; text = []; key = key; at = at }) l kids label none (λ e. refl)
json-value holds kids inner at key l bytes (inr (inr (inl (k, named, label, none)))) =
    leaf-formed (record { kind = k; text = []; key = key; at = at }) l kids label none (λ e. refl)
json-value holds kids inner at key l bytes (inr (inr (inr (o, c, spelled, held, label)))) =
    subst (λ (n : Label). IsFormed key n kids) (sym label) (bracketed o key at kids (inner o _ c held))

new-keyed : (before : Forest) (key : Option (List ℕ)) (k : List ℕ) → key ≡ Some k → IsNew before key → IsKeyed true before (Some k)
new-keyed before key k is new = subst (IsNew before) is new

json-entry : (o : json.Collection) (holds : json.Contents) (kids : Forest) → AreHeld holds kids → (at : ℕ) (l : Label) (bytes : List ℕ) (before : Forest)
    → json.IsEntry o holds at l kids bytes → IsNew before l.key → (key : Option (List ℕ)) × IsFormed key l kids × IsKeyed (is_map (kind_of o)) before key
json-entry json.Object holds kids inner at l bytes before (c, k, s, v, spelled, chars, colon, value) new =
    let good = json-value holds kids inner _ (Some k) l v value in
    (Some k, good, new-keyed before l.key k good.0 new)
json-entry json.Array holds kids inner at l bytes before value new = (None, json-value holds kids inner _ None l bytes value, refl)

json-entries : (kids : Forest) (o : json.Collection) (first : Bool) (at : ℕ) (bytes : List ℕ) (before : Forest) → json.Entries kids first o at bytes
    → AreDistinct kids before → AreValues (is_map (kind_of o)) before kids
json-entries Nil o first at bytes before held distinct = tt
json-entries (Node l kids rest) o first at bytes before (lead, e, r, spelled, led, entry, more) (new, inside, others) =
    let good = json-entry o (json.Entries kids true) kids (λ o at bytes held. json-entries kids o true at bytes Nil held inside) _ l e before entry new in
    node-formed (is_map (kind_of o)) before l kids rest good.0 good.1 good.2 (json-entries rest o false _ r (snoc before l kids) more others)

json-formed : (bytes : List ℕ) (tree : Forest) → Json bytes tree → IsTree tree
json-formed bytes tree read = by_shape read.shape
  where
    by_shape : json.Shape bytes tree → IsTree tree
    by_shape (front, w, v, r, l, kids, spelled, begins, before, behind, value, whole) =
        let distinct : AreDistinct (Node l kids Nil) Nil = subst (λ (t : Forest). AreDistinct t Nil) whole read.distinct in
        let good = json-value (json.Entries kids true) kids (λ o at bytes held. json-entries kids o true at bytes Nil held distinct.1) _ None l v value in
        subst IsTree (sym whole) (root-formed l kids good)

-- in both formats
tree-formed : (f : Format) (text : List ℕ) (tree : Forest) → IsTreeOf f text tree → IsTree tree
tree-formed format.Json text tree read = json-formed text tree read
tree-formed format.Yaml text tree read = yaml-formed text tree read.0

pub template-formed : (f : Format) (bytes : List ℕ) (tree : Forest) → IsTemplate f bytes tree → IsTree tree
template-formed f bytes tree whole = tree-formed f bytes tree whole.read
