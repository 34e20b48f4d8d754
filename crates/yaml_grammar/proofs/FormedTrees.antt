-- What a text stands for is a tree: one value, in which keys stand in maps alone, each once. By induction on the tree, by the cases of
-- nodes.
use Rattle.std.proofs.Common.{◌≡◌, ◌⊎◌, ℕ, List, [], Option, None, Bool, true, false, true≢false, if◌then◌else◌, inl, inr, refl, sym, ap, subst}
use Rattle.doc_values.specs.declared.kind.Kind.{Kind}
use Rattle.doc_values.specs.declared.kind.Kind.TheVariants as kind
use Rattle.doc_values.specs.Tree.{AreValues, Forest, IsKeyed, IsTree, Label, Nil, Node, has_key, has_text, holds_values, is_map, snoc}
use Rattle.yaml_grammar.specs.declared.ahead.Ahead.{Ahead}
use Rattle.yaml_grammar.specs.declared.form.Form.{Form}
use Rattle.yaml_grammar.specs.declared.form.Form.TheVariants.{Root, Flow, FlowTagged, Items, Entries, Tagged}
use Rattle.yaml_grammar.specs.Ahead.{ahead}
use Rattle.yaml_grammar.specs.Blocks.{IsBlockNode}
use Rattle.yaml_grammar.specs.Flow.{IsFlowNode}
use Rattle.yaml_grammar.specs.Nodes.{Contents, IsCollection, IsMissing, IsScalar, IsValue, Within, collection, leaf, setting_of, tag_key, tag_name}
use Rattle.yaml_grammar.specs.Signs.{Reach, To, Shows}
use Rattle.yaml_grammar.specs.Yaml.{IsHead, IsNode, IsRoot, IsYaml, Spells}

-- a value with a key or none: only texts and patterns have a text, only collections hold values, and these are values side by side
abbrev pub IsFormed : Option (List ℕ) → Label → Forest → Type 0
IsFormed key l kids =
    (l.key ≡ key) × (has_text l.kind ≡ false → l.text ≡ []) × (holds_values l.kind ≡ false → kids ≡ Nil) × AreValues (is_map l.kind) Nil kids

-- one that holds none
pub leaf-formed : (m l : Label) (kids : Forest) → l ≡ m → kids ≡ Nil → (has_text m.kind ≡ false → m.text ≡ []) → IsFormed m.key l kids
leaf-formed m l kids label none text =
    subst (λ (n : Label). IsFormed m.key n kids) (sym label) (subst (λ (g : Forest). IsFormed m.key m g) (sym none) (refl, text, λ e. refl, tt))

-- it stands in front of others
pub node-formed : (keyed : Bool) (before : Forest) (l : Label) (kids rest : Forest) (key : Option (List ℕ)) → IsFormed key l kids → IsKeyed keyed before key
    → AreValues keyed (snoc before l kids) rest → AreValues keyed before (Node l kids rest)
node-formed keyed before l kids rest key (same, text, none, inner) is others = (subst (IsKeyed keyed before) (sym same) is, text, none, inner, others)

pub root-formed : (l : Label) (kids : Forest) → IsFormed None l kids → IsTree (Node l kids Nil)
root-formed l kids good = record { one = refl; values = node-formed false Nil l kids Nil None good refl tt }

-- whether what stands in a collection of this form has keys
abbrev is_keyed : Form → Bool
is_keyed Root = false
is_keyed (Flow map) = map
is_keyed (FlowTagged at) = true
is_keyed (Items m) = false
is_keyed (Entries m) = true
is_keyed (Tagged at above shares) = true

-- what a collection holds, if it is read to its end; none stands before the first
abbrev AreGood : Contents → Forest → Type 0
AreGood holds kids = (f : Form) (d : ℕ) (first : Bool) (before : Forest) (i j : ℕ) → (first ≡ true → before ≡ Nil) → holds f d first before i (To j)
    → AreValues (is_keyed f) before kids

leaf-text : (k : Kind) (text : List ℕ) → has_text k ≡ false → (if has_text k then text else []) ≡ []
leaf-text k text none = ap (λ (b : Bool). if b then text else []) none

yaml-leaf : (k : Kind) (text : List ℕ) (key : Option (List ℕ)) (at : ℕ) (l : Label) (kids : Forest) → l ≡ leaf k text key at → kids ≡ Nil → IsFormed key l kids
yaml-leaf k text key at l kids label none = leaf-formed (leaf k text key at) l kids label none (leaf-text k text)

missing : (key : Option (List ℕ)) (l : Label) (kids : Forest) (i : ℕ) (r : Reach) → IsMissing key l kids i r → IsFormed key l kids
missing key l kids i r (label, none, ends) = yaml-leaf kind.Null [] key i l kids label none

opened : (map : Bool) (key : Option (List ℕ)) (at : ℕ) (kids : Forest) → AreValues map Nil kids → IsFormed key (collection map key at) kids
opened true key at kids values = (refl, λ e. refl, λ e. absurd (true≢false e), values)
opened false key at kids values = (refl, λ e. refl, λ e. absurd (true≢false e), values)

two : (a b : List ℕ) (at : ℕ) → AreValues false Nil (Node (leaf kind.Text a None at) Nil (Node (leaf kind.Text b None at) Nil Nil))
two a b at = (refl, leaf-text kind.Text a, λ e. refl, tt, (refl, leaf-text kind.Text b, λ e. refl, tt, tt))

value : (cut : Bool) (d : ℕ) (k : Kind) (t : List ℕ) (key : Option (List ℕ)) (at j : ℕ) (l : Label) (kids : Forest) (end : ℕ)
    → IsValue cut d k t key at j l kids (To end) → IsFormed key l kids
value false d k t key at j l kids end (label, none, ends) = yaml-leaf k t key at l kids label none
value true d k t key at j l kids end (inl (room, label, parts, ends)) =
    subst (λ (n : Label). IsFormed key n kids) (sym label)
    (subst (λ (g : Forest). IsFormed key (collection false key at) g) (sym parts) (opened false key at _ (two _ _ at)))
value true d k t key at j l kids end (inr (deep, ends)) = absurd cc

scalar : (text : List ℕ) (f : Form) (cuts : Bool) (d : ℕ) (a : Ahead) (key : Option (List ℕ)) (l : Label) (kids : Forest) (end : ℕ)
    → IsScalar text (setting_of f) cuts d a key l kids (To end) → IsFormed key l kids
scalar text f cuts d a key l kids end (inl (t, k, j, stands, typed, is)) = value _ d k t key a.at j l kids end is
scalar text f cuts d a key l kids end (inr (p, shown, ends)) = absurd cc

module _ (holds : Contents) (kids : Forest) (good : AreGood holds kids) where
  within : (f : Form) (e i : ℕ) (begins : Type 0) (d at : ℕ) (key : Option (List ℕ)) (l : Label) (end : ℕ)
      → Within (holds f e true Nil i) begins d (is_keyed f) at key l (To end) → IsFormed key l kids
  within f e i begins d at key l end (inl (room, label, held)) =
      subst (λ (n : Label). IsFormed key n kids) (sym label) (opened (is_keyed f) key at kids (good f e true Nil i end (λ first. refl) held))
  within f e i begins d at key l end (inr (begun, deep, ends)) = absurd cc

  bracket : (d : ℕ) (a : Ahead) (key : Option (List ℕ)) (l : Label) (end : ℕ) → IsCollection holds d a key l (To end) → IsFormed key l kids
  bracket d a key l end (map, opens, held) = within (Flow map) _ _ _ d a.at key l end held

  module _ (text : List ℕ) (f : Form) (d : ℕ) (key : Option (List ℕ)) (l : Label) (i end : ℕ) where
    block : IsBlockNode text holds f d key l kids i (To end) → IsFormed key l kids
    block (inl (takes, inl is)) = scalar text f _ d (ahead text false i) key l kids end is
    block (inl (takes, inr is)) = bracket d (ahead text false i) key l end is
    block (inr (inl (takes, held))) = within (Items _) _ _ _ d _ key l end held
    block (inr (inr (inl (takes, held)))) = within (Entries _) _ _ _ d _ key l end held
    block (inr (inr (inr (inl (len, is, takes, held))))) = within (Tagged _ _ _) _ _ _ d _ key l end held
    block (inr (inr (inr (inr (s, shown, ends))))) = absurd cc

    flow : IsFlowNode text f holds d key l kids i (To end) → IsFormed key l kids
    flow (inl (may, is)) = missing key l kids i (To end) is
    flow (inr (inl is)) = scalar text f _ d (ahead text true i) key l kids end is
    flow (inr (inr (inl is))) = bracket d (ahead text true i) key l end is
    flow (inr (inr (inr (inl (len, is, may, held))))) = within (FlowTagged _) _ _ _ d _ key l end held
    flow (inr (inr (inr (inr (s, shown, ends))))) = absurd cc

    behind : IsMissing key l kids i (To end) ⊎ IsBlockNode text holds f d key l kids i (To end) → IsFormed key l kids
    behind (inl is) = missing key l kids i (To end) is
    behind (inr is) = block is

  node : (text : List ℕ) (f : Form) (d : ℕ) (key : Option (List ℕ)) (l : Label) (i end : ℕ) → IsNode text holds f d key l kids i (To end) → IsFormed key l kids
  node text Root d key l i end is = block text Root d key l i end is
  node text (Flow map) d key l i end is = flow text (Flow map) d key l i end is
  node text (FlowTagged at) d key l i end is = flow text (FlowTagged at) d key l i end is
  node text (Items m) d key l i end is = behind text (Items m) d key l i end is
  node text (Entries m) d key l i end is = behind text (Entries m) d key l i end is
  node text (Tagged at above shares) d key l i end is = behind text (Tagged at above shares) d key l i end is

-- the key of a node, which none before it has
headed : (text : List ℕ) (f : Form) (first : Bool) (before : Forest) (i : ℕ) (key : Option (List ℕ)) (p : ℕ) → (first ≡ true → before ≡ Nil)
    → IsHead text f first before i key p → IsKeyed (is_keyed f) before key
headed text Root first before i key p alone head = absurd head
headed text (Flow false) first before i key p alone head = head.0
headed text (Flow true) first before i key p alone (k, e, t, comes, stands, new, is, colon) = subst (IsKeyed true before) (sym is) new
headed text (FlowTagged at) first before i key p alone (one, is, place) =
    subst (IsKeyed true before) (sym is) (ap (λ (g : Forest). has_key g (tag_key (tag_name text at i))) (alone one))
headed text (Items m) first before i key p alone (dash, aligned, is, place) = is
headed text (Entries m) first before i key p alone (t, named, aligned, new, is) = subst (IsKeyed true before) (sym is) new
headed text (Tagged at above shares) first before i key p alone (one, is, place) =
    subst (IsKeyed true before) (sym is) (ap (λ (g : Forest). has_key g (tag_key (tag_name text at i))) (alone one))

spelled : (text : List ℕ) (tree : Forest) → AreGood (Spells text tree) tree
spelled text Nil f d first before i j alone is = tt
spelled text (Node l kids rest) f d first before i j alone (key, p, To q, head, is, goes) =
    node-formed (is_keyed f) before l kids rest key (node (Spells text kids) kids (spelled text kids) text f d key l p q is)
    (headed text f first before i key p alone head)
    (spelled text rest f d false (snoc before l kids) q j (λ e. absurd (true≢false (sym e))) goes)
spelled text (Node l kids rest) f d first before i j alone (key, p, Shows s, head, is, (last, ends)) = absurd cc

root : (text : List ℕ) (l : Label) (kids : Forest) (i j : ℕ) → IsRoot text l kids i (To j) → IsFormed None l kids
root text l kids i j (inl (label, none, ends)) = yaml-leaf kind.Null [] None _ l kids label none
root text l kids i j (inr is) = node (Spells text kids) kids (spelled text kids) text Root 0 None l i j is

pub yaml-formed : (text : List ℕ) (tree : Forest) → IsYaml text tree → IsTree tree
yaml-formed text tree (l, kids, i, j, start, is, end, whole) = subst IsTree (sym whole) (root-formed l kids (root text l kids i j is))
