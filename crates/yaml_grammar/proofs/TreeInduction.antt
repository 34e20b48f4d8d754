-- Induction on the tree of a document, for proofs about the kinds of its values. By the cases of nodes.
use Rattle.std.proofs.Common.{◌≡◌, ◌⊎◌, ℕ, ℤ, List, [], Option, None, Bool, FitsSigned, w64, true, false, inl, inr, sym, subst}
use Rattle.decimals.specs.Decimal.{Decimal, IsNormal}
use Rattle.decimals.specs.declared.decimal.Num.TheVariants as num
use Rattle.doc_values.specs.declared.kind.Kind.{Kind}
use Rattle.doc_values.specs.declared.kind.Kind.TheVariants as kind
use Rattle.doc_values.specs.Tree.{Label, Forest, Nil, Node, snoc}
use Rattle.doc_values.specs.Unfinished.{open_kind}
use Rattle.yaml_scalars.specs.declared.scalar.Setting.{Setting}
use Rattle.yaml_scalars.specs.Kinds.{IsPlainKind, IsSignedNumber}
use Rattle.yaml_scalars.specs.Scalar.{HasKind}
use Rattle.yaml_grammar.specs.declared.ahead.Ahead.{Ahead}
use Rattle.yaml_grammar.specs.declared.form.Form.{Form}
use Rattle.yaml_grammar.specs.declared.form.Form.TheVariants.{Root, Flow, FlowTagged, Items, Entries, Tagged}
use Rattle.yaml_grammar.specs.Ahead.{ahead}
use Rattle.yaml_grammar.specs.Signs.{Reach, To, Shows}
use Rattle.yaml_grammar.specs.Nodes.{leaf, IsValue, Contents, Within, IsMissing, IsCollection, IsScalar}
use Rattle.yaml_grammar.specs.Flow.{IsFlowNode}
use Rattle.yaml_grammar.specs.Blocks.{IsBlockNode}
use Rattle.yaml_grammar.specs.Yaml.{IsNode, Spells, IsRoot, IsYaml}

-- the kinds of values of YAML: all but patterns and ranges, and numbers that are in range
abbrev pub IsYamlKind : Kind → Type 0
IsYamlKind (kind.Whole n) = FitsSigned w64 n
IsYamlKind (kind.Fraction d) = IsNormal d
IsYamlKind kind.Pattern = ⊥
IsYamlKind (kind.Limits r) = ⊥
IsYamlKind _ = Unit {0}

whole-kind : (text : List ℕ) (n : ℤ) → IsSignedNumber text (num.Whole n) → FitsSigned w64 n
whole-kind text n (inl is) = is.value.3
whole-kind text n (inr (rest, plus, unsigned, is)) = is.value.3

fraction-kind : (text : List ℕ) (d : Decimal) → IsSignedNumber text (num.Fraction d) → IsNormal d
fraction-kind text d (inl is) = is.value.2
fraction-kind text d (inr (rest, plus, unsigned, is)) = is.value.2

typed-kind : (text : List ℕ) (k : Kind) → IsPlainKind text k → IsYamlKind k
typed-kind text kind.Null h = tt
typed-kind text (kind.Truth b) h = tt
typed-kind text (kind.Whole n) h = whole-kind text _ h
typed-kind text (kind.Fraction d) h = fraction-kind text _ h
typed-kind text kind.Text h = tt
typed-kind text kind.List h = tt
typed-kind text kind.Map h = tt
typed-kind text kind.Pattern h = absurd h
typed-kind text (kind.Limits r) h = absurd h

scalar-kind : (typed : Bool) (text : List ℕ) (k : Kind) → HasKind typed text k → IsYamlKind k
scalar-kind true text k h = typed-kind text k h
scalar-kind false text k h = subst IsYamlKind (sym h) tt

open-kind : (map : Bool) → IsYamlKind (open_kind map)
open-kind true = tt
open-kind false = tt

module _ (P : Forest → Type 0) (none : P Nil) (more : (l : Label) (kids rest : Forest) → IsYamlKind l.kind → P kids → P rest → P (Node l kids rest)) where
  -- a value, and what it holds
  abbrev IsGood : Label → Forest → Type 0
  IsGood l kids = IsYamlKind l.kind × P kids

  -- what a collection holds, if it is read to its end
  abbrev AreGood : Contents → Forest → Type 0
  AreGood holds kids = (f : Form) (d : ℕ) (first : Bool) (before : Forest) (i j : ℕ) → holds f d first before i (To j) → P kids

  empty : (m l : Label) (kids : Forest) → IsYamlKind m.kind → l ≡ m → kids ≡ Nil → IsGood l kids
  empty m l kids good label is = (subst (λ (n : Label). IsYamlKind n.kind) (sym label) good, subst P (sym is) none)

  missing : (key : Option (List ℕ)) (l : Label) (kids : Forest) (i : ℕ) (r : Reach) → IsMissing key l kids i r → IsGood l kids
  missing key l kids i r (label, is, ends) = empty (leaf kind.Null [] key i) l kids tt label is

  two : (m n : Label) → IsYamlKind m.kind → IsYamlKind n.kind → P (Node m Nil (Node n Nil Nil))
  two m n good good' = more m Nil (Node n Nil Nil) good none (more n Nil Nil good' none none)

  value : (cut : Bool) (d : ℕ) (k : Kind) (t : List ℕ) (key : Option (List ℕ)) (at j : ℕ) (l : Label) (kids : Forest) (end : ℕ) → IsYamlKind k
      → IsValue cut d k t key at j l kids (To end) → IsGood l kids
  value false d k t key at j l kids end good (label, is, ends) = empty (leaf k t key at) l kids good label is
  value true d k t key at j l kids end good (inl (room, label, parts, ends)) =
      (subst (λ (n : Label). IsYamlKind n.kind) (sym label) tt, subst P (sym parts) (two _ _ tt tt))
  value true d k t key at j l kids end good (inr (deep, ends)) = absurd cc

  scalar : (text : List ℕ) (s : Setting) (cuts : Bool) (d : ℕ) (a : Ahead) (key : Option (List ℕ)) (l : Label) (kids : Forest) (end : ℕ)
      → IsScalar text s cuts d a key l kids (To end) → IsGood l kids
  scalar text s cuts d a key l kids end (inl (t, k, j, stands, typed, is)) = value _ d k t key a.at j l kids end (scalar-kind _ t k typed) is
  scalar text s cuts d a key l kids end (inr (p, shown, ends)) = absurd cc

  within : (holds : Contents) (kids : Forest) → AreGood holds kids → (f : Form) (e i : ℕ) (begins : Type 0) (d : ℕ) (map : Bool) (at : ℕ)
      (key : Option (List ℕ)) (l : Label) (end : ℕ) → Within (holds f e true Nil i) begins d map at key l (To end) → IsGood l kids
  within holds kids good f e i begins d map at key l end (inl (room, label, held)) =
      (subst (λ (n : Label). IsYamlKind n.kind) (sym label) (open-kind map), good f e true Nil i end held)
  within holds kids good f e i begins d map at key l end (inr (begun, deep, ends)) = absurd cc

  bracket : (holds : Contents) (kids : Forest) → AreGood holds kids → (d : ℕ) (a : Ahead) (key : Option (List ℕ)) (l : Label) (end : ℕ)
      → IsCollection holds d a key l (To end) → IsGood l kids
  bracket holds kids good d a key l end (map, opens, held) = within holds kids good _ _ _ _ d map a.at key l end held

  block : (text : List ℕ) (holds : Contents) (kids : Forest) → AreGood holds kids → (f : Form) (d : ℕ) (key : Option (List ℕ)) (l : Label) (i end : ℕ)
      → IsBlockNode text holds f d key l kids i (To end) → IsGood l kids
  block text holds kids good f d key l i end (inl (takes, inl is)) = scalar text _ _ d (ahead text false i) key l kids end is
  block text holds kids good f d key l i end (inl (takes, inr is)) = bracket holds kids good d (ahead text false i) key l end is
  block text holds kids good f d key l i end (inr (inl (takes, held))) = within holds kids good _ _ _ _ d false _ key l end held
  block text holds kids good f d key l i end (inr (inr (inl (takes, held)))) = within holds kids good _ _ _ _ d true _ key l end held
  block text holds kids good f d key l i end (inr (inr (inr (inl (len, is, takes, held))))) = within holds kids good _ _ _ _ d true _ key l end held
  block text holds kids good f d key l i end (inr (inr (inr (inr (s, shown, ends))))) = absurd cc

  flow : (text : List ℕ) (holds : Contents) (kids : Forest) → AreGood holds kids → (f : Form) (d : ℕ) (key : Option (List ℕ)) (l : Label) (i end : ℕ)
      → IsFlowNode text f holds d key l kids i (To end) → IsGood l kids
  flow text holds kids good f d key l i end (inl (may, is)) = missing key l kids i (To end) is
  flow text holds kids good f d key l i end (inr (inl is)) = scalar text _ _ d (ahead text true i) key l kids end is
  flow text holds kids good f d key l i end (inr (inr (inl is))) = bracket holds kids good d (ahead text true i) key l end is
  flow text holds kids good f d key l i end (inr (inr (inr (inl (len, is, may, held))))) = within holds kids good _ _ _ _ d true _ key l end held
  flow text holds kids good f d key l i end (inr (inr (inr (inr (s, shown, ends))))) = absurd cc

  behind : (text : List ℕ) (holds : Contents) (kids : Forest) → AreGood holds kids → (f : Form) (d : ℕ) (key : Option (List ℕ)) (l : Label) (i end : ℕ)
      → IsMissing key l kids i (To end) ⊎ IsBlockNode text holds f d key l kids i (To end) → IsGood l kids
  behind text holds kids good f d key l i end (inl is) = missing key l kids i (To end) is
  behind text holds kids good f d key l i end (inr is) = block text holds kids good f d key l i end is

  node : (text : List ℕ) (holds : Contents) (kids : Forest) → AreGood holds kids → (f : Form) (d : ℕ) (key : Option (List ℕ)) (l : Label) (i end : ℕ)
      → IsNode text holds f d key l kids i (To end) → IsGood l kids
  node text holds kids good Root d key l i end is = block text holds kids good Root d key l i end is
  node text holds kids good (Flow map) d key l i end is = flow text holds kids good (Flow map) d key l i end is
  node text holds kids good (FlowTagged at) d key l i end is = flow text holds kids good (FlowTagged at) d key l i end is
  node text holds kids good (Items m) d key l i end is = behind text holds kids good (Items m) d key l i end is
  node text holds kids good (Entries m) d key l i end is = behind text holds kids good (Entries m) d key l i end is
  node text holds kids good (Tagged at above shares) d key l i end is = behind text holds kids good (Tagged at above shares) d key l i end is

  spelled : (text : List ℕ) (tree : Forest) → AreGood (Spells text tree) tree
  spelled text Nil f d first before i j is = none
  spelled text (Node l kids rest) f d first before i j (key, p, To q, head, is, then) =
      let good = node text (Spells text kids) kids (spelled text kids) f d key l p q is in
      more l kids rest good.0 good.1 (spelled text rest f d false (snoc before l kids) q j then)
  spelled text (Node l kids rest) f d first before i j (key, p, Shows s, head, is, (last, ends)) = absurd cc

  root : (text : List ℕ) (l : Label) (kids : Forest) (i j : ℕ) → IsRoot text l kids i (To j) → IsGood l kids
  root text l kids i j (inl (label, is, ends)) = empty (leaf kind.Null [] None _) l kids tt label is
  root text l kids i j (inr is) = node text (Spells text kids) kids (spelled text kids) Root 0 None l i j is

  -- what holds of no values, and of values side by side as it holds of what stands in the first and of those behind it
  pub yaml-induction : (text : List ℕ) (tree : Forest) → IsYaml text tree → P tree
  yaml-induction text tree (l, kids, i, j, start, is, end, whole) =
      let good = root text l kids i j is in subst P (sym whole) (more l kids Nil good.0 good.1 none)
