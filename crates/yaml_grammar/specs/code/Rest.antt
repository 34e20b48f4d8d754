-- What may still follow where a text has been read up to a place: the means of the proof that reading finds just the tree, or just the sign.
use Rattle.std.specs.Prelude.{ℕ, suc, ◌≡◌, ◌⊎◌, true, false, List, [], ◌∷◌, Option, Some, None, length}
use Rattle.doc_values.specs.Tree.{Label, Forest, Nil, Node, snoc, joined}
use Rattle.doc_values.specs.Unfinished.{Level}
use Rattle.yaml_grammar.specs.declared.form.Form.{Form}
use Rattle.yaml_grammar.specs.declared.form.Form.TheVariants.{Root}
use Rattle.yaml_grammar.specs.Signs.{Sign, Reach, Reading, Tree, Refused, Then}
use Rattle.yaml_grammar.specs.Yaml.{IsNode, Spells, IsRoot, IsEnd, end_sign}

-- the innermost of the open collections' forms
abbrev pub top : List Form → Form
top [] = Root
top (f ∷ fs) = f

module _ (text : List ℕ) where
  -- behind the root: the document's end, or a sign
  abbrev pub Over : Forest → ℕ → Reading → Type 0
  Over done j v = (IsEnd text j × (v ≡ Tree done)) ⊎ ((s : Sign) × (end_sign text j ≡ Some s) × (v ≡ Refused s))

  -- neither is there
  abbrev pub Inside : ℕ → Type 0
  Inside j = (IsEnd text j → ⊥) × (end_sign text j ≡ None)

  -- behind a complete node at a place: the rest of each open collection, and the document's end; or a sign
  abbrev pub Ends : List Form → List Level → Forest → ℕ → Reading → Type 0
  Ends [] [] done j v = Over done j v
  Ends [] (x ∷ xs) done j v = ⊥
  Ends (f ∷ fs) [] done j v = ⊥
  Ends (f ∷ fs) (x ∷ xs) done j v =
      (g : Forest) × (r : Reach) × Spells text g f (suc (length xs)) false done j r × Then r (λ k. Ends fs xs (snoc x.before x.label (joined done g)) k v) (λ s. v ≡ Refused s)

  -- where an entry or the closing bracket may stand: behind the opening bracket, or behind a comma
  abbrev pub Enters : List Form → List Level → Forest → ℕ → Reading → Type 0
  Enters [] outer done j v = ⊥
  Enters (f ∷ fs) [] done j v = ⊥
  Enters (f ∷ fs) (x ∷ xs) done j v =
      (g : Forest) × (r : Reach) × Spells text g f (suc (length xs)) true done j r × Then r (λ k. Ends fs xs (snoc x.before x.label (joined done g)) k v) (λ s. v ≡ Refused s)

  -- behind a node, or at the sign that it shows
  abbrev pub Follows : List Form → List Level → Forest → Reading → Reach → Type 0
  Follows fs outer done v r = Then r (λ j. Ends fs outer done j v) (λ s. v ≡ Refused s)

  -- where a node may stand
  abbrev pub Awaits : List Form → List Level → Forest → Option (List ℕ) → ℕ → Reading → Type 0
  Awaits fs outer done key i v =
      (l : Label) × (kids : Forest) × (r : Reach) × IsNode text (Spells text kids) (top fs) (length outer) key l kids i r × Follows fs outer (snoc done l kids) v r

  -- where the root may stand
  abbrev pub Begins : ℕ → Reading → Type 0
  Begins i v = (l : Label) × (kids : Forest) × (r : Reach) × IsRoot text l kids i r × Then r (λ j. Over (Node l kids Nil) j v) (λ s. v ≡ Refused s)
