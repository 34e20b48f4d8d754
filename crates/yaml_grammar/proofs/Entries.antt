-- Where another entry or item of a block may stand, one with nothing behind it ends the document, also with a break behind the text. By the cases of forms.
use Rattle.std.proofs.Common.{◌≡◌, ℕ, ◌<◌, ◌≤◌, inl, Bool, true, false, cond, List, [], ◌∷◌, ◌++◌, Option, Some, None, length, refl, sym, ap, ◌∙◌, subst}
use Rattle.doc_values.specs.declared.kind.Kind.TheVariants as kind
use Rattle.doc_values.specs.Tree.{Forest, Nil, Node, snoc, joined, has_key}
use Rattle.doc_values.specs.Unfinished.{Level}
use Rattle.yaml_scalars.specs.Lines.{Stands, Fails}
use Rattle.yaml_scalars.specs.Scalar.{scalar_at}
use Rattle.yaml_laws.proofs.KeyLines.{key_broken}
use Rattle.yaml_grammar.specs.declared.ahead.Ahead.{Ahead}
use Rattle.yaml_grammar.specs.declared.ahead.Token.TheVariants.{End, Dash}
use Rattle.yaml_grammar.specs.declared.form.Form.{Form}
use Rattle.yaml_grammar.specs.declared.form.Form.TheVariants.{Root, Flow, FlowTagged, Items, Entries, Tagged}
use Rattle.yaml_grammar.specs.Ahead.{ahead}
use Rattle.yaml_grammar.specs.Blocks.{takes_mapping, takes_sequence, IsKey}
use Rattle.yaml_grammar.specs.Nodes.{as_key, leaf, starts_scalar, scalar_ahead}
use Rattle.yaml_grammar.specs.Signs.{Tree, To, Reading}
use Rattle.yaml_grammar.specs.code.Rest.{top, Ends, Awaits}
use Rattle.yaml_grammar.specs.code.Steps.{Agrees, Nests, IsBlock}
use Rattle.yaml_grammar.proofs.AheadEnds.{IsSome}
use Rattle.yaml_grammar.proofs.AheadFed.{ahead_broken, end_broken, starts_some}
use Rattle.yaml_grammar.proofs.Continuations.{block_below, block_ends}
use Rattle.yaml_grammar.proofs.Openings.{sequence_begins, mapping_begins}

-- an entry, whose value is missing
pub entry_ends : (text : List ℕ) (m : ℕ) (fs : List Form) (x : Level) (xs : List Level) (done : Forest) (i : ℕ) (t : List ℕ) (p : ℕ) → (ahead text false i).fresh ≡ true → (ahead text false i).column ≡ m → IsKey text (ahead text false i) t p → has_key done t ≡ false → (ahead text false p).token ≡ End → Agrees (Entries m ∷ fs) (x ∷ xs) → Nests (Entries m ∷ fs)
    → (tree : Forest) × Ends text (Entries m ∷ fs) (x ∷ xs) done i (Tree tree)
entry_ends text m fs x xs done i t p fresh column is_key new end agrees nests =
    let g = Node (leaf kind.Null [] (Some t) p) Nil Nil in
    let r = block_ends fs xs (snoc x.before x.label (joined done g)) text p (inl end) (block_below (Entries m) (top fs) tt nests.0) agrees.1 nests.2 in
    (r.0, (g, To p, (Some t, p, To p, (t, is_key, (fresh, column), new, refl), inl (refl, refl, refl), (refl, inl refl)), r.1))

-- an item, which is missing
pub item_ends : (text : List ℕ) (m : ℕ) (fs : List Form) (x : Level) (xs : List Level) (done : Forest) (i : ℕ) → (ahead text false i).fresh ≡ true → (ahead text false i).column ≡ m → (ahead text false i).token ≡ Dash → (ahead text false (ahead text false i).behind).token ≡ End → Agrees (Items m ∷ fs) (x ∷ xs) → Nests (Items m ∷ fs)
    → (tree : Forest) × Ends text (Items m ∷ fs) (x ∷ xs) done i (Tree tree)
item_ends text m fs x xs done i fresh column dash end agrees nests =
    let p = (ahead text false i).behind in
    let g = Node (leaf kind.Null [] None p) Nil Nil in
    let r = block_ends fs xs (snoc x.before x.label (joined done g)) text p (inl end) (block_below (Items m) (top fs) tt nests.0) agrees.1 nests.2 in
    (r.0, (g, To p, (None, p, To p, (dash, (fresh, column), refl, refl), inl (refl, refl, refl), (refl, refl)), r.1))

-- a block ends, and what follows is what follows it
pub form_ends : (text : List ℕ) (f : Form) (fs : List Form) (x : Level) (xs : List Level) (done : Forest) (i : ℕ) (v : Reading) → IsBlock f → (f ≡ Root → ⊥) → Ends text fs xs (snoc x.before x.label (joined done Nil)) i v → Ends text (f ∷ fs) (x ∷ xs) done i v
form_ends text Root fs x xs done i v b n h = absurd (n refl)
form_ends text (Flow m) fs x xs done i v b n h = absurd b
form_ends text (FlowTagged at) fs x xs done i v b n h = absurd b
form_ends text (Items m) fs x xs done i v b n h = (Nil, To i, (refl, refl), h)
form_ends text (Entries m) fs x xs done i v b n h = (Nil, To i, (refl, inl refl), h)
form_ends text (Tagged at above shares) fs x xs done i v b n h = (Nil, To i, (refl, refl), h)

-- ---- a break behind the text

key_starts : (text : List ℕ) (a : Ahead) (t : List ℕ) (e : ℕ) → scalar_ahead text (as_key false) a ≡ Stands t e → (starts_scalar a.token ≡ true) × (scalar_at (as_key false) text a.at ≡ Stands t e)
key_starts text a t e h = by_start (starts_scalar a.token) refl h where
  fails_not : (p : ℕ) → Fails p ≡ Stands t e → ⊥
  fails_not p h = cc

  by_start : (q : Bool) → starts_scalar a.token ≡ q → cond q (scalar_at (as_key false) text a.at) (Fails a.at) ≡ Stands t e → (starts_scalar a.token ≡ true) × (scalar_at (as_key false) text a.at ≡ Stands t e)
  by_start true i h = (i, h)
  by_start false i h = absurd (fails_not a.at h)

module _ (front : List ℕ) (i : ℕ) (low : i ≤ length front) where
  abbrev new : List ℕ
  new = front ++ (13 ∷ 10 ∷ [])

  -- the key and its colon stand
  key_kept : (t : List ℕ) (p : ℕ) → (ahead front false i).at < length front → (k : IsKey front (ahead front false i) t p) → k.0 ≤ length front → IsKey new (ahead new false i) t p
  key_kept t p within (e, h, stale, point, behind) near =
      let a = ahead front false i in
      let s = key_starts front a t e h in
      let same : ahead new false i ≡ a = ahead_broken front [] false i low (starts_some a.token s.0) in
      let there : ahead new false e ≡ ahead front false e = ahead_broken front [] false e near (subst IsSome (sym point) tt) in
      let key : scalar_at (as_key false) new a.at ≡ Stands t e = key_broken (as_key false) front [] a.at refl within ∙ s.1 in
      let stands : scalar_ahead new (as_key false) (ahead new false i) ≡ Stands t e = ap (scalar_ahead new (as_key false)) same ∙ ap (λ q. cond q (scalar_at (as_key false) new a.at) (Fails a.at)) s.0 ∙ key in
      (e, stands, ap (λ (b : Ahead). b.fresh) there ∙ stale, ap (λ (b : Ahead). b.token) there ∙ point, behind ∙ sym (ap (λ (b : Ahead). b.behind) there))

  key_same : (t : List ℕ) (p : ℕ) → IsKey front (ahead front false i) t p → ahead new false i ≡ ahead front false i
  key_same t p (e, h, stale, point, behind) = ahead_broken front [] false i low (starts_some (ahead front false i).token (key_starts front (ahead front false i) t e h).0)

  pub entry_breaks : (m : ℕ) (fs : List Form) (x : Level) (xs : List Level) (done : Forest) (t : List ℕ) (p : ℕ) → (ahead front false i).fresh ≡ true → (ahead front false i).column ≡ m → (ahead front false i).at < length front → (k : IsKey front (ahead front false i) t p) → k.0 ≤ length front → p ≤ length front → has_key done t ≡ false → (ahead front false p).token ≡ End
      → Agrees (Entries m ∷ fs) (x ∷ xs) → Nests (Entries m ∷ fs) → (tree : Forest) × Ends new (Entries m ∷ fs) (x ∷ xs) done i (Tree tree)
  entry_breaks m fs x xs done t p fresh column within k near far none end agrees nests =
      let same = key_same t p k in
      entry_ends new m fs x xs done i t p (ap (λ (b : Ahead). b.fresh) same ∙ fresh) (ap (λ (b : Ahead). b.column) same ∙ column) (key_kept t p within k near) none (end_broken front false p far end) agrees nests

  pub mapping_breaks : (fs : List Form) (outer : List Level) (done : Forest) (key : Option (List ℕ)) (t : List ℕ) (p : ℕ) → IsBlock (top fs) → Agrees fs outer → Nests fs → length outer < 128 → takes_mapping (top fs) (ahead front false i) ≡ true → (ahead front false i).at < length front → (k : IsKey front (ahead front false i) t p) → k.0 ≤ length front → p ≤ length front
      → (ahead front false p).token ≡ End → (tree : Forest) × Awaits new fs outer done key i (Tree tree)
  mapping_breaks fs outer done key t p block agrees nests room takes within k near far end =
      let same = key_same t p k in
      mapping_begins new fs outer done key i block agrees nests room t p (ap (takes_mapping (top fs)) same ∙ takes) (key_kept t p within k near) (end_broken front false p far end)

  dash_same : (ahead front false i).token ≡ Dash → ahead new false i ≡ ahead front false i
  dash_same dash = ahead_broken front [] false i low (subst IsSome (sym dash) tt)

  dash_over : (ahead front false i).token ≡ Dash → (ahead front false i).behind ≤ length front → (ahead front false (ahead front false i).behind).token ≡ End → (ahead new false (ahead new false i).behind).token ≡ End
  dash_over dash far end = ap (λ (b : Ahead). (ahead new false b.behind).token) (dash_same dash) ∙ end_broken front false (ahead front false i).behind far end

  pub item_breaks : (m : ℕ) (fs : List Form) (x : Level) (xs : List Level) (done : Forest) → (ahead front false i).fresh ≡ true → (ahead front false i).column ≡ m → (ahead front false i).token ≡ Dash → (ahead front false i).behind ≤ length front → (ahead front false (ahead front false i).behind).token ≡ End
      → Agrees (Items m ∷ fs) (x ∷ xs) → Nests (Items m ∷ fs) → (tree : Forest) × Ends new (Items m ∷ fs) (x ∷ xs) done i (Tree tree)
  item_breaks m fs x xs done fresh column dash far end agrees nests =
      let same = dash_same dash in
      item_ends new m fs x xs done i (ap (λ (b : Ahead). b.fresh) same ∙ fresh) (ap (λ (b : Ahead). b.column) same ∙ column) (ap (λ (b : Ahead). b.token) same ∙ dash) (dash_over dash far end) agrees nests

  pub sequence_breaks : (fs : List Form) (outer : List Level) (done : Forest) (key : Option (List ℕ)) → IsBlock (top fs) → Agrees fs outer → Nests fs → length outer < 128 → takes_sequence (top fs) (ahead front false i) ≡ true → (ahead front false i).token ≡ Dash → (ahead front false i).behind ≤ length front → (ahead front false (ahead front false i).behind).token ≡ End
      → (tree : Forest) × Awaits new fs outer done key i (Tree tree)
  sequence_breaks fs outer done key block agrees nests room takes dash far end =
      let same = dash_same dash in
      sequence_begins new fs outer done key i block agrees nests room (ap (takes_sequence (top fs)) same ∙ takes) (ap (λ (b : Ahead). b.token) same ∙ dash) (dash_over dash far end)
