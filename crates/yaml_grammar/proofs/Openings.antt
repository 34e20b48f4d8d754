-- Where a value may stand outside of flow, a `-`, or a key and its colon, with nothing behind it begins a collection that ends the document. By the cases of forms.
use Rattle.std.proofs.Common.{◌≡◌, ℕ, suc, ◌<◌, inl, inr, true, false, List, [], Option, Some, None, length, refl}
use Rattle.doc_values.specs.declared.kind.Kind.TheVariants as kind
use Rattle.doc_values.specs.Tree.{Label, Forest, Nil, Node, snoc}
use Rattle.doc_values.specs.Unfinished.{Level}
use Rattle.yaml_grammar.specs.declared.ahead.Token.TheVariants.{End, Dash}
use Rattle.yaml_grammar.specs.declared.form.Form.{Form}
use Rattle.yaml_grammar.specs.declared.form.Form.TheVariants.{Root, Flow, FlowTagged, Items, Entries, Tagged}
use Rattle.yaml_grammar.specs.Ahead.{ahead}
use Rattle.yaml_grammar.specs.Blocks.{takes_mapping, takes_sequence, column_in, IsKey, IsBlockNode}
use Rattle.yaml_grammar.specs.Nodes.{Contents, leaf, collection}
use Rattle.yaml_grammar.specs.Signs.{Tree, Reach, To}
use Rattle.yaml_grammar.specs.Yaml.{IsNode, Spells}
use Rattle.yaml_grammar.specs.code.Rest.{top, Awaits}
use Rattle.yaml_grammar.specs.code.Steps.{Agrees, Nests, IsBlock}
use Rattle.yaml_grammar.proofs.Continuations.{block_ends}

block_node : (text : List ℕ) (holds : Contents) (f : Form) (d : ℕ) (key : Option (List ℕ)) (l : Label) (kids : Forest) (i : ℕ) (r : Reach) → IsBlock f → IsBlockNode text holds f d key l kids i r → IsNode text holds f d key l kids i r
block_node text holds Root d key l kids i r b h = h
block_node text holds (Flow m) d key l kids i r b h = absurd b
block_node text holds (FlowTagged at) d key l kids i r b h = absurd b
block_node text holds (Items m) d key l kids i r b h = inr h
block_node text holds (Entries m) d key l kids i r b h = inr h
block_node text holds (Tagged at above shares) d key l kids i r b h = inr h

module _ (text : List ℕ) (fs : List Form) (outer : List Level) (done : Forest) (key : Option (List ℕ)) (i : ℕ) (block : IsBlock (top fs)) (agrees : Agrees fs outer) (nests : Nests fs) (room : length outer < 128) where
  -- an item, which is missing
  pub sequence_begins : takes_sequence (top fs) (ahead text false i) ≡ true → (ahead text false i).token ≡ Dash → (ahead text false (ahead text false i).behind).token ≡ End → (tree : Forest) × Awaits text fs outer done key i (Tree tree)
  sequence_begins takes dash end =
      let a = ahead text false i in
      let p = a.behind in
      let null = leaf kind.Null [] None p in
      let kids = Node null Nil Nil in
      let l = collection false key a.at in
      let inside : Spells text kids (Items (column_in (top fs) a)) (suc (length outer)) true Nil i (To p) = (None, p, To p, (dash, tt, refl, refl), inl (refl, refl, refl), (refl, refl)) in
      let c = block_ends fs outer (snoc done l kids) text p (inl end) block agrees nests in
      (c.0, (l, kids, To p, block_node text (Spells text kids) (top fs) (length outer) key l kids i (To p) block (inr (inl (takes, inl (room, refl, inside)))), c.1))

  -- an entry, whose value is missing
  pub mapping_begins : (t : List ℕ) (p : ℕ) → takes_mapping (top fs) (ahead text false i) ≡ true → IsKey text (ahead text false i) t p → (ahead text false p).token ≡ End → (tree : Forest) × Awaits text fs outer done key i (Tree tree)
  mapping_begins t p takes is_key end =
      let a = ahead text false i in
      let null = leaf kind.Null [] (Some t) p in
      let kids = Node null Nil Nil in
      let l = collection true key a.at in
      let inside : Spells text kids (Entries (column_in (top fs) a)) (suc (length outer)) true Nil i (To p) = (Some t, p, To p, (t, is_key, tt, refl, refl), inl (refl, refl, refl), (refl, inl refl)) in
      let c = block_ends fs outer (snoc done l kids) text p (inl end) block agrees nests in
      (c.0, (l, kids, To p, block_node text (Spells text kids) (top fs) (length outer) key l kids i (To p) block (inr (inr (inl (takes, inl (room, refl, inside))))), c.1))
