-- Outside of flow, one step of reading changes nothing of what may still follow: in both directions, for each thing that may
-- be ahead.
use Rattle.std.proofs.Common.{◌≡◌, ℕ, suc, ◌<◌, ◌⊎◌, inl, inr, Bool, true, false, List, [], ◌∷◌, Option, Some, None, length, refl, sym, ap, ◌∙◌, subst, true≢false, cond}
use Rattle.doc_values.specs.declared.kind.Kind.{Kind}
use Rattle.doc_values.specs.declared.kind.Kind.TheVariants as kind
use Rattle.doc_values.specs.Tree.{Label, Forest, Nil, Node, snoc, joined, has_key}
use Rattle.doc_values.specs.Unfinished.{Level}
use Rattle.yaml_scalars.specs.Lines.{Stands, Documents}
use Rattle.yaml_scalars.specs.Scalar.{is_typed, HasKind}
use Rattle.yaml_grammar.specs.declared.ahead.Ahead.{Ahead}
use Rattle.yaml_grammar.specs.declared.ahead.Token.TheVariants.{Dash, Tag, Opens, Point}
use Rattle.yaml_grammar.specs.declared.form.Form.{Form}
use Rattle.yaml_grammar.specs.declared.form.Form.TheVariants.{Root, Flow, FlowTagged, Items, Entries, Tagged}
use Rattle.yaml_grammar.specs.Ahead.{ahead}
use Rattle.yaml_grammar.specs.Nodes.{as_key, tag_name, tag_key, follows_get_att, is_cut, IsValue, setting_of, leaf, collection, starts_scalar, scalar_ahead, IsScalar, IsMissing, Contents, Within, node_sign, is_tagged}
use Rattle.yaml_grammar.specs.Signs as sign
use Rattle.yaml_grammar.specs.Signs.{Sign, ManyDocuments, DuplicateKey, TooDeep, Reach, To, Shows, Reading, Refused}
use Rattle.yaml_grammar.specs.Blocks.{block_sign, takes_scalar, takes_mapping, takes_sequence, takes_tag, tagged, column_in, last_place, IsBare, IsKey, IsEntry, IsEntrySign, IsBlockNode}
use Rattle.yaml_grammar.specs.Yaml.{IsNode, Spells}
use Rattle.yaml_grammar.specs.code.Rest.{top, Inside, Ends, Enters, Follows, Awaits}
use Rattle.yaml_grammar.specs.code.Steps.{IsBlock, NoKey, NoNode, is_ending, Missed, Failed}
use Rattle.yaml_grammar.proofs.Rests.{none_some, same_sign, signed_word, no_scalar, no_documents, opened, at_node, Entry, entry_awaits, awaits_entry, entry_ends}
use Rattle.yaml_grammar.proofs.Quiet.{AreQuiet, inside_at, quiet_none, no_key_at, no_key_dash, mapping_takes}
use Rattle.yaml_grammar.proofs.KeyEnds.{key_end, key_divides}

-- a sign where a node may begin
pub block_signed : (f : Form) (a : Ahead) (s : Sign) → block_sign f a ≡ Some s → (takes_scalar f a ≡ true) × (node_sign (is_tagged f) a.at a.token ≡ Some s)
block_signed f a s e = by_takes (takes_scalar f a) e where
  by_takes : (q : Bool) → cond q (node_sign (is_tagged f) a.at a.token) None ≡ Some s → (q ≡ true) × (node_sign (is_tagged f) a.at a.token ≡ Some s)
  by_takes true h = (refl, h)
  by_takes false h = absurd (cc)

block_signed_at : (f : Form) (a : Ahead) (s : Sign) → block_sign f a ≡ Some s → node_sign (is_tagged f) a.at a.token ≡ None → ⊥
block_signed_at f a s e n = none_some _ s n (block_signed f a s e).1

pub unsigned_block : (f : Form) (a : Ahead) → node_sign (is_tagged f) a.at a.token ≡ None → block_sign f a ≡ None
unsigned_block f a e = by_takes (takes_scalar f a) where
  by_takes : (q : Bool) → cond q (node_sign (is_tagged f) a.at a.token) None ≡ None
  by_takes true = e
  by_takes false = refl

takes_untagged : (f : Form) (a : Ahead) → takes_tag f a ≡ true → is_tagged f ≡ false
takes_untagged Root a h = refl
takes_untagged (Flow m) a h = refl
takes_untagged (FlowTagged m) a h = absurd (true≢false (sym h))
takes_untagged (Items m) a h = refl
takes_untagged (Entries m) a h = refl
takes_untagged (Tagged at ab sh) a h = absurd (true≢false (sym h))

-- no short tag where one may begin
tag_unsigned : (f : Form) (a : Ahead) (len : ℕ) → a.token ≡ Tag len → takes_tag f a ≡ true → node_sign (is_tagged f) a.at a.token ≡ None
tag_unsigned f a len t k = ap (node_sign (is_tagged f) a.at) t ∙ ap (λ b. node_sign b a.at (Tag len)) (takes_untagged f a k)

module _ (text : List ℕ) where
  -- ---- nodes outside of flow

  node_cases : (holds : Contents) (f : Form) (d : ℕ) (key : Option (List ℕ)) (l : Label) (kids : Forest) (i : ℕ) (r : Reach) → IsBlock f → IsNode text holds f d key l kids i r
      → IsMissing key l kids i r ⊎ IsBlockNode text holds f d key l kids i r
  node_cases holds Root d key l kids i r b n = inr n
  node_cases holds (Flow m) d key l kids i r b n = absurd b
  node_cases holds (FlowTagged m) d key l kids i r b n = absurd b
  node_cases holds (Items m) d key l kids i r b n = n
  node_cases holds (Entries m) d key l kids i r b n = n
  node_cases holds (Tagged at ab sh) d key l kids i r b n = n

  block_node : (holds : Contents) (f : Form) (d : ℕ) (key : Option (List ℕ)) (l : Label) (kids : Forest) (i : ℕ) (r : Reach) → IsBlock f → IsBlockNode text holds f d key l kids i r → IsNode text holds f d key l kids i r
  block_node holds Root d key l kids i r b n = n
  block_node holds (Flow m) d key l kids i r b n = absurd b
  block_node holds (FlowTagged m) d key l kids i r b n = absurd b
  block_node holds (Items m) d key l kids i r b n = inr n
  block_node holds (Entries m) d key l kids i r b n = inr n
  block_node holds (Tagged at ab sh) d key l kids i r b n = inr n

  missing_node : (holds : Contents) (f : Form) (d : ℕ) (key : Option (List ℕ)) (i : ℕ) → IsBlock f → (f ≡ Root → ⊥) → IsNode text holds f d key (leaf kind.Null [] key i) Nil i (To i)
  missing_node holds Root d key i b r = absurd (r refl)
  missing_node holds (Flow m) d key i b r = absurd b
  missing_node holds (FlowTagged m) d key i b r = absurd b
  missing_node holds (Items m) d key i b r = inl (refl, refl, refl)
  missing_node holds (Entries m) d key i b r = inl (refl, refl, refl)
  missing_node holds (Tagged at ab sh) d key i b r = inl (refl, refl, refl)

  -- a key has one text and one end
  one_key : (a : Ahead) (t u : List ℕ) (p q : ℕ) → IsKey text a t p → IsKey text a u q → (u ≡ t) × (q ≡ p)
  one_key a t u p q (e, st, f, tk, b) (e', st', f', tk', b') =
      let here : Stands u e' ≡ Stands t e = sym st' ∙ st in
      let same : u ≡ t = cc in
      let ends : e' ≡ e = cc in
      (same, b' ∙ ap (λ n. (ahead text false n).behind) ends ∙ sym b)

  -- a block begins with its first entry
  dash_first : (kids : Forest) (c d : ℕ) (i : ℕ) (r : Reach) → Spells text kids (Items c) d true Nil i r → (ahead text false i).token ≡ Dash
  dash_first Nil c d i r (e, h) = absurd (true≢false e)
  dash_first (Node l ks rest) c d i r (key, p, q, (t, al, ek, ep), n, sp) = t

  key_first : (kids : Forest) (c d : ℕ) (i : ℕ) (r : Reach) → NoKey text (ahead text false i) → Spells text kids (Entries c) d true Nil i r → ⊥
  key_first Nil c d i r none (e, h) = true≢false e
  key_first (Node l ks rest) c d i r none (key, p, q, (t, k, al, hk, ek), n, sp) = none t p k

  sequence_dash : (holds : Reach → Type 0) (d : ℕ) (at : ℕ) (key : Option (List ℕ)) (l : Label) (i : ℕ) (r : Reach) → (holds r → (ahead text false i).token ≡ Dash) → Within holds ((ahead text false i).token ≡ Dash) d false at key l r → (ahead text false i).token ≡ Dash
  sequence_dash holds d at key l i r h (inl (m, el, sp)) = h sp
  sequence_dash holds d at key l i r h (inr (b, m, e)) = b

  mapping_key : (holds : Reach → Type 0) (d : ℕ) (at : ℕ) (key : Option (List ℕ)) (l : Label) (i : ℕ) (r : Reach) → (holds r → ⊥) → NoKey text (ahead text false i)
      → Within holds ((t : List ℕ) × (p : ℕ) × IsKey text (ahead text false i) t p) d true at key l r → ⊥
  mapping_key holds d at key l i r h none (inl (m, el, sp)) = h sp
  mapping_key holds d at key l i r h none (inr ((t, p, k), m, e)) = none t p k

  -- ---- what stands where a node is awaited

  -- the forms around, their levels, and what is read of the innermost
  module _ (fs : List Form) (outer : List Level) (f : Form) (top_is : top fs ≡ f) (block : IsBlock f) (done : Forest) (key : Option (List ℕ)) (i : ℕ) (v : Reading) where
    -- what follows a node
    abbrev pub After : Label → Forest → Reach → Type 0
    After l kids r = Follows text fs outer (snoc done l kids) v r

    -- nothing follows a node that ends here
    abbrev pub Barred : Type 0
    Barred = AreQuiet text (ahead text false i) fs × Inside text i

    missed : (l : Label) (kids : Forest) (r : Reach) → Barred → IsMissing key l kids i r → After l kids r → ⊥
    missed l kids r b (el, ek, er) en = quiet_none text fs outer (snoc done l kids) i v b.0 b.1 (subst (λ n. After l kids n) er en)

    -- a node outside of flow
    abbrev NodeHere : Type 0
    NodeHere = (l : Label) × (kids : Forest) × (r : Reach) × IsBlockNode text (Spells text kids) f (length outer) key l kids i r × After l kids r

    found_here : Barred → Awaits text fs outer done key i v → NodeHere
    found_here b (l, kids, r, n, en) =
        by_case (node_cases (Spells text kids) f (length outer) key l kids i r block (subst (λ g. IsNode text (Spells text kids) g (length outer) key l kids i r) top_is n)) where
          by_case : IsMissing key l kids i r ⊎ IsBlockNode text (Spells text kids) f (length outer) key l kids i r → NodeHere
          by_case (inl m) = absurd (missed l kids r b m en)
          by_case (inr h) = (l, kids, r, h, en)

    here_found : NodeHere → Awaits text fs outer done key i v
    here_found (l, kids, r, h, en) =
        (l, kids, r, subst (λ g. IsNode text (Spells text kids) g (length outer) key l kids i r) (sym top_is) (block_node (Spells text kids) f (length outer) key l kids i r block h), en)

    -- that a sequence begins there
    dash_there : (l : Label) (kids : Forest) (r : Reach) → Within (Spells text kids (Items (column_in f (ahead text false i))) (suc (length outer)) true Nil i) ((ahead text false i).token ≡ Dash) (length outer) false (ahead text false i).at key l r
        → (ahead text false i).token ≡ Dash
    dash_there l kids r w =
        sequence_dash (Spells text kids (Items (column_in f (ahead text false i))) (suc (length outer)) true Nil i) (length outer) (ahead text false i).at key l i r (dash_first kids (column_in f (ahead text false i)) (suc (length outer)) i r) w

    -- that no mapping does
    key_there : (l : Label) (kids : Forest) (r : Reach) → NoKey text (ahead text false i)
        → Within (Spells text kids (Entries (column_in f (ahead text false i))) (suc (length outer)) true Nil i) ((t : List ℕ) × (p : ℕ) × IsKey text (ahead text false i) t p) (length outer) true (ahead text false i).at key l r → ⊥
    key_there l kids r none w =
        mapping_key (Spells text kids (Entries (column_in f (ahead text false i))) (suc (length outer)) true Nil i) (length outer) (ahead text false i).at key l i r (key_first kids (column_in f (ahead text false i)) (suc (length outer)) i r none) none w

    -- a collection: there is room for it, or it is too deep
    abbrev pub Room : Type 0 → Type 0
    Room P = ((length outer < 128) × P) ⊎ ((length outer ≡ 128) × (v ≡ Refused (TooDeep (ahead text false i).at)))

    abbrev First : Form → Bool → Option (List ℕ) → ℕ → Type 0
    First g map k p = Awaits text (g ∷ fs) (opened text map key (ahead text false i).at done ∷ outer) Nil k p v

    -- an entry that is the first of a collection
    abbrev FirstEntry : Form → Bool → Option (List ℕ) → ℕ → Type 0
    FirstEntry g map k p = Entry text g fs (opened text map key (ahead text false i).at done) outer Nil k p v

    -- a sequence
    pub awaits_sequence : Barred → (ahead text false i).token ≡ Dash → Awaits text fs outer done key i v → Room (First (Items (column_in f (ahead text false i))) false None (ahead text false i).behind)
    awaits_sequence b t w = by_node (found_here b w) where
      by_first : (l : Label) (kids : Forest) (r : Reach) → l ≡ collection false key (ahead text false i).at → Spells text kids (Items (column_in f (ahead text false i))) (suc (length outer)) true Nil i r → After l kids r
          → First (Items (column_in f (ahead text false i))) false None (ahead text false i).behind
      by_first l Nil r el (e, h) en = absurd (true≢false e)
      by_first l (Node m ks rest) r el (k, p, q, (tk, al, ek, ep), n, sp) en =
          entry_awaits text (Items (column_in f (ahead text false i))) fs (opened text false key (ahead text false i).at done) outer Nil None (ahead text false i).behind v
          (m, ks, rest, q, r, at_node text (Spells text ks) (Items (column_in f (ahead text false i))) (suc (length outer)) k None m ks p (ahead text false i).behind q ek ep n, sp, subst (λ z. After z (Node m ks rest) r) el en)

      by_node : NodeHere → Room (First (Items (column_in f (ahead text false i))) false None (ahead text false i).behind)
      by_node (l, kids, r, inl (tk, inl (inl (x, k, j, st, hk, val))), en) = absurd (no_scalar text (ahead text false i) (ap starts_scalar t) (setting_of f) x j st)
      by_node (l, kids, r, inl (tk, inl (inr (n, st, er))), en) = absurd (no_documents text (ahead text false i) (ap starts_scalar t) (setting_of f) n st)
      by_node (l, kids, r, inl (tk, inr (m, o, y)), en) = absurd (let no : Opens m ≡ Dash = sym o ∙ t in cc)
      by_node (l, kids, r, inr (inl (tk, inl (d, el, sp))), en) = inl (d, by_first l kids r el sp en)
      by_node (l, kids, r, inr (inl (tk, inr (x, d, e))), en) = inr (d, subst (λ z. After l kids z) e en)
      by_node (l, kids, r, inr (inr (inl (tk, y))), en) = absurd (key_there l kids r (no_key_dash text (ahead text false i) t) y)
      by_node (l, kids, r, inr (inr (inr (inl (len, o, tk, y)))), en) = absurd (let no : Tag len ≡ Dash = sym o ∙ t in cc)
      by_node (l, kids, r, inr (inr (inr (inr (z, sg, er)))), en) = absurd (block_signed_at f (ahead text false i) z sg (ap (node_sign (is_tagged f) (ahead text false i).at) t))

    pub sequence_awaits : (ahead text false i).token ≡ Dash → takes_sequence f (ahead text false i) ≡ true → length outer < 128 → First (Items (column_in f (ahead text false i))) false None (ahead text false i).behind
        → Awaits text fs outer done key i v
    sequence_awaits t tk d w = by_entry (awaits_entry text (Items (column_in f (ahead text false i))) fs (opened text false key (ahead text false i).at done) outer Nil None (ahead text false i).behind v w) where
      by_entry : FirstEntry (Items (column_in f (ahead text false i))) false None (ahead text false i).behind → Awaits text fs outer done key i v
      by_entry (m, ks, rest, q, r, n, sp, en) =
          here_found (collection false key (ahead text false i).at, Node m ks rest, r, inr (inl (tk, inl (d, refl, (None, (ahead text false i).behind, q, (t, tt, refl, refl), n, sp)))), en)

    pub deep_sequence : (ahead text false i).token ≡ Dash → takes_sequence f (ahead text false i) ≡ true → length outer ≡ 128 → v ≡ Refused (TooDeep (ahead text false i).at) → Awaits text fs outer done key i v
    deep_sequence t tk d e = here_found (collection false key (ahead text false i).at, Nil, Shows (TooDeep (ahead text false i).at), inr (inl (tk, inr (t, d, refl))), e)

    -- a mapping
    abbrev IsStale : ℕ → Type 0
    IsStale e = AreQuiet text (ahead text false e) fs

    pub awaits_mapping : (t : List ℕ) (p : ℕ) → Barred → IsKey text (ahead text false i) t p → ((e : ℕ) → (ahead text false e).fresh ≡ false → IsStale e) → Awaits text fs outer done key i v
        → Room (First (Entries (column_in f (ahead text false i))) true (Some t) p)
    awaits_mapping t p b k stale w = by_node (found_here b w) where
      starts : starts_scalar (ahead text false i).token ≡ false → ⊥
      starts e = no_key_at text (ahead text false i) e t p k

      by_first : (l : Label) (kids : Forest) (r : Reach) → l ≡ collection true key (ahead text false i).at → Spells text kids (Entries (column_in f (ahead text false i))) (suc (length outer)) true Nil i r → After l kids r
          → First (Entries (column_in f (ahead text false i))) true (Some t) p
      by_first l Nil r el (e, h) en = absurd (true≢false e)
      by_first l (Node m ks rest) r el (z, y, q, (u, k', al, hk, ez), n, sp) en =
          let same = one_key (ahead text false i) t u p y k k' in
          entry_awaits text (Entries (column_in f (ahead text false i))) fs (opened text true key (ahead text false i).at done) outer Nil (Some t) p v
          (m, ks, rest, q, r, at_node text (Spells text ks) (Entries (column_in f (ahead text false i))) (suc (length outer)) z (Some t) m ks y p q (ez ∙ ap Some same.0) same.1 n, sp, subst (λ c. After c (Node m ks rest) r) el en)

      behind_key : (l : Label) (kids : Forest) (j e : ℕ) → j ≡ e → (ahead text false e).fresh ≡ false → (ahead text false e).token ≡ Point true → After l kids (To j) → ⊥
      behind_key l kids j e h fr tk en =
          quiet_none text fs outer (snoc done l kids) e v (stale e fr) (inside_at text e (ap is_ending tk)) (subst (λ n. After l kids (To n)) h en)

      -- a text that is cut is too deep where the mapping is
      by_value : (c : Bool) (l : Label) (kids : Forest) (j : ℕ) (r : Reach) (q : Kind) (u : List ℕ) → j ≡ k.0 → IsValue c (length outer) q u key (ahead text false i).at j l kids r → After l kids r
          → Room (First (Entries (column_in f (ahead text false i))) true (Some t) p)
      by_value true l kids j r q u ej (inl (d, el, ek, er)) en = absurd (behind_key l kids j k.0 ej k.2 k.3 (subst (λ z. After l kids z) er en))
      by_value true l kids j r q u ej (inr (d, er)) en = inr (d, subst (λ z. After l kids z) er en)
      by_value false l kids j r q u ej (el, ek, er) en = absurd (behind_key l kids j k.0 ej k.2 k.3 (subst (λ z. After l kids z) er en))

      by_node : NodeHere → Room (First (Entries (column_in f (ahead text false i))) true (Some t) p)
      by_node (l, kids, r, inl (tk, inl (inr (n, st, er))), en) = absurd (key_divides text (ahead text false i) f block t k.0 n k.1 k.2 st)
      by_node (l, kids, r, inl (tk, inl (inl (x, q, j, st, hk, val))), en) =
          by_value (is_cut (follows_get_att text f i) q x) l kids j r q x (key_end text (ahead text false i) f block t x k.0 j k.1 k.2 st) val en
      by_node (l, kids, r, inl (tk, inr (m, o, y)), en) = absurd (starts (ap starts_scalar o))
      by_node (l, kids, r, inr (inl (tk, y)), en) = absurd (starts (ap starts_scalar (dash_there l kids r y)))
      by_node (l, kids, r, inr (inr (inl (tk, inl (d, el, sp)))), en) = inl (d, by_first l kids r el sp en)
      by_node (l, kids, r, inr (inr (inl (tk, inr (x, d, e)))), en) = inr (d, subst (λ z. After l kids z) e en)
      by_node (l, kids, r, inr (inr (inr (inl (len, o, tk, y)))), en) = absurd (starts (ap starts_scalar o))
      by_node (l, kids, r, inr (inr (inr (inr (z, sg, er)))), en) = absurd (starts (signed_word (is_tagged f) (ahead text false i).at (ahead text false i).token z (block_signed f (ahead text false i) z sg).1))

    pub mapping_awaits : (t : List ℕ) (p : ℕ) → IsKey text (ahead text false i) t p → takes_mapping f (ahead text false i) ≡ true → length outer < 128 → First (Entries (column_in f (ahead text false i))) true (Some t) p
        → Awaits text fs outer done key i v
    mapping_awaits t p k tk d w = by_entry (awaits_entry text (Entries (column_in f (ahead text false i))) fs (opened text true key (ahead text false i).at done) outer Nil (Some t) p v w) where
      by_entry : FirstEntry (Entries (column_in f (ahead text false i))) true (Some t) p → Awaits text fs outer done key i v
      by_entry (m, ks, rest, q, r, n, sp, en) =
          here_found (collection true key (ahead text false i).at, Node m ks rest, r, inr (inr (inl (tk, inl (d, refl, (Some t, p, q, (t, k, tt, refl, refl), n, sp))))), en)

    pub deep_mapping : (t : List ℕ) (p : ℕ) → IsKey text (ahead text false i) t p → takes_mapping f (ahead text false i) ≡ true → length outer ≡ 128 → v ≡ Refused (TooDeep (ahead text false i).at) → Awaits text fs outer done key i v
    deep_mapping t p k tk d e = here_found (collection true key (ahead text false i).at, Nil, Shows (TooDeep (ahead text false i).at), inr (inr (inl (tk, inr ((t, p, k), d, refl)))), e)

    -- a tag
    pub awaits_tag : (len : ℕ) → Barred → (ahead text false i).token ≡ Tag len → takes_tag f (ahead text false i) ≡ true → Awaits text fs outer done key i v
        → Room (First (tagged f (ahead text false i)) true (Some (tag_key (tag_name text (ahead text false i).at (ahead text false i).behind))) (ahead text false i).behind)
    awaits_tag len b t tt' w = by_node (found_here b w) where
      Key : Option (List ℕ)
      Key = Some (tag_key (tag_name text (ahead text false i).at (ahead text false i).behind))

      by_first : (l : Label) (kids : Forest) (r : Reach) → l ≡ collection true key (ahead text false i).at → Spells text kids (tagged f (ahead text false i)) (suc (length outer)) true Nil (ahead text false i).behind r → After l kids r
          → First (tagged f (ahead text false i)) true Key (ahead text false i).behind
      by_first l Nil r el (e, h) en = absurd (true≢false e)
      by_first l (Node m ks rest) r el (k, p, q, (e, ek, ep), n, sp) en =
          entry_awaits text (tagged f (ahead text false i)) fs (opened text true key (ahead text false i).at done) outer Nil Key (ahead text false i).behind v
          (m, ks, rest, q, r, at_node text (Spells text ks) (tagged f (ahead text false i)) (suc (length outer)) k Key m ks p (ahead text false i).behind q ek ep n, sp, subst (λ z. After z (Node m ks rest) r) el en)

      by_node : NodeHere → Room (First (tagged f (ahead text false i)) true Key (ahead text false i).behind)
      by_node (l, kids, r, inl (tk, inl (inl (x, k, j, st, hk, val))), en) = absurd (no_scalar text (ahead text false i) (ap starts_scalar t) (setting_of f) x j st)
      by_node (l, kids, r, inl (tk, inl (inr (n, st, er))), en) = absurd (no_documents text (ahead text false i) (ap starts_scalar t) (setting_of f) n st)
      by_node (l, kids, r, inl (tk, inr (m, o, y)), en) = absurd (let no : Opens m ≡ Tag len = sym o ∙ t in cc)
      by_node (l, kids, r, inr (inl (tk, y)), en) = absurd (let no : Dash ≡ Tag len = sym (dash_there l kids r y) ∙ t in cc)
      by_node (l, kids, r, inr (inr (inl (tk, y))), en) = absurd (key_there l kids r (no_key_at text (ahead text false i) (ap starts_scalar t)) y)
      by_node (l, kids, r, inr (inr (inr (inl (m, o, tk, inl (d, el, sp))))), en) = inl (d, by_first l kids r el sp en)
      by_node (l, kids, r, inr (inr (inr (inl (m, o, tk, inr (x, d, e))))), en) = inr (d, subst (λ z. After l kids z) e en)
      by_node (l, kids, r, inr (inr (inr (inr (z, sg, er)))), en) = absurd (block_signed_at f (ahead text false i) z sg (tag_unsigned f (ahead text false i) len t tt'))

    pub tag_awaits : (len : ℕ) → (ahead text false i).token ≡ Tag len → takes_tag f (ahead text false i) ≡ true → length outer < 128
        → First (tagged f (ahead text false i)) true (Some (tag_key (tag_name text (ahead text false i).at (ahead text false i).behind))) (ahead text false i).behind → Awaits text fs outer done key i v
    tag_awaits len t tk d w = by_entry (awaits_entry text (tagged f (ahead text false i)) fs (opened text true key (ahead text false i).at done) outer Nil Key (ahead text false i).behind v w) where
      Key : Option (List ℕ)
      Key = Some (tag_key (tag_name text (ahead text false i).at (ahead text false i).behind))

      by_entry : FirstEntry (tagged f (ahead text false i)) true Key (ahead text false i).behind → Awaits text fs outer done key i v
      by_entry (m, ks, rest, q, r, n, sp, en) =
          here_found (collection true key (ahead text false i).at, Node m ks rest, r, inr (inr (inr (inl (len, t, tk, inl (d, refl, (Key, (ahead text false i).behind, q, (refl, refl, refl), n, sp)))))), en)

    pub deep_tag : (len : ℕ) → (ahead text false i).token ≡ Tag len → takes_tag f (ahead text false i) ≡ true → length outer ≡ 128 → v ≡ Refused (TooDeep (ahead text false i).at) → Awaits text fs outer done key i v
    deep_tag len t tk d e = here_found (collection true key (ahead text false i).at, Nil, Shows (TooDeep (ahead text false i).at), inr (inr (inr (inl (len, t, tk, inr (tt, d, refl))))), e)

    -- brackets
    pub awaits_brackets : (m : Bool) → Barred → (ahead text false i).token ≡ Opens m → Awaits text fs outer done key i v
        → Room (Enters text (Flow m ∷ fs) (opened text m key (ahead text false i).at done ∷ outer) Nil (ahead text false i).behind v)
    awaits_brackets m b o w = by_node (found_here b w) where
      by_node : NodeHere → Room (Enters text (Flow m ∷ fs) (opened text m key (ahead text false i).at done ∷ outer) Nil (ahead text false i).behind v)
      by_node (l, kids, r, inl (tk, inl (inl (x, q, j, st, hk, val))), en) = absurd (no_scalar text (ahead text false i) (ap starts_scalar o) (setting_of f) x j st)
      by_node (l, kids, r, inl (tk, inl (inr (n, st, er))), en) = absurd (no_documents text (ahead text false i) (ap starts_scalar o) (setting_of f) n st)
      by_node (l, kids, r, inl (tk, inr (n, o', inl (d, el, sp))), en) =
          let here : Opens n ≡ Opens m = sym o' ∙ o in
          let same : n ≡ m = cc in
          let label : l ≡ collection m key (ahead text false i).at = el ∙ ap (λ g. collection g key (ahead text false i).at) same in
          inl (d, (kids, r, subst (λ g. Spells text kids (Flow g) (suc (length outer)) true Nil (ahead text false i).behind r) same sp, subst (λ g. After g kids r) label en))
      by_node (l, kids, r, inl (tk, inr (n, o', inr (x, d, e))), en) = inr (d, subst (λ z. After l kids z) e en)
      by_node (l, kids, r, inr (inl (tk, y)), en) = absurd (let no : Opens m ≡ Dash = sym o ∙ dash_there l kids r y in cc)
      by_node (l, kids, r, inr (inr (inl (tk, y))), en) = absurd (key_there l kids r (no_key_at text (ahead text false i) (ap starts_scalar o)) y)
      by_node (l, kids, r, inr (inr (inr (inl (len, o2, tk, y)))), en) = absurd (let no : Tag len ≡ Opens m = sym o2 ∙ o in cc)
      by_node (l, kids, r, inr (inr (inr (inr (z, sg, er)))), en) = absurd (block_signed_at f (ahead text false i) z sg (ap (node_sign (is_tagged f) (ahead text false i).at) o))

    pub brackets_awaits : (m : Bool) → (ahead text false i).token ≡ Opens m → takes_scalar f (ahead text false i) ≡ true → length outer < 128
        → Enters text (Flow m ∷ fs) (opened text m key (ahead text false i).at done ∷ outer) Nil (ahead text false i).behind v → Awaits text fs outer done key i v
    brackets_awaits m o tk d (kids, r, sp, en) = here_found (collection m key (ahead text false i).at, kids, r, inl (tk, inr (m, o, inl (d, refl, sp))), en)

    pub deep_brackets : (m : Bool) → (ahead text false i).token ≡ Opens m → takes_scalar f (ahead text false i) ≡ true → length outer ≡ 128 → v ≡ Refused (TooDeep (ahead text false i).at) → Awaits text fs outer done key i v
    deep_brackets m o tk d e = here_found (collection m key (ahead text false i).at, Nil, Shows (TooDeep (ahead text false i).at), inl (tk, inr (m, o, inr (tt, d, refl))), e)

    -- a scalar
    abbrev pub NoMapping : Type 0
    NoMapping = takes_mapping f (ahead text false i) ≡ true → NoKey text (ahead text false i)

    abbrev ScalarHere : Type 0
    ScalarHere = (l : Label) × (kids : Forest) × (r : Reach) × IsScalar text (setting_of f) (follows_get_att text f i) (length outer) (ahead text false i) key l kids r × After l kids r

    scalar_here : Barred → starts_scalar (ahead text false i).token ≡ true → NoMapping → Awaits text fs outer done key i v → ScalarHere
    scalar_here b s nm w = by_node (found_here b w) where
      by_node : NodeHere → ScalarHere
      by_node (l, kids, r, inl (tk, inl h), en) = (l, kids, r, h, en)
      by_node (l, kids, r, inl (tk, inr (n, o, y)), en) = absurd (true≢false (sym s ∙ ap starts_scalar o))
      by_node (l, kids, r, inr (inl (tk, y)), en) = absurd (true≢false (sym s ∙ ap starts_scalar (dash_there l kids r y)))
      by_node (l, kids, r, inr (inr (inl (tk, y))), en) = absurd (key_there l kids r (nm tk) y)
      by_node (l, kids, r, inr (inr (inr (inl (len, o, tk, y)))), en) = absurd (true≢false (sym s ∙ ap starts_scalar o))
      by_node (l, kids, r, inr (inr (inr (inr (z, sg, er)))), en) = absurd (true≢false (sym s ∙ signed_word (is_tagged f) (ahead text false i).at (ahead text false i).token z (block_signed f (ahead text false i) z sg).1))

    abbrev pub Told : List ℕ → Kind → ℕ → Type 0
    Told t k q = (l : Label) × (kids : Forest) × (r : Reach) × IsValue (is_cut (follows_get_att text f i) k t) (length outer) k t key (ahead text false i).at q l kids r × After l kids r

    -- with a kind
    pub awaits_kind : (t : List ℕ) (q : ℕ) → Barred → starts_scalar (ahead text false i).token ≡ true → NoMapping → scalar_ahead text (setting_of f) (ahead text false i) ≡ Stands t q → Awaits text fs outer done key i v
        → (k : Kind) × HasKind (is_typed (setting_of f) text (ahead text false i).at) t k × Told t k q
    awaits_kind t q b s nm st w = by_scalar (scalar_here b s nm w) where
      by_scalar : ScalarHere → (k : Kind) × HasKind (is_typed (setting_of f) text (ahead text false i).at) t k × Told t k q
      by_scalar (l, kids, r, inr (n, st', er), en) = absurd (let no : Documents n ≡ Stands t q = sym st' ∙ st in cc)
      by_scalar (l, kids, r, inl (t', k, j, st', hk, val), en) =
          let here : Stands t' j ≡ Stands t q = sym st' ∙ st in
          let same : t' ≡ t = cc in
          let ends : j ≡ q = cc in
          let cuts : Bool = follows_get_att text f i in
          let at : ℕ = (ahead text false i).at in (
            k,
            subst (λ g. HasKind (is_typed (setting_of f) text (ahead text false i).at) g k) same hk,
            (l, kids, r, subst (λ g. IsValue (is_cut cuts k g) (length outer) k g key at q l kids r) same (subst (λ n. IsValue (is_cut cuts k t') (length outer) k t' key at n l kids r) ends val), en),
          )

    pub awaits_scalar : (t : List ℕ) (k : Kind) (q : ℕ) → Barred → starts_scalar (ahead text false i).token ≡ true → NoMapping → scalar_ahead text (setting_of f) (ahead text false i) ≡ Stands t q
        → ((k' : Kind) → HasKind (is_typed (setting_of f) text (ahead text false i).at) t k' → k' ≡ k) → Awaits text fs outer done key i v → Told t k q
    awaits_scalar t k q b s nm st only w = let r = awaits_kind t q b s nm st w in subst (λ g. Told t g q) (only r.0 r.1) r.2

    pub scalar_awaits : (t : List ℕ) (k : Kind) (q : ℕ) → takes_scalar f (ahead text false i) ≡ true → scalar_ahead text (setting_of f) (ahead text false i) ≡ Stands t q
        → HasKind (is_typed (setting_of f) text (ahead text false i).at) t k → Told t k q → Awaits text fs outer done key i v
    scalar_awaits t k q tk st hk (l, kids, r, val, en) = here_found (l, kids, r, inl (tk, inl (inl (t, k, q, st, hk, val))), en)

    pub awaits_no_scalar : Barred → starts_scalar (ahead text false i).token ≡ true → NoMapping → Failed text (setting_of f) (ahead text false i) → Awaits text fs outer done key i v → ⊥
    awaits_no_scalar b s nm none w = by_scalar (scalar_here b s nm w) where
      by_scalar : ScalarHere → ⊥
      by_scalar (l, kids, r, inl (t', k', j, st', hk, val), en) = none.0 t' j st'
      by_scalar (l, kids, r, inr (n, st', er), en) = none.1 n st'

    -- another document in quotes
    pub awaits_documents : (p : ℕ) → Barred → starts_scalar (ahead text false i).token ≡ true → NoMapping → scalar_ahead text (setting_of f) (ahead text false i) ≡ Documents p → Awaits text fs outer done key i v → v ≡ Refused (ManyDocuments p)
    awaits_documents p b s nm d w = by_scalar (scalar_here b s nm w) where
      by_scalar : ScalarHere → v ≡ Refused (ManyDocuments p)
      by_scalar (l, kids, r, inl (t', k', j, st', hk, val), en) = absurd (let no : Documents p ≡ Stands t' j = sym d ∙ st' in cc)
      by_scalar (l, kids, r, inr (n, d', er), en) =
          let here : Documents n ≡ Documents p = sym d' ∙ d in
          let same : n ≡ p = cc in
          subst (λ z. After l kids z) er en ∙ ap (λ z. Refused (ManyDocuments z)) same

    pub documents_awaits : (p : ℕ) → takes_scalar f (ahead text false i) ≡ true → scalar_ahead text (setting_of f) (ahead text false i) ≡ Documents p → v ≡ Refused (ManyDocuments p) → Awaits text fs outer done key i v
    documents_awaits p tk d e = here_found (leaf kind.Null [] key i, Nil, Shows (ManyDocuments p), inl (tk, inl (inr (p, d, refl))), e)

    -- nothing
    none_here : NoNode f (ahead text false i) → block_sign f (ahead text false i) ≡ None → NodeHere → ⊥
    none_here (a, s, g) us (l, kids, r, inl (tk, inl (inr (n, st, er))), en) = no_documents text (ahead text false i) (a tk).0 (setting_of f) n st
    none_here (a, s, g) us (l, kids, r, inl (tk, inl (inl (t, k, j, st, hk, val))), en) = no_scalar text (ahead text false i) (a tk).0 (setting_of f) t j st
    none_here (a, s, g) us (l, kids, r, inl (tk, inr (n, o, y)), en) = (a tk).1 n o
    none_here (a, s, g) us (l, kids, r, inr (inl (tk, y)), en) = s tk (dash_there l kids r y)
    none_here (a, s, g) us (l, kids, r, inr (inr (inl (tk, y))), en) = key_there l kids r (no_key_at text (ahead text false i) (a (mapping_takes text f (ahead text false i) tk)).0) y
    none_here (a, s, g) us (l, kids, r, inr (inr (inr (inl (len, o, tk, y)))), en) = g tk len o
    none_here (a, s, g) us (l, kids, r, inr (inr (inr (inr (z, sg, er)))), en) = none_some _ z us sg

    pub awaits_missing : NoNode f (ahead text false i) → block_sign f (ahead text false i) ≡ None → Awaits text fs outer done key i v → After (leaf kind.Null [] key i) Nil (To i)
    awaits_missing none us (l, kids, r, n, en) =
        by_case (node_cases (Spells text kids) f (length outer) key l kids i r block (subst (λ g. IsNode text (Spells text kids) g (length outer) key l kids i r) top_is n)) where
          by_case : IsMissing key l kids i r ⊎ IsBlockNode text (Spells text kids) f (length outer) key l kids i r → After (leaf kind.Null [] key i) Nil (To i)
          by_case (inl (el, ek, er)) = subst (λ g. After g Nil (To i)) el (subst (λ g. After l g (To i)) ek (subst (λ m. After l kids m) er en))
          by_case (inr h) = absurd (none_here none us (l, kids, r, h, en))

    -- a sign
    pub awaits_signed : (s : Sign) → Barred → block_sign f (ahead text false i) ≡ Some s → Awaits text fs outer done key i v → v ≡ Refused s
    awaits_signed s b sg w = by_node (found_here b w) where
      token : node_sign (is_tagged f) (ahead text false i).at (ahead text false i).token ≡ Some s
      token = (block_signed f (ahead text false i) s sg).1

      word : starts_scalar (ahead text false i).token ≡ false
      word = signed_word (is_tagged f) (ahead text false i).at (ahead text false i).token s token

      by_node : NodeHere → v ≡ Refused s
      by_node (l, kids, r, inl (tk, inl (inl (t, k, j, st, hk, val))), en) = absurd (no_scalar text (ahead text false i) word (setting_of f) t j st)
      by_node (l, kids, r, inl (tk, inl (inr (n, st, er))), en) = absurd (no_documents text (ahead text false i) word (setting_of f) n st)
      by_node (l, kids, r, inl (tk, inr (n, o, y)), en) = absurd (none_some _ s (ap (node_sign (is_tagged f) (ahead text false i).at) o) token)
      by_node (l, kids, r, inr (inl (tk, y)), en) = absurd (none_some _ s (ap (node_sign (is_tagged f) (ahead text false i).at) (dash_there l kids r y)) token)
      by_node (l, kids, r, inr (inr (inl (tk, y))), en) = absurd (key_there l kids r (no_key_at text (ahead text false i) word) y)
      by_node (l, kids, r, inr (inr (inr (inl (len, o, tk, y)))), en) = absurd (none_some _ s (tag_unsigned f (ahead text false i) len o tk) token)
      by_node (l, kids, r, inr (inr (inr (inr (z, h, er)))), en) = subst (λ n. After l kids n) er en ∙ ap Refused (same_sign _ s z sg h)

    pub signed_awaits : (s : Sign) → block_sign f (ahead text false i) ≡ Some s → v ≡ Refused s → Awaits text fs outer done key i v
    signed_awaits s sg e = here_found (leaf kind.Null [] key i, Nil, Shows s, inr (inr (inr (inr (s, sg, refl)))), e)

    pub missing_awaits : (f ≡ Root → ⊥) → After (leaf kind.Null [] key i) Nil (To i) → Awaits text fs outer done key i v
    missing_awaits n en =
        (leaf kind.Null [] key i, Nil, To i, subst (λ g. IsNode text (Spells text Nil) g (length outer) key (leaf kind.Null [] key i) Nil i (To i)) (sym top_is) (missing_node (Spells text Nil) f (length outer) key i block n), en)

  pub root_missing : (fs : List Form) (outer : List Level) (done : Forest) (key : Option (List ℕ)) (i : ℕ) (v : Reading) → top fs ≡ Root → NoNode Root (ahead text false i) → block_sign Root (ahead text false i) ≡ None → Awaits text fs outer done key i v → ⊥
  root_missing fs outer done key i v e none us (l, kids, r, n, en) =
      none_here fs outer Root e tt done key i v none us (l, kids, r, subst (λ g. IsNode text (Spells text kids) g (length outer) key l kids i r) e n, en)

  -- ---- another entry

  pub ends_item : (m : ℕ) (fs : List Form) (x : Level) (xs : List Level) (done : Forest) (i : ℕ) (v : Reading) → AreQuiet text (ahead text false i) fs → Inside text i
      → Ends text (Items m ∷ fs) (x ∷ xs) done i v → Awaits text (Items m ∷ fs) (x ∷ xs) done None (ahead text false i).behind v
  ends_item m fs x xs done i v q e (Nil, r, (h, er), en) = absurd (quiet_none text fs xs _ i v q e (subst (λ n. Follows text fs xs (snoc x.before x.label (joined done Nil)) v n) er en))
  ends_item m fs x xs done i v q e (Node l kids rest, r, (key, p, z, (t, al, ek, ep), n, sp), en) =
      entry_awaits text (Items m) fs x xs done None (ahead text false i).behind v (l, kids, rest, z, r, at_node text (Spells text kids) (Items m) (suc (length xs)) key None l kids p (ahead text false i).behind z ek ep n, sp, en)

  pub item_ends : (m : ℕ) (fs : List Form) (x : Level) (xs : List Level) (done : Forest) (i : ℕ) (v : Reading) → (ahead text false i).token ≡ Dash → (ahead text false i).fresh ≡ true → (ahead text false i).column ≡ m
      → Awaits text (Items m ∷ fs) (x ∷ xs) done None (ahead text false i).behind v → Ends text (Items m ∷ fs) (x ∷ xs) done i v
  item_ends m fs x xs done i v t fr col w = entry_ends text (Items m) fs x xs done None i (ahead text false i).behind v (t, (fr, col), refl, refl) (awaits_entry text (Items m) fs x xs done None (ahead text false i).behind v w)

  -- a key that stands before is the sign
  sign_entry : (m : ℕ) (before : Forest) (i : ℕ) (s : Sign) (t : List ℕ) (e : ℕ) → scalar_ahead text (as_key false) (ahead text false i) ≡ Stands t e → IsEntrySign text m before i s
      → (has_key before t ≡ true) × (s ≡ DuplicateKey (ahead text false i).at)
  sign_entry m before i s t e st (al, inr (len, tag, bare, es)) = absurd (no_scalar text (ahead text false i) (ap starts_scalar tag) (as_key false) t e st)
  sign_entry m before i s t e st (al, inl (inr sg)) = absurd (no_scalar text (ahead text false i) (signed_word false (ahead text false i).at (ahead text false i).token s sg) (as_key false) t e st)
  sign_entry m before i s t e st (al, inl (inl (u, j, su, again, es))) =
      let here : Stands u j ≡ Stands t e = sym su ∙ st in
      let same : u ≡ t = cc in
      (subst (λ g. has_key before g ≡ true) same again, es)

  -- an entry's key
  entry_key : (m : ℕ) (before : Forest) (i p : ℕ) (key : Option (List ℕ)) (t : List ℕ) (e : ℕ) → scalar_ahead text (as_key false) (ahead text false i) ≡ Stands t e → IsEntry text m false before i key p
      → IsKey text (ahead text false i) t p × (has_key before t ≡ false) × (key ≡ Some t)
  entry_key m before i p key t e st (u, k, al, hk, ek) =
      let here : Stands u k.0 ≡ Stands t e = sym k.1 ∙ st in
      let same : u ≡ t = cc in
      (subst (λ g. IsKey text (ahead text false i) g p) same k, subst (λ g. has_key before g ≡ false) same hk, ek ∙ ap Some same)

  pub ends_entry : (m : ℕ) (fs : List Form) (x : Level) (xs : List Level) (done : Forest) (i : ℕ) (v : Reading) (t : List ℕ) (p : ℕ) → AreQuiet text (ahead text false i) fs → Inside text i → IsKey text (ahead text false i) t p → has_key done t ≡ false
      → Ends text (Entries m ∷ fs) (x ∷ xs) done i v → Awaits text (Entries m ∷ fs) (x ∷ xs) done (Some t) p v
  ends_entry m fs x xs done i v t p q e c new (Nil, r, (h, inl er), en) = absurd (quiet_none text fs xs _ i v q e (subst (λ n. Follows text fs xs (snoc x.before x.label (joined done Nil)) v n) er en))
  ends_entry m fs x xs done i v t p q e c new (Nil, r, (h, inr (s, sg, er)), en) = absurd (true≢false (sym (sign_entry m done i s t c.0 c.1 sg).0 ∙ new))
  ends_entry m fs x xs done i v t p q e c new (Node l kids rest, r, (key, s, z, hd, n, sp), en) =
      let w = entry_key m done i s key t c.0 c.1 hd in
      let same = one_key (ahead text false i) t t p s c w.0 in
      entry_awaits text (Entries m) fs x xs done (Some t) p v (l, kids, rest, z, r, at_node text (Spells text kids) (Entries m) (suc (length xs)) key (Some t) l kids s p z w.2 same.1 n, sp, en)

  pub key_ends : (m : ℕ) (fs : List Form) (x : Level) (xs : List Level) (done : Forest) (i : ℕ) (v : Reading) (t : List ℕ) (p : ℕ) → IsKey text (ahead text false i) t p → (ahead text false i).fresh ≡ true → (ahead text false i).column ≡ m
      → has_key done t ≡ false → Awaits text (Entries m ∷ fs) (x ∷ xs) done (Some t) p v → Ends text (Entries m ∷ fs) (x ∷ xs) done i v
  key_ends m fs x xs done i v t p c fr col hk w = entry_ends text (Entries m) fs x xs done (Some t) i p v (t, c, (fr, col), hk, refl) (awaits_entry text (Entries m) fs x xs done (Some t) p v w)

  -- a key again
  pub ends_again : (m : ℕ) (fs : List Form) (x : Level) (xs : List Level) (done : Forest) (i : ℕ) (v : Reading) (t : List ℕ) (j : ℕ) → AreQuiet text (ahead text false i) fs → Inside text i
      → scalar_ahead text (as_key false) (ahead text false i) ≡ Stands t j → has_key done t ≡ true → Ends text (Entries m ∷ fs) (x ∷ xs) done i v → v ≡ Refused (DuplicateKey (ahead text false i).at)
  ends_again m fs x xs done i v t j q e st again (Nil, r, (h, inl er), en) = absurd (quiet_none text fs xs _ i v q e (subst (λ n. Follows text fs xs (snoc x.before x.label (joined done Nil)) v n) er en))
  ends_again m fs x xs done i v t j q e st again (Nil, r, (h, inr (s, sg, er)), en) = subst (λ n. Follows text fs xs (snoc x.before x.label (joined done Nil)) v n) er en ∙ ap Refused (sign_entry m done i s t j st sg).1
  ends_again m fs x xs done i v t j q e st again (Node l kids rest, r, (key, s, z, hd, n, sp), en) = absurd (true≢false (sym again ∙ (entry_key m done i s key t j st hd).1))

  pub again_ends : (m : ℕ) (fs : List Form) (x : Level) (xs : List Level) (done : Forest) (i : ℕ) (t : List ℕ) (j : ℕ) → (ahead text false i).fresh ≡ true → (ahead text false i).column ≡ m
      → scalar_ahead text (as_key false) (ahead text false i) ≡ Stands t j → has_key done t ≡ true → Ends text (Entries m ∷ fs) (x ∷ xs) done i (Refused (DuplicateKey (ahead text false i).at))
  again_ends m fs x xs done i t j fr col st again =
      let s : Sign = DuplicateKey (ahead text false i).at in (Nil, Shows s, (refl, inr (s, ((fr, col), inl (inl (t, j, st, again, refl))), refl)), refl)

  -- another sign
  pub ends_signed : (m : ℕ) (fs : List Form) (x : Level) (xs : List Level) (done : Forest) (i : ℕ) (v : Reading) (s : Sign) → AreQuiet text (ahead text false i) fs → Inside text i
      → node_sign false (ahead text false i).at (ahead text false i).token ≡ Some s → Ends text (Entries m ∷ fs) (x ∷ xs) done i v → v ≡ Refused s
  ends_signed m fs x xs done i v s q e sg w = by_tail w where
    none : (t : List ℕ) (j : ℕ) → scalar_ahead text (as_key false) (ahead text false i) ≡ Stands t j → ⊥
    none t j st = no_scalar text (ahead text false i) (signed_word false (ahead text false i).at (ahead text false i).token s sg) (as_key false) t j st

    by_tail : Ends text (Entries m ∷ fs) (x ∷ xs) done i v → v ≡ Refused s
    by_tail (Nil, r, (h, inl er), en) = absurd (quiet_none text fs xs _ i v q e (subst (λ n. Follows text fs xs (snoc x.before x.label (joined done Nil)) v n) er en))
    by_tail (Nil, r, (h, inr (z, (al, inr (len, tag, bare, es)), er)), en) = absurd (none_some _ s (ap (node_sign false (ahead text false i).at) tag) sg)
    by_tail (Nil, r, (h, inr (z, (al, inl (inl (t, j, st, again, es))), er)), en) = absurd (none t j st)
    by_tail (Nil, r, (h, inr (z, (al, inl (inr g)), er)), en) = subst (λ n. Follows text fs xs (snoc x.before x.label (joined done Nil)) v n) er en ∙ ap Refused (same_sign _ s z sg g)
    by_tail (Node l kids rest, r, (key, p, z, (t, k, al, hk, ek), n, sp), en) = absurd (none t k.0 k.1)

  pub signed_ends : (m : ℕ) (fs : List Form) (x : Level) (xs : List Level) (done : Forest) (i : ℕ) (s : Sign) → (ahead text false i).fresh ≡ true → (ahead text false i).column ≡ m
      → node_sign false (ahead text false i).at (ahead text false i).token ≡ Some s → Ends text (Entries m ∷ fs) (x ∷ xs) done i (Refused s)
  signed_ends m fs x xs done i s fr col sg = (Nil, Shows s, (refl, inr (s, ((fr, col), inl (inr sg)), refl)), refl)

  -- a tag behind another
  pub ends_tag_again : (m : ℕ) (fs : List Form) (x : Level) (xs : List Level) (done : Forest) (i : ℕ) (v : Reading) (len : ℕ) → AreQuiet text (ahead text false i) fs → Inside text i
      → (ahead text false i).token ≡ Tag len → Ends text (Entries m ∷ fs) (x ∷ xs) done i v → v ≡ Refused (sign.Tag (ahead text false i).at)
  ends_tag_again m fs x xs done i v len q e tag w = by_tail w where
    none : (t : List ℕ) (j : ℕ) → scalar_ahead text (as_key false) (ahead text false i) ≡ Stands t j → ⊥
    none t j st = no_scalar text (ahead text false i) (ap starts_scalar tag) (as_key false) t j st

    by_tail : Ends text (Entries m ∷ fs) (x ∷ xs) done i v → v ≡ Refused (sign.Tag (ahead text false i).at)
    by_tail (Nil, r, (h, inl er), en) = absurd (quiet_none text fs xs _ i v q e (subst (λ n. Follows text fs xs (snoc x.before x.label (joined done Nil)) v n) er en))
    by_tail (Nil, r, (h, inr (z, (al, inl (inl (t, j, st, again, es))), er)), en) = absurd (none t j st)
    by_tail (Nil, r, (h, inr (z, (al, inl (inr g)), er)), en) = absurd (none_some _ z (ap (node_sign false (ahead text false i).at) tag) g)
    by_tail (Nil, r, (h, inr (z, (al, inr (n, t, bare, es)), er)), en) = subst (λ n. Follows text fs xs (snoc x.before x.label (joined done Nil)) v n) er en ∙ ap Refused es
    by_tail (Node l kids rest, r, (key, p, z, (t, k, al, hk, ek), n, sp), en) = absurd (none t k.0 k.1)

  pub tag_again_ends : (m : ℕ) (fs : List Form) (x : Level) (xs : List Level) (done : Forest) (i len : ℕ) → (ahead text false i).fresh ≡ true → (ahead text false i).column ≡ m
      → (ahead text false i).token ≡ Tag len → IsBare text (last_place done) i → Ends text (Entries m ∷ fs) (x ∷ xs) done i (Refused (sign.Tag (ahead text false i).at))
  tag_again_ends m fs x xs done i len fr col tag bare =
      let s : Sign = sign.Tag (ahead text false i).at in (Nil, Shows s, (refl, inr (s, ((fr, col), inr (len, tag, bare, refl)), refl)), refl)

  -- nothing that begins an entry
  pub ends_no_entry : (m : ℕ) (fs : List Form) (x : Level) (xs : List Level) (done : Forest) (i : ℕ) (v : Reading) → AreQuiet text (ahead text false i) fs → Inside text i → Missed text (as_key false) (ahead text false i)
      → node_sign false (ahead text false i).at (ahead text false i).token ≡ None → ((len : ℕ) → (ahead text false i).token ≡ Tag len → IsBare text (last_place done) i → ⊥) → Ends text (Entries m ∷ fs) (x ∷ xs) done i v → ⊥
  ends_no_entry m fs x xs done i v q e miss us calm (Nil, r, (h, inl er), en) = quiet_none text fs xs _ i v q e (subst (λ n. Follows text fs xs (snoc x.before x.label (joined done Nil)) v n) er en)
  ends_no_entry m fs x xs done i v q e miss us calm (Nil, r, (h, inr (z, (al, inl (inl (t, j, st, again, es))), er)), en) = miss t j st
  ends_no_entry m fs x xs done i v q e miss us calm (Nil, r, (h, inr (z, (al, inl (inr g)), er)), en) = none_some _ z us g
  ends_no_entry m fs x xs done i v q e miss us calm (Nil, r, (h, inr (z, (al, inr (n, t, bare, es)), er)), en) = calm n t bare
  ends_no_entry m fs x xs done i v q e miss us calm (Node l kids rest, r, (key, p, z, (t, k, al, hk, ek), n, sp), en) = miss t k.0 k.1

  -- a key without its colon
  pub ends_no_colon : (m : ℕ) (fs : List Form) (x : Level) (xs : List Level) (done : Forest) (i : ℕ) (v : Reading) (t : List ℕ) (j : ℕ) → AreQuiet text (ahead text false i) fs → Inside text i
      → scalar_ahead text (as_key false) (ahead text false i) ≡ Stands t j → has_key done t ≡ false → ((ahead text false j).fresh ≡ false → (ahead text false j).token ≡ Point true → ⊥) → Ends text (Entries m ∷ fs) (x ∷ xs) done i v → ⊥
  ends_no_colon m fs x xs done i v t j q e st new none (Nil, r, (h, inl er), en) = quiet_none text fs xs _ i v q e (subst (λ n. Follows text fs xs (snoc x.before x.label (joined done Nil)) v n) er en)
  ends_no_colon m fs x xs done i v t j q e st new none (Nil, r, (h, inr (s, sg, er)), en) = true≢false (sym (sign_entry m done i s t j st sg).0 ∙ new)
  ends_no_colon m fs x xs done i v t j q e st new none (Node l kids rest, r, (key, s, z, (u, k, al, hk, ek), n, sp), en) =
      let here : Stands u k.0 ≡ Stands t j = sym k.1 ∙ st in
      let ends : k.0 ≡ j = cc in
      none (subst (λ n. (ahead text false n).fresh ≡ false) ends k.2) (subst (λ n. (ahead text false n).token ≡ Point true) ends k.3)
