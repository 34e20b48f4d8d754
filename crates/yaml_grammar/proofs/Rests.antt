-- Between brackets, one step of reading changes nothing of what may still follow: in both directions, for each thing that
-- may be ahead.
use Rattle.std.proofs.Common.{◌≡◌, ℕ, suc, ◌<◌, ◌⊎◌, inl, inr, Bool, true, false, List, [], ◌∷◌, Option, Some, None, length, drop, refl, sym, ap, ◌∙◌, subst, true≢false, cond}
use Rattle.doc_values.specs.declared.kind.Kind.{Kind}
use Rattle.doc_values.specs.declared.kind.Kind.TheVariants as kind
use Rattle.doc_values.specs.Tree.{Label, Forest, Nil, Node, snoc, joined, has_key}
use Rattle.doc_values.specs.code.Laws.{joined-Nil, joined-snoc}
use Rattle.doc_values.specs.Unfinished.{Level}
use Rattle.yaml_scalars.specs.declared.scalar.Setting.{Setting}
use Rattle.yaml_scalars.specs.Lines.{Stands, Fails, Documents}
use Rattle.yaml_scalars.specs.Scalar.{scalar_at, is_typed, HasKind, begins_quoted}
use Rattle.yaml_grammar.specs.declared.ahead.Ahead.{Ahead}
use Rattle.yaml_grammar.specs.declared.ahead.Token.{Token}
use Rattle.yaml_grammar.specs.declared.ahead.Token.TheVariants.{End, Dashes, Dots, Dash, Tag, NoTag, Opens, Closes, Comma, Point, Anchor, Percent, Tabbed, Stray, Other}
use Rattle.yaml_grammar.specs.Ahead.{ahead}
use Rattle.yaml_grammar.specs.Nodes.{setting_of, as_key, tag_name, tag_key, follows_get_att, is_cut, IsValue, leaf, collection, starts_scalar, scalar_ahead, IsMissing, Contents, node_sign, is_tagged, is_marked}
use Rattle.yaml_grammar.specs.Signs.{Sign, ManyDocuments, DuplicateKey, TooDeep, Reach, To, Shows, Reading, Refused, Then}
use Rattle.yaml_grammar.specs.Flow.{may_miss, may_tag, ends_key, IsColon, IsFlowNode, IsFlowHead, IsFlowTail, IsFlowSign}
use Rattle.yaml_grammar.specs.Yaml.{IsHead, IsTail, IsNode, Spells}
use Rattle.yaml_grammar.specs.declared.form.Form.{Form}
use Rattle.yaml_grammar.specs.declared.form.Form.TheVariants.{Root, Flow, FlowTagged, Items, Entries, Tagged}
use Rattle.yaml_grammar.specs.code.Rest.{top, Ends, Enters, Follows, Awaits}
use Rattle.yaml_grammar.specs.code.Steps.{IsFlow, LiesIn, Nests, is_flow_ending, Failed}

-- what tokens are no signs
pub signed_word : (tagged : Bool) (at : ℕ) (t : Token) (s : Sign) → node_sign tagged at t ≡ Some s → starts_scalar t ≡ false
signed_word tagged at End s e = refl
signed_word tagged at Dashes s e = refl
signed_word tagged at Dots s e = refl
signed_word tagged at Dash s e = refl
signed_word tagged at (Tag len) s e = refl
signed_word tagged at NoTag s e = refl
signed_word tagged at (Opens m) s e = refl
signed_word tagged at (Closes m) s e = refl
signed_word tagged at Comma s e = refl
signed_word tagged at (Point l) s e = absurd (cc)
signed_word tagged at Anchor s e = refl
signed_word tagged at Percent s e = refl
signed_word tagged at Tabbed s e = refl
signed_word tagged at Stray s e = refl
signed_word tagged at Other s e = absurd (cc)

pub marked_word : (t : Token) → is_marked t ≡ true → starts_scalar t ≡ false
marked_word End e = refl
marked_word Dashes e = refl
marked_word Dots e = refl
marked_word Dash e = refl
marked_word (Tag len) e = refl
marked_word NoTag e = refl
marked_word (Opens m) e = refl
marked_word (Closes m) e = refl
marked_word Comma e = refl
marked_word (Point l) e = absurd (true≢false (sym e))
marked_word Anchor e = refl
marked_word Percent e = refl
marked_word Tabbed e = refl
marked_word Stray e = refl
marked_word Other e = absurd (true≢false (sym e))

pub marked_unsigned : (tagged : Bool) (at : ℕ) (t : Token) → is_marked t ≡ true → node_sign tagged at t ≡ None
marked_unsigned tagged at End e = refl
marked_unsigned tagged at Dashes e = refl
marked_unsigned tagged at Dots e = refl
marked_unsigned tagged at Dash e = refl
marked_unsigned tagged at (Tag len) e = absurd (true≢false (sym e))
marked_unsigned tagged at NoTag e = absurd (true≢false (sym e))
marked_unsigned tagged at (Opens m) e = refl
marked_unsigned tagged at (Closes m) e = refl
marked_unsigned tagged at Comma e = refl
marked_unsigned tagged at (Point l) e = refl
marked_unsigned tagged at Anchor e = absurd (true≢false (sym e))
marked_unsigned tagged at Percent e = refl
marked_unsigned tagged at Tabbed e = refl
marked_unsigned tagged at Stray e = refl
marked_unsigned tagged at Other e = refl

pub none_some : (o : Option Sign) (s : Sign) → o ≡ None → o ≡ Some s → ⊥
none_some o s n e = absurd (let no : None ≡ Some s = sym n ∙ e in cc)

pub same_sign : (o : Option Sign) (s z : Sign) → o ≡ Some s → o ≡ Some z → z ≡ s
same_sign o s z e h =
    let here : Some z ≡ Some s = sym h ∙ e in
    let same : z ≡ s = cc in
    same

pub flow_unmarked : (t : Token) → is_flow_ending t ≡ false → is_marked t ≡ false
flow_unmarked End e = refl
flow_unmarked Dashes e = e
flow_unmarked Dots e = e
flow_unmarked Dash e = refl
flow_unmarked (Tag len) e = refl
flow_unmarked NoTag e = refl
flow_unmarked (Opens m) e = refl
flow_unmarked (Closes m) e = refl
flow_unmarked Comma e = refl
flow_unmarked (Point l) e = refl
flow_unmarked Anchor e = refl
flow_unmarked Percent e = refl
flow_unmarked Tabbed e = refl
flow_unmarked Stray e = refl
flow_unmarked Other e = refl

signed_endings : (tagged : Bool) (at : ℕ) (t : Token) (s : Sign) → node_sign tagged at t ≡ Some s → is_flow_ending t ≡ false
signed_endings tagged at End s e = absurd (cc)
signed_endings tagged at Dashes s e = absurd (cc)
signed_endings tagged at Dots s e = absurd (cc)
signed_endings tagged at Dash s e = absurd (cc)
signed_endings tagged at (Tag len) s e = refl
signed_endings tagged at NoTag s e = refl
signed_endings tagged at (Opens m) s e = absurd (cc)
signed_endings tagged at (Closes m) s e = absurd (cc)
signed_endings tagged at Comma s e = absurd (cc)
signed_endings tagged at (Point l) s e = absurd (cc)
signed_endings tagged at Anchor s e = refl
signed_endings tagged at Percent s e = absurd (cc)
signed_endings tagged at Tabbed s e = absurd (cc)
signed_endings tagged at Stray s e = absurd (cc)
signed_endings tagged at Other s e = absurd (cc)

module _ (text : List ℕ) where
  -- no scalar stands at a place
  abbrev pub NoScalar : Ahead → Type 0
  NoScalar a = (s : Setting) (t : List ℕ) (j : ℕ) → scalar_ahead text s a ≡ Stands t j → ⊥

  pub no_scalar : (a : Ahead) → starts_scalar a.token ≡ false → NoScalar a
  no_scalar a e s t j st = absurd (let no : Fails a.at ≡ Stands t j = sym (ap (λ b. cond b (scalar_at s text a.at) (Fails a.at)) e) ∙ st in cc)

  pub no_documents : (a : Ahead) → starts_scalar a.token ≡ false → (s : Setting) (p : ℕ) → scalar_ahead text s a ≡ Documents p → ⊥
  no_documents a e s p d = absurd (let no : Fails a.at ≡ Documents p = sym (ap (λ b. cond b (scalar_at s text a.at) (Fails a.at)) e) ∙ d in cc)

  -- neither a comma nor the closing bracket is ahead, nor a mark
  abbrev pub NoEnding : Bool → Token → Type 0
  NoEnding map t = (t ≡ Comma → ⊥) × (t ≡ Closes map → ⊥) × (is_marked t ≡ false)

  -- ---- an entry and what follows it

  pub at_node : (holds : Contents) (f : Form) (d : ℕ) (k key : Option (List ℕ)) (l : Label) (kids : Forest) (p i : ℕ) (r : Reach) → k ≡ key → p ≡ i → IsNode text holds f d k l kids p r → IsNode text holds f d key l kids i r
  at_node holds f d k key l kids p i r ek ep n = subst (λ z. IsNode text holds f d z l kids i r) ek (subst (λ z. IsNode text holds f d k l kids z r) ep n)

  -- an entry of the innermost collection, whose node begins at a place, and what follows it
  module _ (f : Form) (fs : List Form) (x : Level) (xs : List Level) (done : Forest) (key : Option (List ℕ)) (i : ℕ) (v : Reading) where
    abbrev pub Closing : Forest → Reach → Type 0
    Closing g r = Follows text fs xs (snoc x.before x.label (joined done g)) v r

    abbrev pub Entry : Type 0
    Entry =
        (l : Label) × (kids rest : Forest) × (q r : Reach) × IsNode text (Spells text kids) f (suc (length xs)) key l kids i q
        × Then q (λ j. Spells text rest f (suc (length xs)) false (snoc done l kids) j r) (λ s. (rest ≡ Nil) × (r ≡ Shows s)) × Closing (Node l kids rest) r

    pub entry_awaits : Entry → Awaits text (f ∷ fs) (x ∷ xs) done key i v
    entry_awaits (l, kids, rest, To j, r, n, sp, en) = (l, kids, To j, n, (rest, r, sp, subst (λ g. Follows text fs xs (snoc x.before x.label g) v r) (sym (joined-snoc done l kids rest)) en))
    entry_awaits (l, kids, rest, Shows s, r, n, (e, er), en) = (l, kids, Shows s, n, subst (λ z. Closing (Node l kids rest) z) er en)

    pub awaits_entry : Awaits text (f ∷ fs) (x ∷ xs) done key i v → Entry
    awaits_entry (l, kids, To j, n, (rest, r, sp, en)) = (l, kids, rest, To j, r, n, sp, subst (λ g. Follows text fs xs (snoc x.before x.label g) v r) (joined-snoc done l kids rest) en)
    awaits_entry (l, kids, Shows s, n, e) = (l, kids, Nil, Shows s, Shows s, n, (refl, refl), e)

  -- behind another entry, or behind an opening bracket
  pub entry_ends : (f : Form) (fs : List Form) (x : Level) (xs : List Level) (done : Forest) (key : Option (List ℕ)) (p i : ℕ) (v : Reading) → IsHead text f false done p key i → Entry f fs x xs done key i v → Ends text (f ∷ fs) (x ∷ xs) done p v
  entry_ends f fs x xs done key p i v hd (l, kids, rest, q, r, n, sp, en) = (Node l kids rest, r, (key, i, q, hd, n, sp), en)

  pub entry_enters : (f : Form) (fs : List Form) (x : Level) (xs : List Level) (done : Forest) (key : Option (List ℕ)) (p i : ℕ) (v : Reading) → IsHead text f true done p key i → Entry f fs x xs done key i v → Enters text (f ∷ fs) (x ∷ xs) done p v
  entry_enters f fs x xs done key p i v hd (l, kids, rest, q, r, n, sp, en) = (Node l kids rest, r, (key, i, q, hd, n, sp), en)

  -- ---- behind a complete node

  -- what follows in a collection begins with a comma or its closing bracket
  tail_begins : (map first : Bool) (i j : ℕ) → NoEnding map (ahead text true i).token → IsFlowTail text map first i j → ⊥
  tail_begins map true i j none (k, inl e, t, b) = none.1 (ap (λ n. (ahead text true n).token) (sym e) ∙ t)
  tail_begins map true i j none (k, inr e, t, b) = none.1 (ap (λ n. (ahead text true n).token) (sym e) ∙ t)
  tail_begins map false i j none (k, inl (c, e), t, b) = none.0 c
  tail_begins map false i j none (k, inr e, t, b) = none.1 (ap (λ n. (ahead text true n).token) (sym e) ∙ t)

  head_begins : (map : Bool) (before : Forest) (i p : ℕ) (key : Option (List ℕ)) → NoEnding map (ahead text true i).token → IsFlowHead text map false before i key p → ⊥
  head_begins false before i p key none (k, c) = none.0 c.0
  head_begins true before i p key none (k, e, t, c, st, hk, ek, col) = none.0 c.0

  sign_begins : (map : Bool) (before : Forest) (i : ℕ) (s : Sign) → NoEnding map (ahead text true i).token → IsFlowSign text map false before i s → ⊥
  sign_begins map before i s none (inl (m, k, (c, e), again)) = none.0 c
  sign_begins map before i s none (inr (k, inl (c, e), mk, es)) = none.0 c
  sign_begins map before i s none (inr (k, inr e, mk, es)) = true≢false (sym (ap (λ n. is_marked (ahead text true n).token) (sym e) ∙ mk) ∙ none.2)

  rest_begins : (f : Forest) (map : Bool) (d : ℕ) (before : Forest) (i : ℕ) (r : Reach) → NoEnding map (ahead text true i).token → Spells text f (Flow map) d false before i r → ⊥
  rest_begins Nil map d before i r none (inl (j, t, e)) = tail_begins map false i j none t
  rest_begins Nil map d before i r none (inr (s, t, e)) = sign_begins map before i s none t
  rest_begins (Node l kids rest) map d before i r none (key, p, q, hd, n, sp) = head_begins map before i p key none hd

  pub ends_begin : (mp : Bool) (fs : List Form) (x : Level) (xs : List Level) (done : Forest) (i : ℕ) (v : Reading) → NoEnding mp (ahead text true i).token → Ends text (Flow mp ∷ fs) (x ∷ xs) done i v → ⊥
  ends_begin mp fs x xs done i v none (f, r, sp, en) = rest_begins f mp (suc (length xs)) done i r none sp

  -- the closing bracket
  closed_tail : (map first : Bool) (i j : ℕ) → (ahead text true i).token ≡ Closes map → IsFlowTail text map first i j → j ≡ (ahead text true i).behind
  closed_tail map true i j c (k, inl e, t, b) = b ∙ ap (λ n. (ahead text true n).behind) e
  closed_tail map true i j c (k, inr e, t, b) = b ∙ ap (λ n. (ahead text true n).behind) e
  closed_tail map false i j c (k, inl (d, e), t, b) = absurd (let no : Comma ≡ Closes map = sym d ∙ c in cc)
  closed_tail map false i j c (k, inr e, t, b) = b ∙ ap (λ n. (ahead text true n).behind) e

  closed_head : (map : Bool) (before : Forest) (i p : ℕ) (key : Option (List ℕ)) → (ahead text true i).token ≡ Closes map → IsFlowHead text map false before i key p → ⊥
  closed_head false before i p key c (k, d) = absurd (let no : Comma ≡ Closes false = sym d.0 ∙ c in cc)
  closed_head true before i p key c (k, e, t, d, st, hk, ek, col) = absurd (let no : Comma ≡ Closes true = sym d.0 ∙ c in cc)

  closed_sign : (map : Bool) (before : Forest) (i : ℕ) (s : Sign) → (ahead text true i).token ≡ Closes map → IsFlowSign text map false before i s → ⊥
  closed_sign map before i s c (inl (m, k, (d, e), again)) = absurd (let no : Comma ≡ Closes map = sym d ∙ c in cc)
  closed_sign map before i s c (inr (k, inl (d, e), mk, es)) = absurd (let no : Comma ≡ Closes map = sym d ∙ c in cc)
  closed_sign map before i s c (inr (k, inr e, mk, es)) = true≢false (sym (ap (λ n. is_marked (ahead text true n).token) (sym e) ∙ mk) ∙ ap is_marked c)

  -- the last entry was the last
  pub closes : (f : Forest) (fs : List Form) (x : Level) (xs : List Level) (done : Forest) (j : ℕ) (r : Reach) (v : Reading) → f ≡ Nil → r ≡ To j → Follows text fs xs (snoc x.before x.label (joined done f)) v r → Ends text fs xs (snoc x.before x.label done) j v
  closes f fs x xs done j r v e h en =
      subst (λ n. Follows text fs xs (snoc x.before x.label done) v n) h (subst (λ g. Follows text fs xs (snoc x.before x.label g) v r) (ap (joined done) e ∙ joined-Nil done) en)

  pub ends_closed : (mp : Bool) (fs : List Form) (x : Level) (xs : List Level) (done : Forest) (i : ℕ) (v : Reading) → (ahead text true i).token ≡ Closes mp
      → Ends text (Flow mp ∷ fs) (x ∷ xs) done i v → Ends text fs xs (snoc x.before x.label done) (ahead text true i).behind v
  ends_closed mp fs x xs done i v c (Nil, r, inl (j, t, e), en) = closes Nil fs x xs done _ r v refl (e ∙ ap To (closed_tail mp false i j c t)) en
  ends_closed mp fs x xs done i v c (Nil, r, inr (s, t, e), en) = absurd (closed_sign mp done i s c t)
  ends_closed mp fs x xs done i v c (Node l kids rest, r, (key, p, q, hd, n, sp), en) = absurd (closed_head mp done i p key c hd)

  pub closed_ends : (mp : Bool) (fs : List Form) (x : Level) (xs : List Level) (done : Forest) (i : ℕ) (v : Reading) → (ahead text true i).token ≡ Closes mp
      → Ends text fs xs (snoc x.before x.label done) (ahead text true i).behind v → Ends text (Flow mp ∷ fs) (x ∷ xs) done i v
  closed_ends mp fs x xs done i v c en =
      (Nil, To (ahead text true i).behind, inl ((ahead text true i).behind, (i, inr refl, c, refl), refl), subst (λ g. Ends text fs xs (snoc x.before x.label g) (ahead text true i).behind v) (sym (joined-Nil done)) en)

  -- a comma
  comma_tail : (map : Bool) (before : Forest) (i : ℕ) (r : Reach) → (ahead text true i).token ≡ Comma → IsTail text (Flow map) false before i r → IsTail text (Flow map) true before (ahead text true i).behind r
  comma_tail map before i r c (inl (j, (k, inl (d, e), t, b), h)) = inl (j, (k, inl e, t, b), h)
  comma_tail map before i r c (inl (j, (k, inr e, t, b), h)) = absurd (let no : Closes map ≡ Comma = sym t ∙ (ap (λ n. (ahead text true n).token) e ∙ c) in cc)
  comma_tail map before i r c (inr (s, inl (m, k, (d, e), again), h)) = inr (s, inl (m, k, e, again), h)
  comma_tail map before i r c (inr (s, inr (k, inl (d, e), mk, es), h)) = inr (s, inr (k, inl e, mk, es), h)
  comma_tail map before i r c (inr (s, inr (k, inr e, mk, es), h)) = absurd (true≢false (sym (ap (λ n. is_marked (ahead text true n).token) (sym e) ∙ mk) ∙ ap is_marked c))

  tail_comma : (map : Bool) (before : Forest) (i : ℕ) (r : Reach) → (ahead text true i).token ≡ Comma → IsTail text (Flow map) true before (ahead text true i).behind r → IsTail text (Flow map) false before i r
  tail_comma map before i r c (inl (j, (k, inl e, t, b), h)) = inl (j, (k, inl (c, e), t, b), h)
  tail_comma map before i r c (inl (j, (k, inr e, t, b), h)) = inl (j, (k, inl (c, e), t, b), h)
  tail_comma map before i r c (inr (s, inl (m, k, e, again), h)) = inr (s, inl (m, k, (c, e), again), h)
  tail_comma map before i r c (inr (s, inr (k, inl e, mk, es), h)) = inr (s, inr (k, inl (c, e), mk, es), h)
  tail_comma map before i r c (inr (s, inr (k, inr e, mk, es), h)) = inr (s, inr (k, inl (c, e), mk, es), h)

  comma_head : (map : Bool) (before : Forest) (i p : ℕ) (key : Option (List ℕ)) → IsFlowHead text map false before i key p → IsFlowHead text map true before (ahead text true i).behind key p
  comma_head false before i p key (k, c) = (k, c.1)
  comma_head true before i p key (k, e, t, c, st, hk, ek, col) = (k, e, t, c.1, st, hk, ek, col)

  head_comma : (map : Bool) (before : Forest) (i p : ℕ) (key : Option (List ℕ)) → (ahead text true i).token ≡ Comma → IsFlowHead text map true before (ahead text true i).behind key p → IsFlowHead text map false before i key p
  head_comma false before i p key d (k, c) = (k, (d, c))
  head_comma true before i p key d (k, e, t, c, st, hk, ek, col) = (k, e, t, (d, c), st, hk, ek, col)

  pub ends_comma : (mp : Bool) (fs : List Form) (x : Level) (xs : List Level) (done : Forest) (i : ℕ) (v : Reading) → (ahead text true i).token ≡ Comma
      → Ends text (Flow mp ∷ fs) (x ∷ xs) done i v → Enters text (Flow mp ∷ fs) (x ∷ xs) done (ahead text true i).behind v
  ends_comma mp fs x xs done i v c (Nil, r, sp, en) = (Nil, r, comma_tail mp done i r c sp, en)
  ends_comma mp fs x xs done i v c (Node l kids rest, r, (key, p, q, hd, n, sp), en) = (Node l kids rest, r, (key, p, q, comma_head mp done i p key hd, n, sp), en)

  pub comma_ends : (mp : Bool) (fs : List Form) (x : Level) (xs : List Level) (done : Forest) (i : ℕ) (v : Reading) → (ahead text true i).token ≡ Comma
      → Enters text (Flow mp ∷ fs) (x ∷ xs) done (ahead text true i).behind v → Ends text (Flow mp ∷ fs) (x ∷ xs) done i v
  comma_ends mp fs x xs done i v c (Nil, r, sp, en) = (Nil, r, tail_comma mp done i r c sp, en)
  comma_ends mp fs x xs done i v c (Node l kids rest, r, (key, p, q, hd, n, sp), en) = (Node l kids rest, r, (key, p, q, head_comma mp done i p key c hd, n, sp), en)

  -- ---- where an entry may stand

  -- behind an opening bracket or a comma the closing bracket may stand, where no scalar does
  entered_tail : (map : Bool) (i j : ℕ) → IsFlowTail text map true i j → ((ahead text true i).token ≡ Closes map) × (j ≡ (ahead text true i).behind)
  entered_tail map i j (k, inl e, t, b) = (ap (λ n. (ahead text true n).token) (sym e) ∙ t, b ∙ ap (λ n. (ahead text true n).behind) e)
  entered_tail map i j (k, inr e, t, b) = (ap (λ n. (ahead text true n).token) (sym e) ∙ t, b ∙ ap (λ n. (ahead text true n).behind) e)

  entered_place : (i k : ℕ) → (k ≡ i) ⊎ (k ≡ i) → k ≡ i
  entered_place i k (inl e) = e
  entered_place i k (inr e) = e

  -- at a closing bracket stands no sign
  entered_sign : (map : Bool) (before : Forest) (i : ℕ) (s : Sign) → (ahead text true i).token ≡ Closes map → NoScalar (ahead text true i) → IsFlowSign text map true before i s → ⊥
  entered_sign map before i s c none (inl (m, k, e, inl (t, j, st, again, es))) = none (as_key true) t j (subst (λ n. scalar_ahead text (as_key true) (ahead text true n) ≡ Stands t j) e st)
  entered_sign map before i s c none (inl (m, k, e, inr sg)) = none_some _ s (ap (node_sign false (ahead text true i).at) c) (subst (λ n. node_sign false (ahead text true n).at (ahead text true n).token ≡ Some s) e sg)
  entered_sign map before i s c none (inr (k, x, mk, es)) = true≢false (sym (ap (λ n. is_marked (ahead text true n).token) (sym (entered_place i k x)) ∙ mk) ∙ ap is_marked c)

  closed_entry : (map : Bool) (before : Forest) (d i p : ℕ) (q : Reach) (key : Option (List ℕ)) (l : Label) (kids : Forest) → (ahead text true i).token ≡ Closes map → NoScalar (ahead text true i)
      → IsFlowHead text map true before i key p → IsFlowNode text (Flow map) (Spells text kids) d key l kids p q → ⊥
  closed_entry true before d i p q key l kids c none (k, e, t, h, st, hk, ek, col) n = none (as_key true) t e (subst (λ m. scalar_ahead text (as_key true) (ahead text true m) ≡ Stands t e) h st)
  closed_entry false before d i p q key l kids c none (k, h) (inl (m, x)) = absurd cc
  closed_entry false before d i p q key l kids c none (k, h) (inr (inl (inr (n, st, er)))) =
      no_documents (ahead text true i) (ap starts_scalar c) (setting_of (Flow false)) n (subst (λ m. scalar_ahead text (setting_of (Flow false)) (ahead text true m) ≡ Documents n) h st)
  closed_entry false before d i p q key l kids c none (k, h) (inr (inl (inl (t, w, j, st, y, z)))) = none (setting_of (Flow false)) t j (subst (λ m. scalar_ahead text (setting_of (Flow false)) (ahead text true m) ≡ Stands t j) h st)
  closed_entry false before d i p q key l kids c none (k, h) (inr (inr (inl (m, o, y)))) = absurd (let no : Opens m ≡ Closes false = sym o ∙ (ap (λ n. (ahead text true n).token) h ∙ c) in cc)
  closed_entry false before d i p q key l kids c none (k, h) (inr (inr (inr (inr (z, sg, er))))) =
      none_some _ z (ap (node_sign false (ahead text true i).at) c) (subst (λ n. node_sign false (ahead text true n).at (ahead text true n).token ≡ Some z) h sg)
  closed_entry false before d i p q key l kids c none (k, h) (inr (inr (inr (inl (len, o, mt, y))))) = absurd (let no : Tag len ≡ Closes false = sym o ∙ (ap (λ n. (ahead text true n).token) h ∙ c) in cc)

  pub enters_closed : (mp : Bool) (fs : List Form) (x : Level) (xs : List Level) (done : Forest) (i : ℕ) (v : Reading) → (ahead text true i).token ≡ Closes mp → NoScalar (ahead text true i)
      → Enters text (Flow mp ∷ fs) (x ∷ xs) done i v → Ends text fs xs (snoc x.before x.label done) (ahead text true i).behind v
  enters_closed mp fs x xs done i v c none (Nil, r, inl (j, t, e), en) = closes Nil fs x xs done _ r v refl (e ∙ ap To (entered_tail mp i j t).1) en
  enters_closed mp fs x xs done i v c none (Nil, r, inr (s, t, e), en) = absurd (entered_sign mp done i s c none t)
  enters_closed mp fs x xs done i v c none (Node l kids rest, r, (key, p, q, hd, n, sp), en) = absurd (closed_entry mp done (suc (length xs)) i p q key l kids c none hd n)

  pub closed_enters : (mp : Bool) (fs : List Form) (x : Level) (xs : List Level) (done : Forest) (i : ℕ) (v : Reading) → (ahead text true i).token ≡ Closes mp
      → Ends text fs xs (snoc x.before x.label done) (ahead text true i).behind v → Enters text (Flow mp ∷ fs) (x ∷ xs) done i v
  closed_enters mp fs x xs done i v c en =
      (Nil, To (ahead text true i).behind, inl ((ahead text true i).behind, (i, inr refl, c, refl), refl), subst (λ g. Ends text fs xs (snoc x.before x.label g) (ahead text true i).behind v) (sym (joined-Nil done)) en)

  -- an item of a list
  item_at : (m : Bool) (before : Forest) (i p : ℕ) (key : Option (List ℕ)) → m ≡ false → IsFlowHead text m true before i key p → (key ≡ None) × (p ≡ i)
  item_at false before i p key e (k, h) = (k, h)
  item_at true before i p key e hd = absurd cc

  at_item : (m : Bool) (before : Forest) (i : ℕ) → m ≡ false → IsFlowHead text m true before i None i
  at_item false before i e = (refl, refl)
  at_item true before i e = absurd cc

  pub enters_item : (mp : Bool) (fs : List Form) (x : Level) (xs : List Level) (done : Forest) (i : ℕ) (v : Reading) → mp ≡ false → ((ahead text true i).token ≡ Closes false → ⊥) → is_marked (ahead text true i).token ≡ false
      → Enters text (Flow mp ∷ fs) (x ∷ xs) done i v → Awaits text (Flow mp ∷ fs) (x ∷ xs) done None i v
  enters_item mp fs x xs done i v m open_ un (Nil, r, inl (j, t, e), en) = absurd (open_ ((entered_tail mp i j t).0 ∙ ap Closes m))
  enters_item mp fs x xs done i v m open_ un (Nil, r, inr (s, inl t, e), en) = absurd (true≢false (sym t.0 ∙ m))
  enters_item mp fs x xs done i v m open_ un (Nil, r, inr (s, inr (k, h, mk, es), e), en) = absurd (true≢false (sym (ap (λ n. is_marked (ahead text true n).token) (sym (entered_place i k h)) ∙ mk) ∙ un))
  enters_item mp fs x xs done i v m open_ un (Node l kids rest, r, (key, p, q, hd, n, sp), en) =
      let h = item_at mp done i p key m hd in entry_awaits (Flow mp) fs x xs done None i v (l, kids, rest, q, r, at_node (Spells text kids) (Flow mp) (suc (length xs)) key None l kids p i q h.0 h.1 n, sp, en)

  pub item_enters : (mp : Bool) (fs : List Form) (x : Level) (xs : List Level) (done : Forest) (i : ℕ) (v : Reading) → mp ≡ false
      → Awaits text (Flow mp ∷ fs) (x ∷ xs) done None i v → Enters text (Flow mp ∷ fs) (x ∷ xs) done i v
  item_enters mp fs x xs done i v m w = entry_enters (Flow mp) fs x xs done None i i v (at_item mp done i m) (awaits_entry (Flow mp) fs x xs done None i v w)

  -- a colon does not end a key without one
  point_ends : (t : Token) (l : Bool) → t ≡ Point l → ends_key t ≡ true → ⊥
  point_ends t l e m = true≢false (sym m ∙ ap ends_key e)

  -- a key of a map, and its colon
  one_colon : (quoted : Bool) (e p q : ℕ) → IsColon text quoted e p → IsColon text quoted e q → p ≡ q
  one_colon quoted e p q (inl (a, b, c, d)) (inl (f, g, h, i)) = d ∙ sym i
  one_colon quoted e p q (inl (a, b, c, d)) (inr (t, i)) = absurd (point_ends (ahead text true e).token a b t)
  one_colon quoted e p q (inr (t, i)) (inl (a, b, c, d)) = absurd (point_ends (ahead text true e).token a b t)
  one_colon quoted e p q (inr (t, i)) (inr (u, j)) = i ∙ sym j

  -- a map's entry has this key, and its value is awaited at this place
  key_at : (m : Bool) (before : Forest) (i p : ℕ) (key : Option (List ℕ)) (t : List ℕ) (e r : ℕ) → m ≡ true → scalar_ahead text (as_key true) (ahead text true i) ≡ Stands t e
      → IsColon text (begins_quoted (drop (ahead text true i).at text)) e r → IsFlowHead text m true before i key p → (key ≡ Some t) × (p ≡ r)
  key_at false before i p key t e r m st col hd = absurd cc
  key_at true before i p key t e r m st col (k, e', t', h, st', hk, ek, col') =
      let here : Stands t' e' ≡ Stands t e = sym (subst (λ n. scalar_ahead text (as_key true) (ahead text true n) ≡ Stands t' e') h st') ∙ st in
      let same : t' ≡ t = cc in
      let ends : e' ≡ e = cc in
      (ek ∙ ap Some same, one_colon (begins_quoted (drop (ahead text true i).at text)) e p r (subst (λ n. IsColon text (begins_quoted (drop (ahead text true n).at text)) e p) h (subst (λ n. IsColon text (begins_quoted (drop (ahead text true k).at text)) n p) ends col')) col)

  new_key : (m : Bool) (before : Forest) (i p : ℕ) (key : Option (List ℕ)) (t : List ℕ) (e : ℕ) → m ≡ true → scalar_ahead text (as_key true) (ahead text true i) ≡ Stands t e
      → IsFlowHead text m true before i key p → has_key before t ≡ false
  new_key false before i p key t e m st hd = absurd cc
  new_key true before i p key t e m st (k, e', t', h, st', hk, ek, col') =
      let here : Stands t' e' ≡ Stands t e = sym (subst (λ n. scalar_ahead text (as_key true) (ahead text true n) ≡ Stands t' e') h st') ∙ st in
      let same : t' ≡ t = cc in
      subst (λ g. has_key before g ≡ false) same hk

  at_key : (m : Bool) (before : Forest) (i r : ℕ) (t : List ℕ) (e : ℕ) → m ≡ true → scalar_ahead text (as_key true) (ahead text true i) ≡ Stands t e → has_key before t ≡ false
      → IsColon text (begins_quoted (drop (ahead text true i).at text)) e r → IsFlowHead text m true before i (Some t) r
  at_key false before i r t e m st hk col = absurd cc
  at_key true before i r t e m st hk col = (i, e, t, refl, st, hk, refl, col)

  -- a key that stands before is the sign
  sign_key : (m : Bool) (before : Forest) (i : ℕ) (s : Sign) (t : List ℕ) (e : ℕ) → scalar_ahead text (as_key true) (ahead text true i) ≡ Stands t e → IsFlowSign text m true before i s
      → (has_key before t ≡ true) × (s ≡ DuplicateKey (ahead text true i).at)
  sign_key m before i s t e st (inl (h, k, c, inl (u, j, su, again, es))) =
      let here : Stands u j ≡ Stands t e = sym (subst (λ n. scalar_ahead text (as_key true) (ahead text true n) ≡ Stands u j) c su) ∙ st in
      let same : u ≡ t = cc in
      (subst (λ g. has_key before g ≡ true) same again, es ∙ ap (λ n. DuplicateKey (ahead text true n).at) c)
  sign_key m before i s t e st (inl (h, k, c, inr sg)) =
      absurd (no_scalar (ahead text true i) (signed_word false (ahead text true i).at (ahead text true i).token s (subst (λ n. node_sign false (ahead text true n).at (ahead text true n).token ≡ Some s) c sg)) (as_key true) t e st)
  sign_key m before i s t e st (inr (k, x, mk, es)) =
      absurd (no_scalar (ahead text true i) (marked_word (ahead text true i).token (ap (λ n. is_marked (ahead text true n).token) (sym (entered_place i k x)) ∙ mk)) (as_key true) t e st)

  pub enters_key : (mp : Bool) (fs : List Form) (x : Level) (xs : List Level) (done : Forest) (i : ℕ) (v : Reading) (t : List ℕ) (e r : ℕ) → mp ≡ true → ((ahead text true i).token ≡ Closes true → ⊥)
      → scalar_ahead text (as_key true) (ahead text true i) ≡ Stands t e → has_key done t ≡ false → IsColon text (begins_quoted (drop (ahead text true i).at text)) e r
      → Enters text (Flow mp ∷ fs) (x ∷ xs) done i v → Awaits text (Flow mp ∷ fs) (x ∷ xs) done (Some t) r v
  enters_key mp fs x xs done i v t e r m open_ st new col (Nil, z, inl (j, tl, h), en) = absurd (open_ ((entered_tail mp i j tl).0 ∙ ap Closes m))
  enters_key mp fs x xs done i v t e r m open_ st new col (Nil, z, inr (s, sg, h), en) = absurd (true≢false (sym (sign_key mp done i s t e st sg).0 ∙ new))
  enters_key mp fs x xs done i v t e r m open_ st new col (Node l kids rest, z, (key, p, q, hd, n, sp), en) =
      let h = key_at mp done i p key t e r m st col hd in entry_awaits (Flow mp) fs x xs done (Some t) r v (l, kids, rest, q, z, at_node (Spells text kids) (Flow mp) (suc (length xs)) key (Some t) l kids p r q h.0 h.1 n, sp, en)

  pub key_enters : (mp : Bool) (fs : List Form) (x : Level) (xs : List Level) (done : Forest) (i : ℕ) (v : Reading) (t : List ℕ) (e r : ℕ) → mp ≡ true
      → scalar_ahead text (as_key true) (ahead text true i) ≡ Stands t e → has_key done t ≡ false → IsColon text (begins_quoted (drop (ahead text true i).at text)) e r
      → Awaits text (Flow mp ∷ fs) (x ∷ xs) done (Some t) r v → Enters text (Flow mp ∷ fs) (x ∷ xs) done i v
  key_enters mp fs x xs done i v t e r m st hk col w = entry_enters (Flow mp) fs x xs done (Some t) i r v (at_key mp done i r t e m st hk col) (awaits_entry (Flow mp) fs x xs done (Some t) r v w)

  -- what is no key, or a key without what follows one, lets no entry stand; a key again is a sign
  key_missing : (m : Bool) (before : Forest) (i p : ℕ) (key : Option (List ℕ)) → m ≡ true → ((t : List ℕ) (e : ℕ) → scalar_ahead text (as_key true) (ahead text true i) ≡ Stands t e → ⊥) → IsFlowHead text m true before i key p → ⊥
  key_missing false before i p key m none hd = absurd cc
  key_missing true before i p key m none (k, e, t, h, st, hk, ek, col) = none t e (subst (λ n. scalar_ahead text (as_key true) (ahead text true n) ≡ Stands t e) h st)

  pub enters_no_key : (mp : Bool) (fs : List Form) (x : Level) (xs : List Level) (done : Forest) (i : ℕ) (v : Reading) → mp ≡ true → ((ahead text true i).token ≡ Closes true → ⊥)
      → node_sign false (ahead text true i).at (ahead text true i).token ≡ None → is_marked (ahead text true i).token ≡ false
      → ((t : List ℕ) (e : ℕ) → scalar_ahead text (as_key true) (ahead text true i) ≡ Stands t e → ⊥) → Enters text (Flow mp ∷ fs) (x ∷ xs) done i v → ⊥
  enters_no_key mp fs x xs done i v m open_ us un none (Nil, r, inl (j, t, e), en) = open_ ((entered_tail mp i j t).0 ∙ ap Closes m)
  enters_no_key mp fs x xs done i v m open_ us un none (Nil, r, inr (s, inl (h, k, c, inl (t, j, st, again, es)), e), en) = none t j (subst (λ n. scalar_ahead text (as_key true) (ahead text true n) ≡ Stands t j) c st)
  enters_no_key mp fs x xs done i v m open_ us un none (Nil, r, inr (s, inl (h, k, c, inr sg), e), en) = none_some _ s us (subst (λ n. node_sign false (ahead text true n).at (ahead text true n).token ≡ Some s) c sg)
  enters_no_key mp fs x xs done i v m open_ us un none (Nil, r, inr (s, inr (k, h, mk, es), e), en) = true≢false (sym (ap (λ n. is_marked (ahead text true n).token) (sym (entered_place i k h)) ∙ mk) ∙ un)
  enters_no_key mp fs x xs done i v m open_ us un none (Node l kids rest, r, (key, p, q, hd, n, sp), en) = key_missing mp done i p key m none hd

  -- another sign where a key would begin
  pub enters_signed : (mp : Bool) (fs : List Form) (x : Level) (xs : List Level) (done : Forest) (i : ℕ) (v : Reading) (s : Sign) → mp ≡ true → ((ahead text true i).token ≡ Closes true → ⊥) → is_marked (ahead text true i).token ≡ false
      → node_sign false (ahead text true i).at (ahead text true i).token ≡ Some s → Enters text (Flow mp ∷ fs) (x ∷ xs) done i v → v ≡ Refused s
  enters_signed mp fs x xs done i v s m open_ un sg w = by_tail w where
    none : (t : List ℕ) (e : ℕ) → scalar_ahead text (as_key true) (ahead text true i) ≡ Stands t e → ⊥
    none t e st = no_scalar (ahead text true i) (signed_word false (ahead text true i).at (ahead text true i).token s sg) (as_key true) t e st

    by_tail : Enters text (Flow mp ∷ fs) (x ∷ xs) done i v → v ≡ Refused s
    by_tail (Nil, r, inl (j, t, e), en) = absurd (open_ ((entered_tail mp i j t).0 ∙ ap Closes m))
    by_tail (Nil, r, inr (z, inl (h, k, c, inl (t, j, st, again, es)), e), en) = absurd (none t j (subst (λ n. scalar_ahead text (as_key true) (ahead text true n) ≡ Stands t j) c st))
    by_tail (Nil, r, inr (z, inl (h, k, c, inr sg'), e), en) =
        subst (λ n. Follows text fs xs (snoc x.before x.label (joined done Nil)) v n) e en ∙ ap Refused (same_sign _ s z sg (subst (λ n. node_sign false (ahead text true n).at (ahead text true n).token ≡ Some z) c sg'))
    by_tail (Nil, r, inr (z, inr (k, h, mk, es), e), en) = absurd (true≢false (sym (ap (λ n. is_marked (ahead text true n).token) (sym (entered_place i k h)) ∙ mk) ∙ un))
    by_tail (Node l kids rest, r, (key, p, q, hd, n, sp), en) = absurd (key_missing mp done i p key m none hd)

  pub signed_enters : (mp : Bool) (fs : List Form) (x : Level) (xs : List Level) (done : Forest) (i : ℕ) (s : Sign) → mp ≡ true
      → node_sign false (ahead text true i).at (ahead text true i).token ≡ Some s → Enters text (Flow mp ∷ fs) (x ∷ xs) done i (Refused s)
  signed_enters mp fs x xs done i s m sg = (Nil, Shows s, inr (s, inl (m, i, refl, inr sg), refl), refl)

  -- a mark where an entry or the closing bracket would stand
  marked_node : (f : Form) (holds : Contents) (d : ℕ) (key : Option (List ℕ)) (l : Label) (kids : Forest) (i : ℕ) (r : Reach) → may_miss f ≡ false → is_marked (ahead text true i).token ≡ true → IsFlowNode text f holds d key l kids i r → ⊥
  marked_node f holds d key l kids i r mm mk (inl (m, h)) = true≢false (sym m ∙ mm)
  marked_node f holds d key l kids i r mm mk (inr (inl (inr (p, st, er)))) = no_documents (ahead text true i) (marked_word (ahead text true i).token mk) (setting_of f) p st
  marked_node f holds d key l kids i r mm mk (inr (inl (inl (t, k, j, st, y, z)))) = no_scalar (ahead text true i) (marked_word (ahead text true i).token mk) (setting_of f) t j st
  marked_node f holds d key l kids i r mm mk (inr (inr (inl (n, o, y)))) = true≢false (sym mk ∙ ap is_marked o)
  marked_node f holds d key l kids i r mm mk (inr (inr (inr (inl (len, o, mt, y))))) = true≢false (sym mk ∙ ap is_marked o)
  marked_node f holds d key l kids i r mm mk (inr (inr (inr (inr (z, sg, er))))) = none_some _ z (marked_unsigned (is_tagged f) (ahead text true i).at (ahead text true i).token mk) sg

  marked_head : (mp : Bool) (before : Forest) (d i p : ℕ) (q : Reach) (key : Option (List ℕ)) (l : Label) (kids : Forest) → is_marked (ahead text true i).token ≡ true
      → IsFlowHead text mp true before i key p → IsFlowNode text (Flow mp) (Spells text kids) d key l kids p q → ⊥
  marked_head true before d i p q key l kids mk (k, e, t, h, st, hk, ek, col) n =
      no_scalar (ahead text true i) (marked_word (ahead text true i).token mk) (as_key true) t e (subst (λ m. scalar_ahead text (as_key true) (ahead text true m) ≡ Stands t e) h st)
  marked_head false before d i p q key l kids mk (k, h) n = marked_node (Flow false) (Spells text kids) d key l kids p q refl (ap (λ m. is_marked (ahead text true m).token) h ∙ mk) n

  pub enters_marked : (mp : Bool) (fs : List Form) (x : Level) (xs : List Level) (done : Forest) (i : ℕ) (v : Reading) → is_marked (ahead text true i).token ≡ true
      → Enters text (Flow mp ∷ fs) (x ∷ xs) done i v → v ≡ Refused (ManyDocuments (ahead text true i).at)
  enters_marked mp fs x xs done i v mk (Nil, r, inl (j, t, e), en) = absurd (true≢false (sym mk ∙ ap is_marked (entered_tail mp i j t).0))
  enters_marked mp fs x xs done i v mk (Nil, r, inr (z, inl (h, k, c, inl (t, j, st, again, es)), e), en) =
      absurd (no_scalar (ahead text true i) (marked_word (ahead text true i).token mk) (as_key true) t j (subst (λ n. scalar_ahead text (as_key true) (ahead text true n) ≡ Stands t j) c st))
  enters_marked mp fs x xs done i v mk (Nil, r, inr (z, inl (h, k, c, inr sg), e), en) =
      absurd (none_some _ z (marked_unsigned false (ahead text true i).at (ahead text true i).token mk) (subst (λ n. node_sign false (ahead text true n).at (ahead text true n).token ≡ Some z) c sg))
  enters_marked mp fs x xs done i v mk (Nil, r, inr (z, inr (k, h, mm, es), e), en) =
      subst (λ n. Follows text fs xs (snoc x.before x.label (joined done Nil)) v n) e en ∙ ap Refused (es ∙ ap (λ n. ManyDocuments (ahead text true n).at) (entered_place i k h))
  enters_marked mp fs x xs done i v mk (Node l kids rest, r, (key, p, q, hd, n, sp), en) = absurd (marked_head mp done (suc (length xs)) i p q key l kids mk hd n)

  pub marked_enters : (mp : Bool) (fs : List Form) (x : Level) (xs : List Level) (done : Forest) (i : ℕ) → is_marked (ahead text true i).token ≡ true
      → Enters text (Flow mp ∷ fs) (x ∷ xs) done i (Refused (ManyDocuments (ahead text true i).at))
  marked_enters mp fs x xs done i mk = let s : Sign = ManyDocuments (ahead text true i).at in (Nil, Shows s, inr (s, inr (i, inr refl, mk, refl), refl), refl)

  no_comma : (t : Token) → is_marked t ≡ true → t ≡ Comma → ⊥
  no_comma t mk c = true≢false (sym mk ∙ ap is_marked c)

  pub ends_marked : (mp : Bool) (fs : List Form) (x : Level) (xs : List Level) (done : Forest) (i : ℕ) (v : Reading) → is_marked (ahead text true i).token ≡ true
      → Ends text (Flow mp ∷ fs) (x ∷ xs) done i v → v ≡ Refused (ManyDocuments (ahead text true i).at)
  ends_marked mp fs x xs done i v mk (Nil, r, inl (j, (k, inl (c, e), t, b), h), en) = absurd (no_comma (ahead text true i).token mk c)
  ends_marked mp fs x xs done i v mk (Nil, r, inl (j, (k, inr e, t, b), h), en) = absurd (true≢false (sym (ap (λ n. is_marked (ahead text true n).token) e ∙ mk) ∙ ap is_marked t))
  ends_marked mp fs x xs done i v mk (Nil, r, inr (z, inl (m, k, (c, e), again), h), en) = absurd (no_comma (ahead text true i).token mk c)
  ends_marked mp fs x xs done i v mk (Nil, r, inr (z, inr (k, inl (c, e), mm, es), h), en) = absurd (no_comma (ahead text true i).token mk c)
  ends_marked mp fs x xs done i v mk (Nil, r, inr (z, inr (k, inr e, mm, es), h), en) =
      subst (λ n. Follows text fs xs (snoc x.before x.label (joined done Nil)) v n) h en ∙ ap Refused (es ∙ ap (λ n. ManyDocuments (ahead text true n).at) e)
  ends_marked mp fs x xs done i v mk (Node l kids rest, r, (key, p, q, hd, n, sp), en) = absurd (by_head mp hd) where
    by_head : (b : Bool) → IsFlowHead text b false done i key p → ⊥
    by_head false (k, c) = no_comma (ahead text true i).token mk c.0
    by_head true (k, e, t, c, st, hk, ek, col) = no_comma (ahead text true i).token mk c.0

  pub marked_ends : (mp : Bool) (fs : List Form) (x : Level) (xs : List Level) (done : Forest) (i : ℕ) → is_marked (ahead text true i).token ≡ true
      → Ends text (Flow mp ∷ fs) (x ∷ xs) done i (Refused (ManyDocuments (ahead text true i).at))
  marked_ends mp fs x xs done i mk = let s : Sign = ManyDocuments (ahead text true i).at in (Nil, Shows s, inr (s, inr (i, inr refl, mk, refl), refl), refl)

  pub enters_same_key : (mp : Bool) (fs : List Form) (x : Level) (xs : List Level) (done : Forest) (i : ℕ) (v : Reading) (t : List ℕ) (e : ℕ) → mp ≡ true → ((ahead text true i).token ≡ Closes true → ⊥)
      → scalar_ahead text (as_key true) (ahead text true i) ≡ Stands t e → has_key done t ≡ true → Enters text (Flow mp ∷ fs) (x ∷ xs) done i v → v ≡ Refused (DuplicateKey (ahead text true i).at)
  enters_same_key mp fs x xs done i v t e m open_ st again (Nil, r, inl (j, tl, h), en) = absurd (open_ ((entered_tail mp i j tl).0 ∙ ap Closes m))
  enters_same_key mp fs x xs done i v t e m open_ st again (Nil, r, inr (s, sg, h), en) = subst (λ z. Follows text fs xs (snoc x.before x.label (joined done Nil)) v z) h en ∙ ap Refused (sign_key mp done i s t e st sg).1
  enters_same_key mp fs x xs done i v t e m open_ st again (Node l kids rest, r, (key, p, q, hd, n, sp), en) = absurd (true≢false (sym again ∙ new_key mp done i p key t e m st hd))

  pub same_key_enters : (mp : Bool) (fs : List Form) (x : Level) (xs : List Level) (done : Forest) (i : ℕ) (t : List ℕ) (e : ℕ) → mp ≡ true
      → scalar_ahead text (as_key true) (ahead text true i) ≡ Stands t e → has_key done t ≡ true → Enters text (Flow mp ∷ fs) (x ∷ xs) done i (Refused (DuplicateKey (ahead text true i).at))
  same_key_enters mp fs x xs done i t e m st again =
      let s : Sign = DuplicateKey (ahead text true i).at in (Nil, Shows s, inr (s, inl (m, i, refl, inl (t, e, st, again, refl)), refl), refl)

  colon_of : (m : Bool) (before : Forest) (i p : ℕ) (key : Option (List ℕ)) (t : List ℕ) (e : ℕ) → m ≡ true → scalar_ahead text (as_key true) (ahead text true i) ≡ Stands t e
      → IsFlowHead text m true before i key p → IsColon text (begins_quoted (drop (ahead text true i).at text)) e p
  colon_of false before i p key t e m st hd = absurd cc
  colon_of true before i p key t e m st (k, e', t', h, st', hk, ek, col') =
      let here : Stands t' e' ≡ Stands t e = sym (subst (λ n. scalar_ahead text (as_key true) (ahead text true n) ≡ Stands t' e') h st') ∙ st in
      let ends : e' ≡ e = cc in
      subst (λ n. IsColon text (begins_quoted (drop (ahead text true n).at text)) e p) h (subst (λ n. IsColon text (begins_quoted (drop (ahead text true k).at text)) n p) ends col')

  pub enters_no_colon : (mp : Bool) (fs : List Form) (x : Level) (xs : List Level) (done : Forest) (i : ℕ) (v : Reading) (t : List ℕ) (e : ℕ) → mp ≡ true → ((ahead text true i).token ≡ Closes true → ⊥)
      → scalar_ahead text (as_key true) (ahead text true i) ≡ Stands t e → has_key done t ≡ false → ((p : ℕ) → IsColon text (begins_quoted (drop (ahead text true i).at text)) e p → ⊥) → Enters text (Flow mp ∷ fs) (x ∷ xs) done i v → ⊥
  enters_no_colon mp fs x xs done i v t e m open_ st new none (Nil, r, inl (j, tl, h), en) = open_ ((entered_tail mp i j tl).0 ∙ ap Closes m)
  enters_no_colon mp fs x xs done i v t e m open_ st new none (Nil, r, inr (s, sg, h), en) = true≢false (sym (sign_key mp done i s t e st sg).0 ∙ new)
  enters_no_colon mp fs x xs done i v t e m open_ st new none (Node l kids rest, r, (key, p, q, hd, n, sp), en) = none p (colon_of mp done i p key t e m st hd)

  -- ---- behind a tag

  -- its map holds one node
  tag_rest : (g : Forest) (p d : ℕ) (before : Forest) (i : ℕ) (r : Reach) → Spells text g (FlowTagged p) d false before i r → (g ≡ Nil) × (r ≡ To i)
  tag_rest Nil p d before i r (e, h) = (refl, h)
  tag_rest (Node l kids rest) p d before i r (key, q, z, (e, ek, ep), n, sp) = absurd (true≢false (sym e))

  pub ends_tag : (p : ℕ) (fs : List Form) (x : Level) (xs : List Level) (done : Forest) (i : ℕ) (v : Reading) → Ends text (FlowTagged p ∷ fs) (x ∷ xs) done i v → Ends text fs xs (snoc x.before x.label done) i v
  ends_tag p fs x xs done i v (g, r, sp, en) = let t = tag_rest g p (suc (length xs)) done i r sp in closes g fs x xs done i r v t.0 t.1 en

  pub tag_ends : (p : ℕ) (fs : List Form) (x : Level) (xs : List Level) (done : Forest) (i : ℕ) (v : Reading) → Ends text fs xs (snoc x.before x.label done) i v → Ends text (FlowTagged p ∷ fs) (x ∷ xs) done i v
  tag_ends p fs x xs done i v en = (Nil, To i, (refl, refl), subst (λ h. Ends text fs xs (snoc x.before x.label h) i v) (sym (joined-Nil done)) en)

  -- neither a comma nor a closing bracket is ahead, nor a mark
  abbrev pub NoEndings : Token → Type 0
  NoEndings t = is_flow_ending t ≡ false

  endings_each : (m : Bool) (t : Token) → NoEndings t → NoEnding m t
  endings_each m t n = ((λ c. true≢false (sym (ap is_flow_ending c) ∙ n)), (λ c. true≢false (sym (ap is_flow_ending c) ∙ n)), flow_unmarked t n)

  lies_flow : (p : ℕ) (f : Form) → LiesIn (FlowTagged p) f → IsFlow f
  lies_flow p Root l = absurd l
  lies_flow p (Flow m) l = tt
  lies_flow p (FlowTagged q) l = absurd l
  lies_flow p (Items m) l = absurd l
  lies_flow p (Entries m) l = absurd l
  lies_flow p (Tagged at above shares) l = absurd l

  -- what follows a node in flow begins with one of them
  pub ends_none : (fs : List Form) (outer : List Level) (done : Forest) (i : ℕ) (v : Reading) → IsFlow (top fs) → Nests fs → NoEndings (ahead text true i).token → Ends text fs outer done i v → ⊥
  ends_none [] outer done i v w ns none en = absurd w
  ends_none (f ∷ fs) [] done i v w ns none en = en
  ends_none (Root ∷ fs) (x ∷ xs) done i v w ns none en = absurd w
  ends_none (Flow m ∷ fs) (x ∷ xs) done i v w ns none en = ends_begin m fs x xs done i v (endings_each m (ahead text true i).token none) en
  ends_none (FlowTagged p ∷ fs) (x ∷ xs) done i v w (l, s, ns) none en = ends_none fs xs (snoc x.before x.label done) i v (lies_flow p (top fs) l) ns none (ends_tag p fs x xs done i v en)
  ends_none (Items m ∷ fs) (x ∷ xs) done i v w ns none en = absurd w
  ends_none (Entries m ∷ fs) (x ∷ xs) done i v w ns none en = absurd w
  ends_none (Tagged at above shares ∷ fs) (x ∷ xs) done i v w ns none en = absurd w

  pub may_untagged : (f : Form) → may_tag f ≡ true → is_tagged f ≡ false
  may_untagged Root e = refl
  may_untagged (Flow m) e = refl
  may_untagged (FlowTagged p) e = absurd (true≢false (sym e))
  may_untagged (Items m) e = refl
  may_untagged (Entries m) e = refl
  may_untagged (Tagged at above shares) e = absurd (true≢false (sym e))

  -- ---- where a node is awaited

  flow_node : (holds : Contents) (f : Form) (d : ℕ) (key : Option (List ℕ)) (l : Label) (kids : Forest) (i : ℕ) (r : Reach) → IsFlow f → IsNode text holds f d key l kids i r → IsFlowNode text f holds d key l kids i r
  flow_node holds Root d key l kids i r w n = absurd w
  flow_node holds (Flow m) d key l kids i r w n = n
  flow_node holds (FlowTagged p) d key l kids i r w n = n
  flow_node holds (Items m) d key l kids i r w n = absurd w
  flow_node holds (Entries m) d key l kids i r w n = absurd w
  flow_node holds (Tagged at above shares) d key l kids i r w n = absurd w

  node_flow : (holds : Contents) (f : Form) (d : ℕ) (key : Option (List ℕ)) (l : Label) (kids : Forest) (i : ℕ) (r : Reach) → IsFlow f → IsFlowNode text f holds d key l kids i r → IsNode text holds f d key l kids i r
  node_flow holds Root d key l kids i r w n = absurd w
  node_flow holds (Flow m) d key l kids i r w n = n
  node_flow holds (FlowTagged p) d key l kids i r w n = n
  node_flow holds (Items m) d key l kids i r w n = absurd w
  node_flow holds (Entries m) d key l kids i r w n = absurd w
  node_flow holds (Tagged at above shares) d key l kids i r w n = absurd w

  -- a bracket or a tag, and what it opens
  abbrev pub opened : Bool → Option (List ℕ) → ℕ → Forest → Level
  opened m key at done = record { label = collection m key at; before = done }

  -- the forms around, their levels, and what is read of the innermost
  module _ (fs : List Form) (outer : List Level) (f : Form) (top_is : top fs ≡ f) (flow : IsFlow f) (nests : Nests fs) (done : Forest) (key : Option (List ℕ)) (i : ℕ) (v : Reading) where
    -- what follows a node
    abbrev After : Label → Forest → Reach → Type 0
    After l kids r = Follows text fs outer (snoc done l kids) v r

    abbrev NodeHere : Type 0
    NodeHere = (l : Label) × (kids : Forest) × (r : Reach) × IsFlowNode text f (Spells text kids) (length outer) key l kids i r × After l kids r

    found_here : Awaits text fs outer done key i v → NodeHere
    found_here (l, kids, r, n, en) = (l, kids, r, flow_node (Spells text kids) f (length outer) key l kids i r flow (subst (λ g. IsNode text (Spells text kids) g (length outer) key l kids i r) top_is n), en)

    here_found : NodeHere → Awaits text fs outer done key i v
    here_found (l, kids, r, h, en) = (l, kids, r, subst (λ g. IsNode text (Spells text kids) g (length outer) key l kids i r) (sym top_is) (node_flow (Spells text kids) f (length outer) key l kids i r flow h), en)

    -- where a node may be missing, neither a comma nor a closing bracket is ahead
    abbrev pub Barred : Type 0
    Barred = may_miss f ≡ true → NoEndings (ahead text true i).token

    missed : (l : Label) (kids : Forest) (r : Reach) → NoEndings (ahead text true i).token → IsMissing key l kids i r → After l kids r → ⊥
    missed l kids r none (el, ek, er) en = ends_none fs outer (snoc done l kids) i v (subst IsFlow (sym top_is) flow) nests none (subst (λ n. After l kids n) er en)

    -- a scalar
    abbrev pub Told : List ℕ → Kind → ℕ → Type 0
    Told t k q = (l : Label) × (kids : Forest) × (r : Reach) × IsValue (is_cut (follows_get_att text f i) k t) (length outer) k t key (ahead text true i).at q l kids r × After l kids r

    -- with a kind
    pub awaits_kind : (t : List ℕ) (q : ℕ) → Barred → scalar_ahead text (setting_of f) (ahead text true i) ≡ Stands t q → Awaits text fs outer done key i v → (k : Kind) × HasKind (is_typed (setting_of f) text (ahead text true i).at) t k × Told t k q
    awaits_kind t q b st w = by_node (found_here w) where
      by_node : NodeHere → (k : Kind) × HasKind (is_typed (setting_of f) text (ahead text true i).at) t k × Told t k q
      by_node (l, kids, r, inl (m, h), en) = absurd (missed l kids r (b m) h en)
      by_node (l, kids, r, inr (inl (inr (p, st', er))), en) = absurd (let no : Documents p ≡ Stands t q = sym st' ∙ st in cc)
      by_node (l, kids, r, inr (inl (inl (t', k, j, st', hk, val))), en) =
          let here : Stands t' j ≡ Stands t q = sym st' ∙ st in
          let same : t' ≡ t = cc in
          let ends : j ≡ q = cc in
          let cuts : Bool = follows_get_att text f i in
          let at : ℕ = (ahead text true i).at in (
            k,
            subst (λ g. HasKind (is_typed (setting_of f) text (ahead text true i).at) g k) same hk,
            (l, kids, r, subst (λ g. IsValue (is_cut cuts k g) (length outer) k g key at q l kids r) same (subst (λ n. IsValue (is_cut cuts k t') (length outer) k t' key at n l kids r) ends val), en),
          )
      by_node (l, kids, r, inr (inr (inl (m, o, y))), en) = absurd (no_scalar (ahead text true i) (ap starts_scalar o) (setting_of f) t q st)
      by_node (l, kids, r, inr (inr (inr (inl (len, o, mt, y)))), en) = absurd (no_scalar (ahead text true i) (ap starts_scalar o) (setting_of f) t q st)
      by_node (l, kids, r, inr (inr (inr (inr (z, sg, er)))), en) = absurd (no_scalar (ahead text true i) (signed_word (is_tagged f) (ahead text true i).at (ahead text true i).token z sg) (setting_of f) t q st)

    pub awaits_scalar : (t : List ℕ) (k : Kind) (q : ℕ) → Barred → scalar_ahead text (setting_of f) (ahead text true i) ≡ Stands t q
        → ((k' : Kind) → HasKind (is_typed (setting_of f) text (ahead text true i).at) t k' → k' ≡ k) → Awaits text fs outer done key i v → Told t k q
    awaits_scalar t k q b st only w = let r = awaits_kind t q b st w in subst (λ g. Told t g q) (only r.0 r.1) r.2

    pub scalar_awaits : (t : List ℕ) (k : Kind) (q : ℕ) → scalar_ahead text (setting_of f) (ahead text true i) ≡ Stands t q → HasKind (is_typed (setting_of f) text (ahead text true i).at) t k → Told t k q → Awaits text fs outer done key i v
    scalar_awaits t k q st hk (l, kids, r, val, en) = here_found (l, kids, r, inr (inl (inl (t, k, q, st, hk, val))), en)

    -- a collection: there is room for it, or it is too deep
    abbrev pub Room : Type 0 → Type 0
    Room P = ((length outer < 128) × P) ⊎ ((length outer ≡ 128) × (v ≡ Refused (TooDeep (ahead text true i).at)))

    -- a bracket, and what it opens
    pub awaits_opens : (m : Bool) → (ahead text true i).token ≡ Opens m → Awaits text fs outer done key i v
        → Room (Enters text (Flow m ∷ fs) (opened m key (ahead text true i).at done ∷ outer) Nil (ahead text true i).behind v)
    awaits_opens m c w = by_node (found_here w) where
      none : NoEndings (ahead text true i).token
      none = ap is_flow_ending c

      by_node : NodeHere → Room (Enters text (Flow m ∷ fs) (opened m key (ahead text true i).at done ∷ outer) Nil (ahead text true i).behind v)
      by_node (l, kids, r, inl (mm, h), en) = absurd (missed l kids r none h en)
      by_node (l, kids, r, inr (inl (inl (t, k, j, st, y, z))), en) = absurd (no_scalar (ahead text true i) (ap starts_scalar c) (setting_of f) t j st)
      by_node (l, kids, r, inr (inl (inr (p, st, er))), en) = absurd (no_documents (ahead text true i) (ap starts_scalar c) (setting_of f) p st)
      by_node (l, kids, r, inr (inr (inl (n, o, inl (d, el, sp)))), en) =
          let here : Opens n ≡ Opens m = sym o ∙ c in
          let same : n ≡ m = cc in
          let label : l ≡ collection m key (ahead text true i).at = el ∙ ap (λ g. collection g key (ahead text true i).at) same in
          inl (d, (kids, r, subst (λ g. Spells text kids (Flow g) (suc (length outer)) true Nil (ahead text true i).behind r) same sp, subst (λ g. After g kids r) label en))
      by_node (l, kids, r, inr (inr (inl (n, o, inr (b, d, e)))), en) = inr (d, subst (λ z. After l kids z) e en)
      by_node (l, kids, r, inr (inr (inr (inl (len, o, mt, y)))), en) = absurd (let no : Tag len ≡ Opens m = sym o ∙ c in cc)
      by_node (l, kids, r, inr (inr (inr (inr (z, sg, er)))), en) = absurd (none_some _ z (ap (node_sign (is_tagged f) (ahead text true i).at) c) sg)

    pub opens_awaits : (m : Bool) → (ahead text true i).token ≡ Opens m → length outer < 128 → Enters text (Flow m ∷ fs) (opened m key (ahead text true i).at done ∷ outer) Nil (ahead text true i).behind v
        → Awaits text fs outer done key i v
    opens_awaits m c d (kids, r, sp, en) = here_found (collection m key (ahead text true i).at, kids, r, inr (inr (inl (m, c, inl (d, refl, sp)))), en)

    pub deep_opens : (m : Bool) → (ahead text true i).token ≡ Opens m → length outer ≡ 128 → v ≡ Refused (TooDeep (ahead text true i).at) → Awaits text fs outer done key i v
    deep_opens m c d e = here_found (collection m key (ahead text true i).at, Nil, Shows (TooDeep (ahead text true i).at), inr (inr (inl (m, c, inr (tt, d, refl)))), e)

    -- a tag, and where its node is awaited
    abbrev First : Option (List ℕ) → ℕ → Type 0
    First k p = Awaits text (FlowTagged (ahead text true i).at ∷ fs) (opened true key (ahead text true i).at done ∷ outer) Nil k p v

    pub awaits_tag : (len : ℕ) → (ahead text true i).token ≡ Tag len → is_tagged f ≡ false → Awaits text fs outer done key i v
        → Room (First (Some (tag_key (tag_name text (ahead text true i).at (ahead text true i).behind))) (ahead text true i).behind)
    awaits_tag len c ut w = by_node (found_here w) where
      Key : Option (List ℕ)
      Key = Some (tag_key (tag_name text (ahead text true i).at (ahead text true i).behind))

      none : NoEndings (ahead text true i).token
      none = ap is_flow_ending c

      by_first : (l : Label) (kids : Forest) (r : Reach) → l ≡ collection true key (ahead text true i).at → Spells text kids (FlowTagged (ahead text true i).at) (suc (length outer)) true Nil (ahead text true i).behind r → After l kids r
          → First Key (ahead text true i).behind
      by_first l Nil r el (e, h) en = absurd (true≢false e)
      by_first l (Node m ks rest) r el (k, p, q, (e, ek, ep), n, sp) en =
          entry_awaits (FlowTagged (ahead text true i).at) fs (opened true key (ahead text true i).at done) outer Nil Key (ahead text true i).behind v
          (m, ks, rest, q, r, at_node (Spells text ks) (FlowTagged (ahead text true i).at) (suc (length outer)) k Key m ks p (ahead text true i).behind q ek ep n, sp, subst (λ z. After z (Node m ks rest) r) el en)

      by_node : NodeHere → Room (First Key (ahead text true i).behind)
      by_node (l, kids, r, inl (mm, h), en) = absurd (missed l kids r none h en)
      by_node (l, kids, r, inr (inl (inl (t, k, j, st, y, z))), en) = absurd (no_scalar (ahead text true i) (ap starts_scalar c) (setting_of f) t j st)
      by_node (l, kids, r, inr (inl (inr (p, st, er))), en) = absurd (no_documents (ahead text true i) (ap starts_scalar c) (setting_of f) p st)
      by_node (l, kids, r, inr (inr (inl (n, o, y))), en) = absurd (let no : Opens n ≡ Tag len = sym o ∙ c in cc)
      by_node (l, kids, r, inr (inr (inr (inl (n, o, mt, inl (d, el, sp))))), en) = inl (d, by_first l kids r el sp en)
      by_node (l, kids, r, inr (inr (inr (inl (n, o, mt, inr (b, d, e))))), en) = inr (d, subst (λ z. After l kids z) e en)
      by_node (l, kids, r, inr (inr (inr (inr (z, sg, er)))), en) = absurd (none_some _ z (ap (node_sign (is_tagged f) (ahead text true i).at) c ∙ ap (λ b. node_sign b (ahead text true i).at (Tag len)) ut) sg)

    pub tag_awaits : (len : ℕ) → (ahead text true i).token ≡ Tag len → may_tag f ≡ true → length outer < 128
        → First (Some (tag_key (tag_name text (ahead text true i).at (ahead text true i).behind))) (ahead text true i).behind → Awaits text fs outer done key i v
    tag_awaits len c mt d w = by_entry (awaits_entry (FlowTagged (ahead text true i).at) fs (opened true key (ahead text true i).at done) outer Nil Key (ahead text true i).behind v w) where
      Key : Option (List ℕ)
      Key = Some (tag_key (tag_name text (ahead text true i).at (ahead text true i).behind))

      by_entry : Entry (FlowTagged (ahead text true i).at) fs (opened true key (ahead text true i).at done) outer Nil Key (ahead text true i).behind v → Awaits text fs outer done key i v
      by_entry (m, ks, rest, q, r, n, sp, en) =
          here_found (collection true key (ahead text true i).at, Node m ks rest, r, inr (inr (inr (inl (len, c, mt, inl (d, refl, (Key, (ahead text true i).behind, q, (refl, refl, refl), n, sp)))))), en)

    pub deep_tag : (len : ℕ) → (ahead text true i).token ≡ Tag len → may_tag f ≡ true → length outer ≡ 128 → v ≡ Refused (TooDeep (ahead text true i).at) → Awaits text fs outer done key i v
    deep_tag len c mt d e = here_found (collection true key (ahead text true i).at, Nil, Shows (TooDeep (ahead text true i).at), inr (inr (inr (inl (len, c, mt, inr (tt, d, refl))))), e)

    -- neither a bracket nor a tag
    abbrev pub NoOpening : Type 0
    NoOpening = ((m : Bool) → (ahead text true i).token ≡ Opens m → ⊥) × (may_tag f ≡ true → (len : ℕ) → (ahead text true i).token ≡ Tag len → ⊥)

    -- a missing node
    -- nor a sign
    abbrev pub Unsigned : Type 0
    Unsigned = node_sign (is_tagged f) (ahead text true i).at (ahead text true i).token ≡ None

    pub awaits_missing : NoOpening → Unsigned → starts_scalar (ahead text true i).token ≡ false → Awaits text fs outer done key i v → After (leaf kind.Null [] key i) Nil (To i)
    awaits_missing shut us none w = by_node (found_here w) where
      by_node : NodeHere → After (leaf kind.Null [] key i) Nil (To i)
      by_node (l, kids, r, inl (mm, (el, ek, er)), en) = subst (λ g. After g Nil (To i)) el (subst (λ g. After l g (To i)) ek (subst (λ n. After l kids n) er en))
      by_node (l, kids, r, inr (inl (inl (t, k, j, st, y, z))), en) = absurd (no_scalar (ahead text true i) none (setting_of f) t j st)
      by_node (l, kids, r, inr (inl (inr (p, st, er))), en) = absurd (no_documents (ahead text true i) none (setting_of f) p st)
      by_node (l, kids, r, inr (inr (inl (n, o, y))), en) = absurd (shut.0 n o)
      by_node (l, kids, r, inr (inr (inr (inl (n, o, mt, y)))), en) = absurd (shut.1 mt n o)
      by_node (l, kids, r, inr (inr (inr (inr (z, sg, er)))), en) = absurd (none_some _ z us sg)

    pub missing_awaits : may_miss f ≡ true → After (leaf kind.Null [] key i) Nil (To i) → Awaits text fs outer done key i v
    missing_awaits m en = here_found (leaf kind.Null [] key i, Nil, To i, inl (m, (refl, refl, refl)), en)

    -- no node
    pub awaits_none : Barred → NoOpening → Unsigned → Failed text (setting_of f) (ahead text true i) → Awaits text fs outer done key i v → ⊥
    awaits_none b shut us none w = by_node (found_here w) where
      by_node : NodeHere → ⊥
      by_node (l, kids, r, inl (mm, h), en) = missed l kids r (b mm) h en
      by_node (l, kids, r, inr (inl (inl (t, k, j, st, y, z))), en) = none.0 t j st
      by_node (l, kids, r, inr (inl (inr (p, st, er))), en) = none.1 p st
      by_node (l, kids, r, inr (inr (inl (n, o, y))), en) = shut.0 n o
      by_node (l, kids, r, inr (inr (inr (inl (n, o, mt, y)))), en) = shut.1 mt n o
      by_node (l, kids, r, inr (inr (inr (inr (z, sg, er)))), en) = none_some _ z us sg

    -- a sign
    signed_tag : (s : Sign) (len : ℕ) → may_tag f ≡ true → (ahead text true i).token ≡ Tag len → node_sign (is_tagged f) (ahead text true i).at (ahead text true i).token ≡ Some s → ⊥
    signed_tag s len mt o sg = none_some _ s (ap (node_sign (is_tagged f) (ahead text true i).at) o ∙ ap (λ b. node_sign b (ahead text true i).at (Tag len)) (may_untagged f mt)) sg

    pub awaits_signed : (s : Sign) → node_sign (is_tagged f) (ahead text true i).at (ahead text true i).token ≡ Some s → Awaits text fs outer done key i v → v ≡ Refused s
    awaits_signed s sg w = by_node (found_here w) where
      by_node : NodeHere → v ≡ Refused s
      by_node (l, kids, r, inl (mm, h), en) = absurd (missed l kids r (signed_endings (is_tagged f) (ahead text true i).at (ahead text true i).token s sg) h en)
      by_node (l, kids, r, inr (inl (inl (t, k, j, st, y, z))), en) = absurd (no_scalar (ahead text true i) (signed_word (is_tagged f) (ahead text true i).at (ahead text true i).token s sg) (setting_of f) t j st)
      by_node (l, kids, r, inr (inl (inr (p, st, er))), en) = absurd (no_documents (ahead text true i) (signed_word (is_tagged f) (ahead text true i).at (ahead text true i).token s sg) (setting_of f) p st)
      by_node (l, kids, r, inr (inr (inl (n, o, y))), en) = absurd (none_some _ s (ap (node_sign (is_tagged f) (ahead text true i).at) o) sg)
      by_node (l, kids, r, inr (inr (inr (inl (n, o, mt, y)))), en) = absurd (signed_tag s n mt o sg)
      by_node (l, kids, r, inr (inr (inr (inr (z, h, er)))), en) = subst (λ n. After l kids n) er en ∙ ap Refused (same_sign _ s z sg h)

    -- another document in quotes
    pub awaits_documents : (p : ℕ) → Barred → scalar_ahead text (setting_of f) (ahead text true i) ≡ Documents p → Awaits text fs outer done key i v → v ≡ Refused (ManyDocuments p)
    awaits_documents p b d w = by_node (found_here w) where
      word : starts_scalar (ahead text true i).token ≡ false → ⊥
      word e = no_documents (ahead text true i) e (setting_of f) p d

      by_node : NodeHere → v ≡ Refused (ManyDocuments p)
      by_node (l, kids, r, inl (mm, h), en) = absurd (missed l kids r (b mm) h en)
      by_node (l, kids, r, inr (inl (inl (t, k, j, st, y, z))), en) = absurd (let no : Documents p ≡ Stands t j = sym d ∙ st in cc)
      by_node (l, kids, r, inr (inl (inr (q, d', er))), en) =
          let here : Documents q ≡ Documents p = sym d' ∙ d in
          let same : q ≡ p = cc in
          subst (λ n. After l kids n) er en ∙ ap (λ n. Refused (ManyDocuments n)) same
      by_node (l, kids, r, inr (inr (inl (n, o, y))), en) = absurd (word (ap starts_scalar o))
      by_node (l, kids, r, inr (inr (inr (inl (n, o, mt, y)))), en) = absurd (word (ap starts_scalar o))
      by_node (l, kids, r, inr (inr (inr (inr (z, sg, er)))), en) = absurd (word (signed_word (is_tagged f) (ahead text true i).at (ahead text true i).token z sg))

    pub documents_awaits : (p : ℕ) → scalar_ahead text (setting_of f) (ahead text true i) ≡ Documents p → v ≡ Refused (ManyDocuments p) → Awaits text fs outer done key i v
    documents_awaits p d e = here_found (leaf kind.Null [] key i, Nil, Shows (ManyDocuments p), inr (inl (inr (p, d, refl))), e)

    pub signed_awaits : (s : Sign) → node_sign (is_tagged f) (ahead text true i).at (ahead text true i).token ≡ Some s → v ≡ Refused s → Awaits text fs outer done key i v
    signed_awaits s sg e = here_found (leaf kind.Null [] key i, Nil, Shows s, inr (inr (inr (inr (s, sg, refl)))), e)
