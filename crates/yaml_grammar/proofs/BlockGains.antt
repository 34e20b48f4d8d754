-- What each part of the reader gives outside of flow, from what may still follow before it and behind it.
use Rattle.std.proofs.Common.{◌≡◌, ℕ, suc, ◌<◌, ◌≤◌, ◌+◌, ◌*◌, ◌⊎◌, inl, inr, Bool, true, false, ◌||◌, ◌&&◌, not, List, [], ◌∷◌, Option, Some, None, length, refl, sym, ap, ◌∙◌, subst, true≢false, cond, nat_eq, nat_lt, nat_le, arith}
use Rattle.std.proofs.lemmas.Bool.{ltb-true, lt-ltb, cases_lt}
use Rattle.std.proofs.lemmas.Bool.Decides.{nat_tests}
use Rattle.std.specs.Prelude.{Result, Ok, Err, option_map, MatchOption}
use Rattle.std.specs.Str.{IsCharBoundary}
use Rattle.yaml_scalars.specs.code.Limits.{text_limit}
use Rattle.doc_values.specs.declared.builder.BuildRefusal.{BuildRefusal}
use Rattle.doc_values.specs.declared.builder.BuildRefusal.TheVariants as build
use Rattle.doc_values.specs.declared.kind.Kind.{Kind}
use Rattle.doc_values.specs.declared.kind.Kind.TheVariants as kind
use Rattle.doc_values.specs.Tree.{Forest, Nil, has_key}
use Rattle.doc_values.specs.Unfinished.{Level, Unfinished, with_value, with_open, with_key, with_end, open_kind, MayEnd}
use Rattle.yaml_scalars.specs.declared.scalar.Setting.{Setting}
use Rattle.yaml_scalars.specs.Lines.{Stands as Spans, Documents as Divided}
use Rattle.yaml_scalars.specs.Scalar.{is_typed}
use Rattle.yaml_scalars.proofs.OneKind.{same_kind}
use Rattle.yaml_grammar.specs.declared.ahead.Ahead.{Ahead}
use Rattle.yaml_grammar.specs.declared.ahead.Token.{Token}
use Rattle.yaml_grammar.specs.declared.ahead.Token.TheVariants.{End, Dashes, Dots, Dash, Tag, NoTag, Opens, Closes, Comma, Point, Anchor, Percent, Tabbed, Stray, Other}
use Rattle.yaml_grammar.specs.declared.form.Form.{Form}
use Rattle.yaml_grammar.specs.declared.key.Key.{Key}
use Rattle.yaml_grammar.specs.declared.form.Form.TheVariants.{Root, Flow, FlowTagged, Items, Entries, Tagged}
use Rattle.yaml_grammar.specs.declared.stage.Stage.TheVariants as stage
use Rattle.yaml_grammar.specs.declared.stage.Position.{Position}
use Rattle.yaml_grammar.specs.declared.stop.Stop.{Stop}
use Rattle.yaml_grammar.specs.declared.stop.Stop.TheVariants as refusal
use Rattle.yaml_grammar.specs.Ahead.{ahead, token_len}
use Rattle.yaml_grammar.specs.Nodes.{as_key, tag_name, tag_key, follows_get_att, is_cut, setting_of, starts_scalar, scalar_ahead, node_sign, is_tagged}
use Rattle.yaml_grammar.specs.Blocks.{block_sign, takes_scalar, takes_mapping, takes_sequence, takes_tag, tagged, column_in, last_place, ends_name, IsBare, IsKey}
use Rattle.yaml_grammar.specs.Signs as sign
use Rattle.yaml_grammar.specs.Signs.{Sign, ManyDocuments, DuplicateKey, TooDeep, Reading, Tree, Refused}
use Rattle.yaml_grammar.specs.code.Refused.{of_build, of_sign}
use Rattle.yaml_grammar.specs.Yaml.{IsEnd, end_sign}
use Rattle.yaml_grammar.specs.code.Rest.{top, Over, Inside, Ends, Enters, Awaits}
use Rattle.yaml_grammar.specs.code.Steps.{IsPlaced, IsSeen, Agrees, Nests, LiesIn, IsSmall, IsBlock, IsBehind, IsSpelled, IsCalm, Open, Fits, Goes, Broke, Gives, Deep, NoKey, EndsKey, NoNode, Ended, HasKey, Missed, Finds, FindsKey, with_scalar, Holds, TagBegun, Opened, Completes, ends_before, is_dash, is_ending, Awaited, Found}
use Rattle.yaml_grammar.proofs.Forms.{apart_items, apart_entries, apart_tagged, map_kind, inside, awaits_item, awaits_value}
use Rattle.yaml_grammar.proofs.Gains.{parts, goes, memory_gives, told, untold, sign_gives, IsRoomFor, roomy, deep_gives, value_ends, ends_value, value_deep, deep_value, value_fits}
use Rattle.yaml_grammar.proofs.LastValues.{last_done, value_last, missing_calm}
use Rattle.yaml_grammar.proofs.NameEnds.{tag_named, dash_unnamed, colon_unnamed}
use Rattle.yaml_grammar.proofs.Scalars.{key_single}
use Rattle.yaml_grammar.proofs.Rests.{opened}
use Rattle.yaml_grammar.proofs.Quiet.{AreQuiet, ending_word, ending_unsigned, signed_inside, word_inside, end_ending, inside_at, sign_ending, end_only, ends_over, over_ends, no_word_at, no_key_at, line_quiet, IsQuiet, quiet_none, node_quiet, sequence_quiet, mapping_takes, tag_takes, shared, deep_quiet, entry_quiet, item_quiet, ended_quiet, ends_pop, pop_ends}
use Rattle.yaml_grammar.proofs.BlockRests.{awaits_sequence, sequence_awaits, deep_sequence, awaits_mapping, mapping_awaits, deep_mapping, awaits_tag, tag_awaits, deep_tag, awaits_brackets, brackets_awaits, deep_brackets, awaits_scalar, scalar_awaits, awaits_no_scalar, awaits_missing, missing_awaits, root_missing, ends_item, item_ends, ends_entry, key_ends, ends_again, again_ends, ends_no_colon, ends_tag_again, tag_again_ends, ends_no_entry, block_signed, awaits_documents, documents_awaits, awaits_signed, signed_awaits, ends_signed, signed_ends}

-- ---- columns

either_true : (q r : Bool) → (not q || r) ≡ true → q ≡ true → r ≡ true
either_true true r h e = h
either_true false r h e = absurd (true≢false (sym e))

both_true : (q r : Bool) → (q && r) ≡ true → (q ≡ true) × (r ≡ true)
both_true true true h = (refl, refl)
both_true true false h = absurd (cc)
both_true false r h = absurd (cc)

le_of : (m n : ℕ) → nat_le m n ≡ true → m ≤ n
le_of m n h = grind (arith, nat_tests)

-- how a block lies in what it stands in, and where its column is
abbrev Stood : Form → ℕ → ℕ → Form → Type 0
Stood f c at g = LiesIn g f × (c ≤ at)

columns : (q : Bool) (m i c at : ℕ) → m < i → (q ≡ true → m < c) → (q ≡ true → c ≤ at) → (q ≡ false → at ≡ i + c) → (m < cond q c (m + 1 + c)) × (cond q c (m + 1 + c) ≤ at)
columns true m i c at l h k e = (h refl, k refl)
columns false m i c at l h k e = (omega arith, let z = e refl in omega (arith, l, z))

stood_tag : (at ab : ℕ) (sh : Bool) (i : ℕ) (a : Ahead) → (a.fresh ≡ true → a.column ≤ a.at) × (a.fresh ≡ false → a.at ≡ i + a.column) → (text : List ℕ) → takes_sequence (Tagged at ab sh) a ≡ true → Stood (Tagged at ab sh) a.column a.at (Items a.column)
stood_tag at ab sh i a p text h = let w = shared text a.fresh ab a.column sh h in ((w.1, w.2), p.0 w.0)

pub sequence_stood : (f : Form) (i : ℕ) (a : Ahead) → IsBlock f → IsBehind f i → (a.fresh ≡ true → a.column ≤ a.at) × (a.fresh ≡ false → a.at ≡ i + a.column) → takes_sequence f a ≡ true → Stood f (column_in f a) a.at (Items (column_in f a))
sequence_stood Root i a b l p h = (tt, p.0 h)
sequence_stood (Flow m) i a b l p h = absurd b
sequence_stood (FlowTagged m) i a b l p h = absurd b
sequence_stood (Items m) i a b l p h = columns a.fresh m i a.column a.at l (λ e. ltb-true m a.column (either_true a.fresh (nat_lt m a.column) h e)) p.0 p.1
sequence_stood (Tagged at ab sh) i a b l p h = stood_tag at ab sh i a p [] h
sequence_stood (Entries m) i a b l p h = let w = both_true a.fresh (nat_le m a.column) h in (le_of m a.column w.1, p.0 w.0)

pub mapping_stood : (f : Form) (i : ℕ) (a : Ahead) → IsBlock f → IsBehind f i → (a.fresh ≡ true → a.column ≤ a.at) × (a.fresh ≡ false → a.at ≡ i + a.column) → takes_mapping f a ≡ true → Stood f (column_in f a) a.at (Entries (column_in f a))
mapping_stood Root i a b l p h = (tt, p.0 h)
mapping_stood (Flow m) i a b l p h = absurd b
mapping_stood (FlowTagged m) i a b l p h = absurd b
mapping_stood (Items m) i a b l p h = columns a.fresh m i a.column a.at l (λ e. ltb-true m a.column (either_true a.fresh (nat_lt m a.column) h e)) p.0 p.1
mapping_stood (Tagged at ab sh) i a b l p h = let w = both_true a.fresh (nat_le ab a.column) h in (le_of ab a.column w.1, p.0 w.0)
mapping_stood (Entries m) i a b l p h = let w = both_true a.fresh (nat_lt m a.column) h in (ltb-true m a.column w.1, p.0 w.0)

pub column_within : (i : ℕ) (a : Ahead) → (a.fresh ≡ true → a.column ≤ a.at) × (a.fresh ≡ false → a.at ≡ i + a.column) → a.column ≤ a.at
column_within i a p = by_line a.fresh refl where
  by_line : (q : Bool) → a.fresh ≡ q → a.column ≤ a.at
  by_line true e = p.0 e
  by_line false e = let z = p.1 e in omega (arith, z)

-- ---- where a node is awaited

-- the document does not end at such a token
end_token : (text : List ℕ) (i : ℕ) (t : Token) → (ahead text false i).token ≡ t → is_ending t ≡ false → Inside text i
end_token text i t e n = inside_at text i (ap is_ending e ∙ n)

pub start_token : (text : List ℕ) (i : ℕ) → starts_scalar (ahead text false i).token ≡ true → Inside text i
start_token text i s = inside_at text i (word_inside (ahead text false i).token s)

-- a node begins at a token, and is awaited at its place
abbrev pub Awaiting : List ℕ → List Form → Unfinished → ℕ → Reading → Type 0
Awaiting text fs u at v = Awaits text fs u.outer u.done u.key at v

abbrev pub Spot : List ℕ → List Form → Unfinished → Form → ℕ → Ahead → Type 0
Spot text fs u f at a = (a.at ≤ text_limit) × IsPlaced text at a × (top fs ≡ f) × IsBlock f × Open fs u × IsBehind f at × IsSpelled text f at

pub spot : (text : List ℕ) (fs : List Form) (u : Unfinished) (f : Form) (at : ℕ) (a : Ahead) → a.at ≤ text_limit → IsSeen text false at a → top fs ≡ f → IsBlock f → Fits text stage.Value fs u at → Spot text fs u f at a
spot text fs u f at a s (e, p) t b (o, n, w, l, k) = (s, p, t, b, o, subst (λ g. IsBehind g at) t l, subst (λ g. IsSpelled text g at) t k)

pub spot_of : (text : List ℕ) (fs : List Form) (u : Unfinished) (f : Form) (at : ℕ) (a : Ahead) → Awaited text fs u f at a → Spot text fs u f at a
spot_of text fs u f at a w = spot text fs u f at a w.small w.seen w.form w.block w.fits

-- where another collection begins, and its first node is awaited
abbrev pub First : List ℕ → List Form → Unfinished → ℕ → Form → Bool → Option (List ℕ) → ℕ → Reading → Type 0
First text fs u at g map k p v = Awaits text (g ∷ fs) (opened text map u.key (ahead text false at).at u.done ∷ u.outer) Nil k p v

-- ---- a sequence

module _ (text : List ℕ) (fs : List Form) (u : Unfinished) (f : Form) (at : ℕ) (sp : Spot text fs u f at (ahead text false at)) (t : (ahead text false at).token ≡ Dash) (tk : takes_sequence f (ahead text false at) ≡ true) where
  barred_dash : AreQuiet text (ahead text false at) fs × Inside text at
  barred_dash = (sequence_quiet text (ahead text false at) f fs sp.2 sp.4.1 t tk, end_token text at Dash t refl)

  abbrev FirstItem : Reading → Type 0
  FirstItem v = First text fs u at (Items (column_in f (ahead text false at))) false None (ahead text false at).behind v

  room_sequence : (v : Reading) → Awaiting text fs u at v → IsRoomFor (length u.outer) (FirstItem v) (v ≡ Refused (TooDeep (ahead text false at).at))
  room_sequence v h = awaits_sequence text fs u.outer f sp.2 sp.3 u.done u.key at v barred_dash t h

  refused_sequence : (gs : List Form) (w : Unfinished) (e : Stop) → Deep u (ahead text false at).at e → Gives text (Awaiting text fs u at) (2 * at + 1) gs w (Err e)
  refused_sequence gs w e h =
      deep_gives text (Awaiting text fs u at) (2 * at + 1) gs u w (ahead text false at).at e FirstItem room_sequence
      (λ d. deep_sequence text fs u.outer f sp.2 sp.3 u.done u.key at (Refused (TooDeep (ahead text false at).at)) t tk d refl) h

  goes_sequence : (gs : List Form) (w : Unfinished) (p : Position) → gs ≡ Items (column_in f (ahead text false at)) ∷ fs → w ≡ with_open kind.List (ahead text false at).at u → length u.outer < 128
      → p.stage ≡ stage.Value → p.at ≡ (ahead text false at).behind → Goes text (Awaiting text fs u at) (2 * at + 1) gs w p
  goes_sequence gs w p eg ew d es ej =
      let st = sequence_stood f at (ahead text false at) sp.3 sp.5 sp.1.4 tk in
      let one : token_len (ahead text false at).token ≡ 1 = ap token_len t in
      goes text (Awaiting text fs u at) (2 * at + 1) gs (Items (column_in f (ahead text false at)) ∷ fs) w (with_open kind.List (ahead text false at).at u) p stage.Value (ahead text false at).behind es ej eg ew
      (λ v. ((λ h. roomy (length u.outer) (FirstItem v) (v ≡ Refused (TooDeep (ahead text false at).at)) d (room_sequence v h)), (λ h. sequence_awaits text fs u.outer f sp.2 sp.3 u.done u.key at v t tk d h)))
      (((refl, sp.4.0), (subst (λ g. LiesIn (Items (column_in f (ahead text false at))) g) (sym sp.2) st.0, omega (arith, st.1, sp.0), sp.4.1)), apart_items _, refl, omega (arith, st.1, sp.1.3, one), dash_unnamed text false at t)
      sp.1.2 (omega (arith, sp.1.0, sp.1.3, one))

pub sequence_goes : (text : List ℕ) (fs gs : List Form) (u w : Unfinished) (f : Form) (at : ℕ) (next : Ahead) (p : Position) → next ≡ ahead text false at → Spot text fs u f at next → next.token ≡ Dash → takes_sequence f next ≡ true
    → gs ≡ Items (column_in f next) ∷ fs → w ≡ with_open kind.List next.at u → length u.outer < 128 → p.stage ≡ stage.Value → p.at ≡ next.behind → Goes text (Awaiting text fs u at) (2 * at + 1) gs w p
sequence_goes text fs gs u w f at next p e sp t tk eg ew d es ej =
    subst (λ a. Spot text fs u f at a → a.token ≡ Dash → takes_sequence f a ≡ true → gs ≡ Items (column_in f a) ∷ fs → w ≡ with_open kind.List a.at u → p.at ≡ a.behind → Goes text (Awaiting text fs u at) (2 * at + 1) gs w p) (sym e)
    (λ s x k g h j. goes_sequence text fs u f at s x k gs w p g h d es j) sp t tk eg ew ej

pub sequence_refused : (text : List ℕ) (fs gs : List Form) (u w : Unfinished) (f : Form) (at : ℕ) (next : Ahead) (e : Stop) → next ≡ ahead text false at → Spot text fs u f at next → next.token ≡ Dash → takes_sequence f next ≡ true
    → Deep u next.at e → Gives text (Awaiting text fs u at) (2 * at + 1) gs w (Err e)
sequence_refused text fs gs u w f at next e h sp t tk b =
    subst (λ a. Spot text fs u f at a → a.token ≡ Dash → takes_sequence f a ≡ true → Deep u a.at e → Gives text (Awaiting text fs u at) (2 * at + 1) gs w (Err e)) (sym h) (λ s x k d. refused_sequence text fs u f at s x k gs w e d) sp t tk b

-- ---- a mapping

module _ (text : List ℕ) (fs : List Form) (u : Unfinished) (f : Form) (at : ℕ) (sp : Spot text fs u f at (ahead text false at)) (t : List ℕ) (q : ℕ) (k : IsKey text (ahead text false at) t q) (tk : takes_mapping f (ahead text false at) ≡ true) where
  starts_key : starts_scalar (ahead text false at).token ≡ true
  starts_key = by_start (starts_scalar (ahead text false at).token) refl where
    by_start : (b : Bool) → starts_scalar (ahead text false at).token ≡ b → starts_scalar (ahead text false at).token ≡ true
    by_start true e = e
    by_start false e = absurd (no_key_at text (ahead text false at) e t q k)

  barred_key : AreQuiet text (ahead text false at) fs × Inside text at
  barred_key = (node_quiet text (ahead text false at) f fs sp.2 sp.4.1 (mapping_takes text f (ahead text false at) tk), start_token text at starts_key)

  stale_key : (e : ℕ) → (ahead text false e).fresh ≡ false → AreQuiet text (ahead text false e) fs
  stale_key e h = line_quiet text (ahead text false e) fs sp.4.1 (subst IsBlock (sym sp.2) sp.3) h

  abbrev FirstEntry : Reading → Type 0
  FirstEntry v = First text fs u at (Entries (column_in f (ahead text false at))) true (Some t) q v

  room_mapping : (v : Reading) → Awaiting text fs u at v → IsRoomFor (length u.outer) (FirstEntry v) (v ≡ Refused (TooDeep (ahead text false at).at))
  room_mapping v h = awaits_mapping text fs u.outer f sp.2 sp.3 u.done u.key at v t q barred_key k stale_key h

  refused_mapping : (gs : List Form) (w : Unfinished) (e : Stop) → Deep u (ahead text false at).at e → Gives text (Awaiting text fs u at) (2 * at + 1) gs w (Err e)
  refused_mapping gs w e h =
      deep_gives text (Awaiting text fs u at) (2 * at + 1) gs u w (ahead text false at).at e FirstEntry room_mapping
      (λ d. deep_mapping text fs u.outer f sp.2 sp.3 u.done u.key at (Refused (TooDeep (ahead text false at).at)) t q k tk d refl) h

  goes_mapping : (gs : List Form) (w : Unfinished) (p : Position) → at < q → IsCharBoundary text q → gs ≡ Entries (column_in f (ahead text false at)) ∷ fs → w ≡ with_key t (with_open kind.Map (ahead text false at).at u) → length u.outer < 128
      → p.stage ≡ stage.Value → p.at ≡ q → Goes text (Awaiting text fs u at) (2 * at + 1) gs w p
  goes_mapping gs w p far b eg ew d es ej =
      let st = mapping_stood f at (ahead text false at) sp.3 sp.5 sp.1.4 tk in
      goes text (Awaiting text fs u at) (2 * at + 1) gs (Entries (column_in f (ahead text false at)) ∷ fs) w (with_key t (with_open kind.Map (ahead text false at).at u)) p stage.Value q es ej eg ew
      (λ v. ((λ h. roomy (length u.outer) (FirstEntry v) (v ≡ Refused (TooDeep (ahead text false at).at)) d (room_mapping v h)), (λ h. mapping_awaits text fs u.outer f sp.2 sp.3 u.done u.key at v t q k tk d h)))
      (((refl, sp.4.0), (subst (λ g. LiesIn (Entries (column_in f (ahead text false at))) g) (sym sp.2) st.0, omega (arith, st.1, sp.0), sp.4.1)), (λ e. absurd (cc)), (t, refl), tt, ap (ends_name text) k.4 ∙ colon_unnamed text false k.0 true k.3)
      b (omega (arith, far))

pub mapping_goes : (text : List ℕ) (fs gs : List Form) (u w : Unfinished) (f : Form) (at q : ℕ) (next : Ahead) (t : List ℕ) (p : Position) → next ≡ ahead text false at → Spot text fs u f at next → IsKey text next t q → takes_mapping f next ≡ true
    → next.at < q → IsCharBoundary text q → gs ≡ Entries (column_in f next) ∷ fs → w ≡ with_key t (with_open kind.Map next.at u) → length u.outer < 128 → p.stage ≡ stage.Value → p.at ≡ q → Goes text (Awaiting text fs u at) (2 * at + 1) gs w p
mapping_goes text fs gs u w f at q next t p e sp k tk far b eg ew d es ej =
    subst (λ a. Spot text fs u f at a → IsKey text a t q → takes_mapping f a ≡ true → a.at < q → gs ≡ Entries (column_in f a) ∷ fs → w ≡ with_key t (with_open kind.Map a.at u) → Goes text (Awaiting text fs u at) (2 * at + 1) gs w p) (sym e)
    (λ s x y l g h. goes_mapping text fs u f at s t q x y gs w p (omega (arith, s.1.0, l)) b g h d es ej) sp k tk far eg ew

pub mapping_refused : (text : List ℕ) (fs gs : List Form) (u w : Unfinished) (f : Form) (at q : ℕ) (next : Ahead) (t : List ℕ) (e : Stop) → next ≡ ahead text false at → Spot text fs u f at next → IsKey text next t q → takes_mapping f next ≡ true
    → Deep u next.at e → Gives text (Awaiting text fs u at) (2 * at + 1) gs w (Err e)
mapping_refused text fs gs u w f at q next t e h sp k tk b =
    subst (λ a. Spot text fs u f at a → IsKey text a t q → takes_mapping f a ≡ true → Deep u a.at e → Gives text (Awaiting text fs u at) (2 * at + 1) gs w (Err e)) (sym h) (λ s x y d. refused_mapping text fs u f at s t q x y gs w e d) sp k tk b

-- ---- a tag

-- how what stands behind a tag lies in what the tag stands in
tag_lies : (f : Form) (a : Ahead) → IsBlock f → IsSmall f → takes_tag f a ≡ true → LiesIn (tagged f a) f × IsSmall (tagged f a)
tag_lies Root a b s h = ((refl, refl), omega arith)
tag_lies (Flow m) a b s h = absurd b
tag_lies (FlowTagged m) a b s h = absurd b
tag_lies (Items m) a b s h = ((refl, refl), omega (arith, s))
tag_lies (Entries m) a b s h = (refl, omega (arith, s))
tag_lies (Tagged at ab sh) a b s h = absurd (cc)

top_small : (f : Form) (fs : List Form) → top fs ≡ f → Nests fs → IsSmall f
top_small f [] e ns = subst IsSmall e tt
top_small f (g ∷ fs) e ns = subst IsSmall e ns.1

module _ (text : List ℕ) (fs : List Form) (u : Unfinished) (f : Form) (at len : ℕ) (sp : Spot text fs u f at (ahead text false at)) (t : (ahead text false at).token ≡ Tag len) (tk : takes_tag f (ahead text false at) ≡ true) where
  barred_tag : AreQuiet text (ahead text false at) fs × Inside text at
  barred_tag = (node_quiet text (ahead text false at) f fs sp.2 sp.4.1 (tag_takes text f (ahead text false at) tk), end_token text at (Tag len) t refl)

  abbrev FirstBehind : Reading → Type 0
  FirstBehind v = First text fs u at (tagged f (ahead text false at)) true (Some (tag_key (tag_name text (ahead text false at).at (ahead text false at).behind))) (ahead text false at).behind v

  room_tag : (v : Reading) → Awaiting text fs u at v → IsRoomFor (length u.outer) (FirstBehind v) (v ≡ Refused (TooDeep (ahead text false at).at))
  room_tag v h = awaits_tag text fs u.outer f sp.2 sp.3 u.done u.key at v len barred_tag t tk h

  goes_tag : (gs : List Form) (w : Unfinished) (p : Position) → gs ≡ tagged f (ahead text false at) ∷ fs
      → w ≡ with_key (tag_key (tag_name text (ahead text false at).at (ahead text false at).behind)) (with_open kind.Map (ahead text false at).at u) → length u.outer < 128
      → p.stage ≡ stage.Value → p.at ≡ (ahead text false at).behind → Goes text (Awaiting text fs u at) (2 * at + 1) gs w p
  goes_tag gs w p eg ew d es ej =
      let l = tag_lies f (ahead text false at) sp.3 (top_small f fs sp.2 sp.4.1) tk in
      let some : token_len (ahead text false at).token ≡ suc len = ap token_len t in
      let name : List ℕ = tag_key (tag_name text (ahead text false at).at (ahead text false at).behind) in
      goes text (Awaiting text fs u at) (2 * at + 1) gs (tagged f (ahead text false at) ∷ fs) w (with_key name (with_open kind.Map (ahead text false at).at u)) p stage.Value (ahead text false at).behind es ej eg ew
      (λ v. ((λ h. roomy (length u.outer) (FirstBehind v) (v ≡ Refused (TooDeep (ahead text false at).at)) d (room_tag v h)), (λ h. tag_awaits text fs u.outer f sp.2 sp.3 u.done u.key at v len t tk d h)))
      (((refl, sp.4.0), (subst (λ g. LiesIn (tagged f (ahead text false at)) g) (sym sp.2) l.0, l.1, sp.4.1)), apart_tagged _ _ _, (name, refl), omega (arith, sp.1.3, some), tag_named text false at len t)
      sp.1.2 (omega (arith, sp.1.0, sp.1.3, some))

  tag_node : (gs : List Form) (w : Unfinished) (r : Result Position Stop) → TagBegun text (tagged f (ahead text false at)) (ahead text false at) fs u gs w r → Gives text (Awaiting text fs u at) (2 * at + 1) gs w r
  tag_node gs w (Ok p) (es, ej, eg, ew, d) = goes_tag gs w p eg ew d es ej
  tag_node gs w (Err e) h =
      deep_gives text (Awaiting text fs u at) (2 * at + 1) gs u w (ahead text false at).at e FirstBehind room_tag
      (λ d. deep_tag text fs u.outer f sp.2 sp.3 u.done u.key at (Refused (TooDeep (ahead text false at).at)) len t tk d refl) h

pub tag_gives : (text : List ℕ) (fs gs : List Form) (u w : Unfinished) (f g : Form) (at len : ℕ) (next : Ahead) (r : Result Position Stop) → next ≡ ahead text false at → Spot text fs u f at next → next.token ≡ Tag len → takes_tag f next ≡ true
    → g ≡ tagged f next → TagBegun text g next fs u gs w r → Gives text (Awaiting text fs u at) (2 * at + 1) gs w r
tag_gives text fs gs u w f g at len next r e sp t tk eg h =
    subst (λ a. Spot text fs u f at a → a.token ≡ Tag len → takes_tag f a ≡ true → TagBegun text (tagged f a) a fs u gs w r → Gives text (Awaiting text fs u at) (2 * at + 1) gs w r) (sym e)
    (λ s x k b. tag_node text fs u f at len s x k gs w r b) sp t tk (subst (λ z. TagBegun text z next fs u gs w r) eg h)

-- ---- brackets and scalars

pub node_barred : (text : List ℕ) (fs : List Form) (u : Unfinished) (f : Form) (at : ℕ) → Spot text fs u f at (ahead text false at) → takes_scalar f (ahead text false at) ≡ true → Inside text at → AreQuiet text (ahead text false at) fs × Inside text at
node_barred text fs u f at sp tk e = (node_quiet text (ahead text false at) f fs sp.2 sp.4.1 tk, e)

module _ (text : List ℕ) (fs : List Form) (u : Unfinished) (f : Form) (at : ℕ) (m : Bool) (sp : Spot text fs u f at (ahead text false at)) (o : (ahead text false at).token ≡ Opens m) (tk : takes_scalar f (ahead text false at) ≡ true) where
  abbrev Within : Reading → Type 0
  Within v = Enters text (Flow m ∷ fs) (opened text m u.key (ahead text false at).at u.done ∷ u.outer) Nil (ahead text false at).behind v

  room_brackets : (v : Reading) → Awaiting text fs u at v → IsRoomFor (length u.outer) (Within v) (v ≡ Refused (TooDeep (ahead text false at).at))
  room_brackets v h = awaits_brackets text fs u.outer f sp.2 sp.3 u.done u.key at v m (node_barred text fs u f at sp tk (end_token text at (Opens m) o refl)) o h

  brackets_node : (gs : List Form) (w : Unfinished) (r : Result Position Stop) → Opened m (ahead text false at) fs u gs w r → Gives text (Awaiting text fs u at) (2 * at + 1) gs w r
  brackets_node gs w (Ok p) (es, ej, eg, ew, d) =
      let one : token_len (ahead text false at).token ≡ 1 = ap token_len o in
      goes text (Awaiting text fs u at) (2 * at + 1) gs (Flow m ∷ fs) w (with_open (open_kind m) (ahead text false at).at u) p stage.Entry (ahead text false at).behind es ej eg ew
      (λ v. (
        (λ h. roomy (length u.outer) (Within v) (v ≡ Refused (TooDeep (ahead text false at).at)) d (room_brackets v h)),
        (λ h. brackets_awaits text fs u.outer f sp.2 sp.3 u.done u.key at v m o tk d h),
      ))
      (((map_kind m, sp.4.0), (tt, tt, sp.4.1)), (m, refl), refl) sp.1.2 (omega (arith, sp.1.0, sp.1.3, one))
  brackets_node gs w (Err e) h =
      deep_gives text (Awaiting text fs u at) (2 * at + 1) gs u w (ahead text false at).at e Within room_brackets
      (λ d. deep_brackets text fs u.outer f sp.2 sp.3 u.done u.key at (Refused (TooDeep (ahead text false at).at)) m o tk d refl) h

pub brackets_gives : (text : List ℕ) (fs gs : List Form) (u w : Unfinished) (f : Form) (at : ℕ) (m : Bool) (next : Ahead) (r : Result Position Stop) → next ≡ ahead text false at → Spot text fs u f at next → next.token ≡ Opens m → takes_scalar f next ≡ true
    → Opened m next fs u gs w r → Gives text (Awaiting text fs u at) (2 * at + 1) gs w r
brackets_gives text fs gs u w f at m next r e sp o tk h =
    subst (λ a. Spot text fs u f at a → a.token ≡ Opens m → takes_scalar f a ≡ true → Opened m a fs u gs w r → Gives text (Awaiting text fs u at) (2 * at + 1) gs w r) (sym e)
    (λ s x y z. brackets_node text fs u f at m s x y gs w r z) sp o tk h

scalar_node : (text : List ℕ) (fs : List Form) (u w : Unfinished) (f : Form) (at : ℕ) (r : Result Position Stop) → Spot text fs u f at (ahead text false at) → starts_scalar (ahead text false at).token ≡ true → takes_scalar f (ahead text false at) ≡ true
    → (takes_mapping f (ahead text false at) ≡ true → NoKey text (ahead text false at)) → Holds text (setting_of f) (follows_get_att text f at) (ahead text false at) u w r → Gives text (Awaiting text fs u at) (2 * at + 1) fs w r
scalar_node text fs u w f at (Ok p) sp s tk nm (t, k, (st, hk, lt, b), es, ew, room) =
    let q = node_barred text fs u f at sp tk (start_token text at s) in
    let cut : Bool = is_cut (follows_get_att text f at) k t in
    goes text (Awaiting text fs u at) (2 * at + 1) fs fs w (with_scalar cut k t (ahead text false at).at u) p stage.After p.at es refl refl ew
    (λ v. (
      (λ h. value_ends text fs u cut k t (ahead text false at).at p.at v room (awaits_scalar text fs u.outer f sp.2 sp.3 u.done u.key at v t k p.at q s nm st (λ l hl. same_kind (is_typed (setting_of f) text (ahead text false at).at) t l k hl hk) h)),
      (λ h. scalar_awaits text fs u.outer f sp.2 sp.3 u.done u.key at v t k p.at tk st hk (ends_value text fs u cut k t (ahead text false at).at p.at v room h)),
    ))
    (value_fits text fs u cut k t (ahead text false at).at p.at sp.4 lt) b (omega (arith, lt, sp.1.0))
scalar_node text fs u w f at (Err r) sp s tk nm (inl h) = memory_gives text (Awaiting text fs u at) (2 * at + 1) fs w r h
scalar_node text fs u w f at (Err r) sp s tk nm (inr (inl ((place, h), m))) =
    let q = node_barred text fs u f at sp tk (start_token text at s) in
    subst (λ z. Gives text (Awaiting text fs u at) (2 * at + 1) fs w (Err z)) (sym h) (λ v x. awaits_no_scalar text fs u.outer f sp.2 sp.3 u.done u.key at v q s nm m x)
scalar_node text fs u w f at (Err r) sp s tk nm (inr (inr (inl (p, e, d)))) =
    let q = node_barred text fs u f at sp tk (start_token text at s) in
    subst (λ z. Gives text (Awaiting text fs u at) (2 * at + 1) fs w (Err z)) (sym e)
    (documents_awaits text fs u.outer f sp.2 sp.3 u.done u.key at (Refused (ManyDocuments p)) p tk d refl, (λ v h. awaits_documents text fs u.outer f sp.2 sp.3 u.done u.key at v p q s nm d h))
scalar_node text fs u w f at (Err r) sp s tk nm (inr (inr (inr (t, k, j, (st, hk, lt, b), c, e, deep)))) =
    let q = node_barred text fs u f at sp tk (start_token text at s) in
    let cut : Bool = is_cut (follows_get_att text f at) k t in
    subst (λ z. Gives text (Awaiting text fs u at) (2 * at + 1) fs w (Err z)) (sym e) (
      scalar_awaits text fs u.outer f sp.2 sp.3 u.done u.key at (Refused (TooDeep (ahead text false at).at)) t k j tk st hk (deep_value text fs u cut k t (ahead text false at).at j c deep),
      (λ v h. value_deep text fs u cut k t (ahead text false at).at j v c deep
          (awaits_scalar text fs u.outer f sp.2 sp.3 u.done u.key at v t k j q s nm st (λ l hl. same_kind (is_typed (setting_of f) text (ahead text false at).at) t l k hl hk) h)),
    )

pub scalar_gives : (text : List ℕ) (fs : List Form) (u w : Unfinished) (f : Form) (at : ℕ) (next : Ahead) (r : Result Position Stop) → next ≡ ahead text false at → Spot text fs u f at next → starts_scalar next.token ≡ true
    → takes_scalar f next ≡ true → (takes_mapping f next ≡ true → NoKey text next) → Holds text (setting_of f) (follows_get_att text f at) next u w r → Gives text (Awaiting text fs u at) (2 * at + 1) fs w r
scalar_gives text fs u w f at next r e sp s tk nm h =
    subst (λ a. Spot text fs u f at a → starts_scalar a.token ≡ true → takes_scalar f a ≡ true → (takes_mapping f a ≡ true → NoKey text a) → Holds text (setting_of f) (follows_get_att text f at) a u w r → Gives text (Awaiting text fs u at) (2 * at + 1) fs w r) (sym e)
    (λ x y k n g. scalar_node text fs u w f at r x y k n g) sp s tk nm h

-- ---- no node

-- a tag without its node has no other behind it
abbrev pub IsOnce : Form → Ahead → Type 0
IsOnce f a = is_tagged f ≡ true → (len : ℕ) → a.token ≡ Tag len → ⊥

missing_node : (text : List ℕ) (fs : List Form) (u w : Unfinished) (f : Form) (at : ℕ) (r : Result Position Stop) → IsCharBoundary text at → Spot text fs u f at (ahead text false at) → NoNode f (ahead text false at) → block_sign f (ahead text false at) ≡ None → (f ≡ Root → ⊥) → IsOnce f (ahead text false at)
    → Completes at (with_value kind.Null [] at u) w r → Gives text (Awaiting text fs u at) (2 * at + 1) fs w r
missing_node text fs u w f at (Ok p) b sp none us n once (es, ej, ew) =
    goes text (Awaiting text fs u at) (2 * at + 1) fs fs w (with_value kind.Null [] at u) p stage.After at es ej refl ew
    (λ v. ((λ h. awaits_missing text fs u.outer f sp.2 sp.3 u.done u.key at v none us h), (λ h. missing_awaits text fs u.outer f sp.2 sp.3 u.done u.key at v n h)))
    (sp.4, refl, (λ k. missing_calm text f (with_value kind.Null [] at u) at sp.3 n sp.6 once)) b (omega arith)
missing_node text fs u w f at (Err e) b sp none us n once h = memory_gives text (Awaiting text fs u at) (2 * at + 1) fs w e h

pub missing_gives : (text : List ℕ) (fs : List Form) (u w : Unfinished) (f : Form) (at : ℕ) (next : Ahead) (r : Result Position Stop) → next ≡ ahead text false at → IsCharBoundary text at → Spot text fs u f at next → NoNode f next → block_sign f next ≡ None → (f ≡ Root → ⊥) → IsOnce f next
    → Completes at (with_value kind.Null [] at u) w r → Gives text (Awaiting text fs u at) (2 * at + 1) fs w r
missing_gives text fs u w f at next r e b sp none us n once h =
    subst (λ a. Spot text fs u f at a → NoNode f a → block_sign f a ≡ None → IsOnce f a → Gives text (Awaiting text fs u at) (2 * at + 1) fs w r) (sym e) (λ s x y z. missing_node text fs u w f at r b s x y n z h) sp none us once

pub no_root : (text : List ℕ) (fs : List Form) (u : Unfinished) (at : ℕ) (next : Ahead) (f : Form) → next ≡ ahead text false at → top fs ≡ f → f ≡ Root → NoNode f next → block_sign f next ≡ None → (v : Reading) → Awaiting text fs u at v → ⊥
no_root text fs u at next f e t r none us v h =
    root_missing text fs u.outer u.done u.key at v (t ∙ r) (subst (λ a. NoNode Root a) e (subst (λ g. NoNode g next) r none)) (subst (λ a. block_sign Root a ≡ None) e (subst (λ g. block_sign g next ≡ None) r us)) h

-- ---- a sign

abbrev Answered : Option Sign → Option Stop → Type 0
Answered o r = MatchOption r (o ≡ None) (λ e. Some e ≡ option_map of_sign o)

pub sign_there : (f : Form) (a : Ahead) (tagged : Bool) (r : Option Stop) → tagged ≡ is_tagged f → takes_scalar f a ≡ true → Answered (node_sign tagged a.at a.token) r → Answered (block_sign f a) r
sign_there f a tagged r e k h = subst (λ o. Answered o r) (sym (ap (λ q. cond q (node_sign (is_tagged f) a.at a.token) None) k)) (subst (λ q. Answered (node_sign q a.at a.token) r) e h)

pub sign_nowhere : (f : Form) (a : Ahead) → takes_scalar f a ≡ false → block_sign f a ≡ None
sign_nowhere f a k = ap (λ q. cond q (node_sign (is_tagged f) a.at a.token) None) k

module _ (text : List ℕ) (fs : List Form) (u : Unfinished) (f : Form) (at : ℕ) (s : Sign) (sp : Spot text fs u f at (ahead text false at)) (sg : block_sign f (ahead text false at) ≡ Some s) where
  barred_sign : AreQuiet text (ahead text false at) fs × Inside text at
  barred_sign =
      let b = block_signed f (ahead text false at) s sg in
      node_barred text fs u f at sp b.0 (inside_at text at (signed_inside (is_tagged f) (ahead text false at).at (ahead text false at).token s b.1))

  sign_node : Broke (Awaiting text fs u at) s
  sign_node = (signed_awaits text fs u.outer f sp.2 sp.3 u.done u.key at (Refused s) s sg refl, (λ v h. awaits_signed text fs u.outer f sp.2 sp.3 u.done u.key at v s barred_sign sg h))

pub node_signed_gives : (text : List ℕ) (n : ℕ) (fs gs : List Form) (u w : Unfinished) (f : Form) (at : ℕ) (next : Ahead) (r : Stop) → next ≡ ahead text false at → Spot text fs u f at next → Some r ≡ option_map of_sign (block_sign f next)
    → Gives text (Awaiting text fs u at) n gs w (Err r)
node_signed_gives text n fs gs u w f at next r e sp h =
    let d = told (block_sign f next) r h in
    subst (λ z. Gives text (Awaiting text fs u at) n gs w (Err z)) d.2
    (sign_gives text (Awaiting text fs u at) n gs w d.0 (subst (λ a. Spot text fs u f at a → block_sign f a ≡ Some d.0 → Broke (Awaiting text fs u at) d.0) (sym e) (λ x y. sign_node text fs u f at d.0 x y) sp d.1))

-- ---- behind a complete node

-- what may follow there
abbrev pub Behind : List ℕ → List Form → Unfinished → ℕ → Reading → Type 0
Behind text fs u at v = Ends text fs u.outer u.done at v

-- nothing does where no block has another entry
pub nothing_follows : (text : List ℕ) (fs : List Form) (u : Unfinished) (at : ℕ) (next : Ahead) → next ≡ ahead text false at → Inside text at → AreQuiet text next fs → (v : Reading) → Behind text fs u at v → ⊥
nothing_follows text fs u at next e n q v h = quiet_none text fs u.outer u.done at v (subst (λ a. AreQuiet text a fs) e q) n h

is_less : (c m : ℕ) (q : Bool) → (nat_lt c m || q) ≡ false → (c ≡ m → ⊥) → m < c
is_less c m q h n = by_order (cases_lt c m) where
  by_order : (c < m) ⊎ (m ≤ c) → m < c
  by_order (inl l) = absurd (true≢false (sym (ap (λ b. b || q) (lt-ltb c m l)) ∙ h))
  by_order (inr l) = by_same (cases_lt m c) where
    by_same : (m < c) ⊎ (c ≤ m) → m < c
    by_same (inl k) = k
    by_same (inr k) = absurd (n (omega (arith, l, k)))

no_dash : (t : Token) → (t ≡ Dash → ⊥) → not (is_dash t) ≡ true
no_dash Dash n = absurd (n refl)
no_dash End n = refl
no_dash Dashes n = refl
no_dash Dots n = refl
no_dash (Tag l) n = refl
no_dash NoTag n = refl
no_dash (Opens m) n = refl
no_dash (Closes m) n = refl
no_dash Comma n = refl
no_dash (Point l) n = refl
no_dash Anchor n = refl
no_dash Percent n = refl
no_dash Tabbed n = refl
no_dash Stray n = refl
no_dash Other n = refl

-- a line that is indented more than the innermost block
pub item_deep : (text : List ℕ) (fs : List Form) (m : ℕ) (next : Ahead) → Nests fs → top fs ≡ Items m → ends_before (Items m) next ≡ false → (next.column ≡ m → ⊥) → AreQuiet text next fs
item_deep text fs m next ns e h n = deep_quiet text next fs m ns (inl e) (λ f. is_less next.column m (nat_eq next.column m && not (is_dash next.token)) h n)

pub entry_deep : (text : List ℕ) (fs : List Form) (m : ℕ) (next : Ahead) → Nests fs → top fs ≡ Entries m → ends_before (Entries m) next ≡ false → (next.column ≡ m → ⊥) → AreQuiet text next fs
entry_deep text fs m next ns e h n = deep_quiet text next fs m ns (inr e) (λ f. is_less next.column m false (or_false (nat_lt next.column m) h) n) where
  or_false : (b : Bool) → b ≡ false → (b || false) ≡ false
  or_false true g = g
  or_false false g = refl

-- an item's column has a dash, or the sequence ended
pub item_stays : (m : ℕ) (next : Ahead) → ends_before (Items m) next ≡ false → next.column ≡ m → (next.token ≡ Dash → ⊥) → ⊥
item_stays m next h e n =
    let same : nat_eq next.column m ≡ true = grind (arith, nat_tests) in
    true≢false (sym (either_side (nat_lt next.column m) (nat_eq next.column m) (not (is_dash next.token)) same (no_dash next.token n)) ∙ h) where
      either_side : (a b c : Bool) → b ≡ true → c ≡ true → (a || (b && c)) ≡ true
      either_side true b c k l = refl
      either_side false true true k l = refl
      either_side false true false k l = absurd (cc)
      either_side false false c k l = absurd (cc)

-- another item
abbrev Place : List ℕ → ℕ → Ahead → Type 0
Place text at a = IsPlaced text at a × (a.fresh ≡ true)

item_node : (text : List ℕ) (m : ℕ) (done : Forest) (at : ℕ) (p : Position) → Place text at (ahead text false at) → Inside text at → (ahead text false at).column ≡ m → (ahead text false at).token ≡ Dash → p.stage ≡ stage.Value → p.at ≡ (ahead text false at).behind
    → (fs : List Form) (x : Level) (xs : List Level) → Agrees (Items m ∷ fs) (x ∷ xs) → Nests (Items m ∷ fs) → Goes text (Ends text (Items m ∷ fs) (x ∷ xs) done at) (2 * at + 2) (Items m ∷ fs) (parts (x ∷ xs) done None) p
item_node text m done at p (pl, fr) n col t es ej fs x xs a ns =
    let one : token_len (ahead text false at).token ≡ 1 = ap token_len t in
    let near : (ahead text false at).column ≤ (ahead text false at).at = pl.4.0 fr in
    goes text (Ends text (Items m ∷ fs) (x ∷ xs) done at) (2 * at + 2) (Items m ∷ fs) (Items m ∷ fs) (parts (x ∷ xs) done None) (parts (x ∷ xs) done None) p stage.Value (ahead text false at).behind es ej refl refl
    (λ v. ((λ h. ends_item text m fs x xs done at v (item_quiet text (ahead text false at) fs m ns (omega (arith, col)) t) n h), (λ h. item_ends text m fs x xs done at v t fr col h)))
    ((a, ns), apart_items m, awaits_item (Items m) (Items m ∷ fs) (parts (x ∷ xs) done None) refl (λ e. absurd (cc)) refl a refl, omega (arith, near, col, pl.3, one), dash_unnamed text false at t) pl.2 (omega (arith, pl.0, pl.3, one))

pub item_goes : (text : List ℕ) (m : ℕ) (fs : List Form) (u : Unfinished) (at : ℕ) (next : Ahead) (p : Position) → IsSeen text false at next → next.fresh ≡ true → Inside text at → top fs ≡ Items m → Open fs u → u.key ≡ None
    → next.column ≡ m → next.token ≡ Dash → p.stage ≡ stage.Value → p.at ≡ next.behind → Goes text (Behind text fs u at) (2 * at + 2) fs u p
item_goes text m fs u at next p (e, pl) fr n t o k col d es ej =
    subst (λ a. Place text at a → a.column ≡ m → a.token ≡ Dash → p.at ≡ a.behind → Goes text (Ends text fs u.outer u.done at) (2 * at + 2) fs u p) (sym e)
    (λ q c y j. subst (λ z. Goes text (Ends text fs u.outer u.done at) (2 * at + 2) fs (parts u.outer u.done z) p) (sym k)
    (inside (λ hs xs. Agrees hs xs → Nests hs → Goes text (Ends text hs xs u.done at) (2 * at + 2) hs (parts xs u.done None) p) (Items m) fs u.outer t (λ r. absurd (cc)) o.0 (item_node text m u.done at p q n c y es j) o.0 o.1)) (pl, fr) col d ej

-- another entry
entry_around : (text : List ℕ) (m : ℕ) (fs : List Form) (a : Ahead) → Nests (Entries m ∷ fs) → a.column ≡ m → AreQuiet text a fs
entry_around text m fs a ns col = entry_quiet text a fs m ns (omega (arith, col))

no_entry : (text : List ℕ) (m : ℕ) (fs : List Form) (u : Unfinished) (at : ℕ) → Inside text at → top fs ≡ Entries m → Open fs u → (ahead text false at).column ≡ m → IsCalm text u at → Missed text (as_key false) (ahead text false at)
    → node_sign false (ahead text false at).at (ahead text false at).token ≡ None → (v : Reading) → Behind text fs u at v → ⊥
no_entry text m fs u at n tp o col calm k us =
    inside (λ hs xs. Nests hs → IsCalm text (parts xs u.done u.key) at → (v : Reading) → Ends text hs xs u.done at v → ⊥) (Entries m) fs u.outer tp (λ r. absurd (cc)) o.0
    (λ gs x xs ns c v h. ends_no_entry text m gs x xs u.done at v (entry_around text m gs (ahead text false at) ns col) n k us (λ len tag bare. c len tag (last_done (x ∷ xs) u.done at bare.0, bare.1)) h) o.1 calm

-- what is no key was refused
pub entry_missed : (text : List ℕ) (m : ℕ) (fs : List Form) (u w : Unfinished) (at : ℕ) (next : Ahead) (z : Setting) (r : Stop) → z ≡ as_key false → next ≡ ahead text false at → Inside text at → top fs ≡ Entries m → Open fs u → next.column ≡ m → IsCalm text u at → node_sign false next.at next.token ≡ None
    → Finds text z next (Err r) → Gives text (Behind text fs u at) (2 * at + 2) fs w (Err r)
entry_missed text m fs u w at next z r ez e n t o col calm us (inl h) = memory_gives text (Behind text fs u at) (2 * at + 2) fs w r h
entry_missed text m fs u w at next z r ez e n t o col calm us (inr (inr (p, h, d))) = absurd (key_single false text next p (subst (λ y. scalar_ahead text y next ≡ Divided p) ez d))
entry_missed text m fs u w at next z r ez e n t o col calm us (inr (inl ((place, h), k))) =
    subst (λ y. Gives text (Behind text fs u at) (2 * at + 2) fs w (Err y)) (sym h)
    (subst (λ a. a.column ≡ m → Missed text (as_key false) a → node_sign false a.at a.token ≡ None → (v : Reading) → Behind text fs u at v → ⊥) (sym e) (λ c y s. no_entry text m fs u at n t o c calm y s) col (subst (λ y. Missed text y next) ez k.0) us)

entry_node : (text : List ℕ) (m : ℕ) (done : Forest) (at q : ℕ) (t : List ℕ) (w : Unfinished) (p : Position) → Place text at (ahead text false at) → Inside text at → (ahead text false at).column ≡ m → IsKey text (ahead text false at) t q → (ahead text false at).at < q
    → IsCharBoundary text q → has_key done t ≡ false → p.stage ≡ stage.Value → p.at ≡ q → (fs : List Form) (x : Level) (xs : List Level) → Agrees (Entries m ∷ fs) (x ∷ xs) → Nests (Entries m ∷ fs) → w ≡ parts (x ∷ xs) done (Some t)
    → Goes text (Ends text (Entries m ∷ fs) (x ∷ xs) done at) (2 * at + 2) (Entries m ∷ fs) w p
entry_node text m done at q t w p (pl, fr) n col k far b new es ej fs x xs a ns ew =
    goes text (Ends text (Entries m ∷ fs) (x ∷ xs) done at) (2 * at + 2) (Entries m ∷ fs) (Entries m ∷ fs) w (parts (x ∷ xs) done (Some t)) p stage.Value q es ej refl ew
    (λ v. ((λ h. ends_entry text m fs x xs done at v t q (entry_around text m fs (ahead text false at) ns col) n k new h), (λ h. key_ends text m fs x xs done at v t q k fr col new h)))
    ((a, ns), apart_entries m, awaits_value (Entries m) (Entries m ∷ fs) (x ∷ xs) done t refl (λ e. absurd (cc)) refl a, tt, ap (ends_name text) k.4 ∙ colon_unnamed text false k.0 true k.3) b (omega (arith, pl.0, far))

pub entry_goes : (text : List ℕ) (m : ℕ) (fs : List Form) (u w : Unfinished) (at q : ℕ) (next : Ahead) (t : List ℕ) (p : Position) → IsSeen text false at next → next.fresh ≡ true → Inside text at → top fs ≡ Entries m → Open fs u
    → next.column ≡ m → IsKey text next t q → next.at < q → IsCharBoundary text q → has_key u.done t ≡ false → p.stage ≡ stage.Value → p.at ≡ q → w ≡ with_key t u → Goes text (Behind text fs u at) (2 * at + 2) fs w p
entry_goes text m fs u w at q next t p (e, pl) fr n tp o col k far b new es ej ew =
    subst (λ a. Place text at a → a.column ≡ m → IsKey text a t q → a.at < q → Goes text (Ends text fs u.outer u.done at) (2 * at + 2) fs w p) (sym e)
    (λ s c y l. inside (λ hs xs. Agrees hs xs → Nests hs → w ≡ parts xs u.done (Some t) → Goes text (Ends text hs xs u.done at) (2 * at + 2) hs w p) (Entries m) fs u.outer tp (λ r. absurd (cc)) o.0
    (entry_node text m u.done at q t w p s n c y l b new es ej) o.0 o.1 ew) (pl, fr) col k far

-- another sign
entry_signed : (text : List ℕ) (m : ℕ) (fs : List Form) (u : Unfinished) (at : ℕ) (s : Sign) → Place text at (ahead text false at) → Inside text at → top fs ≡ Entries m → Open fs u → (ahead text false at).column ≡ m
    → node_sign false (ahead text false at).at (ahead text false at).token ≡ Some s → Broke (Behind text fs u at) s
entry_signed text m fs u at s (pl, fr) n tp o col sg =
    inside (λ hs xs. Nests hs → Broke (Ends text hs xs u.done at) s) (Entries m) fs u.outer tp (λ r. absurd (cc)) o.0
    (λ gs x xs ns. (signed_ends text m gs x xs u.done at s fr col sg, (λ v h. ends_signed text m gs x xs u.done at v s (entry_around text m gs (ahead text false at) ns col) n sg h))) o.1

pub entry_signed_gives : (text : List ℕ) (m n : ℕ) (fs gs : List Form) (u w : Unfinished) (at : ℕ) (next : Ahead) (r : Stop) → IsSeen text false at next → next.fresh ≡ true → Inside text at → top fs ≡ Entries m → Open fs u → next.column ≡ m
    → Some r ≡ option_map of_sign (node_sign false next.at next.token) → Gives text (Behind text fs u at) n gs w (Err r)
entry_signed_gives text m n fs gs u w at next r (e, pl) fr i tp o col h =
    let d = told (node_sign false next.at next.token) r h in
    subst (λ z. Gives text (Behind text fs u at) n gs w (Err z)) d.2
    (sign_gives text (Behind text fs u at) n gs w d.0
    (subst (λ a. Place text at a → a.column ≡ m → node_sign false a.at a.token ≡ Some d.0 → Broke (Behind text fs u at) d.0) (sym e) (λ q c g. entry_signed text m fs u at d.0 q i tp o c g) (pl, fr) col d.1))

-- a key again, or one without its colon
module _ (text : List ℕ) (m : ℕ) (fs : List Form) (u : Unfinished) (at : ℕ) (t : List ℕ) (j : ℕ) (n : Inside text at) (tp : top fs ≡ Entries m) (o : Open fs u) where
  entry_again : Place text at (ahead text false at) → (ahead text false at).column ≡ m → scalar_ahead text (as_key false) (ahead text false at) ≡ Spans t j → has_key u.done t ≡ true → Broke (Behind text fs u at) (DuplicateKey (ahead text false at).at)
  entry_again (pl, fr) col st again =
      inside (λ hs xs. Nests hs → Broke (Ends text hs xs u.done at) (DuplicateKey (ahead text false at).at)) (Entries m) fs u.outer tp (λ r. absurd (cc)) o.0
      (λ gs x xs ns. (
        again_ends text m gs x xs u.done at t j fr col st again,
        (λ v h. ends_again text m gs x xs u.done at v t j (entry_around text m gs (ahead text false at) ns col) n st again h),
      )) o.1

  entry_no_colon : (ahead text false at).column ≡ m → scalar_ahead text (as_key false) (ahead text false at) ≡ Spans t j → has_key u.done t ≡ false → ((ahead text false j).fresh ≡ false → (ahead text false j).token ≡ Point true → ⊥)
      → (v : Reading) → Behind text fs u at v → ⊥
  entry_no_colon col st new none =
      inside (λ hs xs. Nests hs → (v : Reading) → Ends text hs xs u.done at v → ⊥) (Entries m) fs u.outer tp (λ r. absurd (cc)) o.0
      (λ gs x xs ns v h. ends_no_colon text m gs x xs u.done at v t j (entry_around text m gs (ahead text false at) ns col) n st new none h) o.1

pub no_colon : (text : List ℕ) (m : ℕ) (fs : List Form) (u : Unfinished) (at j : ℕ) (next : Ahead) (t : List ℕ) → next ≡ ahead text false at → Inside text at → top fs ≡ Entries m → Open fs u → next.column ≡ m
    → scalar_ahead text (as_key false) next ≡ Spans t j → has_key u.done t ≡ false → ((ahead text false j).fresh ≡ false → (ahead text false j).token ≡ Point true → ⊥) → (v : Reading) → Behind text fs u at v → ⊥
no_colon text m fs u at j next t e n tp o col st new none =
    subst (λ a. a.column ≡ m → scalar_ahead text (as_key false) a ≡ Spans t j → (v : Reading) → Behind text fs u at v → ⊥) (sym e) (λ c s. entry_no_colon text m fs u at t j n tp o c s new none) col st

pub entry_refused : (text : List ℕ) (m : ℕ) (fs : List Form) (u w : Unfinished) (at j : ℕ) (next : Ahead) (t : List ℕ) (r : BuildRefusal) → IsSeen text false at next → next.fresh ≡ true → Inside text at → top fs ≡ Entries m → Open fs u → next.column ≡ m
    → scalar_ahead text (as_key false) next ≡ Spans t j → (r ≡ build.NoMemory) ⊎ ((r ≡ build.DuplicateKey next.at) × (has_key u.done t ≡ true)) → Gives text (Behind text fs u at) (2 * at + 2) fs w (Err (of_build r))
entry_refused text m fs u w at j next t r e fr n tp o col st (inl h) = subst (λ z. Gives text (Behind text fs u at) (2 * at + 2) fs w (Err (of_build z))) (sym h) tt
entry_refused text m fs u w at j next t r (e, pl) fr n tp o col st (inr (h, again)) =
    subst (λ z. Gives text (Behind text fs u at) (2 * at + 2) fs w (Err (of_build z))) (sym h)
    (subst (λ a. Place text at a → a.column ≡ m → scalar_ahead text (as_key false) a ≡ Spans t j → Broke (Behind text fs u at) (DuplicateKey a.at)) (sym e) (λ q c s. entry_again text m fs u at t j n tp o q c s again) (pl, fr) col st)

-- ---- blocks that end

lies_block : (f g : Form) → IsBlock f → LiesIn f g → IsBlock g
lies_block Root g b l = absurd l
lies_block (Flow m) g b l = absurd b
lies_block (FlowTagged m) g b l = absurd b
lies_block (Items c) Root b l = tt
lies_block (Items c) (Flow m) b l = absurd l
lies_block (Items c) (FlowTagged m) b l = absurd l
lies_block (Items c) (Items m) b l = tt
lies_block (Items c) (Entries m) b l = tt
lies_block (Entries c) Root b l = tt
lies_block (Entries c) (Flow m) b l = absurd l
lies_block (Entries c) (FlowTagged m) b l = absurd l
lies_block (Entries c) (Items m) b l = tt
lies_block (Entries c) (Entries m) b l = tt
lies_block (Items c) (Tagged at ab sh) b l = tt
lies_block (Entries c) (Tagged at ab sh) b l = tt
lies_block (Tagged at ab sh) Root b l = tt
lies_block (Tagged at ab sh) (Flow m) b l = absurd l
lies_block (Tagged at ab sh) (FlowTagged m) b l = absurd l
lies_block (Tagged at ab sh) (Items m) b l = tt
lies_block (Tagged at ab sh) (Entries m) b l = tt
lies_block (Tagged at ab sh) (Tagged c n s) b l = absurd l

-- one of them
abbrev pub Alike : List ℕ → ℕ → List Form → Unfinished → List Form → Unfinished → Type 0
Alike text i fs u gs w = (v : Reading) → (Behind text fs u i v → Behind text gs w i v) × (Behind text gs w i v → Behind text fs u i v)

popped : (text : List ℕ) (i : ℕ) (f : Form) (gs : List Form) (u : Unfinished) → IsQuiet text (ahead text false i) f → Agrees (f ∷ gs) u.outer → Alike text i (f ∷ gs) u gs (with_end u)
popped text i f gs u q a = by_outer u.outer u.done u.key a where
  by_outer : (outer : List Level) (done : Forest) (key : Option (List ℕ)) → Agrees (f ∷ gs) outer → Alike text i (f ∷ gs) (parts outer done key) gs (with_end (parts outer done key))
  by_outer [] done key b = absurd b
  by_outer (x ∷ xs) done key b = λ v. ((λ h. ends_pop text f gs x xs done i v q h), (λ h. pop_ends text f gs x xs done i v q h))

popped_open : (f : Form) (gs : List Form) (u : Unfinished) → Open (f ∷ gs) u → Open gs (with_end u) × ((with_end u).key ≡ None)
popped_open f gs u (a, ns) = by_outer u.outer u.done u.key a where
  by_outer : (outer : List Level) (done : Forest) (key : Option (List ℕ)) → Agrees (f ∷ gs) outer → Open gs (with_end (parts outer done key)) × ((with_end (parts outer done key)).key ≡ None)
  by_outer [] done key b = absurd b
  by_outer (x ∷ xs) done key b = ((b.1, ns.2), refl)

-- what is open is outside of flow, and awaits no value
abbrev pub Stands : List Form → Unfinished → Type 0
Stands fs u = Open fs u × (u.key ≡ None) × IsBlock (top fs)

pub ended_one : (f : Form) (old gs : List Form) (u w : Unfinished) → old ≡ f ∷ gs → w ≡ with_end u → Stands old u → Stands gs w
ended_one f old gs u w e ew (o, k, b) =
    subst (λ z. Stands gs z) (sym ew) (subst (λ fs. Stands fs u → Stands gs (with_end u)) (sym e) (λ (o, k, b). let p = popped_open f gs u o in (p.0, p.1, lies_block f (top gs) b o.1.0)) (o, k, b))

pub ended_alike : (text : List ℕ) (i : ℕ) (f : Form) (old gs : List Form) (u w : Unfinished) (next : Ahead) → next ≡ ahead text false i → old ≡ f ∷ gs → w ≡ with_end u → Stands old u → ends_before (top old) next ≡ true → Alike text i old u gs w
ended_alike text i f old gs u w next en e ew s h =
    subst (λ z. Alike text i old u gs z) (sym ew)
    (subst (λ fs. Stands fs u → ends_before (top fs) next ≡ true → Alike text i fs u gs (with_end u)) (sym e) (λ r g. popped text i f gs u (subst (λ a. IsQuiet text a f) en (ended_quiet text next f r.2 g)) r.0.0) s h)

-- where the document ends, or a sign stands behind it
end_quiet : (text : List ℕ) (a : Ahead) (f g : Form) → IsBlock f → LiesIn f g → is_ending a.token ≡ true → IsQuiet text a f
end_quiet text a Root g b l e = absurd l
end_quiet text a (Flow m) g b l e = absurd b
end_quiet text a (FlowTagged m) g b l e = absurd b
end_quiet text a (Items m) g b l e = λ fr col t. true≢false (sym e ∙ ap is_ending t)
end_quiet text a (Tagged at ab sh) g b l e = tt
end_quiet text a (Entries m) g b l e = λ fr col. (no_word_at text a (ending_word a.token e), ending_unsigned false a.at a.token e, (λ len t. true≢false (sym e ∙ ap is_ending t)))

pub all_quiet : (text : List ℕ) (a : Ahead) (fs : List Form) → Nests fs → IsBlock (top fs) → is_ending a.token ≡ true → AreQuiet text a fs
all_quiet text a [] ns b e = tt
all_quiet text a (f ∷ fs) (l, s, ns) b e = (end_quiet text a f (top fs) b l e, all_quiet text a fs ns (lies_block f (top fs) b l) e)

pub closed_alike : (text : List ℕ) (i : ℕ) (f : Form) (old gs : List Form) (u w : Unfinished) → IsEnd text i → old ≡ f ∷ gs → w ≡ with_end u → Stands old u → Alike text i old u gs w
closed_alike text i f old gs u w en e ew s =
    subst (λ z. Alike text i old u gs z) (sym ew)
    (subst (λ fs. Stands fs u → Alike text i fs u gs (with_end u)) (sym e) (λ r. popped text i f gs u (end_quiet text (ahead text false i) f (top gs) r.2 r.0.1.0 (end_ending text i en)) r.0.0) s)

-- a sign behind the root
signed : (text : List ℕ) (fs : List Form) (u : Unfinished) (at : ℕ) (s : Sign) → IsBlock (top fs) → Open fs u → end_sign text at ≡ Some s → Broke (Behind text fs u at) s
signed text fs u at s b o e =
    let q = all_quiet text (ahead text false at) fs o.1 b (sign_ending text at s e) in
    (over_ends text fs u.outer u.done at s q o.0 e, (λ v h. let x = ends_over text fs u.outer u.done at v q h in only v x.0 x.1)) where
      only : (v : Reading) (g : Forest) → Over text g at v → v ≡ Refused s
      only v g (inl (en, h)) = absurd (let no : None ≡ Some s = sym (end_only text at en) ∙ e in cc)
      only v g (inr (z, h, r)) =
          let here : Some z ≡ Some s = sym h ∙ e in
          let same : z ≡ s = cc in
          r ∙ ap Refused same

pub signed_gives : (text : List ℕ) (n : ℕ) (fs gs : List Form) (u w : Unfinished) (at : ℕ) (r : Stop) → IsBlock (top fs) → Open fs u → Some r ≡ option_map of_sign (end_sign text at) → Gives text (Behind text fs u at) n gs w (Err r)
signed_gives text n fs gs u w at r b o e =
    let t = told (end_sign text at) r e in
    subst (λ z. Gives text (Behind text fs u at) n gs w (Err z)) t.2 (sign_gives text (Behind text fs u at) n gs w t.0 (signed text fs u at t.0 b o t.1))

pub no_sign_inside : (text : List ℕ) (at : ℕ) → (IsEnd text at → ⊥) → None ≡ option_map of_sign (end_sign text at) → Inside text at
no_sign_inside text at n e = (n, untold (end_sign text at) e)

pub then_alike : (text : List ℕ) (i : ℕ) (fs gs hs : List Form) (u w x : Unfinished) → Alike text i fs u gs w → Alike text i gs w hs x → Alike text i fs u hs x
then_alike text i fs gs hs u w x a b = λ v. ((λ h. (b v).0 ((a v).0 h)), (λ h. (a v).1 ((b v).1 h)))

pub same_alike : (text : List ℕ) (i : ℕ) (fs : List Form) (u : Unfinished) → Alike text i fs u fs u
same_alike text i fs u = λ v. ((λ h. h), (λ h. h))

-- at the document's end it stands for the tree
over_tree : (text : List ℕ) (g : Forest) (at : ℕ) (v : Reading) → IsEnd text at → Over text g at v → v ≡ Tree g
over_tree text g at v e (inl (en, h)) = h
over_tree text g at v e (inr (s, h, r)) = absurd (let no : None ≡ Some s = sym (end_only text at e) ∙ h in cc)

-- nothing is open
none_open : (outer : List Level) → Agrees [] outer → outer ≡ []
none_open [] a = refl
none_open (x ∷ xs) a = absurd a

pub whole_goes : (text : List ℕ) (at : ℕ) (fs gs : List Form) (u w : Unfinished) (p : Position) → IsCharBoundary text at → IsEnd text at → Alike text at fs u gs w → Agrees gs w.outer → gs ≡ [] → p.stage ≡ stage.Whole → p.at ≡ at → Goes text (Behind text fs u at) (2 * at + 2) gs w p
whole_goes text at fs gs u w p b e h a eg es ej =
    let o : w.outer ≡ [] = none_open w.outer (subst (λ z. Agrees z w.outer) eg a) in
    goes text (Behind text fs u at) (2 * at + 2) gs gs w w p stage.Whole at es ej refl refl
    (λ v. ((λ x. over_tree text w.done at v e (subst (λ z. Ends text z [] w.done at v) eg (subst (λ z. Ends text gs z w.done at v) o ((h v).0 x)))), (λ x. (h v).1 (subst (λ z. Ends text gs z w.done at v) (sym o) (subst (λ z. Ends text z [] w.done at v) (sym eg) (inl (e, x)))))))
    o b (omega arith)

-- ---- what a search for a key answers

pub found_none : (text : List ℕ) (a : Ahead) (o : Option Key) → o ≡ None → FindsKey text a (Ok o) → NoKey text a
found_none text a o e h = subst (λ z. FindsKey text a (Ok z)) e h

pub found_some : (text : List ℕ) (a : Ahead) (o : Option Key) (k : Key) → o ≡ Some k → FindsKey text a (Ok o) → HasKey text a k × EndsKey text a
found_some text a o k e h = subst (λ z. FindsKey text a (Ok z)) e h

key_end_is : (t u : List ℕ) (e j : ℕ) → Spans t e ≡ Spans u j → e ≡ j
key_end_is t u e j h = cc

pub ends_key : (text : List ℕ) (a : Ahead) (t : List ℕ) (k : Kind) (e : ℕ) → Found text (as_key false) a t k e → EndsKey text a
ends_key text a t k e (st, hk, low, cut) = λ u j h. subst (λ n. (a.at < n) × IsCharBoundary text n) (key_end_is t u e j (sym st ∙ h)) (low, cut)

-- nothing follows the root but the document's end
pub root_none : (text : List ℕ) (fs : List Form) (u : Unfinished) (at : ℕ) (f : Form) → top fs ≡ f → f ≡ Root → Open fs u → Inside text at → (v : Reading) → Behind text fs u at v → ⊥
root_none text [] u at f t r o n v h = quiet_none text [] u.outer u.done at v tt n h
root_none text (g ∷ fs) u at f t r o n v h = absurd (subst (λ z. LiesIn z (top fs)) (t ∙ r) o.1.0)

-- one of them may end
pub may_end : (f : Form) (old gs : List Form) (u : Unfinished) → old ≡ f ∷ gs → Stands old u → MayEnd u
may_end f old gs u e s = by_outer u.outer u.done u.key (subst (λ fs. Agrees fs u.outer) e s.0.0) s.1 where
  by_outer : (outer : List Level) (done : Forest) (key : Option (List ℕ)) → Agrees (f ∷ gs) outer → key ≡ None → MayEnd (parts outer done key)
  by_outer [] done key b k = absurd b
  by_outer (x ∷ xs) done key b k = (omega arith, k)

-- ---- a tag behind a tag without a node

-- it begins a line, which is indented less
tag_fresh : (f : Form) (a : Ahead) (len : ℕ) → IsBlock f → is_tagged f ≡ true → a.token ≡ Tag len → block_sign f a ≡ None → a.fresh ≡ true
tag_fresh Root a len b g t us = absurd (true≢false (sym g))
tag_fresh (Flow m) a len b g t us = absurd b
tag_fresh (FlowTagged m) a len b g t us = absurd b
tag_fresh (Items m) a len b g t us = absurd (true≢false (sym g))
tag_fresh (Entries m) a len b g t us = absurd (true≢false (sym g))
tag_fresh (Tagged at ab sh) a len b g t us = by_line a.fresh (nat_le ab a.column) us where
  shown : node_sign true a.at a.token ≡ Some (sign.Tag a.at)
  shown = ap (node_sign true a.at) t

  by_line : (q r : Bool) → cond (not q || r) (node_sign true a.at a.token) None ≡ None → q ≡ true
  by_line true r e = refl
  by_line false r e = absurd (let no : Some (sign.Tag a.at) ≡ None = sym shown ∙ e in cc)

-- where blocks ended before it, nothing follows but where a key may begin
late_quiet : (text : List ℕ) (fs : List Form) (f : Form) (a : Ahead) (len : ℕ) → top fs ≡ f → Nests fs → IsBlock f → ends_before f a ≡ false → a.token ≡ Tag len → (f ≡ Entries a.column → ⊥) → AreQuiet text a fs
late_quiet text [] f a len t ns b e g n = tt
late_quiet text (h ∷ fs) Root a len t ns b e g n = absurd (subst (λ z. LiesIn z (top fs)) t ns.0)
late_quiet text (h ∷ fs) (Flow m) a len t ns b e g n = absurd b
late_quiet text (h ∷ fs) (FlowTagged m) a len t ns b e g n = absurd b
late_quiet text (h ∷ fs) (Items m) a len t ns b e g n = item_deep text (h ∷ fs) m a ns t e (λ c. item_stays m a e c (λ d. absurd (let no : Tag len ≡ Dash = sym g ∙ d in cc)))
late_quiet text (h ∷ fs) (Entries m) a len t ns b e g n = entry_deep text (h ∷ fs) m a ns t e (λ c. n (ap Entries (sym c)))
late_quiet text (h ∷ fs) (Tagged at ab sh) a len t ns b e g n = absurd (true≢false e)

module _ (text : List ℕ) (fs gs : List Form) (u w : Unfinished) (f : Form) (at len : ℕ) (sp : Spot text fs u f at (ahead text false at)) (tag : (ahead text false at).token ≡ Tag len) (tagged_ : is_tagged f ≡ true)
    (none : NoNode f (ahead text false at)) (us : block_sign f (ahead text false at) ≡ None) (end : Ended text fs (with_value kind.Null [] at u) (ahead text false at) at gs w (Ok tt)) where
  no_root_here : f ≡ Root → ⊥
  no_root_here e = true≢false (sym tagged_ ∙ ap is_tagged e)

  then_behind : (v : Reading) → Awaiting text fs u at v → Behind text gs w at v
  then_behind v h = (end.0 v).0 (awaits_missing text fs u.outer f sp.2 sp.3 u.done u.key at v none us h)

  behind_then : (v : Reading) → Behind text gs w at v → Awaiting text fs u at v
  behind_then v h = missing_awaits text fs u.outer f sp.2 sp.3 u.done u.key at v no_root_here ((end.0 v).1 h)

  fresh_here : (ahead text false at).fresh ≡ true
  fresh_here = tag_fresh f (ahead text false at) len sp.3 tagged_ tag us

  bare_here : IsBare text (last_place w.done) at
  bare_here = (end.5.1 at (value_last kind.Null [] at u), named f sp.3 tagged_ sp.6) where
    named : (f : Form) → IsBlock f → is_tagged f ≡ true → IsSpelled text f at → ends_name text at ≡ true
    named Root b g h = absurd (true≢false (sym g))
    named (Flow m) b g h = absurd b
    named (FlowTagged m) b g h = absurd b
    named (Items m) b g h = absurd (true≢false (sym g))
    named (Entries m) b g h = absurd (true≢false (sym g))
    named (Tagged p ab sh) b g h = h

  again_broke : top gs ≡ Entries (ahead text false at).column → Broke (Awaiting text fs u at) (sign.Tag (ahead text false at).at)
  again_broke t =
      inside (λ hs xs. Nests hs → ((v : Reading) → (Awaiting text fs u at v → Ends text hs xs w.done at v) × (Ends text hs xs w.done at v → Awaiting text fs u at v)) → Broke (Awaiting text fs u at) (sign.Tag (ahead text false at).at))
      (Entries (ahead text false at).column) gs w.outer t (λ r. absurd (cc)) end.1.0
      (λ hs x xs ns h. (
        (h (Refused (sign.Tag (ahead text false at).at))).1 (tag_again_ends text (ahead text false at).column hs x xs w.done at len fresh_here refl tag bare_here),
        (λ v k. ends_tag_again text (ahead text false at).column hs x xs w.done at v len (entry_around text (ahead text false at).column hs (ahead text false at) ns refl) (end_token text at (Tag len) tag refl) tag ((h v).0 k)),
      )) end.1.1 (λ v. (then_behind v, behind_then v))

  again_nothing : (top gs ≡ Entries (ahead text false at).column → ⊥) → (v : Reading) → Awaiting text fs u at v → ⊥
  again_nothing n v h = nothing_follows text gs w at (ahead text false at) refl (end_token text at (Tag len) tag refl) (late_quiet text gs (top gs) (ahead text false at) len refl end.1.1 end.3 end.4 tag n) v (then_behind v h)

-- behind the null of a tag, with the blocks ended
abbrev pub Late : List ℕ → List Form → List Form → Unfinished → Unfinished → Form → ℕ → ℕ → Ahead → Type 0
Late text fs gs u w f at len a = Spot text fs u f at a × (a.token ≡ Tag len) × (is_tagged f ≡ true) × NoNode f a × (block_sign f a ≡ None) × Ended text fs (with_value kind.Null [] at u) a at gs w (Ok tt)

pub tag_again_gives : (text : List ℕ) (n : ℕ) (fs gs : List Form) (u w : Unfinished) (f : Form) (at len p : ℕ) (next : Ahead) → next ≡ ahead text false at → Late text fs gs u w f at len next → p ≡ next.at → top gs ≡ Entries next.column
    → Gives text (Awaiting text fs u at) n gs w (Err (refusal.Tag p))
tag_again_gives text n fs gs u w f at len p next e late ep t =
    subst (λ k. Broke (Awaiting text fs u at) (sign.Tag k)) (sym ep)
    (subst (λ a. Late text fs gs u w f at len a → top gs ≡ Entries a.column → Broke (Awaiting text fs u at) (sign.Tag a.at)) (sym e) (λ (sp, g, k, none, us, end) c. again_broke text fs gs u w f at len sp g k none us end c) late t)

pub no_tag_again : (text : List ℕ) (fs gs : List Form) (u w : Unfinished) (f : Form) (at len : ℕ) (next : Ahead) → next ≡ ahead text false at → Late text fs gs u w f at len next → (top gs ≡ Entries next.column → ⊥) → (v : Reading) → Awaiting text fs u at v → ⊥
no_tag_again text fs gs u w f at len next e late n =
    subst (λ a. Late text fs gs u w f at len a → (top gs ≡ Entries a.column → ⊥) → (v : Reading) → Awaiting text fs u at v → ⊥) (sym e) (λ (sp, g, k, none, us, end) c. again_nothing text fs gs u w f at len sp g k none us end c) late n
