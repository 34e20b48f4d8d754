-- Where reading stops at a sign that stands in a scalar or a key, in a text that ends in a carriage return and a line feed, no tree follows in a longer text. By the cases of sites.
use Rattle.std.proofs.Common.{◌≡◌, ℕ, suc, ◌≤◌, ◌⊎◌, inl, inr, Bool, true, false, cond, List, [], ◌∷◌, ◌++◌, length, refl, sym, ap, ◌∙◌, subst, true≢false, arith}
use Rattle.std.specs.Prelude.{Result, Ok, Err, None, Some, option_map}
use Rattle.std.specs.Cow.{cow_str_bytes}
use Rattle.std.specs.Str.{IsCharBoundary}
use Rattle.doc_values.specs.declared.builder.BuildRefusal.{BuildRefusal}
use Rattle.doc_values.specs.declared.builder.BuildRefusal.TheVariants as build
use Rattle.doc_values.specs.declared.kind.Kind.{Kind}
use Rattle.doc_values.specs.declared.kind.Kind.TheVariants as kind
use Rattle.doc_values.specs.Tree.{Forest, has_key}
use Rattle.doc_values.specs.Unfinished.{Unfinished}
use Rattle.yaml_scalars.specs.declared.scalar.Setting.{Setting}
use Rattle.yaml_scalars.specs.Lines.{Outcome, Stands, Fails, Documents}
use Rattle.yaml_scalars.specs.Scalar.{scalar_at, is_typed, HasKind}
use Rattle.yaml_grammar.specs.declared.ahead.Ahead.{Ahead}
use Rattle.yaml_grammar.specs.declared.ahead.Token.{Token}
use Rattle.yaml_grammar.specs.declared.ahead.Token.TheVariants.{End, Dash, Tag, Opens, Closes, Point}
use Rattle.yaml_grammar.specs.declared.form.Form.{Form}
use Rattle.yaml_grammar.specs.declared.form.Form.TheVariants.{Root, Flow, FlowTagged, Items, Entries, Tagged}
use Rattle.yaml_grammar.specs.declared.key.Key.{Key}
use Rattle.yaml_grammar.specs.declared.stage.Stage.TheVariants as stage
use Rattle.yaml_grammar.specs.declared.stage.Position.{Position}
use Rattle.yaml_grammar.specs.declared.stop.Stop.{Stop}
use Rattle.yaml_grammar.specs.declared.stop.Stop.TheVariants as stop
use Rattle.yaml_grammar.specs.Ahead.{ahead}
use Rattle.yaml_grammar.specs.Blocks.{block_sign, takes_scalar, takes_mapping, IsKey}
use Rattle.yaml_grammar.specs.Flow.{may_miss}
use Rattle.yaml_grammar.specs.Nodes.{setting_of, as_key, starts_scalar, scalar_ahead, is_tagged, node_sign, is_cut, is_marked, follows_get_att}
use Rattle.yaml_grammar.specs.Signs.{Sign, TooDeep, Reading, Tree, Refused}
use Rattle.yaml_grammar.specs.Yaml.{end_sign}
use Rattle.yaml_grammar.specs.code.Refused.{of_build, of_sign}
use Rattle.yaml_grammar.specs.code.ReadAgain.{Extends, NoneLonger, NoneAwaited, NoneBehind, OnSign, SignStays}
use Rattle.yaml_grammar.specs.code.Rest.{top, Inside, Ends, Enters, Awaits}
use Rattle.yaml_grammar.specs.code.Steps.{IsSeen, IsFlow, IsBehind, Open, Awaited, Missed, NoKey, HasKey, EndsKey, Found, Holds, Finds, Deep, Completes, Closed, Ended, Gives, is_flow_ending}
use Rattle.yaml_grammar.proofs.BlockGains.{Spot, mapping_refused, spot_of}
use Rattle.yaml_grammar.proofs.BlockRests.{awaits_scalar, block_signed}
use Rattle.yaml_grammar.proofs.AwaitedNodes.{place_behind}
use Rattle.yaml_grammar.proofs.FedLoop.{extended, extended_utf8}
use Rattle.yaml_grammar.proofs.FedSigns.{broke_none, flow_again, block_again, documents_missed}
use Rattle.yaml_grammar.proofs.FedTexts.{before_break, fed_key, fed_same, fed_twin, in_front}
use Rattle.yaml_grammar.proofs.Gains.{FlowSpot, ending_start, flow_spot, told, value_deep}
use Rattle.yaml_grammar.proofs.FedKept.{keeps_cuts}
use Rattle.yaml_grammar.proofs.FedKeys.{none_key}
use Rattle.yaml_grammar.proofs.Quiet.{AreQuiet, ending_word, inside_at, node_quiet, sign_ending, word_inside}
use Rattle.yaml_grammar.proofs.Rests as flow_rests
use Rattle.yaml_scalars.proofs.OneKind.{same_kind}
use Rattle.yaml_grammar.proofs.Rests.{ends_none, marked_word, signed_word}
use Rattle.yaml_grammar.proofs.SameTexts.{seen_alike}
use Rattle.yaml_grammar.proofs.Scalars.{key_single}
use Rattle.yaml_grammar.proofs.Stopped.{item_follows}
use Rattle.yaml_grammar.proofs.StoppedScalars.{no_value, no_flow_value}
use Rattle.yaml_grammar.proofs.Twins.{twin_cut, twin_cuts}

-- ---- what is ahead in a longer text, and which keys

starts_some : (t : Token) → starts_scalar t ≡ true → t ≡ End → ⊥
starts_some t s e = true≢false (sym s ∙ ap starts_scalar e)

point_some : (t : Token) → t ≡ Point true → t ≡ End → ⊥
point_some t s e = let no : Point true ≡ End = sym s ∙ e in absurd (cc)

tree_not : (t : Forest) (z : Sign) → Tree t ≡ Refused z → ⊥
tree_not t z e = absurd (cc)

stands_apart : (p : ℕ) (t : List ℕ) (e : ℕ) → Documents p ≡ Stands t e → ⊥
stands_apart p t e h = absurd (cc)

stands_not : (p : ℕ) (t : List ℕ) (e : ℕ) → Fails p ≡ Stands t e → ⊥
stands_not p t e h = absurd (cc)

module _ (text other : List ℕ) (x : Extends text other) where
  ahead_longer : (flow : Bool) (i : ℕ) → i ≤ length text → ((ahead text flow i).token ≡ End → ⊥) → ahead other flow i ≡ ahead text flow i
  ahead_longer flow i = extended (λ t o. i ≤ length t → ((ahead t flow i).token ≡ End → ⊥) → ahead o flow i ≡ ahead t flow i) text other x (λ front rest utf8 l n. fed_same front rest flow i l n)

  boundary_longer : (flow : Bool) (i : ℕ) → ((ahead text flow i).token ≡ End → ⊥) → IsCharBoundary text i → IsCharBoundary other i
  boundary_longer flow i = extended (λ t o. ((ahead t flow i).token ≡ End → ⊥) → IsCharBoundary t i → IsCharBoundary o i) text other x
      (λ front rest utf8 n c. let l = before_break front flow i c.0 n in twin_cut (front ++ (13 ∷ 10 ∷ [])) (suc (length front)) ((front ++ (13 ∷ 10 ∷ [])) ++ rest) (fed_twin front rest utf8) i (omega (arith, l)) c)

  cuts_longer : (flow : Bool) (f : Form) (i : ℕ) → ((ahead text flow i).token ≡ End → ⊥) → i ≤ length text → IsBehind f i → follows_get_att other f i ≡ follows_get_att text f i
  cuts_longer flow f i = extended (λ t o. ((ahead t flow i).token ≡ End → ⊥) → i ≤ length t → IsBehind f i → follows_get_att o f i ≡ follows_get_att t f i) text other x
      (λ front rest utf8 n c o. let l = before_break front flow i c n in twin_cuts (front ++ (13 ∷ 10 ∷ [])) (suc (length front)) ((front ++ (13 ∷ 10 ∷ [])) ++ rest) (fed_twin front rest utf8) f i o (omega (arith, l)))

  key_longer : (flow : Bool) (a : Ahead) (t : List ℕ) (e : ℕ) → starts_scalar a.token ≡ true → scalar_ahead text (as_key flow) a ≡ Stands t e → scalar_ahead other (as_key flow) a ≡ Stands t e
  key_longer flow a t e n = extended (λ y o. scalar_ahead y (as_key flow) a ≡ Stands t e → scalar_ahead o (as_key flow) a ≡ Stands t e) text other x
      (λ front rest utf8 h.
      let here : scalar_at (as_key flow) (front ++ (13 ∷ 10 ∷ [])) a.at ≡ Stands t e = sym (ap (λ q. cond q (scalar_at (as_key flow) (front ++ (13 ∷ 10 ∷ [])) a.at) (Fails a.at)) n) ∙ h in
      let l = in_front front (as_key flow) a.at (λ p z. stands_not p t e (sym z ∙ here)) in
      ap (λ q. cond q (scalar_at (as_key flow) ((front ++ (13 ∷ 10 ∷ [])) ++ rest) a.at) (Fails a.at)) n ∙ fed_key front (as_key flow) a.at rest refl l ∙ here)

  documents_longer : (s : Setting) (a : Ahead) (p : ℕ) → scalar_ahead text s a ≡ Documents p → Missed other s a
  documents_longer s a p = extended (λ y o. scalar_ahead y s a ≡ Documents p → Missed o s a) text other x (λ front rest utf8 h. documents_missed front rest 0 (omega arith) s a p h)

  seen_longer : (flow : Bool) (i : ℕ) (a : Ahead) → IsSeen text flow i a → (a.token ≡ End → ⊥) → IsCharBoundary text i → IsCharBoundary other i → IsSeen other flow i a
  seen_longer flow i a seen n here there =
      subst (λ b. IsSeen other flow i b) (sym seen.0) (seen_alike text other flow i (extended_utf8 text other x) there (ahead_longer flow i here.0 (subst (λ (b : Ahead). b.token ≡ End → ⊥) seen.0 n)))

-- ---- a key that comes again

module _ (text : List ℕ) (fs : List Form) (u : Unfinished) (at : ℕ) (next : Ahead) (t : List ℕ) (e : ℕ) (starts : starts_scalar next.token ≡ true) (again : has_key u.done t ≡ true) (open_ : Open fs u) (low : at ≤ length text) where
  pub flow_key_none : next ≡ ahead text true at → scalar_ahead text (as_key true) next ≡ Stands t e → top fs ≡ Flow true → NoneLonger text stage.Entry fs u at
  flow_key_none seen st form = λ other x cut fits tree h.
      extended
      (λ y o. at ≤ length y → starts_scalar (ahead y true at).token ≡ true → scalar_ahead y (as_key true) (ahead y true at) ≡ Stands t e → Enters o fs u.outer u.done at (Tree tree) → ⊥)
      text other x (λ front rest utf8 l s k g. flow_again front rest at l fs u t e s k again form open_ tree g) low (subst (λ (a : Ahead). starts_scalar a.token ≡ true) seen starts) (subst (λ a. scalar_ahead text (as_key true) a ≡ Stands t e) seen st) h

  pub block_key_none : (column : ℕ) → next ≡ ahead text false at → scalar_ahead text (as_key false) next ≡ Stands t e → next.fresh ≡ true → next.column ≡ column → top fs ≡ Entries column → NoneBehind text fs u at
  block_key_none column seen st fresh col form = λ other x cut tree h.
      extended
      (λ y o. IsCharBoundary o at → at ≤ length y → starts_scalar (ahead y false at).token ≡ true → scalar_ahead y (as_key false) (ahead y false at) ≡ Stands t e → (ahead y false at).fresh ≡ true → (ahead y false at).column ≡ column → Ends o fs u.outer u.done at (Tree tree) → ⊥)
      text other x (λ front rest utf8 b l s k f c g. block_again front rest at l column fs u t e utf8 b s k again f c form open_ tree g) cut low (subst (λ (a : Ahead). starts_scalar a.token ≡ true) seen starts)
      (subst (λ a. scalar_ahead text (as_key false) a ≡ Stands t e) seen st) (subst (λ (a : Ahead). a.fresh ≡ true) seen fresh) (subst (λ (a : Ahead). a.column ≡ column) seen col) h

-- what the builder refuses
pub built_again : (holds : Type 0) (at : ℕ) (again : Type 0) (r : BuildRefusal) (e : Stop) → e ≡ of_build r → (r ≡ build.NoMemory) ⊎ ((r ≡ build.DuplicateKey at) × again) → (again → holds) → OnSign holds (Err e)
built_again holds at again r e h (inl n) f = subst (λ z. OnSign holds (Err z)) (sym (h ∙ ap of_build n)) tt
built_again holds at again r e h (inr (d, k)) f = subst (λ z. OnSign holds (Err z)) (sym (h ∙ ap of_build d)) (f k)

-- ---- parts that find no sign

pub completed_again : (holds : Type 0) (at : ℕ) (u w : Unfinished) (r : Result Position Stop) → Completes at u w r → OnSign holds r
completed_again holds at u w (Ok p) h = tt
completed_again holds at u w (Err e) h = subst (λ z. OnSign holds (Err z)) (sym h) tt

-- a key that fails is no sign
pub finds_again : (holds : Type 0) (text : List ℕ) (flow : Bool) (s : Setting) (a : Ahead) (e : Stop) → s ≡ as_key flow → Finds text s a (Err e) → OnSign holds (Err e)
finds_again holds text flow s a e k (inl h) = subst (λ z. OnSign holds (Err z)) (sym h) tt
finds_again holds text flow s a e k (inr (inl ((q, h), n))) = subst (λ z. OnSign holds (Err z)) (sym h) tt
finds_again holds text flow s a e k (inr (inr (p, h, d))) = absurd (key_single flow text a p (subst (λ z. scalar_ahead text z a ≡ Documents p) k d))

-- nor is there one where nothing follows
pub dead_again : (holds : Type 0) (text : List ℕ) (P : Reading → Type 0) (n : ℕ) (fs : List Form) (w : Unfinished) (r : Result Position Stop) → ((v : Reading) → P v → ⊥) → Gives text P n fs w r → OnSign holds r
dead_again holds text P n fs w (Ok p) none g = tt
dead_again holds text P n fs w (Err (stop.Unread q)) none g = tt
dead_again holds text P n fs w (Err (stop.Tab at)) none g = absurd (none _ g.0)
dead_again holds text P n fs w (Err (stop.Anchor at)) none g = absurd (none _ g.0)
dead_again holds text P n fs w (Err (stop.Tag at)) none g = absurd (none _ g.0)
dead_again holds text P n fs w (Err (stop.Directive at)) none g = absurd (none _ g.0)
dead_again holds text P n fs w (Err (stop.ManyDocuments at)) none g = absurd (none _ g.0)
dead_again holds text P n fs w (Err (stop.DuplicateKey at)) none g = absurd (none _ g.0)
dead_again holds text P n fs w (Err (stop.TooDeep at)) none g = absurd (none _ g.0)
dead_again holds text P n fs w (Err stop.NoMemory) none g = tt

-- from one thing that holds to another
pub again_from : (holds some : Type 0) (r : Result Position Stop) → (holds → some) → OnSign holds r → OnSign some r
again_from holds some (Ok p) f h = tt
again_from holds some (Err (stop.Unread q)) f h = tt
again_from holds some (Err (stop.Tab at)) f h = f h
again_from holds some (Err (stop.Anchor at)) f h = f h
again_from holds some (Err (stop.Tag at)) f h = f h
again_from holds some (Err (stop.Directive at)) f h = f h
again_from holds some (Err (stop.ManyDocuments at)) f h = f h
again_from holds some (Err (stop.DuplicateKey at)) f h = f h
again_from holds some (Err (stop.TooDeep at)) f h = f h
again_from holds some (Err stop.NoMemory) f h = tt

-- ---- a mapping in 128 collections

pub mapping_again : (text : List ℕ) (fs : List Form) (u : Unfinished) (f : Form) (at : ℕ) (next : Ahead) (key : Key) (e : Stop) → Awaited text fs u f at next → HasKey text next key → EndsKey text next → takes_mapping f next ≡ true → Deep u next.at e
    → SignStays text stage.Value fs u at (Err e)
mapping_again text fs u f at next key e awaited has ends takes (inl h) = subst (λ z. SignStays text stage.Value fs u at (Err z)) (sym h) tt
mapping_again text fs u f at next key e awaited ((j, st, fresh, tok, place), b, over) ends takes (inr (h, deep)) =
    subst (λ z. SignStays text stage.Value fs u at (Err z)) (sym h) none where
      words : List ℕ
      words = cow_str_bytes key.text

      starts : starts_scalar next.token ≡ true
      starts = by_start (starts_scalar next.token) refl st where
        by_start : (q : Bool) → starts_scalar next.token ≡ q → cond q (scalar_at (as_key false) text next.at) (Fails next.at) ≡ Stands words j → starts_scalar next.token ≡ true
        by_start true g k = g
        by_start false g k = absurd (stands_not next.at words j k)

      none : NoneLonger text stage.Value fs u at
      none other x cut fits t g =
          let seen = seen_longer text other x false at next awaited.seen (starts_some next.token starts) awaited.boundary cut in
          let w : Awaited other fs u f at next = record { small = awaited.small; boundary = cut; seen = seen; form = awaited.form; block = awaited.block; fits = fits } in
          let behind = ahead_longer text other x false j (ends words j st).1.0 (point_some (ahead text false j).token tok) in
          let k : IsKey other next words key.behind =
          (j, key_longer text other x false next words j starts st, ap (λ (a : Ahead). a.fresh) behind ∙ fresh, ap (λ (a : Ahead). a.token) behind ∙ tok, place ∙ sym (ap (λ (a : Ahead). a.behind) behind)) in
          broke_none (Awaits other fs u.outer u.done u.key at) (TooDeep next.at) (mapping_refused other fs fs u u f at key.behind next words (stop.TooDeep next.at) seen.0 (spot_of other fs u f at next w) k takes (inr (refl, deep))) t g

-- ---- a scalar

-- one that is cut stays so: nothing but the sign follows
module _ (text : List ℕ) (fs : List Form) (u : Unfinished) (at : ℕ) (v : List ℕ) (m : ℕ) (deep : length u.outer ≡ 128) where
  pair_here : (f : Form) → Spot text fs u f at (ahead text false at) → starts_scalar (ahead text false at).token ≡ true → takes_scalar f (ahead text false at) ≡ true → (takes_mapping f (ahead text false at) ≡ true → NoKey text (ahead text false at))
      → scalar_ahead text (setting_of f) (ahead text false at) ≡ Stands v m → HasKind (is_typed (setting_of f) text (ahead text false at).at) v kind.Text → is_cut (follows_get_att text f at) kind.Text v ≡ true
      → (t : Forest) → Awaits text fs u.outer u.done u.key at (Tree t) → ⊥
  pair_here f sp s tk nm st hk c t h =
      let q : AreQuiet text (ahead text false at) fs × Inside text at = (node_quiet text (ahead text false at) f fs sp.2 sp.4.1 tk, inside_at text at (word_inside (ahead text false at).token s)) in
      tree_not t (TooDeep (ahead text false at).at)
      (value_deep text fs u (is_cut (follows_get_att text f at) kind.Text v) kind.Text v (ahead text false at).at m (Tree t) c deep
      (awaits_scalar text fs u.outer f sp.2 sp.3 u.done u.key at (Tree t) v kind.Text m q s nm st (λ l hl. same_kind (is_typed (setting_of f) text (ahead text false at).at) v l kind.Text hl hk) h))

  pair_there : (f : Form) → FlowSpot text fs u f at (ahead text true at) → starts_scalar (ahead text true at).token ≡ true → node_sign (is_tagged f) (ahead text true at).at (ahead text true at).token ≡ None → (may_miss f ≡ true → is_flow_ending (ahead text true at).token ≡ false)
      → scalar_ahead text (setting_of f) (ahead text true at) ≡ Stands v m → HasKind (is_typed (setting_of f) text (ahead text true at).at) v kind.Text → is_cut (follows_get_att text f at) kind.Text v ≡ true
      → (t : Forest) → Awaits text fs u.outer u.done u.key at (Tree t) → ⊥
  pair_there f sp s us none st hk c t h =
      tree_not t (TooDeep (ahead text true at).at)
      (value_deep text fs u (is_cut (follows_get_att text f at) kind.Text v) kind.Text v (ahead text true at).at m (Tree t) c deep
      (flow_rests.awaits_scalar text fs u.outer f sp.1 sp.2 sp.3.1 u.done u.key at (Tree t) v kind.Text m none st (λ l hl. same_kind (is_typed (setting_of f) text (ahead text true at).at) v l kind.Text hl hk) h))

outcome_missed : (text : List ℕ) (s : Setting) (a : Ahead) (o : Outcome) → scalar_ahead text s a ≡ o → ((v : List ℕ) (m : ℕ) → o ≡ Stands v m → ⊥) → Missed text s a
outcome_missed text s a o e n t j st = n t j (sym e ∙ st)

cut_parts : (cuts : Bool) (k : Kind) (t : List ℕ) → is_cut cuts k t ≡ true → (cuts ≡ true) × (k ≡ kind.Text) × (is_cut true kind.Text t ≡ true)
cut_parts true kind.Text t h = (refl, refl, h)
cut_parts false kind.Text t h = absurd (true≢false (sym h))
cut_parts cuts _ t h = absurd (true≢false (sym h))

cut_again : (cuts seen : Bool) (v : List ℕ) → seen ≡ cuts → cuts ≡ true → is_cut true kind.Text v ≡ true → is_cut seen kind.Text v ≡ true
cut_again cuts seen v e c h = ap (λ q. is_cut q kind.Text v) (e ∙ c) ∙ h

setting_many : (f : Form) → (setting_of f).one_line ≡ false
setting_many Root = refl
setting_many (Flow map) = refl
setting_many (FlowTagged at) = refl
setting_many (Items m) = refl
setting_many (Entries m) = refl
setting_many (Tagged at above shares) = refl

-- a list of two in 128 collections, in a longer text
module _ (text : List ℕ) (fs : List Form) (u : Unfinished) (f : Form) (at : ℕ) (next : Ahead) (starts : starts_scalar next.token ≡ true) (t : List ℕ) (k : Kind) (j : ℕ) (found : Found text (setting_of f) next t k j) (cut : is_cut (follows_get_att text f at) k t ≡ true)
    (deep : length u.outer ≡ 128) where
  -- its scalar is cut there too
  cut_there : (other : List ℕ) (x : Extends text other) (flow : Bool) → next ≡ ahead text flow at → at ≤ length text → IsBehind f at → (v : List ℕ) (m : ℕ) → scalar_ahead other (setting_of f) next ≡ Stands v m
      → HasKind (is_typed (setting_of f) other next.at) v kind.Text × (is_cut (follows_get_att other f at) kind.Text v ≡ true)
  cut_there other x flow seen low behind v m st =
      let c = cut_parts (follows_get_att text f at) k t cut in
      let r = keeps_cuts text other x (setting_of f) next t v j m (setting_many f) found.0 (subst (λ z. HasKind (is_typed (setting_of f) text next.at) t z) c.1 found.1) c.2 st in
      let same = cuts_longer text other x flow f at (subst (λ (b : Ahead). b.token ≡ End → ⊥) seen (starts_some next.token starts)) low behind in
      (r.0, cut_again (follows_get_att text f at) (follows_get_att other f at) v same c.0 r.1)

  pair_none : Awaited text fs u f at next → takes_scalar f next ≡ true → (takes_mapping f next ≡ true → NoKey text next) → NoneLonger text stage.Value fs u at
  pair_none awaited takes no_key other x there fits tree g = by_outcome (scalar_ahead other (setting_of f) next) refl where
    seen : IsSeen other false at next
    seen = seen_longer text other x false at next awaited.seen (starts_some next.token starts) awaited.boundary there

    w : Awaited other fs u f at next
    w = record { small = awaited.small; boundary = there; seen = seen; form = awaited.form; block = awaited.block; fits = fits }

    by_outcome : (o : Outcome) → scalar_ahead other (setting_of f) next ≡ o → ⊥
    by_outcome (Fails p) e = no_value other fs u f at next starts takes (outcome_missed other (setting_of f) next (Fails p) e (λ v m. stands_not p v m)) w tree g
    by_outcome (Documents p) e = no_value other fs u f at next starts takes (outcome_missed other (setting_of f) next (Documents p) e (λ v m. stands_apart p v m)) w tree g
    by_outcome (Stands v m) e =
        let c = cut_there other x false awaited.seen.0 awaited.boundary.0 (place_behind text fs u f at next awaited) v m e in
        subst
        (λ a. Spot other fs u f at a → starts_scalar a.token ≡ true → takes_scalar f a ≡ true → (takes_mapping f a ≡ true → NoKey other a) → scalar_ahead other (setting_of f) a ≡ Stands v m → HasKind (is_typed (setting_of f) other a.at) v kind.Text → ⊥)
        (sym seen.0) (λ sp s tk nm st hk. pair_here other fs u at v m deep f sp s tk nm st hk c.1 tree g)
        (spot_of other fs u f at next w) starts takes (λ tm. none_key text other x (setting_of f) next starts t j found.0 (no_key tm)) e c.0

  flow_pair_none : (tagged : Bool) → IsSeen text true at next → IsCharBoundary text at → top fs ≡ f → IsFlow f → IsBehind f at → Open fs u → tagged ≡ is_tagged f → node_sign tagged next.at next.token ≡ None → (may_miss f ≡ true → is_flow_ending next.token ≡ false) → NoneAwaited text fs u at
  flow_pair_none tagged here low form flow behind open_ eq us none other x tree g = by_outcome (scalar_ahead other (setting_of f) next) refl where
    there : IsCharBoundary other at
    there = boundary_longer text other x true at (subst (λ (b : Ahead). b.token ≡ End → ⊥) here.0 (starts_some next.token starts)) low

    seen : IsSeen other true at next
    seen = seen_longer text other x true at next here (starts_some next.token starts) low there

    by_outcome : (o : Outcome) → scalar_ahead other (setting_of f) next ≡ o → ⊥
    by_outcome (Fails p) e = no_flow_value other fs u f tagged at next starts form flow open_ eq us none (outcome_missed other (setting_of f) next (Fails p) e (λ v m. stands_not p v m)) seen tree g
    by_outcome (Documents p) e = no_flow_value other fs u f tagged at next starts form flow open_ eq us none (outcome_missed other (setting_of f) next (Documents p) e (λ v m. stands_apart p v m)) seen tree g
    by_outcome (Stands v m) e =
        let c = cut_there other x true here.0 low.0 behind v m e in
        subst
        (λ a. FlowSpot other fs u f at a → starts_scalar a.token ≡ true → node_sign (is_tagged f) a.at a.token ≡ None → (may_miss f ≡ true → is_flow_ending a.token ≡ false) → scalar_ahead other (setting_of f) a ≡ Stands v m → HasKind (is_typed (setting_of f) other a.at) v kind.Text → ⊥)
        (sym seen.0) (λ sp s un nm st hk. pair_there other fs u at v m deep f sp s un nm st hk c.1 tree g)
        (flow_spot other fs u f at next seen form flow open_) starts (subst (λ q. node_sign q next.at next.token ≡ None) eq us) none e c.0

pub scalar_again : (text : List ℕ) (fs : List Form) (u w : Unfinished) (f : Form) (at : ℕ) (next : Ahead) (r : Result Position Stop) → Awaited text fs u f at next → starts_scalar next.token ≡ true → takes_scalar f next ≡ true → (takes_mapping f next ≡ true → NoKey text next)
    → Holds text (setting_of f) (follows_get_att text f at) next u w r → SignStays text stage.Value fs u at r
scalar_again text fs u w f at next (Ok p) awaited starts takes no_key h = tt
scalar_again text fs u w f at next (Err e) awaited starts takes no_key (inl h) = subst (λ z. SignStays text stage.Value fs u at (Err z)) (sym h) tt
scalar_again text fs u w f at next (Err e) awaited starts takes no_key (inr (inl ((q, h), n))) = subst (λ z. SignStays text stage.Value fs u at (Err z)) (sym h) tt
scalar_again text fs u w f at next (Err e) awaited starts takes no_key (inr (inr (inl (p, h, d)))) =
    subst (λ z. SignStays text stage.Value fs u at (Err z)) (sym h) (λ other x cut fits t g.
    no_value other fs u f at next starts takes (documents_longer text other x (setting_of f) next p d)
    (record { small = awaited.small; boundary = cut; seen = seen_longer text other x false at next awaited.seen (starts_some next.token starts) awaited.boundary cut; form = awaited.form; block = awaited.block; fits = fits }) t g)
scalar_again text fs u w f at next (Err e) awaited starts takes no_key (inr (inr (inr (t, k, j, found, cut, h, deep)))) =
    subst (λ z. SignStays text stage.Value fs u at (Err z)) (sym h) (pair_none text fs u f at next starts t k j found cut deep awaited takes no_key)

pub flow_scalar_again : (text : List ℕ) (fs : List Form) (u w : Unfinished) (f : Form) (tagged : Bool) (at : ℕ) (next : Ahead) (r : Result Position Stop) → IsSeen text true at next → IsCharBoundary text at → starts_scalar next.token ≡ true → top fs ≡ f → IsFlow f → IsBehind f at → Open fs u → tagged ≡ is_tagged f
    → node_sign tagged next.at next.token ≡ None → (may_miss f ≡ true → is_flow_ending next.token ≡ false) → Holds text (setting_of f) (follows_get_att text f at) next u w r → OnSign (NoneAwaited text fs u at) r
flow_scalar_again text fs u w f tagged at next (Ok p) seen here starts form flow behind open_ eq us there h = tt
flow_scalar_again text fs u w f tagged at next (Err e) seen here starts form flow behind open_ eq us there (inl h) = subst (λ z. OnSign (NoneAwaited text fs u at) (Err z)) (sym h) tt
flow_scalar_again text fs u w f tagged at next (Err e) seen here starts form flow behind open_ eq us there (inr (inl ((q, h), n))) = subst (λ z. OnSign (NoneAwaited text fs u at) (Err z)) (sym h) tt
flow_scalar_again text fs u w f tagged at next (Err e) seen here starts form flow behind open_ eq us there (inr (inr (inl (p, h, d)))) =
    subst (λ z. OnSign (NoneAwaited text fs u at) (Err z)) (sym h) (λ other x t g.
    let some = starts_some next.token starts in
    let cut = boundary_longer text other x true at (subst (λ (b : Ahead). b.token ≡ End → ⊥) seen.0 some) here in
    no_flow_value other fs u f tagged at next starts form flow open_ eq us there (documents_longer text other x (setting_of f) next p d) (seen_longer text other x true at next seen some here cut) t g)
flow_scalar_again text fs u w f tagged at next (Err e) seen here starts form flow behind open_ eq us there (inr (inr (inr (t, k, j, found, cut, h, deep)))) =
    subst (λ z. OnSign (NoneAwaited text fs u at) (Err z)) (sym h) (flow_pair_none text fs u f at next starts t k j found cut deep tagged seen here form flow behind open_ eq us there)

-- ---- where the token begins a scalar, no other sign stands

signed_stops_word : (tagged : Bool) (a : Ahead) (z : Sign) → starts_scalar a.token ≡ true → node_sign tagged a.at a.token ≡ Some z → ⊥
signed_stops_word tagged a z s h = true≢false (sym s ∙ signed_word tagged a.at a.token z h)

pub signed_again : (holds : Type 0) (tagged : Bool) (a : Ahead) (e : Stop) → starts_scalar a.token ≡ true → Some e ≡ option_map of_sign (node_sign tagged a.at a.token) → OnSign holds (Err e)
signed_again holds tagged a e s h = let t = told (node_sign tagged a.at a.token) e h in absurd (signed_stops_word tagged a t.0 s t.1)

pub block_signed_again : (holds : Type 0) (f : Form) (a : Ahead) (e : Stop) → starts_scalar a.token ≡ true → Some e ≡ option_map of_sign (block_sign f a) → OnSign holds (Err e)
block_signed_again holds f a e s h = let t = told (block_sign f a) e h in absurd (signed_stops_word (is_tagged f) a t.0 s (block_signed f a t.0 t.1).1)

pub end_signed_again : (holds : Type 0) (text : List ℕ) (at : ℕ) (e : Stop) → starts_scalar (ahead text false at).token ≡ true → Some e ≡ option_map of_sign (end_sign text at) → OnSign holds (Err e)
end_signed_again holds text at e s h = let t = told (end_sign text at) e h in absurd (true≢false (sym s ∙ ending_word (ahead text false at).token (sign_ending text at t.0 t.1)))

-- where a tree follows, there is no sign
pub living_again : (holds : Type 0) (text : List ℕ) (P : Reading → Type 0) (n : ℕ) (fs : List Form) (w : Unfinished) (r : Result Position Stop) → (t : Forest) → P (Tree t) → Gives text P n fs w r → OnSign holds r
living_again holds text P n fs w (Ok p) t h g = tt
living_again holds text P n fs w (Err (stop.Unread q)) t h g = tt
living_again holds text P n fs w (Err (stop.Tab at)) t h g = absurd (tree_not t _ (g.1 (Tree t) h))
living_again holds text P n fs w (Err (stop.Anchor at)) t h g = absurd (tree_not t _ (g.1 (Tree t) h))
living_again holds text P n fs w (Err (stop.Tag at)) t h g = absurd (tree_not t _ (g.1 (Tree t) h))
living_again holds text P n fs w (Err (stop.Directive at)) t h g = absurd (tree_not t _ (g.1 (Tree t) h))
living_again holds text P n fs w (Err (stop.ManyDocuments at)) t h g = absurd (tree_not t _ (g.1 (Tree t) h))
living_again holds text P n fs w (Err (stop.DuplicateKey at)) t h g = absurd (tree_not t _ (g.1 (Tree t) h))
living_again holds text P n fs w (Err (stop.TooDeep at)) t h g = absurd (tree_not t _ (g.1 (Tree t) h))
living_again holds text P n fs w (Err stop.NoMemory) t h g = tt

pub memory_is_again : (holds : Type 0) (e : Stop) → e ≡ stop.NoMemory → OnSign holds (Err e)
memory_is_again holds e h = subst (λ z. OnSign holds (Err z)) (sym h) tt

pub closed_again : (holds : Type 0) (at : ℕ) (fs gs : List Form) (u w : Unfinished) (r : Result Position Stop) → Closed at fs u gs w r → OnSign holds r
closed_again holds at fs gs u w (Ok p) h = tt
closed_again holds at fs gs u w (Err e) h = memory_is_again holds e h

pub starts_marked : (t : Token) → starts_scalar t ≡ true → is_marked t ≡ true → ⊥
starts_marked t s m = true≢false (sym s ∙ marked_word t m)

pub starts_opens : (t : Token) (m : Bool) → starts_scalar t ≡ true → t ≡ Opens m → ⊥
starts_opens t m s e = true≢false (sym s ∙ ap starts_scalar e)

pub starts_tag : (t : Token) (n : ℕ) → starts_scalar t ≡ true → t ≡ Tag n → ⊥
starts_tag t n s e = true≢false (sym s ∙ ap starts_scalar e)

pub starts_dash : (t : Token) → starts_scalar t ≡ true → t ≡ Dash → ⊥
starts_dash t s e = true≢false (sym s ∙ ap starts_scalar e)

starts_going : (t : Token) → starts_scalar t ≡ true → is_flow_ending t ≡ false
starts_going t s = by_end (is_flow_ending t) refl where
  by_end : (q : Bool) → is_flow_ending t ≡ q → is_flow_ending t ≡ false
  by_end true e = absurd (true≢false (sym s ∙ ending_start t e))
  by_end false e = e

-- nor does anything follow there behind a node between brackets
pub tail_again : (holds : Type 0) (text : List ℕ) (fs : List Form) (u : Unfinished) (at n : ℕ) (gs : List Form) (w : Unfinished) (r : Result Position Stop) → IsFlow (top fs) → Open fs u → starts_scalar (ahead text true at).token ≡ true → Gives text (Ends text fs u.outer u.done at) n gs w r
    → OnSign holds r
tail_again holds text fs u at n gs w r flow open_ s g = dead_again holds text (Ends text fs u.outer u.done at) n gs w r (λ v h. ends_none text fs u.outer u.done at v flow open_.1 (starts_going (ahead text true at).token s) h) g

-- ---- through the parts of a step

-- an item of a list
pub item_again : (text : List ℕ) (fs : List Form) (u : Unfinished) (at : ℕ) (next : Ahead) (r : Result Position Stop) → next ≡ ahead text true at → starts_scalar next.token ≡ true → at ≤ length text → top fs ≡ Flow false → Open fs u → u.key ≡ None → OnSign (NoneAwaited text fs u at) r
    → SignStays text stage.Entry fs u at r
item_again text fs u at next r seen starts low form open_ key h =
    again_from (NoneAwaited text fs u at) (NoneLonger text stage.Entry fs u at) r
    (λ none other x cut fits t g.
    let same = ahead_longer text other x true at low (subst (λ (b : Ahead). b.token ≡ End → ⊥) seen (starts_some next.token starts)) in
    none other x t (item_follows other fs u at next (seen ∙ sym same) form open_ (starts_open next.token starts) (starts_unmarked next.token starts) key (Tree t) g)) h where
      starts_open : (t : Token) → starts_scalar t ≡ true → t ≡ Closes false → ⊥
      starts_open t s e = true≢false (sym s ∙ ap starts_scalar e)

      starts_unmarked : (t : Token) → starts_scalar t ≡ true → is_marked t ≡ false
      starts_unmarked t s = by_mark (is_marked t) refl where
        by_mark : (q : Bool) → is_marked t ≡ q → is_marked t ≡ false
        by_mark true e = absurd (true≢false (sym s ∙ marked_word t e))
        by_mark false e = e

-- blocks that end before a line
pub ended_again : (text : List ℕ) (fs gs : List Form) (u w : Unfinished) (at : ℕ) (next : Ahead) (r : Result Position Stop) → next ≡ ahead text false at → starts_scalar next.token ≡ true → at ≤ length text
    → ((other : List ℕ) (i : ℕ) → next ≡ ahead other false i → Ended other fs u next i gs w (Ok tt)) → OnSign (NoneBehind text gs w at) r → OnSign (NoneBehind text fs u at) r
ended_again text fs gs u w at next r seen starts low ended h =
    again_from (NoneBehind text gs w at) (NoneBehind text fs u at) r
    (λ none other x cut t g.
    let same = ahead_longer text other x false at low (subst (λ (b : Ahead). b.token ≡ End → ⊥) seen (starts_some next.token starts)) in
    none other x cut t (((ended other at (seen ∙ sym same)).0 (Tree t)).0 g)) h
