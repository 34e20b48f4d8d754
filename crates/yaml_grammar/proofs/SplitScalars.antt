-- Where a scalar behind `!GetAtt` in 128 collections breaks off with a dot so far, no tree follows in a longer text: it keeps its dot, and a list of two is one collection too many. By what stands there in the longer text.
use Rattle.std.proofs.Common.{◌≡◌, ℕ, suc, ◌+◌, ◌-◌, ◌<◌, ◌≤◌, ◌⊎◌, inl, inr, Bool, true, false, ◌||◌, not, cond, nat_eq, arith, List, [], ◌∷◌, ◌++◌, drop, length, refl, sym, ap, ◌∙◌, subst, true≢false}
use Rattle.std.specs.Prelude.{None, IsUtf8}
use Rattle.std.specs.List.{position_or_len}
use Rattle.std.specs.Str.{IsCharBoundary}
use Rattle.doc_values.specs.declared.kind.Kind.{Kind}
use Rattle.doc_values.specs.declared.kind.Kind.TheVariants as kind
use Rattle.doc_values.specs.Tree.{Forest}
use Rattle.doc_values.specs.Unfinished.{Unfinished, AwaitsValue, with_end}
use Rattle.yaml_scalars.specs.declared.scalar.Setting.{Setting}
use Rattle.yaml_scalars.specs.Lines.{Outcome, Stands, Fails, Documents, begins_with, each, ends_with, is_mark}
use Rattle.yaml_scalars.specs.Scalar.{HasKind, begins_block, begins_quoted, is_first_column, is_typed, plain_scalar, quoted_scalar, block_scalar, scalar_at}
use Rattle.yaml_scalars.specs.code.Walk.{line_at}
use Rattle.yaml_scalars.proofs.OneKind.{same_kind}
use Rattle.yaml_laws.specs.code.Agreement.{AgreesTo, scalar_shown}
use Rattle.yaml_laws.specs.code.Dots.{is_dotless, undotted}
use Rattle.yaml_laws.proofs.ColonKept.{colon_kept}
use Rattle.yaml_laws.proofs.Dotted.{scalar_dotted}
use Rattle.yaml_laws.proofs.ScalarFollowed.{quoted_longer, block_longer}
use Rattle.yaml_grammar.specs.declared.ahead.Ahead.{Ahead}
use Rattle.yaml_grammar.specs.declared.ahead.Token.TheVariants.{Tag, Opens, Closes, Comma, Point}
use Rattle.yaml_grammar.specs.declared.form.Form.{Form}
use Rattle.yaml_grammar.specs.declared.form.Form.TheVariants.{Root, Flow, FlowTagged, Items, Entries, Tagged}
use Rattle.yaml_grammar.specs.Ahead.{ahead}
use Rattle.yaml_grammar.specs.Blocks.{takes_scalar, takes_mapping, IsKey}
use Rattle.yaml_grammar.specs.Flow.{may_miss, may_tag}
use Rattle.yaml_grammar.specs.Nodes.{as_key, follows_get_att, is_cut, is_dot, is_tagged, node_sign, scalar_ahead, setting_of, starts_scalar}
use Rattle.yaml_grammar.specs.Signs.{Sign, ManyDocuments, TooDeep, Tree, Refused}
use Rattle.yaml_grammar.specs.code.AheadSeen.{ahead_seen, is_told}
use Rattle.yaml_grammar.specs.code.Closers.{HasRoom}
use Rattle.yaml_grammar.specs.code.Points.{is_point, is_last_point, is_pointed}
use Rattle.yaml_grammar.specs.code.Rest.{Awaits, Ends, Inside, top}
use Rattle.yaml_grammar.specs.code.Splits.{IsSplit, RunsOut}
use Rattle.yaml_grammar.specs.code.Steps.{IsSeen, IsBlock, IsFlow, IsBehind, Open, Awaited, NoKey, with_scalar, is_flow_ending}
use Rattle.yaml_grammar.proofs.AwaitedNodes.{place_behind}
use Rattle.yaml_grammar.proofs.Back.{twin_end}
use Rattle.yaml_grammar.proofs.BlockPointed as block_points
use Rattle.yaml_grammar.proofs.BlockRests.{awaits_documents, awaits_kind, awaits_mapping, awaits_no_scalar}
use Rattle.yaml_grammar.proofs.FedCuts.{Dotted, dotted_cut, gap_behind, gap_kind, has_gap}
use Rattle.yaml_grammar.proofs.FirstDead.{after_dead, line_dead}
use Rattle.yaml_grammar.proofs.FirstMarks.{first_unmarked}
use Rattle.yaml_grammar.proofs.Gains.{TagOn, ValueEnds, tag_both, tag_popped, value_deep, value_ends}
use Rattle.yaml_grammar.proofs.LastBytes.{agrees_longer}
use Rattle.yaml_grammar.proofs.LastPoints.{loose_point}
use Rattle.yaml_grammar.proofs.Lengthened.{told_at, word_told}
use Rattle.yaml_grammar.proofs.Placed.{placed}
use Rattle.yaml_grammar.proofs.Pointed.{last_parts, last_stale, plain_unquoted, point_of, point_told, pointed_parts}
use Rattle.yaml_grammar.proofs.PointedScalars as flow_points
use Rattle.yaml_grammar.proofs.Quiet.{AreQuiet, inside_at, line_quiet, node_quiet, word_inside}
use Rattle.yaml_grammar.proofs.Rests as flow_rests
use Rattle.yaml_grammar.proofs.SplitAhead.{ahead_longer, fails_shown, stands_shown}
use Rattle.yaml_grammar.proofs.SplitGaps.{plain_gap}
use Rattle.yaml_grammar.proofs.Twins.{twin_cuts}

-- ---- a text with a dot is cut

dotted_text : (v : List ℕ) → each is_dotless v ≡ false → Dotted v
dotted_text [] h = absurd (true≢false h)
dotted_text (b ∷ v) h = by_byte (nat_eq b 46) h (λ g. dotted_text v g) where
  by_byte : (q : Bool) → cond (not q) (each is_dotless v) false ≡ false → (each is_dotless v ≡ false → Dotted v) → cond (not q) (1 + position_or_len is_dot v) 0 < suc (length v)
  by_byte true h n = omega arith
  by_byte false h n = let r = n h in omega (arith, r)

-- what a scalar of a longer text comes to: a text that is cut; or it ends at a place at which nothing follows
abbrev IsText : Bool → List ℕ → Type 0
IsText typed v = HasKind typed v kind.Text × (is_cut true kind.Text v ≡ true)

-- ---- one that fails at the text's end

module _ (s : Setting) (text : List ℕ) (at : ℕ) (low : at < length text) (last : ends_with 13 text ≡ false) (more : List ℕ) (block : begins_block s (drop at text) ≡ false) where
  abbrev longer : List ℕ
  longer = text ++ more

  plain_here : begins_quoted (drop at text) ≡ false → scalar_at s text at ≡ plain_scalar s text at
  plain_here e = ap (λ r. cond r (quoted_scalar s text at) (cond (begins_block s (drop at text)) (block_scalar s text at) (plain_scalar s text at))) e ∙ ap (λ r. cond r (block_scalar s text at) (plain_scalar s text at)) block

  plain_there : begins_quoted (drop at text) ≡ false → scalar_at s longer at ≡ plain_scalar s longer at
  plain_there e =
      ap (λ r. cond r (quoted_scalar s longer at) (cond (begins_block s (drop at longer)) (block_scalar s longer at) (plain_scalar s longer at))) (quoted_longer text more at low ∙ e)
      ∙ ap (λ r. cond r (block_scalar s longer at) (plain_scalar s longer at)) (block_longer s text more at low ∙ block)

  fails_text : s.one_line ≡ false → (is_first_column text at ≡ true → is_mark (line_at (drop at text)) ≡ false) → undotted (begins_with 34 (drop at text)) false (drop at text) ≡ false → scalar_at s text at ≡ Fails (length text) → (v : List ℕ) (m : ℕ) → scalar_at s longer at ≡ Stands v m
      → IsText (is_typed s longer at) v
  fails_text one none dot h v m g = (by_quote (begins_quoted (drop at text)) refl, dotted_cut v (dotted_text v (by_free (each is_dotless v) refl))) where
    by_free : (q : Bool) → each is_dotless v ≡ q → each is_dotless v ≡ false
    by_free true e = absurd (true≢false (sym (scalar_dotted s text at low last more v m one block h g e) ∙ dot))
    by_free false e = e

    single : (p q : Bool) → (p || q) ≡ false → p ≡ false
    single true q e = e
    single false q e = refl

    untyped : (p q : Bool) → not (p || (true || q)) ≡ false
    untyped true q = refl
    untyped false q = refl

    by_quote : (q : Bool) → begins_quoted (drop at text) ≡ q → HasKind (is_typed s longer at) v kind.Text
    by_quote true e =
        let z : is_typed s longer at ≡ false = ap (λ q. not (s.one_line || (q || begins_block s (drop at longer)))) (quoted_longer text more at low ∙ e) ∙ untyped s.one_line (begins_block s (drop at longer)) in
        subst (λ q. HasKind q v kind.Text) (sym z) refl
    by_quote false e =
        let n : begins_with 34 (drop at text) ≡ false = single (begins_with 34 (drop at text)) (begins_with 39 (drop at text)) e in
        gap_kind (is_typed s longer at) v
        (plain_gap s text at low last more v m none (ap (λ q. undotted q false (drop at text)) (sym n) ∙ dot) (sym (plain_here e) ∙ h) (sym (plain_there e) ∙ g))

-- one that has a colon too
colon_text : (typed : Bool) (v a w : List ℕ) → v ≡ a ++ (58 ∷ w) → each is_dotless v ≡ false → IsText typed v
colon_text typed v a w e d = (gap_kind typed v (ap has_gap e ∙ gap_behind a (58 ∷ w) refl), dotted_cut v (dotted_text v d))

-- ---- a key, or none

key_or_none : (text : List ℕ) (a : Ahead) → ((x : List ℕ) × (p : ℕ) × IsKey text a x p) ⊎ NoKey text a
key_or_none text a = by_outcome (scalar_ahead text (as_key false) a) refl where
  stands_not : (o : Outcome) → ((x : List ℕ) (e : ℕ) → o ≡ Stands x e → ⊥) → scalar_ahead text (as_key false) a ≡ o → NoKey text a
  stands_not o n h x p (e, st, fr, tk, z) = n x e (sym h ∙ st)

  by_outcome : (o : Outcome) → scalar_ahead text (as_key false) a ≡ o → ((x : List ℕ) × (p : ℕ) × IsKey text a x p) ⊎ NoKey text a
  by_outcome (Fails q) h = inr (stands_not (Fails q) (λ x e z. absurd (cc)) h)
  by_outcome (Documents q) h = inr (stands_not (Documents q) (λ x e z. absurd (cc)) h)
  by_outcome (Stands y j) h = by_line (ahead text false j).fresh (is_point (ahead text false j).token) refl refl where
    other : ((ahead text false j).fresh ≡ false → (ahead text false j).token ≡ Point true → ⊥) → NoKey text a
    other n x p (e, st, fr, tk, z) =
        let here : Stands x e ≡ Stands y j = sym st ∙ h in
        let same : e ≡ j = cc in
        n (ap (λ k. (ahead text false k).fresh) (sym same) ∙ fr) (ap (λ k. (ahead text false k).token) (sym same) ∙ tk)

    by_line : (q r : Bool) → (ahead text false j).fresh ≡ q → is_point (ahead text false j).token ≡ r → ((x : List ℕ) × (p : ℕ) × IsKey text a x p) ⊎ NoKey text a
    by_line true r f k = inr (other (λ z tk. true≢false (sym f ∙ z)))
    by_line false false f k = inr (other (λ z tk. true≢false (sym (ap is_point tk) ∙ k)))
    by_line false true f k = inl (y, (ahead text false j).behind, (j, h, f, loose_point text j k, refl))

-- ---- what may follow a value

tree_not : (t : Forest) (z : Sign) → Tree t ≡ Refused z → ⊥
tree_not t z e = absurd (cc)

-- where a scalar ends, nothing follows it that is a tree
abbrev NoneBehind : List ℕ → List Form → Unfinished → ℕ → Type 0
NoneBehind text fs u m = (w : Unfinished) → Open fs w → (t : Forest) → Ends text fs w.outer w.done m (Tree t) → ⊥

module _ (text : List ℕ) (fs : List Form) (u : Unfinished) (cuts : Bool) (cut : cuts ≡ true) (room : length u.outer < 128 → ⊥) (open_ : Open fs u) where
  value_none : (typed : Bool) (k : Kind) (v : List ℕ) (at m : ℕ) (t : Forest) → HasKind typed v k → IsText typed v ⊎ NoneBehind text fs u m → ValueEnds text fs u (is_cut cuts k v) k v at m (Tree t) → ⊥
  value_none typed k v at m t hk fate = by_cut (is_cut cuts k v) refl where
    by_cut : (c : Bool) → is_cut cuts k v ≡ c → ValueEnds text fs u c k v at m (Tree t) → ⊥
    by_cut true e (l, kids, r, inl (d, el, ek, er), en) = room d
    by_cut true e (l, kids, r, inr (d, er), en) = tree_not t (TooDeep at) (value_deep text fs u true k v at m (Tree t) refl d (l, kids, r, inr (d, er), en))
    by_cut false e h = by_fate fate where
      by_fate : IsText typed v ⊎ NoneBehind text fs u m → ⊥
      by_fate (inl x) = true≢false (sym (ap (λ q. is_cut q k v) cut ∙ ap (λ z. is_cut true z v) (same_kind typed v k kind.Text hk x.0) ∙ x.1) ∙ e)
      by_fate (inr none) = none (with_scalar false k v at u) open_ t (value_ends text fs u false k v at m (Tree t) tt h)

-- ---- outside of brackets

-- what the scalar at a token comes to, in a longer text
abbrev Fates : List ℕ → Bool → List Form → Unfinished → Form → ℕ → Type 0
Fates text flow fs u f i = (v : List ℕ) (m : ℕ) → scalar_ahead text (setting_of f) (ahead text flow i) ≡ Stands v m → IsText (is_typed (setting_of f) text (ahead text flow i).at) v ⊎ NoneBehind text fs u m

module _ (text : List ℕ) (fs : List Form) (u : Unfinished) (f : Form) (i : ℕ) (form : top fs ≡ f) (open_ : Open fs u) (cut : follows_get_att text f i ≡ true) (room : length u.outer < 128 → ⊥) (t : Forest) (x : Awaits text fs u.outer u.done u.key i (Tree t)) where
  block_none : IsBlock f → starts_scalar (ahead text false i).token ≡ true → takes_scalar f (ahead text false i) ≡ true → Fates text false fs u f i → ⊥
  block_none block starts takes fates = by_key (takes_mapping f (ahead text false i)) refl where
    barred : AreQuiet text (ahead text false i) fs × Inside text i
    barred = (node_quiet text (ahead text false i) f fs form open_.1 takes, inside_at text i (word_inside (ahead text false i).token starts))

    no_key : (takes_mapping f (ahead text false i) ≡ true → NoKey text (ahead text false i)) → ⊥
    no_key none = by_outcome (scalar_ahead text (setting_of f) (ahead text false i)) refl where
      by_outcome : (o : Outcome) → scalar_ahead text (setting_of f) (ahead text false i) ≡ o → ⊥
      by_outcome (Stands v m) e =
          let r = awaits_kind text fs u.outer f form block u.done u.key i (Tree t) v m barred starts none e x in
          value_none text fs u (follows_get_att text f i) cut room open_ (is_typed (setting_of f) text (ahead text false i).at) r.0 v (ahead text false i).at m t r.1 (fates v m e) r.2
      by_outcome (Fails p) e =
          awaits_no_scalar text fs u.outer f form block u.done u.key i (Tree t) barred starts none
          ((λ v m st. (let no : Fails p ≡ Stands v m = sym e ∙ st in absurd (cc))), (λ q d. (let no : Fails p ≡ Documents q = sym e ∙ d in absurd (cc)))) x
      by_outcome (Documents p) e = tree_not t (ManyDocuments p) (awaits_documents text fs u.outer f form block u.done u.key i (Tree t) p barred starts none e x)

    by_key : (q : Bool) → takes_mapping f (ahead text false i) ≡ q → ⊥
    by_key false e = no_key (λ k. absurd (true≢false (sym k ∙ e)))
    by_key true e = elim (key_or_none text (ahead text false i)) [
      | inl (y, p, k) ↦ elim (awaits_mapping text fs u.outer f form block u.done u.key i (Tree t) y p barred k (λ j z. line_quiet text (ahead text false j) fs open_.1 (subst IsBlock (sym form) block) z) x) [
        | inl r ↦ room r.0
        | inr r ↦ tree_not t (TooDeep (ahead text false i).at) r.1
      ]
      | inr none ↦ no_key (λ k. none)
    ]

  flow_none : IsFlow f → starts_scalar (ahead text true i).token ≡ true → node_sign (is_tagged f) (ahead text true i).at (ahead text true i).token ≡ None → (may_miss f ≡ true → is_flow_ending (ahead text true i).token ≡ false) → Fates text true fs u f i → ⊥
  flow_none flow starts unsigned there fates = by_outcome (scalar_ahead text (setting_of f) (ahead text true i)) refl where
    unopened : ((map : Bool) → (ahead text true i).token ≡ Opens map → ⊥) × (may_tag f ≡ true → (len : ℕ) → (ahead text true i).token ≡ Tag len → ⊥)
    unopened = ((λ map e. true≢false (sym starts ∙ ap starts_scalar e)), (λ may len e. true≢false (sym starts ∙ ap starts_scalar e)))

    by_outcome : (o : Outcome) → scalar_ahead text (setting_of f) (ahead text true i) ≡ o → ⊥
    by_outcome (Stands v m) e =
        let r = flow_rests.awaits_kind text fs u.outer f form flow open_.1 u.done u.key i (Tree t) v m there e x in
        value_none text fs u (follows_get_att text f i) cut room open_ (is_typed (setting_of f) text (ahead text true i).at) r.0 v (ahead text true i).at m t r.1 (fates v m e) r.2
    by_outcome (Fails p) e =
        flow_rests.awaits_none text fs u.outer f form flow open_.1 u.done u.key i (Tree t) there unopened unsigned
        ((λ v m st. (let no : Fails p ≡ Stands v m = sym e ∙ st in absurd (cc))), (λ q d. (let no : Fails p ≡ Documents q = sym e ∙ d in absurd (cc)))) x
    by_outcome (Documents p) e = tree_not t (ManyDocuments p) (flow_rests.awaits_documents text fs u.outer f form flow open_.1 u.done u.key i (Tree t) p there e x)

-- ---- what stands in the text

-- one collection too many, and a dot
module _ (text : List ℕ) (at depth : ℕ) (lacks : HasRoom text at depth → ⊥) where
  no_room : depth < 128 → ⊥
  no_room l = lacks (inl l)

  dot_so_far : undotted (begins_with 34 (drop at text)) false (drop at text) ≡ false
  dot_so_far = by_dot (undotted (begins_with 34 (drop at text)) false (drop at text)) refl where
    by_dot : (q : Bool) → undotted (begins_with 34 (drop at text)) false (drop at text) ≡ q → q ≡ false
    by_dot true e = absurd (lacks (inr e))
    by_dot false e = refl

-- the setting of a value may have several lines
several : (f : Form) → (setting_of f).one_line ≡ false
several Root = refl
several (Flow map) = refl
several (FlowTagged at) = refl
several (Items m) = refl
several (Entries m) = refl
several (Tagged at above shares) = refl

starts_at : (text : List ℕ) (s : Setting) (a : Ahead) → starts_scalar a.token ≡ true → scalar_ahead text s a ≡ scalar_at s text a.at
starts_at text s a h = ap (λ q. cond q (scalar_at s text a.at) (Fails a.at)) h

module _ (text : List ℕ) (utf8 : IsUtf8 text) (flow : Bool) (fs : List Form) (u : Unfinished) (f : Form) (i : ℕ) (boundary : IsCharBoundary text i) (starts : starts_scalar (ahead text flow i).token ≡ true) (split : IsSplit text flow fs u f i (ahead text flow i)) (more : List ℕ) (long : IsUtf8 (text ++ more)) where
  abbrev place : ℕ
  place = (ahead text flow i).at

  dot : undotted (begins_with 34 (drop (ahead text flow i).at text)) false (drop (ahead text flow i).at text) ≡ false
  dot = dot_so_far text (ahead text flow i).at (length u.outer) split.3

  pub no_room_here : length u.outer < 128 → ⊥
  no_room_here = no_room text (ahead text flow i).at (length u.outer) split.3

  told : is_told (ahead text flow i).token ≡ true
  told = word_told (ahead text flow i).token starts

  low : (ahead text flow i).at < length text
  low = told_at text flow i told

  shown : ahead_seen text i < length text
  shown = by_end split.4 where
    by_end : RunsOut text flow (setting_of f) (ahead text flow i) → ahead_seen text i < length text
    by_end (inl h) = fails_shown text flow i boundary.0 starts (setting_of f) (several f) split.0 dot (sym (starts_at text (setting_of f) (ahead text flow i) starts) ∙ h)
    by_end (inr (t, e, st, begun, cut, pointed)) = stands_shown text flow i boundary.0 starts (setting_of f) t e utf8 cut begun (pointed_parts text flow (ahead text flow i).at e pointed).1 (sym (starts_at text (setting_of f) (ahead text flow i) starts) ∙ st)

  pub same_ahead : ahead (text ++ more) flow i ≡ ahead text flow i
  same_ahead = ahead_longer text flow i boundary.0 starts more utf8 long split.0 shown

  pub same_cuts : IsBehind f i → follows_get_att (text ++ more) f i ≡ true
  same_cuts behind =
      let near = (placed text flow i utf8 boundary).0 in
      let l = low in
      twin_cuts text (length text - 1) (text ++ more) (twin_end text more utf8 long (omega (arith, l)) split.0) f i behind (omega (arith, near, l)) ∙ split.2

  -- nothing follows where the colon ends it there too
  abbrev Ending : Type 0
  Ending = (t : List ℕ) (e : ℕ) → scalar_at (setting_of f) text (ahead text flow i).at ≡ Stands t e → (ahead text flow i).at < e → IsCharBoundary text e → is_pointed text flow (ahead text flow i).at e ≡ true
      → (v : List ℕ) (m : ℕ) → scalar_at (setting_of f) (text ++ more) (ahead text flow i).at ≡ Stands v m → IsText (is_typed (setting_of f) (text ++ more) (ahead text flow i).at) v ⊎ NoneBehind (text ++ more) fs u m

  pub fates : Ending → Fates (text ++ more) flow fs u f i
  fates ending v m st = by_end split.4 where
    there : scalar_at (setting_of f) (text ++ more) (ahead text flow i).at ≡ Stands v m
    there = sym (starts_at (text ++ more) (setting_of f) (ahead text flow i) starts) ∙ subst (λ (a : Ahead). scalar_ahead (text ++ more) (setting_of f) a ≡ Stands v m) same_ahead st

    Fate : ℕ → Type 0
    Fate at = IsText (is_typed (setting_of f) (text ++ more) at) v ⊎ NoneBehind (text ++ more) fs u m

    by_end : RunsOut text flow (setting_of f) (ahead text flow i) → IsText (is_typed (setting_of f) (text ++ more) (ahead (text ++ more) flow i).at) v ⊎ NoneBehind (text ++ more) fs u m
    by_end (inl h) = subst (λ (a : Ahead). Fate a.at) (sym same_ahead) (inl (fails_text (setting_of f) text (ahead text flow i).at low split.0 more split.1 (several f) (first_unmarked text flow i told) dot (sym (starts_at text (setting_of f) (ahead text flow i) starts) ∙ h) v m there))
    by_end (inr (t, e, is, begun, cut, pointed)) = subst (λ (a : Ahead). Fate a.at) (sym same_ahead) (ending t e (sym (starts_at text (setting_of f) (ahead text flow i) starts) ∙ is) begun cut pointed v m there)

-- ---- a colon that ends the text, outside of brackets

module _ (text : List ℕ) (utf8 : IsUtf8 text) (more : List ℕ) where
  -- what the colon makes of the scalar
  abbrev Kept : Setting → ℕ → List ℕ → ℕ → List ℕ → ℕ → Type 0
  Kept s at t e v m = (m ≡ e) ⊎ IsText (is_typed s (text ++ more) at) v

  kept : (s : Setting) (at : ℕ) (t : List ℕ) (e : ℕ) (v : List ℕ) (m : ℕ) → at < length text → ends_with 58 text ≡ true → begins_quoted (drop at text) ≡ false → begins_block s (drop at text) ≡ false → scalar_shown s text at e ≡ length text → undotted (begins_with 34 (drop at text)) false (drop at text) ≡ false
      → scalar_at s text at ≡ Stands t e → scalar_at s (text ++ more) at ≡ Stands v m → Kept s at t e v m
  kept s at t e v m low ends quote block shown dot st there = elim (colon_kept s text at t e more v m low quote block ends shown st there) [
    | inl r ↦ inl r.2
    | inr (a, w, is, d) ↦ inr (colon_text (is_typed s (text ++ more) at) v a w is (d dot))
  ]

  agrees : (flow : Bool) (e : ℕ) → is_last_point text flow (ahead text flow e) ≡ true → AgreesTo (ahead text flow e).at text (text ++ more)
  agrees flow e h = agrees_longer text more (ahead text flow e).at (told_at text flow e (point_told (ahead text flow e).token (last_parts text flow (ahead text flow e) h).0))

  line_ends : (fs : List Form) (u : Unfinished) (e : ℕ) → IsCharBoundary text e → IsBlock (top fs) → is_last_point text false (ahead text false e) ≡ true → NoneBehind (text ++ more) fs u e
  line_ends fs u e cut block h w o t x =
      line_dead text (text ++ more) e (placed text false e utf8 cut).0 (point_told (ahead text false e).token (last_parts text false (ahead text false e) h).0) (agrees false e h) fs w.outer w.done t o.1 block (last_stale text (ahead text false e) h) x

  flow_ends : (fs : List Form) (u : Unfinished) (e : ℕ) → IsCharBoundary text e → IsFlow (top fs) → is_last_point text true (ahead text true e) ≡ true → NoneBehind (text ++ more) fs u e
  flow_ends fs u e cut flow h w o t x = by_forms fs refl x where
    point : (loose : Bool) × ((ahead text true e).token ≡ Point loose)
    point = point_of (ahead text true e).token (last_parts text true (ahead text true e) h).0

    none : (map : Bool) (gs : List Form) (z : Unfinished) → top gs ≡ Flow map → Open gs z → Ends (text ++ more) gs z.outer z.done e (Tree t) → ⊥
    none map gs z form o y =
        after_dead text (text ++ more) e (placed text true e utf8 cut).0 (point_told (ahead text true e).token (last_parts text true (ahead text true e) h).0) (agrees true e h) map gs z t form o
        (λ k. (let no : Point point.0 ≡ Comma = sym point.1 ∙ k in absurd (cc))) (λ k. (let no : Point point.0 ≡ Closes map = sym point.1 ∙ k in absurd (cc))) y

    by_top : (g : Form) (gs : List Form) → fs ≡ g ∷ gs → (f : Form) → g ≡ f → IsFlow f → Ends (text ++ more) fs w.outer w.done e (Tree t) → ⊥
    by_top g gs k Root j b y = absurd b
    by_top g gs k (Flow map) j b y = none map fs w (ap top k ∙ j) o y
    by_top g gs k (FlowTagged p) j b y =
        let on : TagOn p fs gs w = (g, k, ap top k ∙ j, o) in
        let popped = tag_popped p fs gs w (with_end w) on refl in
        none popped.2.0 gs (with_end w) popped.2.1 popped.0 (((tag_both (text ++ more) p fs gs w (with_end w) e on refl) (Tree t)).0 y)
    by_top g gs k (Items m) j b y = absurd b
    by_top g gs k (Entries m) j b y = absurd b
    by_top g gs k (Tagged at above shares) j b y = absurd b

    by_forms : (hs : List Form) → fs ≡ hs → Ends (text ++ more) fs w.outer w.done e (Tree t) → ⊥
    by_forms [] k y = absurd (subst IsFlow (ap top k) flow)
    by_forms (g ∷ gs) k y = by_top g gs k g refl (subst IsFlow (ap top k) flow) y

-- ---- no tree follows

pub block_split : (text : List ℕ) (fs : List Form) (u : Unfinished) (i : ℕ) (f : Form) (a : Ahead) → IsUtf8 text → Awaited text fs u f i a → starts_scalar a.token ≡ true → takes_scalar f a ≡ true → (takes_mapping f a ≡ true → NoKey text a) → IsSplit text false fs u f i a → (more : List ℕ) → IsUtf8 (text ++ more) → (t : Forest) → Awaits (text ++ more) fs u.outer u.done u.key i (Tree t) → ⊥
block_split text fs u i f a utf8 awaited starts takes none split more long t x =
    subst (λ (b : Ahead). starts_scalar b.token ≡ true → takes_scalar f b ≡ true → IsSplit text false fs u f i b → ⊥) (sym awaited.seen.0) here starts takes split where
      open_ : Open fs u
      open_ = awaited.fits.0

      here : starts_scalar (ahead text false i).token ≡ true → takes_scalar f (ahead text false i) ≡ true → IsSplit text false fs u f i (ahead text false i) → ⊥
      here starts takes split =
          let same = same_ahead text utf8 false fs u f i awaited.boundary starts split more long in
          block_none (text ++ more) fs u f i awaited.form open_ (same_cuts text utf8 false fs u f i awaited.boundary starts split more long (place_behind text fs u f i a awaited)) (no_room_here text utf8 false fs u f i awaited.boundary starts split more long) t x awaited.block
          (ap (λ (b : Ahead). starts_scalar b.token) same ∙ starts) (ap (takes_scalar f) same ∙ takes) (fates text utf8 false fs u f i awaited.boundary starts split more long ending) where
            ending : (y : List ℕ) (e : ℕ) → scalar_at (setting_of f) text (ahead text false i).at ≡ Stands y e → (ahead text false i).at < e → IsCharBoundary text e → is_pointed text false (ahead text false i).at e ≡ true
                → (v : List ℕ) (m : ℕ) → scalar_at (setting_of f) (text ++ more) (ahead text false i).at ≡ Stands v m → IsText (is_typed (setting_of f) (text ++ more) (ahead text false i).at) v ⊎ NoneBehind (text ++ more) fs u m
            ending y e st begun cut pointed v m there =
                let set = block_points.many f awaited.block in
                let parts = pointed_parts text false (ahead text false i).at e pointed in
                let last = cut.0 in
                let near : (ahead text false i).at < length text = omega (arith, begun, last) in
                let low : (ahead text false i).at ≤ length text = omega (arith, near) in
                elim (kept text utf8 more (setting_of f) (ahead text false i).at y e v m near (block_points.line_ends (setting_of f) text (ahead text false i).at y e utf8 set.0 set.1 low cut st pointed) (plain_unquoted false (drop (ahead text false i).at text) parts.0)
                (block_points.line_unblocked (setting_of f) text (ahead text false i).at y e utf8 set.0 set.1 low cut st pointed) (block_points.line_shown_last (setting_of f) text (ahead text false i).at y e utf8 set.0 set.1 low cut st pointed)
                (dot_so_far text (ahead text false i).at (length u.outer) split.3) st there) [
                  | inl k ↦ inr (subst (NoneBehind (text ++ more) fs u) (sym k) (line_ends text utf8 more fs u e cut (subst IsBlock (sym awaited.form) awaited.block) parts.1))
                  | inr k ↦ inl k
                ]

-- ---- between brackets

pub flow_split : (text : List ℕ) (fs : List Form) (u : Unfinished) (i : ℕ) (f : Form) (a : Ahead) → IsUtf8 text → IsSeen text true i a → starts_scalar a.token ≡ true → node_sign (is_tagged f) a.at a.token ≡ None → (may_miss f ≡ true → is_flow_ending a.token ≡ false) → top fs ≡ f → IsFlow f → IsBehind f i → Open fs u → AwaitsValue u → IsCharBoundary text i → IsSplit text true fs u f i a → (more : List ℕ) → IsUtf8 (text ++ more) → (t : Forest) → Awaits (text ++ more) fs u.outer u.done u.key i (Tree t) → ⊥
flow_split text fs u i f a utf8 seen starts unsigned there form flow behind open_ awaits boundary split more long t x =
    subst (λ (b : Ahead). starts_scalar b.token ≡ true → node_sign (is_tagged f) b.at b.token ≡ None → (may_miss f ≡ true → is_flow_ending b.token ≡ false) → IsSplit text true fs u f i b → ⊥) (sym seen.0) here starts unsigned there split where
      here : starts_scalar (ahead text true i).token ≡ true → node_sign (is_tagged f) (ahead text true i).at (ahead text true i).token ≡ None → (may_miss f ≡ true → is_flow_ending (ahead text true i).token ≡ false) → IsSplit text true fs u f i (ahead text true i) → ⊥
      here starts unsigned there split =
          let same = same_ahead text utf8 true fs u f i boundary starts split more long in
          flow_none (text ++ more) fs u f i form open_ (same_cuts text utf8 true fs u f i boundary starts split more long behind) (no_room_here text utf8 true fs u f i boundary starts split more long) t x flow
          (ap (λ (b : Ahead). starts_scalar b.token) same ∙ starts) (ap (λ (b : Ahead). node_sign (is_tagged f) b.at b.token) same ∙ unsigned) (λ k. ap (λ (b : Ahead). is_flow_ending b.token) same ∙ there k)
          (fates text utf8 true fs u f i boundary starts split more long ending) where
            ending : (y : List ℕ) (e : ℕ) → scalar_at (setting_of f) text (ahead text true i).at ≡ Stands y e → (ahead text true i).at < e → IsCharBoundary text e → is_pointed text true (ahead text true i).at e ≡ true
                → (v : List ℕ) (m : ℕ) → scalar_at (setting_of f) (text ++ more) (ahead text true i).at ≡ Stands v m → IsText (is_typed (setting_of f) (text ++ more) (ahead text true i).at) v ⊎ NoneBehind (text ++ more) fs u m
            ending y e st begun cut pointed v m there =
                let set = flow_points.many f flow in
                let parts = pointed_parts text true (ahead text true i).at e pointed in
                let last = cut.0 in
                let near : (ahead text true i).at < length text = omega (arith, begun, last) in
                let low : (ahead text true i).at ≤ length text = omega (arith, near) in
                elim (kept text utf8 more (setting_of f) (ahead text true i).at y e v m near (flow_points.ends_point (setting_of f) text (ahead text true i).at y e utf8 set.0 set.1 low cut st pointed) (plain_unquoted true (drop (ahead text true i).at text) parts.0)
                split.1 (flow_points.pointed_shown (setting_of f) text (ahead text true i).at y e utf8 set.0 set.1 low cut st pointed)
                (dot_so_far text (ahead text true i).at (length u.outer) split.3) st there) [
                  | inl k ↦ inr (subst (NoneBehind (text ++ more) fs u) (sym k) (flow_ends text utf8 more fs u e cut (subst IsFlow (sym form) flow) parts.1))
                  | inr k ↦ inl k
                ]
