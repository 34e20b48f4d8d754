-- What a step found is fixed by the bytes that are looked at where it goes on. By the cases of what is found.
use Rattle.std.proofs.Common.{◌≡◌, ℕ, ◌+◌, ◌<◌, ◌≤◌, inl, inr, Bool, true, false, ◌||◌, ◌&&◌, not, cond, nat_le, nat_lt, List, drop, length, refl, sym, ap, ◌∙◌, subst, true≢false, arith}
use Rattle.std.specs.Prelude.{Result, Ok, Err, IfOk, IsUtf8}
use Rattle.std.specs.Str.{IsCharBoundary}
use Rattle.std.specs.Cow.{cow_str_bytes}
use Rattle.doc_values.specs.Unfinished.{Unfinished}
use Rattle.yaml_scalars.specs.declared.scalar.Setting.{Setting}
use Rattle.yaml_scalars.specs.Lines.{Stands, Fails, lines}
use Rattle.yaml_scalars.specs.Scalar.{begins_block, begins_quoted, scalar_at}
use Rattle.yaml_scalars.specs.code.Walk.{line_at}
use Rattle.yaml_laws.specs.code.Agreement.{AgreesTo, out_shown, plain_shown, scalar_shown}
use Rattle.yaml_grammar.specs.declared.ahead.Ahead.{Ahead}
use Rattle.yaml_grammar.specs.declared.ahead.Token.{Token}
use Rattle.yaml_grammar.specs.declared.ahead.Token.TheVariants.{End, Dashes, Dots, Dash, Tag, NoTag, Opens, Closes, Comma, Point, Anchor, Percent, Tabbed, Stray, Other}
use Rattle.yaml_grammar.specs.declared.form.Form.{Form}
use Rattle.yaml_grammar.specs.declared.form.Form.TheVariants.{Root, Flow, FlowTagged, Items, Entries, Tagged}
use Rattle.yaml_grammar.specs.declared.stage.Stage.TheVariants as stage
use Rattle.yaml_grammar.specs.declared.stage.Position.{Position}
use Rattle.yaml_grammar.specs.declared.key.Key.{Key}
use Rattle.yaml_grammar.specs.declared.stop.Stop.{Stop}
use Rattle.yaml_grammar.specs.Ahead.{token_len, ahead}
use Rattle.yaml_grammar.specs.Nodes.{setting_of, as_key, starts_scalar, scalar_ahead, is_marked}
use Rattle.yaml_grammar.specs.Blocks.{takes_scalar, takes_mapping, takes_tag}
use Rattle.yaml_grammar.specs.Flow.{ends_key, IsColon}
use Rattle.yaml_grammar.specs.code.AheadSeen.{ahead_seen}
use Rattle.yaml_grammar.specs.code.Closers.{in_flow}
use Rattle.yaml_grammar.specs.code.Points.{is_last_point, is_pointed}
use Rattle.yaml_grammar.specs.code.Steps.{IsSeen, IsBlock, IsFlow, IsBehind, NoNode, NoKey, HasKey, EndsKey, Holds, TagBegun, Opened, Closed, Completes, SameScalar, SameKey, SameNode, SameFlowNode, is_flow_ending, is_open}
use Rattle.yaml_grammar.specs.code.Twins.{IsTwin, settled, FixesNode, FixesFlowNode, FixesFlowKey, FixesEntry, FixesEnd, FixesSeen, FixesStep}
use Rattle.yaml_grammar.proofs.AheadColons.{point_seen}
use Rattle.yaml_grammar.proofs.AheadOrder.{seen_behind, seen_least, seen_from}
use Rattle.yaml_grammar.proofs.BlockEnds.{last_quoted}
use Rattle.yaml_grammar.proofs.KeyEnds.{key_end}
use Rattle.yaml_grammar.proofs.LastPoints.{loose_point}
use Rattle.yaml_grammar.proofs.Placed.{placed}
use Rattle.yaml_grammar.proofs.Pointed.{last_parts, last_stale, point_of}
use Rattle.yaml_grammar.proofs.Quiet.{mapping_takes}
use Rattle.yaml_grammar.proofs.SameTexts.{has_key_same}
use Rattle.yaml_grammar.proofs.Settled.{settled_value, settled_after, settled_null, settled_ending, settled_at, token_reach, opening_reach}
use Rattle.yaml_grammar.proofs.ScalarAhead.{seen_scalar}
use Rattle.yaml_grammar.proofs.ScalarOrder.{scalar_seen}
use Rattle.yaml_grammar.proofs.ScalarOut.{scalar_out}
use Rattle.yaml_grammar.proofs.Scalars.{missed_other}
use Rattle.yaml_grammar.proofs.Twins.{twin_room, twin_cut, twin_name, twin_ahead, twin_quoted, twin_ahead_scalar, twin_scalar, twin_other, twin_cuts}

-- ---- scalars and keys

-- a scalar stands at a token that starts one
pub starts_of : (text : List ℕ) (s : Setting) (a : Ahead) (t : List ℕ) (e : ℕ) → scalar_ahead text s a ≡ Stands t e → (starts_scalar a.token ≡ true) × (scalar_at s text a.at ≡ Stands t e)
starts_of text s a t e h = by_start (starts_scalar a.token) h where
  fails_not : (p : ℕ) → Fails p ≡ Stands t e → ⊥
  fails_not p z = cc

  by_start : (q : Bool) → cond q (scalar_at s text a.at) (Fails a.at) ≡ Stands t e → (q ≡ true) × (scalar_at s text a.at ≡ Stands t e)
  by_start true g = (refl, g)
  by_start false g = absurd (fails_not a.at g)

pub end_is : (t u : List ℕ) (e j : ℕ) → Stands t e ≡ Stands u j → e ≡ j
end_is t u e j z = cc

no_scalar : (a : Ahead) (t : Token) → a.token ≡ t → starts_scalar t ≡ false → starts_scalar a.token ≡ true → ⊥
no_scalar a t e n h = true≢false (sym h ∙ ap starts_scalar e ∙ n)

-- the bounds of a scalar that stands at what is ahead: where its end is looked at, all of it was
module _ (text : List ℕ) (flow : Bool) (i : ℕ) (a : Ahead) (seen : IsSeen text flow i a) (cut : IsCharBoundary text i) (s : Setting) (t : List ℕ) (e : ℕ) (st : scalar_ahead text s a ≡ Stands t e) (low : a.at < e) (last : IsCharBoundary text e) where
  pub scalar_from : ahead_seen text i ≤ e
  scalar_from =
      let g = starts_of text s a t e st in
      seen_scalar s text flow i t e cut.0 (subst (λ (b : Ahead). starts_scalar b.token ≡ true) seen.0 g.0) (subst (λ (b : Ahead). b.at < e) seen.0 low) (subst (λ (b : Ahead). scalar_at s text b.at ≡ Stands t e) seen.0 g.1)

  pub scalar_to : e ≤ ahead_seen text e
  scalar_to = seen_least text e last.0

  pub scalar_all : scalar_shown s text a.at e ≤ ahead_seen text e
  scalar_all = scalar_seen s text a.at t e (let l = last.0 in omega (arith, low, l)) last.0 (starts_of text s a t e st).1

-- a token that has a length
module _ (text : List ℕ) (flow : Bool) (i : ℕ) (a : Ahead) (seen : IsSeen text flow i a) (l : 0 < token_len a.token) where
  token_over : a.at < a.behind
  token_over = let e = seen.1.3 in omega (arith, e, l)

-- what is ahead begins not behind what is looked at for it
pub place_from : (text : List ℕ) (flow : Bool) (i : ℕ) (a : Ahead) → IsSeen text flow i a → a.at ≤ ahead_seen text i
place_from text flow i a seen = subst (λ (b : Ahead). b.at ≤ ahead_seen text i) (sym seen.0) (seen_from text flow i)

-- ---- nodes outside of flow

-- where no node begins at a token, or a tag or a bracket does
node_other : (text : List ℕ) (place : ℕ) (other : List ℕ) (m : IsTwin text place other) (f : Form) (i : ℕ) (a : Ahead) → a.at ≤ place → i ≤ place → IsBehind f i → (takes_scalar f a ≡ true → starts_scalar a.token ≡ false)
    → ((len : ℕ) → takes_tag f a ≡ true → a.token ≡ Tag len → (a.at < a.behind) × (a.behind ≤ place)) → SameNode text other f i a
node_other text place other m f i a low near o n named = record {
  name = λ len tk e. (let g = named len tk e in twin_name text place other m a.at a.behind g.0 g.1);
  cuts = twin_cuts text place other m f i o near;
  scalar = λ tk nk. twin_other text place other m (setting_of f) a low (n tk);
  none = λ tm nk t p k. missed_other other (as_key false) a (n (mapping_takes text f a tm)) t k.0 k.1;
  key = λ tm k h. absurd (missed_other text (as_key false) a (n (mapping_takes text f a tm)) (cow_str_bytes k.text) h.0.0 h.0.1);
  point = λ tk nk t j st p. absurd (missed_other text (setting_of f) a (n tk) t j st);
}

-- a token where a value may stand behind it
pub token_fixes : (text : List ℕ) (f : Form) (i : ℕ) (a : Ahead) → IsSeen text false i a → IsCharBoundary text i → IsBehind f i → starts_scalar a.token ≡ false → is_marked a.token ≡ false → 0 < token_len a.token → (p : Position) → p.stage ≡ stage.Value → p.at ≡ a.behind
    → FixesNode text f i a (Ok p)
token_fixes text f i a seen cut o n q l p es e = λ goes place other m near.
    let from = token_reach text false i a seen q l in
    let far = settled_value text false a.behind place seen.1.2.0 (settled_at text false p stage.Value a.behind place es e near) in
    let first = place_from text false i a seen in
    let least = seen_least text i cut.0 in
    (omega (arith, from, far), node_other text place other m f i a (omega (arith, first, from, far)) (omega (arith, least, from, far)) o (λ h. n) (λ len tk t. (token_over text false i a seen l, far)))

pub tag_fixes : (text : List ℕ) (f g : Form) (i len : ℕ) (a : Ahead) (fs gs : List Form) (u w : Unfinished) (r : Result Position Stop) → IsSeen text false i a → IsCharBoundary text i → IsBehind f i → a.token ≡ Tag len → TagBegun text g a fs u gs w r
    → FixesNode text f i a r
tag_fixes text f g i len a fs gs u w (Err e) seen cut o t h = tt
tag_fixes text f g i len a fs gs u w (Ok p) seen cut o t (es, ej, eg, ew, d) =
    token_fixes text f i a seen cut o (ap starts_scalar t) (ap is_marked t) (subst (λ k. 0 < token_len k) (sym t) (omega arith)) p es ej

pub opens_fixes : (text : List ℕ) (f : Form) (i : ℕ) (map : Bool) (a : Ahead) (fs gs : List Form) (u w : Unfinished) (r : Result Position Stop) → IsSeen text false i a → IsCharBoundary text i → IsBehind f i → a.token ≡ Opens map → Opened map a fs u gs w r
    → FixesNode text f i a r
opens_fixes text f i map a fs gs u w (Err e) seen cut o t h = tt
opens_fixes text f i map a fs gs u w (Ok p) seen cut o t (es, ej, eg, ew, d) = λ goes place other m near.
    let far = opening_reach text false i a seen (Opens map) place t refl (settled_at text false p stage.Entry a.behind place es ej near) in
    let least = seen_least text i cut.0 in
    let from = far.0 in
    (from, node_other text place other m f i a far.1 (omega (arith, least, from)) o (λ h. ap starts_scalar t) (λ len tk z. absurd (no_tag map len (sym t ∙ z)))) where
      no_tag : (map : Bool) (len : ℕ) → Opens map ≡ Tag len → ⊥
      no_tag map len z = absurd (cc)

pub dash_fixes : (text : List ℕ) (f : Form) (i : ℕ) (a : Ahead) → IsSeen text false i a → IsCharBoundary text i → IsBehind f i → a.token ≡ Dash → (p : Position) → p.stage ≡ stage.Value → p.at ≡ a.behind → FixesNode text f i a (Ok p)
dash_fixes text f i a seen cut o d p es e = token_fixes text f i a seen cut o (ap starts_scalar d) (ap is_marked d) (subst (λ k. 0 < token_len k) (sym d) (omega arith)) p es e

-- where a scalar may begin on the line
stale_takes : (f : Form) (a : Ahead) → IsBlock f → (f ≡ Root → ⊥) → a.fresh ≡ false → takes_scalar f a ≡ true
stale_takes Root a b s e = absurd (s refl)
stale_takes (Flow map) a b s e = absurd b
stale_takes (FlowTagged at) a b s e = absurd b
stale_takes (Items m) a b s e = ap (λ q. not q || nat_lt m a.column) e
stale_takes (Entries m) a b s e = ap (λ q. not q || nat_lt m a.column) e
stale_takes (Tagged at above shares) a b s e = ap (λ q. not q || nat_le above a.column) e

-- so no colon stands on the line of a missing node
missing_far : (text : List ℕ) (f : Form) (i : ℕ) (a : Ahead) (place : ℕ) → IsSeen text false i a → NoNode f a → IsBlock f → (f ≡ Root → ⊥) → settled text false stage.After i ≤ place → ahead_seen text i ≤ place
missing_far text f i a place seen n block some near = by_last (is_last_point text false (ahead text false i)) refl near where
  by_last : (q : Bool) → is_last_point text false (ahead text false i) ≡ q → cond (q || (false && not (is_open (ahead text true i).token))) (ahead text false i).at (ahead_seen text i) ≤ place → ahead_seen text i ≤ place
  by_last true e h =
      let y : is_last_point text false a ≡ true = subst (λ (b : Ahead). is_last_point text false b ≡ true) (sym seen.0) e in
      let p = (point_of a.token (last_parts text false a y).0).1 in
      absurd (true≢false (sym (ap starts_scalar p) ∙ (n.0 (stale_takes f a block some (last_stale text a y))).0))
  by_last false e h = h

pub missing_fixes : (text : List ℕ) (f : Form) (i : ℕ) (a : Ahead) (u w : Unfinished) (r : Result Position Stop) → IsSeen text false i a → IsCharBoundary text i → IsBehind f i → NoNode f a → IsBlock f → (f ≡ Root → ⊥) → Completes i u w r → FixesNode text f i a r
missing_fixes text f i a u w (Err e) seen cut o n block some h = tt
missing_fixes text f i a u w (Ok p) seen cut o n block some (es, ej, ew) = λ goes place other m near.
    let far = missing_far text f i a place seen n block some (settled_at text false p stage.After i place es ej near) in
    let first = place_from text false i a seen in
    let least = seen_least text i cut.0 in
    (far, node_other text place other m f i a (omega (arith, first, far)) (omega (arith, least, far)) o (λ h. (n.0 h).0) (λ len tk t. absurd (n.2 tk len t)))

-- a key in a text that is the same as far as is looked at behind it
key_twin : (text : List ℕ) (place : ℕ) (other : List ℕ) (m : IsTwin text place other) (a : Ahead) (t : List ℕ) (e : ℕ) → scalar_ahead text (as_key false) a ≡ Stands t e → a.at ≤ place → scalar_shown (as_key false) text a.at e ≤ place → e ≤ length text
    → ahead_seen text e ≤ place → (ahead text false e).behind ≤ place → SameKey text other a
key_twin text place other m a t e st low shown last near over = record {
  scalar = twin_scalar text place other m (as_key false) a t e low shown (let l = seen_least text e last in omega (arith, l, near)) st;
  behind = λ u j k. subst (λ n. ahead other false n ≡ ahead text false n) (end_is t u e j (sym st ∙ k)) (twin_ahead text place other m false e last near);
  last = λ u j k c. twin_cut text place other m (ahead text false j).behind (subst (λ n. (ahead text false n).behind ≤ place) (end_is t u e j (sym st ∙ k)) over) c;
}

-- of a key with its colon
module _ (text : List ℕ) (i : ℕ) (a : Ahead) (seen : IsSeen text false i a) (cut : IsCharBoundary text i) (t : List ℕ) (q e : ℕ) (st : scalar_ahead text (as_key false) a ≡ Stands t e) (tk : (ahead text false e).token ≡ Point true) (b : q ≡ (ahead text false e).behind) (low : a.at < e)
    (last : IsCharBoundary text e) (end : IsCharBoundary text q) (place : ℕ) (far : q ≤ place) where
  colon_end : (ahead text false e).behind ≤ length text
  colon_end = subst (λ n. n ≤ length text) b end.0

  colon_from : ahead_seen text e ≤ place
  colon_from = let z = seen_behind text false e (Point true) tk refl (omega arith) in omega (arith, z, far, b)

  colon_over : (ahead text false e).behind ≤ place
  colon_over = omega (arith, far, b)

  key_from : ahead_seen text i ≤ place
  key_from = let z = scalar_from text false i a seen cut (as_key false) t e st low last in let y = scalar_to text false i a seen cut (as_key false) t e st low last in let x = colon_from in omega (arith, x, y, z)

  key_alike : (other : List ℕ) → IsTwin text place other → SameKey text other a
  key_alike other m =
      let first = place_from text false i a seen in
      let from = key_from in
      let near = colon_from in
      let all = scalar_all text false i a seen cut (as_key false) t e st low last in
      key_twin text place other m a t e st (omega (arith, first, from)) (omega (arith, all, near)) last.0 near colon_over

pub key_fixes : (text : List ℕ) (f : Form) (i : ℕ) (a : Ahead) (k : Key) (p : Position) → IsSeen text false i a → IsCharBoundary text i → IsBehind f i → takes_mapping f a ≡ true → HasKey text a k → EndsKey text a → p.stage ≡ stage.Value → p.at ≡ k.behind → FixesNode text f i a (Ok p)
key_fixes text f i a k p seen cut o tm ((e, st, fr, tk, b), end, over) ends es pe = λ goes place other m near.
    let t = cow_str_bytes k.text in
    let z = ends t e st in
    let far = settled_value text false k.behind place end.0 (settled_at text false p stage.Value k.behind place es pe near) in
    let from = key_from text i a seen cut t k.behind e st tk b z.0 z.1 end place far in
    let alike = key_alike text i a seen cut t k.behind e st tk b z.0 z.1 end place far other m in
    let least = seen_least text i cut.0 in (
      from,
      record {
        name = λ len h g. absurd (no_scalar a (Tag len) g refl (starts_of text (as_key false) a t e st).0);
        cuts = twin_cuts text place other m f i o (omega (arith, least, from));
        scalar = λ h nk. absurd (nk tm t k.behind (e, st, fr, tk, b));
        none = λ h nk. absurd (nk t k.behind (e, st, fr, tk, b));
        key = λ h k2 there. has_key_same text other a alike k2 there;
        point = λ h nk x j st2 y. absurd (nk tm t k.behind (e, st, fr, tk, b));
      },
    )

-- where a scalar stands that is no key with its colon, none stands there in a text that is the same as far as is looked at behind it
pub none_twin : (text : List ℕ) (place : ℕ) (other : List ℕ) (m : IsTwin text place other) → IsUtf8 text → (f : Form) (a : Ahead) (t : List ℕ) (j : ℕ) → IsBlock f → SameScalar text other (setting_of f) a → scalar_ahead text (setting_of f) a ≡ Stands t j
    → a.at ≤ place → j ≤ length text → ahead_seen text j ≤ place → NoKey text a → NoKey other a
none_twin text place other m utf8 f a t j block same st low last near nk = λ u q (e, st2, fr, tk, b).
    let je : j ≡ e = key_end other a f block u t e j st2 fr (same.scalar ∙ st) in
    let here : ahead other false j ≡ ahead text false j = twin_ahead text place other m false j last near in
    let st3 = subst (λ n. scalar_ahead other (as_key false) a ≡ Stands u n) (sym je) st2 in
    let fr2 = subst (λ n. (ahead other false n).fresh ≡ false) (sym je) fr in
    let tk2 = subst (λ n. (ahead other false n).token ≡ Point true) (sym je) tk in
    let b2 = subst (λ n. q ≡ (ahead other false n).behind) (sym je) b in
    let fr3 = sym (ap (λ (x : Ahead). x.fresh) here) ∙ fr2 in
    let tk3 = sym (ap (λ (x : Ahead). x.token) here) ∙ tk2 in
    let over = point_seen text j true tk3 fr3 in
    let same_over = ap (λ (x : Ahead). x.behind) here in
    let least = seen_least text j last in
    let room = twin_room text place other m in
    let shown = scalar_seen (as_key false) other a.at u j (omega (arith, room, low)) (omega (arith, room, least, near)) (starts_of other (as_key false) a u j st3).1 in
    let reach = seen_behind other false j (Point true) tk2 refl (omega arith) in
    let back : IsTwin other place text = record { utf8 = utf8; marks = sym m.marks; agrees = turned m.agrees; breaks = sym m.breaks } in
    let there = twin_ahead_scalar other place text back (as_key false) a u j low (omega (arith, shown, reach, same_over, over, near)) st3 in
    nk u q (j, there, fr3, tk3, b2 ∙ same_over) where
      turned : AgreesTo place text other → AgreesTo place other text
      turned (before, behind, more, b, e, f, size) = (before, more, behind, b, f, e, size)

-- the same of a quoted scalar where a colon that ends the text follows on its line, by the colon's first byte
last_twin : (text : List ℕ) (place : ℕ) (other : List ℕ) (m : IsTwin text place other) → IsUtf8 text → (f : Form) (a : Ahead) (t : List ℕ) (j : ℕ) → IsBlock f → SameScalar text other (setting_of f) a → scalar_ahead text (setting_of f) a ≡ Stands t j
    → a.at ≤ place → j ≤ place → is_last_point text false (ahead text false j) ≡ true → begins_quoted (drop a.at text) ≡ true → NoKey text a → NoKey other a
last_twin text place other m utf8 f a t j block same st low near y quoted nk = λ u q (e, st2, fr, tk, b).
    let je : j ≡ e = key_end other a f block u t e j st2 fr (same.scalar ∙ st) in
    let st3 = subst (λ n. scalar_ahead other (as_key false) a ≡ Stands u n) (sym je) st2 in
    let back : IsTwin other place text = record { utf8 = utf8; marks = sym m.marks; agrees = turned m.agrees; breaks = sym m.breaks } in
    let shown : scalar_shown (as_key false) other a.at j ≡ j =
    ap (λ r. cond r j (plain_shown (as_key false) (length other) (lines a.at (drop a.at other)))) (twin_quoted text place other m a.at low ∙ quoted) in
    let there = twin_ahead_scalar other place text back (as_key false) a u j low (omega (arith, shown, near)) st3 in
    nk u (ahead text false j).behind (j, there, last_stale text (ahead text false j) y, loose_point text j (last_parts text false (ahead text false j) y).0, refl) where
      turned : AgreesTo place text other → AgreesTo place other text
      turned (before, behind, more, b, e, f, size) = (before, more, behind, b, f, e, size)

pub scalar_fixes : (text : List ℕ) (f : Form) (i : ℕ) (a : Ahead) (cuts : Bool) (u w : Unfinished) (p : Position) → IsUtf8 text → IsSeen text false i a → IsCharBoundary text i → IsBehind f i → IsBlock f → (takes_mapping f a ≡ true → NoKey text a)
    → Holds text (setting_of f) cuts a u w (Ok p) → is_pointed text false a.at p.at ≡ false → FixesNode text f i a (Ok p)
scalar_fixes text f i a cuts u w p utf8 seen cut o block none (t, k, (st, hk, low, last), es, ew, room) still = λ goes place other m far. by_last place other m (is_last_point text false (ahead text false p.at)) refl (settled_at text false p stage.After p.at place es refl far) where
  -- only a quoted scalar stands in front of a colon that ends the text
  quoted : is_last_point text false (ahead text false p.at) ≡ true → begins_quoted (drop a.at text) ≡ true
  quoted y = last_quoted f text a.at t p.at block (starts_of text (setting_of f) a t p.at st).1 y still

  near_end : is_last_point text false (ahead text false p.at) ≡ true → scalar_shown (setting_of f) text a.at p.at ≡ p.at
  near_end y = ap (λ q. cond q p.at (cond (begins_block (setting_of f) (drop a.at text)) (p.at + out_shown (line_at (drop p.at text))) (plain_shown (setting_of f) (length text) (lines a.at (drop a.at text))))) (quoted y)

  last_fixes : (place : ℕ) (other : List ℕ) → IsTwin text place other → is_last_point text false (ahead text false p.at) ≡ true → (ahead text false p.at).at ≤ place → (ahead_seen text i ≤ place) × SameNode text other f i a
  last_fixes place other m y near =
      let from = scalar_from text false i a seen cut (setting_of f) t p.at st low last in
      let to = (placed text false p.at utf8 last).0 in
      let all = near_end y in
      let least = seen_least text i cut.0 in
      let first = place_from text false i a seen in
      let same = twin_scalar text place other m (setting_of f) a t p.at (omega (arith, first, from, to, near)) (omega (arith, all, to, near)) (omega (arith, to, near)) st in (
        omega (arith, from, to, near),
        record {
          name = λ len h g. absurd (no_scalar a (Tag len) g refl (starts_of text (setting_of f) a t p.at st).0);
          cuts = twin_cuts text place other m f i o (omega (arith, least, from, to, near));
          scalar = λ h nk. same;
          none = λ h nk. last_twin text place other m utf8 f a t p.at block same st (omega (arith, first, from, to, near)) (omega (arith, to, near)) y (quoted y) nk;
          key = λ h k2 there. absurd (none h (cow_str_bytes k2.text) k2.behind there.0);
          point = λ h nk x j st2 y. absurd (true≢false (sym y ∙ ap (is_pointed text false a.at) (sym (end_is t x p.at j (sym st ∙ st2))) ∙ still));
        },
      )

  by_last : (place : ℕ) (other : List ℕ) → IsTwin text place other → (q : Bool) → is_last_point text false (ahead text false p.at) ≡ q → cond (q || (false && not (is_open (ahead text true p.at).token))) (ahead text false p.at).at (ahead_seen text p.at) ≤ place → (ahead_seen text i ≤ place) × SameNode text other f i a
  by_last place other m true y near = last_fixes place other m y near
  by_last place other m false y near =
      let from = scalar_from text false i a seen cut (setting_of f) t p.at st low last in
      let to = scalar_to text false i a seen cut (setting_of f) t p.at st low last in
      let all = scalar_all text false i a seen cut (setting_of f) t p.at st low last in
      let least = seen_least text i cut.0 in
      let first = place_from text false i a seen in
      let same = twin_scalar text place other m (setting_of f) a t p.at (omega (arith, first, from, to, near)) (omega (arith, all, near)) (omega (arith, to, near)) st in (
        omega (arith, from, to, near),
        record {
          name = λ len h g. absurd (no_scalar a (Tag len) g refl (starts_of text (setting_of f) a t p.at st).0);
          cuts = twin_cuts text place other m f i o (omega (arith, least, from, to, near));
          scalar = λ h nk. same;
          none = λ h nk. none_twin text place other m utf8 f a t p.at block same st (omega (arith, first, from, to, near)) last.0 near nk;
          key = λ h k2 there. absurd (none h (cow_str_bytes k2.text) k2.behind there.0);
          point = λ h nk x j st2 y. absurd (true≢false (sym y ∙ ap (is_pointed text false a.at) (sym (end_is t x p.at j (sym st ∙ st2))) ∙ still));
        },
      )

-- ---- behind a node outside of flow

-- at a token that is no scalar and no line `...`
pub item_fixes : (text : List ℕ) (i : ℕ) (a : Ahead) → IsSeen text false i a → IsCharBoundary text i → a.token ≡ Dash → (p : Position) → p.stage ≡ stage.Value → p.at ≡ a.behind → FixesEnd text i a (Ok p)
item_fixes text i a seen cut d p es e = λ goes place other m near.
    let l : 0 < token_len a.token = subst (λ k. 0 < token_len k) (sym d) (omega arith) in
    let from = token_reach text false i a seen (ap is_marked d) l in
    let far = settled_value text false a.behind place seen.1.2.0 (settled_at text false p stage.Value a.behind place es e near) in
    let first = place_from text false i a seen in
    let low : a.at ≤ place = omega (arith, first, from, far) in (
      omega (arith, from, far),
      record { here = twin_ahead text place other m false i cut.0 (omega (arith, from, far)); further = λ h. absurd (no_dots a d (ap (λ (x : Ahead). x.token) seen.0 ∙ h)) },
      record {
        scalar = twin_other text place other m (as_key false) a low (ap starts_scalar d);
        behind = λ t j k. absurd (missed_other text (as_key false) a (ap starts_scalar d) t j k);
        last = λ t j k c. absurd (missed_other text (as_key false) a (ap starts_scalar d) t j k);
      },
    ) where
      no_dots : (a : Ahead) → a.token ≡ Dash → a.token ≡ Dots → ⊥
      no_dots a d h = let z : Dash ≡ Dots = sym d ∙ h in absurd (cc)

pub entry_fixes : (text : List ℕ) (i : ℕ) (a : Ahead) (t : List ℕ) (q e : ℕ) (p : Position) → IsSeen text false i a → IsCharBoundary text i → scalar_ahead text (as_key false) a ≡ Stands t e → (ahead text false e).token ≡ Point true → q ≡ (ahead text false e).behind → a.at < e
    → IsCharBoundary text e → IsCharBoundary text q → p.stage ≡ stage.Value → p.at ≡ q → FixesEnd text i a (Ok p)
entry_fixes text i a t q e p seen cut st tk b low last end es pe = λ goes place other m near.
    let far = settled_value text false q place end.0 (settled_at text false p stage.Value q place es pe near) in
    let from = key_from text i a seen cut t q e st tk b low last end place far in
    let alike = key_alike text i a seen cut t q e st tk b low last end place far other m in
    (from, record { here = twin_ahead text place other m false i cut.0 from; further = λ h. absurd (no_scalar a Dots (ap (λ (x : Ahead). x.token) seen.0 ∙ h) refl (starts_of text (as_key false) a t e st).0) }, alike)

-- at the document's end nothing goes on
pub whole_fixes : (text : List ℕ) (i : ℕ) (a : Ahead) (r : Result Position Stop) → IfOk r (λ p. p.stage ≡ stage.Whole) → FixesEnd text i a r
whole_fixes text i a (Err e) h = tt
whole_fixes text i a (Ok p) h = λ goes place other m near. absurd (goes h)

-- ---- in flow

pub flow_other : (text : List ℕ) (place : ℕ) (other : List ℕ) (m : IsTwin text place other) (f : Form) (i : ℕ) (a : Ahead) → a.at ≤ place → i ≤ place → IsBehind f i → starts_scalar a.token ≡ false
    → ((len : ℕ) → a.token ≡ Tag len → (a.at < a.behind) × (a.behind ≤ place)) → SameFlowNode text other f i a
flow_other text place other m f i a low near o n named = record {
  name = λ len e. (let g = named len e in twin_name text place other m a.at a.behind g.0 g.1);
  cuts = twin_cuts text place other m f i o near;
  scalar = twin_other text place other m (setting_of f) a low n;
  point = λ t j st p. absurd (missed_other text (setting_of f) a n t j st);
}

pub flow_tag_fixes : (text : List ℕ) (f g : Form) (i len : ℕ) (a : Ahead) (fs gs : List Form) (u w : Unfinished) (r : Result Position Stop) → IsSeen text true i a → IsCharBoundary text i → IsBehind f i → a.token ≡ Tag len → TagBegun text g a fs u gs w r
    → FixesFlowNode text f i a r
flow_tag_fixes text f g i len a fs gs u w (Err e) seen cut o t h = tt
flow_tag_fixes text f g i len a fs gs u w (Ok p) seen cut o t (es, ej, eg, ew, d) = λ goes place other m near.
    let l : 0 < token_len a.token = subst (λ k. 0 < token_len k) (sym t) (omega arith) in
    let from = token_reach text true i a seen (ap is_marked t) l in
    let far = settled_value text true a.behind place seen.1.2.0 (settled_at text true p stage.Value a.behind place es ej near) in
    let first = place_from text true i a seen in
    let least = seen_least text i cut.0 in
    (omega (arith, from, far), flow_other text place other m f i a (omega (arith, first, from, far)) (omega (arith, least, from, far)) o (ap starts_scalar t) (λ len z. (token_over text true i a seen l, far)))

pub flow_opens_fixes : (text : List ℕ) (f : Form) (i : ℕ) (map : Bool) (a : Ahead) (fs gs : List Form) (u w : Unfinished) (r : Result Position Stop) → IsSeen text true i a → IsCharBoundary text i → IsBehind f i → a.token ≡ Opens map → Opened map a fs u gs w r
    → FixesFlowNode text f i a r
flow_opens_fixes text f i map a fs gs u w (Err e) seen cut o t h = tt
flow_opens_fixes text f i map a fs gs u w (Ok p) seen cut o t (es, ej, eg, ew, d) = λ goes place other m near.
    let far = opening_reach text true i a seen (Opens map) place t refl (settled_at text true p stage.Entry a.behind place es ej near) in
    let least = seen_least text i cut.0 in
    let from = far.0 in
    (from, flow_other text place other m f i a far.1 (omega (arith, least, from)) o (ap starts_scalar t) (λ len z. absurd (no_tag map len (sym t ∙ z)))) where
      no_tag : (map : Bool) (len : ℕ) → Opens map ≡ Tag len → ⊥
      no_tag map len z = absurd (cc)

flow_form : (f : Form) → IsFlow f → (setting_of f).flow ≡ true
flow_form Root k = absurd k
flow_form (Flow map) k = refl
flow_form (FlowTagged at) k = refl
flow_form (Items m) k = absurd k
flow_form (Entries m) k = absurd k
flow_form (Tagged at above shares) k = absurd k

flow_many : (f : Form) → IsFlow f → (setting_of f).one_line ≡ false
flow_many Root k = absurd k
flow_many (Flow map) k = refl
flow_many (FlowTagged at) k = refl
flow_many (Items m) k = absurd k
flow_many (Entries m) k = absurd k
flow_many (Tagged at above shares) k = absurd k

pub flow_scalar_fixes : (text : List ℕ) (f : Form) (i : ℕ) (a : Ahead) (cuts : Bool) (u w : Unfinished) (p : Position) → IsSeen text true i a → IsCharBoundary text i → IsFlow f → IsBehind f i → Holds text (setting_of f) cuts a u w (Ok p) → is_pointed text true a.at p.at ≡ false → FixesFlowNode text f i a (Ok p)
flow_scalar_fixes text f i a cuts u w p seen cut flow o (t, k, (st, hk, low, last), es, ew, room) none = λ goes place other m far.
    let near = settled_at text true p stage.After p.at place es refl far in
    let from = scalar_from text true i a seen cut (setting_of f) t p.at st low last in
    let to = settled_after text p.at place last.0 near in
    let all = scalar_out (setting_of f) text a.at t p.at (flow_form f flow) (flow_many f flow) (let l = last.0 in omega (arith, low, l)) last.0 (starts_of text (setting_of f) a t p.at st).1 none in
    let least = seen_least text i cut.0 in
    let first = place_from text true i a seen in (
      omega (arith, from, to),
      record {
        name = λ len g. absurd (no_scalar a (Tag len) g refl (starts_of text (setting_of f) a t p.at st).0);
        cuts = twin_cuts text place other m f i o (omega (arith, least, from, to));
        scalar = twin_scalar text place other m (setting_of f) a t p.at (omega (arith, first, from, to)) (omega (arith, all, near)) to st;
        point = λ x j st2 y. absurd (true≢false (sym y ∙ ap (is_pointed text true a.at) (sym (end_is t x p.at j (sym st ∙ st2))) ∙ none));
      },
    )

flow_ending_other : (t : Token) → is_flow_ending t ≡ true → starts_scalar t ≡ false
flow_ending_other End h = refl
flow_ending_other Dashes h = refl
flow_ending_other Dots h = refl
flow_ending_other Dash h = refl
flow_ending_other (Tag n) h = refl
flow_ending_other NoTag h = refl
flow_ending_other (Opens q) h = refl
flow_ending_other (Closes q) h = refl
flow_ending_other Comma h = refl
flow_ending_other (Point q) h = absurd (true≢false (sym h))
flow_ending_other Anchor h = refl
flow_ending_other Percent h = refl
flow_ending_other Tabbed h = refl
flow_ending_other Stray h = refl
flow_ending_other Other h = absurd (true≢false (sym h))

pub flow_null_fixes : (text : List ℕ) (f : Form) (i : ℕ) (a : Ahead) (u w : Unfinished) (r : Result Position Stop) → IsSeen text true i a → IsCharBoundary text i → IsBehind f i → is_flow_ending a.token ≡ true → Completes i u w r → FixesFlowNode text f i a r
flow_null_fixes text f i a u w (Err e) seen cut o n h = tt
flow_null_fixes text f i a u w (Ok p) seen cut o n (es, ej, ew) = λ goes place other m near.
    let far = settled_null text i place (ap (λ (b : Ahead). is_flow_ending b.token) (sym seen.0) ∙ n) (settled_at text true p stage.After i place es ej near) in
    let first = place_from text true i a seen in
    let least = seen_least text i cut.0 in
    (far, flow_other text place other m f i a (omega (arith, first, far)) (omega (arith, least, far)) o (flow_ending_other a.token n) (λ len t. absurd (true≢false (sym n ∙ ap is_flow_ending t))))

-- the bracket that closes, and a comma
pub closed_fixes : (text : List ℕ) (i : ℕ) (map : Bool) (a : Ahead) (fs gs : List Form) (u w : Unfinished) (r : Result Position Stop) → IsSeen text true i a → IsCharBoundary text i → a.token ≡ Closes map → Closed a.behind fs u gs w r → FixesEntry text map i a r
closed_fixes text i map a fs gs u w (Err e) seen cut t h = tt
closed_fixes text i map a fs gs u w (Ok p) seen cut t (es, ej, eg, ew) = λ goes place other m near.
    let l : 0 < token_len a.token = subst (λ k. 0 < token_len k) (sym t) (omega arith) in
    let from = token_reach text true i a seen (ap is_marked t) l in
    let far = settled_after text a.behind place seen.1.2.0 (settled_at text true p stage.After a.behind place es ej near) in
    let first = place_from text true i a seen in
    let least = seen_least text i cut.0 in
    let low : a.at ≤ place = omega (arith, first, from, far) in (
      omega (arith, from, far),
      (λ h. record {
        scalar = twin_other text place other m (as_key true) a low (ap starts_scalar t);
        quoted = twin_quoted text place other m a.at low;
        behind = λ x j k. absurd (missed_other text (as_key true) a (ap starts_scalar t) x j k);
        last = λ x j loose k z c. absurd (missed_other text (as_key true) a (ap starts_scalar t) x j k);
      }),
      (λ h. flow_other text place other m (Flow false) i a low (omega (arith, least, from, far)) tt (ap starts_scalar t) (λ len z. absurd (no_tag map len (sym t ∙ z)))),
    ) where
      no_tag : (map : Bool) (len : ℕ) → Closes map ≡ Tag len → ⊥
      no_tag map len z = absurd (cc)

pub closed_seen : (text : List ℕ) (i : ℕ) (map : Bool) (a : Ahead) (fs gs : List Form) (u w : Unfinished) (r : Result Position Stop) → IsSeen text true i a → a.token ≡ Closes map → Closed a.behind fs u gs w r → FixesSeen text i r
closed_seen text i map a fs gs u w (Err e) seen t h = tt
closed_seen text i map a fs gs u w (Ok p) seen t (es, ej, eg, ew) = λ goes place other m near.
    let from = token_reach text true i a seen (ap is_marked t) (subst (λ k. 0 < token_len k) (sym t) (omega arith)) in
    let far = settled_after text a.behind place seen.1.2.0 (settled_at text true p stage.After a.behind place es ej near) in
    omega (arith, from, far)

pub comma_seen : (text : List ℕ) (i : ℕ) (a : Ahead) (p : Position) → IsSeen text true i a → a.token ≡ Comma → p.stage ≡ stage.Entry → p.at ≡ a.behind → FixesSeen text i (Ok p)
comma_seen text i a p seen t es e = λ goes place other m near. (opening_reach text true i a seen Comma place t refl (settled_at text true p stage.Entry a.behind place es e near)).0

-- a key, and what is looked at behind it
key_ending : (t : Token) → ends_key t ≡ true → is_flow_ending t ≡ true
key_ending End h = absurd (true≢false (sym h))
key_ending Dashes h = refl
key_ending Dots h = refl
key_ending Dash h = absurd (true≢false (sym h))
key_ending (Tag n) h = absurd (true≢false (sym h))
key_ending NoTag h = absurd (true≢false (sym h))
key_ending (Opens q) h = absurd (true≢false (sym h))
key_ending (Closes q) h = refl
key_ending Comma h = refl
key_ending (Point q) h = absurd (true≢false (sym h))
key_ending Anchor h = absurd (true≢false (sym h))
key_ending Percent h = absurd (true≢false (sym h))
key_ending Tabbed h = absurd (true≢false (sym h))
key_ending Stray h = absurd (true≢false (sym h))
key_ending Other h = absurd (true≢false (sym h))

colon_near : (text : List ℕ) (quoted : Bool) (e q place : ℕ) → IsColon text quoted e q → IsCharBoundary text q → settled text true stage.Value q ≤ place → (ahead_seen text e ≤ place) × ((loose : Bool) → (ahead text true e).token ≡ Point loose → (ahead text true e).behind ≤ place)
colon_near text quoted e q place (inl (loose, t, h, b)) end near =
    let far = settled_value text true q place end.0 near in
    let z = seen_behind text true e (Point loose) t refl (omega arith) in
    (omega (arith, z, far, b), (λ l k. omega (arith, far, b)))
colon_near text quoted e q place (inr (t, b)) end near = (settled_ending text true e place (key_ending (ahead text true e).token t) (subst (λ n. settled text true stage.Value n ≤ place) b near), (λ l k. absurd (true≢false (sym t ∙ ap ends_key k))))

pub flow_key_fixes : (text : List ℕ) (i : ℕ) (a : Ahead) (quoted : Bool) (t : List ℕ) (q e : ℕ) (p : Position) → IsSeen text true i a → IsCharBoundary text i → scalar_ahead text (as_key true) a ≡ Stands t e → a.at < e → IsCharBoundary text e → IsColon text quoted e q
    → IsCharBoundary text q → p.stage ≡ stage.Value → p.at ≡ q → FixesFlowKey text i a (Ok p)
flow_key_fixes text i a quoted t q e p seen cut st low last colon end es pe = λ goes place other m near.
    let behind = colon_near text quoted e q place colon end (settled_at text true p stage.Value q place es pe near) in
    let near2 = behind.0 in
    let from = scalar_from text true i a seen cut (as_key true) t e st low last in
    let to = scalar_to text true i a seen cut (as_key true) t e st low last in
    let all = scalar_all text true i a seen cut (as_key true) t e st low last in
    let first = place_from text true i a seen in
    let here : a.at ≤ place = omega (arith, first, from, to, near2) in (
      omega (arith, from, to, near2),
      record {
        scalar = twin_scalar text place other m (as_key true) a t e here (omega (arith, all, near2)) (omega (arith, to, near2)) st;
        quoted = twin_quoted text place other m a.at here;
        behind = λ u j k. subst (λ n. ahead other true n ≡ ahead text true n) (end_is t u e j (sym st ∙ k)) (twin_ahead text place other m true e last.0 near2);
        last = λ u j loose k z c. twin_cut text place other m (ahead text true j).behind (subst (λ n. (ahead text true n).token ≡ Point loose → (ahead text true n).behind ≤ place) (end_is t u e j (sym st ∙ k)) (behind.1 loose) z) c;
      },
    )

-- an entry of a list, and of a map
pub node_entry_fixes : (text : List ℕ) (i : ℕ) (a : Ahead) (map : Bool) (r : Result Position Stop) → map ≡ false → FixesFlowNode text (Flow false) i a r → FixesEntry text map i a r
node_entry_fixes text i a map (Err e) n h = tt
node_entry_fixes text i a map (Ok p) n h = λ goes place other m near. let g = h goes place other m near in (g.0, (λ k. absurd (true≢false (sym k ∙ n))), (λ k. g.1))

pub key_entry_fixes : (text : List ℕ) (i : ℕ) (a : Ahead) (map : Bool) (r : Result Position Stop) → map ≡ true → FixesFlowKey text i a r → FixesEntry text map i a r
key_entry_fixes text i a map (Err e) n h = tt
key_entry_fixes text i a map (Ok p) n h = λ goes place other m near. let g = h goes place other m near in (g.0, (λ k. g.1), (λ k. absurd (true≢false (sym n ∙ k))))

-- ---- a step

pub apart : (f : Form) → IsBlock f → IsFlow f → ⊥
apart Root b k = k
apart (Flow map) b k = b
apart (FlowTagged at) b k = b
apart (Items m) b k = k
apart (Entries m) b k = k
apart (Tagged at above shares) b k = k

flow_true : (map : Bool) (f : Form) → f ≡ Flow map → (b : Bool) → f ≡ Flow b → map ≡ b
flow_true map f e b h = let z : Flow map ≡ Flow b = sym e ∙ h in cc

pub flow_in : (f : Form) → IsFlow f → in_flow f ≡ true
flow_in Root k = absurd k
flow_in (Flow map) k = refl
flow_in (FlowTagged at) k = refl
flow_in (Items m) k = absurd k
flow_in (Entries m) k = absurd k
flow_in (Tagged at above shares) k = absurd k

block_out : (f : Form) → IsBlock f → in_flow f ≡ false
block_out Root k = refl
block_out (Flow map) k = absurd k
block_out (FlowTagged at) k = absurd k
block_out (Items m) k = refl
block_out (Entries m) k = refl
block_out (Tagged at above shares) k = refl

pub entry_step : (text : List ℕ) (f : Form) (i : ℕ) (map : Bool) (r : Result Position Stop) → f ≡ Flow map → IsCharBoundary text i → FixesEntry text map i (ahead text true i) r → FixesStep text stage.Entry f i r
entry_step text f i map (Err e) form cut h = tt
entry_step text f i map (Ok p) form cut h = λ goes place other m near.
    let g = h goes place other m (subst (λ q. settled text q p.stage p.at ≤ place) (ap in_flow form) near) in
    (g.0, (twin_ahead text place other m true i cut.0 g.0, (λ k. g.1 (flow_true map f form true k)), (λ k. g.2 (flow_true map f form false k))))

pub value_step : (text : List ℕ) (f : Form) (i : ℕ) (r : Result Position Stop) → IsBlock f → IsCharBoundary text i → FixesNode text f i (ahead text false i) r → FixesStep text stage.Value f i r
value_step text f i (Err e) block cut h = tt
value_step text f i (Ok p) block cut h = λ goes place other m near.
    let g = h goes place other m (subst (λ q. settled text q p.stage p.at ≤ place) (block_out f block) near) in
    (g.0, ((λ k. absurd (apart f block k)), (λ k. (twin_ahead text place other m false i cut.0 g.0, g.1))))

pub flow_value_step : (text : List ℕ) (f : Form) (i : ℕ) (r : Result Position Stop) → IsFlow f → IsCharBoundary text i → FixesFlowNode text f i (ahead text true i) r → FixesStep text stage.Value f i r
flow_value_step text f i (Err e) flow cut h = tt
flow_value_step text f i (Ok p) flow cut h = λ goes place other m near.
    let g = h goes place other m (subst (λ q. settled text q p.stage p.at ≤ place) (flow_in f flow) near) in
    (g.0, ((λ k. (twin_ahead text place other m true i cut.0 g.0, g.1)), (λ k. absurd (apart f k flow))))

pub after_step : (text : List ℕ) (f : Form) (i : ℕ) (r : Result Position Stop) → IsBlock f → FixesEnd text i (ahead text false i) r → FixesStep text stage.After f i r
after_step text f i (Err e) block h = tt
after_step text f i (Ok p) block h = λ goes place other m near. let g = h goes place other m (subst (λ q. settled text q p.stage p.at ≤ place) (block_out f block) near) in (g.0, ((λ k. absurd (apart f block k)), (λ k. (g.1, g.2))))

pub flow_after_step : (text : List ℕ) (f : Form) (i : ℕ) (r : Result Position Stop) → IsFlow f → IsCharBoundary text i → FixesSeen text i r → FixesStep text stage.After f i r
flow_after_step text f i (Err e) flow cut h = tt
flow_after_step text f i (Ok p) flow cut h = λ goes place other m near. let g = h goes place other m (subst (λ q. settled text q p.stage p.at ≤ place) (flow_in f flow) near) in (g, ((λ k. twin_ahead text place other m true i cut.0 g), (λ k. absurd (apart f k flow))))
