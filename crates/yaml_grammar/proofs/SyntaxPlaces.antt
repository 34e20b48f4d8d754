-- Where reading stops and no sign counts, and no carriage return ends the text: the place is one at which the text is no document. By the stages and what is ahead.
use Rattle.std.proofs.Common.{◌≡◌, ℕ, ◌+◌, ◌-◌, ◌<◌, ◌≤◌, ◌⊎◌, inl, inr, Bool, true, false, ◌||◌, ◌&&◌, not, cond, List, [], ◌∷◌, Some, drop, length, refl, sym, ap, ◌∙◌, subst, true≢false, arith, append-nil}
use Rattle.std.proofs.lemmas.Bool.{cases_lt}
use Rattle.std.specs.Prelude.{Err}
use Rattle.std.specs.Str.{IsCharBoundary, IsUtf8}
use Rattle.doc_values.specs.declared.kind.Kind.TheVariants as kind
use Rattle.doc_values.specs.Tree.{Nil}
use Rattle.doc_values.specs.Unfinished.{Unfinished, with_value, with_end}
use Rattle.yaml_scalars.specs.Lines.{Line, lines, ends_with, is_mark, is_white, lead, past_white}
use Rattle.yaml_scalars.specs.Scalar.{is_first_column}
use Rattle.yaml_grammar.specs.declared.ahead.Ahead.{Ahead}
use Rattle.yaml_grammar.specs.declared.ahead.Token.{Token}
use Rattle.yaml_grammar.specs.declared.ahead.Token.TheVariants.{End, Dashes, Dots, Dash, Tag, NoTag, Opens, Closes, Comma, Point, Anchor, Percent, Tabbed, Stray, Other}
use Rattle.yaml_grammar.specs.declared.form.Form.{Form}
use Rattle.yaml_grammar.specs.declared.form.Form.TheVariants.{Root, Flow, FlowTagged, Items, Entries, Tagged}
use Rattle.yaml_grammar.specs.declared.stage.Stage.{Stage}
use Rattle.yaml_grammar.specs.declared.stage.Stage.TheVariants as stage
use Rattle.yaml_grammar.specs.declared.stage.Position.{Position}
use Rattle.yaml_grammar.specs.declared.stop.Stop.TheVariants as stop
use Rattle.yaml_grammar.specs.Ahead.{is_passed, mark_of, token_at, token_of, content_ahead, line_ahead, rest_ahead, ahead}
use Rattle.yaml_grammar.specs.Nodes.{leaf, is_marked}
use Rattle.yaml_grammar.specs.Signs.{Sign, Tab, ManyDocuments, Reading, Tree, Refused, To}
use Rattle.yaml_grammar.specs.Yaml.{late_sign, sign_behind, end_sign, IsEnd, IsStart}
use Rattle.yaml_grammar.specs.code.AheadSeen.{ahead_seen, is_told}
use Rattle.yaml_grammar.specs.code.Closers.{in_flow}
use Rattle.yaml_grammar.specs.code.Extends.{root_seen}
use Rattle.yaml_grammar.specs.Places.{IsSyntax}
use Rattle.yaml_grammar.specs.code.Points.{is_last_point, is_point}
use Rattle.yaml_grammar.specs.code.Rest.{top, Ends, Awaits}
use Rattle.yaml_grammar.specs.code.Steps.{IsBlock, IsFlow, IsSpelled, Open, Rest, Fits, is_ending, is_flow_ending, is_open}
use Rattle.yaml_grammar.specs.code.Twins.{LengthensAt, NoRest, Stops, settled}
use Rattle.yaml_grammar.proofs.AheadEnds.{end_flows}
use Rattle.yaml_grammar.proofs.AheadOrder.{seen_mark, unmarked}
use Rattle.yaml_grammar.proofs.Back.{Grows, flow_or_block, end_follows, end_short}
use Rattle.yaml_grammar.proofs.BlockGains.{all_quiet}
use Rattle.yaml_grammar.proofs.Completions.{over_end, null_node}
use Rattle.yaml_grammar.proofs.Continuations.{block_ends}
use Rattle.yaml_grammar.proofs.EndPlaces.{length_short, last_dead}
use Rattle.yaml_grammar.proofs.Gains.{TagOn, tag_popped, tag_both, marked_after_gives}
use Rattle.yaml_grammar.proofs.LastBytes.{stray_told, stray_within}
use Rattle.yaml_grammar.proofs.Lengthened.{told_at}
use Rattle.yaml_grammar.proofs.Lives.{none_twin}
use Rattle.yaml_grammar.proofs.LivesOn.{LivesOn, lives_of}
use Rattle.yaml_grammar.proofs.MarkTexts.{twins_dead}
use Rattle.yaml_grammar.proofs.Placed.{placed}
use Rattle.yaml_grammar.proofs.Quiet.{over_ends}
use Rattle.yaml_grammar.proofs.Pointed.{point_of}
use Rattle.yaml_grammar.proofs.RootLonger.{root_least}
use Rattle.yaml_grammar.proofs.Settled.{is_opening, opening_seen, settled_least, settled_point}
use Rattle.yaml_grammar.proofs.FlowLengthens.{is_outer, inner_ahead}

-- ---- what is ahead

-- something stands ahead in front of the text's length
pub end_there : (text : List ℕ) → (ahead text false (length text)).token ≡ End
end_there text = ap (λ t. (ahead t false (length text)).token) (sym (append-nil text)) ∙ (over_end text).1

pub some_ahead : (text : List ℕ) (flow : Bool) (i : ℕ) → i ≤ length text → ((ahead text flow i).token ≡ End → ⊥) → i < length text
some_ahead text flow i low n = by_order (cases_lt i (length text)) where
  by_order : (i < length text) ⊎ (length text ≤ i) → i < length text
  by_order (inl l) = l
  by_order (inr l) = absurd (n (end_flows false flow text i (let e : i ≡ length text = omega (arith, l, low) in ap (λ k. (ahead text false k).token) e ∙ end_there text)))

-- a token between brackets
pub flow_kind : (t : Token) → is_outer t ≡ false → (t ≡ End) ⊎ ((is_marked t ≡ true) ⊎ ((t ≡ Stray) ⊎ ((is_told t ≡ true) × (((loose : Bool) → t ≡ Point loose → ⊥) → is_open t ≡ false) × (is_flow_ending t ≡ true → is_opening t ≡ true))))
flow_kind End o = inl refl
flow_kind Dashes o = inr (inl refl)
flow_kind Dots o = inr (inl refl)
flow_kind Stray o = inr (inr (inl refl))
flow_kind Tabbed o = absurd (true≢false o)
flow_kind Dash o = absurd (true≢false o)
flow_kind (Tag n) o = inr (inr (inr (refl, (λ p. refl), (λ e. absurd (true≢false (sym e))))))
flow_kind NoTag o = inr (inr (inr (refl, (λ p. refl), (λ e. absurd (true≢false (sym e))))))
flow_kind (Opens q) o = inr (inr (inr (refl, (λ p. refl), (λ e. absurd (true≢false (sym e))))))
flow_kind (Closes q) o = inr (inr (inr (refl, (λ p. refl), (λ e. refl))))
flow_kind Comma o = inr (inr (inr (refl, (λ p. refl), (λ e. refl))))
flow_kind (Point q) o = inr (inr (inr (refl, (λ p. absurd (p q refl)), (λ e. absurd (true≢false (sym e))))))
flow_kind Anchor o = inr (inr (inr (refl, (λ p. refl), (λ e. absurd (true≢false (sym e))))))
flow_kind Percent o = inr (inr (inr (refl, (λ p. refl), (λ e. absurd (true≢false (sym e))))))
flow_kind Other o = inr (inr (inr (refl, (λ p. refl), (λ e. absurd (true≢false (sym e))))))

-- a mark is one in flow and outside of it
line_marked : (size : ℕ) (ls : List Line) → is_marked (line_ahead true size ls).token ≡ true → is_marked (line_ahead false size ls).token ≡ true
line_marked size [] h = h
line_marked size (l ∷ ls) h = by_tests (is_mark l.bytes) (is_passed true l.bytes) h (line_marked size ls) where
  by_tests : (q r : Bool) → is_marked (cond q (token_at (mark_of l.bytes) true 0 l.at) (cond r (line_ahead true size ls) (content_ahead true l.at l.bytes))).token ≡ true
      → (is_marked (line_ahead true size ls).token ≡ true → is_marked (line_ahead false size ls).token ≡ true) → is_marked (cond q (token_at (mark_of l.bytes) true 0 l.at) (cond r (line_ahead false size ls) (content_ahead false l.at l.bytes))).token ≡ true
  by_tests true r h g = h
  by_tests false true h g = g h
  by_tests false false h g = absurd (true≢false (sym h ∙ unmarked true (past_white l.bytes)))

pub marks_flow : (text : List ℕ) (i : ℕ) → is_marked (ahead text true i).token ≡ true → is_marked (ahead text false i).token ≡ true
marks_flow text i h = by_column (is_first_column text i) (lines i (drop i text)) h where
  by_rest : (ls : List Line) → is_marked (rest_ahead true (length text) ls).token ≡ true → is_marked (rest_ahead false (length text) ls).token ≡ true
  by_rest [] h = h
  by_rest (l ∷ ls) h = by_test (is_passed false l.bytes) h where
    by_test : (r : Bool) → is_marked (cond r (line_ahead true (length text) ls) (token_at (token_of true (past_white l.bytes)) false (lead is_white l.bytes) (l.at + lead is_white l.bytes))).token ≡ true
        → is_marked (cond r (line_ahead false (length text) ls) (token_at (token_of false (past_white l.bytes)) false (lead is_white l.bytes) (l.at + lead is_white l.bytes))).token ≡ true
    by_test true h = line_marked (length text) ls h
    by_test false h = absurd (true≢false (sym h ∙ unmarked true (past_white l.bytes)))

  by_column : (q : Bool) (ls : List Line) → is_marked (cond q (line_ahead true (length text) ls) (rest_ahead true (length text) ls)).token ≡ true → is_marked (cond q (line_ahead false (length text) ls) (rest_ahead false (length text) ls)).token ≡ true
  by_column true ls h = line_marked (length text) ls h
  by_column false ls h = by_rest ls h

pub marked_untold : (t : Token) → is_marked t ≡ true → is_told t ≡ true → ⊥
marked_untold Dashes m h = true≢false (sym h)
marked_untold Dots m h = true≢false (sym h)
marked_untold End m h = true≢false (sym m)
marked_untold Dash m h = true≢false (sym m)
marked_untold (Tag n) m h = true≢false (sym m)
marked_untold NoTag m h = true≢false (sym m)
marked_untold (Opens q) m h = true≢false (sym m)
marked_untold (Closes q) m h = true≢false (sym m)
marked_untold Comma m h = true≢false (sym m)
marked_untold (Point q) m h = true≢false (sym m)
marked_untold Anchor m h = true≢false (sym m)
marked_untold Percent m h = true≢false (sym m)
marked_untold Tabbed m h = true≢false (sym m)
marked_untold Stray m h = true≢false (sym m)
marked_untold Other m h = true≢false (sym m)

-- outside of brackets a value that a token is ahead of, which its bytes tell, is settled within the text
pub near_value : (text : List ℕ) (i : ℕ) → IsUtf8 text → IsCharBoundary text i → ends_with 13 text ≡ false → is_told (ahead text false i).token ≡ true → settled text false stage.Value i ≤ length text - 1
near_value text i utf8 cut last t = by_order (cases_lt (ahead_seen text i) (length text)) where
  there : i < length text
  there = some_ahead text false i cut.0 (λ k. true≢false (sym t ∙ ap is_told k))

  by_kind : length text ≤ ahead_seen text i → is_flow_ending (ahead text true i).token ≡ true
      → ((ahead text true i).token ≡ End) ⊎ ((is_marked (ahead text true i).token ≡ true) ⊎ (((ahead text true i).token ≡ Stray) ⊎ ((is_told (ahead text true i).token ≡ true) × (((loose : Bool) → (ahead text true i).token ≡ Point loose → ⊥) → is_open (ahead text true i).token ≡ false) × (is_flow_ending (ahead text true i).token ≡ true → is_opening (ahead text true i).token ≡ true)))) → ⊥
  by_kind far e (inl k) = true≢false (sym e ∙ ap is_flow_ending k)
  by_kind far e (inr (inl m)) = marked_untold (ahead text false i).token (marks_flow text i m) t
  by_kind far e (inr (inr (inl k))) = true≢false (sym e ∙ ap is_flow_ending k)
  by_kind far e (inr (inr (inr (h, w, g)))) = (let z = opening_seen text true i (g e) in let y = told_at text true i h in omega (arith, z, y, far))

  by_flow : length text ≤ ahead_seen text i → (r : Bool) → is_flow_ending (ahead text true i).token ≡ r → cond r (ahead_seen text i) i ≤ length text - 1
  by_flow far true e = absurd (by_kind far e (flow_kind (ahead text true i).token (inner_ahead text i)))
  by_flow far false e = let l = there in omega (arith, l)

  by_order : (ahead_seen text i < length text) ⊎ (length text ≤ ahead_seen text i) → settled text false stage.Value i ≤ length text - 1
  by_order (inl l) = let z = settled_least text false stage.Value i cut.0 in omega (arith, z, l)
  by_order (inr far) = by_flow far (is_flow_ending (ahead text true i).token) refl

-- ---- where the document may end, something follows

module _ (text : List ℕ) (utf8 : IsUtf8 text) (i : ℕ) (cut : IsCharBoundary text i) (last : ends_with 13 text ≡ false) where
  abbrev next : Ahead
  next = ahead text false (ahead text false i).behind

  -- it ends there, or a sign stands there, if all bytes are looked at for it
  ending_over : is_ending (ahead text false i).token ≡ true → length text ≤ ahead_seen text i → IsEnd text i ⊎ ((s : Sign) × (end_sign text i ≡ Some s))
  ending_over e far = by_token (ahead text false i).token refl e where
    sign_is : (t : Token) → (ahead text false i).token ≡ t → (s : Sign) → sign_behind (ahead text false i) next t ≡ Some s → IsEnd text i ⊎ ((s : Sign) × (end_sign text i ≡ Some s))
    sign_is t k s h = inr (s, ap (sign_behind (ahead text false i) next) k ∙ h)

    stray : (ahead text false i).token ≡ Dots → next.token ≡ Stray → ⊥
    stray k m = by_order (cases_lt (ahead_seen text (ahead text false i).behind) (length text)) where
      by_order : (ahead_seen text (ahead text false i).behind < length text) ⊎ (length text ≤ ahead_seen text (ahead text false i).behind) → ⊥
      by_order (inl l) = let z = seen_mark text false i (ahead_seen text (ahead text false i).behind) (ap is_marked k) l (omega arith) in omega (arith, z, l, far)
      by_order (inr l) = stray_within text false (ahead text false i).behind utf8 (placed text false i utf8 cut).2 last m l

    by_next : (ahead text false i).token ≡ Dots → (t : Token) → next.token ≡ t → IsEnd text i ⊎ ((s : Sign) × (end_sign text i ≡ Some s))
    by_next k End m = inl (inr (k, m))
    by_next k Stray m = absurd (stray k m)
    by_next k Tabbed m = sign_is Dots k (Tab next.at) (ap (late_sign (ahead text false i).at next) m)
    by_next k Dashes m = sign_is Dots k _ (ap (late_sign (ahead text false i).at next) m)
    by_next k Dots m = sign_is Dots k _ (ap (late_sign (ahead text false i).at next) m)
    by_next k Dash m = sign_is Dots k _ (ap (late_sign (ahead text false i).at next) m)
    by_next k (Tag n) m = sign_is Dots k _ (ap (late_sign (ahead text false i).at next) m)
    by_next k NoTag m = sign_is Dots k _ (ap (late_sign (ahead text false i).at next) m)
    by_next k (Opens q) m = sign_is Dots k _ (ap (late_sign (ahead text false i).at next) m)
    by_next k (Closes q) m = sign_is Dots k _ (ap (late_sign (ahead text false i).at next) m)
    by_next k Comma m = sign_is Dots k _ (ap (late_sign (ahead text false i).at next) m)
    by_next k (Point q) m = sign_is Dots k _ (ap (late_sign (ahead text false i).at next) m)
    by_next k Anchor m = sign_is Dots k _ (ap (late_sign (ahead text false i).at next) m)
    by_next k Percent m = sign_is Dots k _ (ap (late_sign (ahead text false i).at next) m)
    by_next k Other m = sign_is Dots k _ (ap (late_sign (ahead text false i).at next) m)

    by_token : (t : Token) → (ahead text false i).token ≡ t → is_ending t ≡ true → IsEnd text i ⊎ ((s : Sign) × (end_sign text i ≡ Some s))
    by_token End k h = inl (inl k)
    by_token Dashes k h = sign_is Dashes k (ManyDocuments (ahead text false i).at) refl
    by_token Tabbed k h = sign_is Tabbed k (Tab (ahead text false i).at) refl
    by_token Dots k h = by_next k next.token refl
    by_token Stray k h = absurd (true≢false (sym h))
    by_token Dash k h = absurd (true≢false (sym h))
    by_token (Tag n) k h = absurd (true≢false (sym h))
    by_token NoTag k h = absurd (true≢false (sym h))
    by_token (Opens q) k h = absurd (true≢false (sym h))
    by_token (Closes q) k h = absurd (true≢false (sym h))
    by_token Comma k h = absurd (true≢false (sym h))
    by_token (Point q) k h = absurd (true≢false (sym h))
    by_token Anchor k h = absurd (true≢false (sym h))
    by_token Percent k h = absurd (true≢false (sym h))
    by_token Other k h = absurd (true≢false (sym h))

  ending_reading : (fs : List Form) (u : Unfinished) → IsBlock (top fs) → Open fs u → is_ending (ahead text false i).token ≡ true → length text ≤ ahead_seen text i → (v : Reading) × Ends text fs u.outer u.done i v
  ending_reading fs u block open_ e far = by_over (ending_over e far) where
    by_over : IsEnd text i ⊎ ((s : Sign) × (end_sign text i ≡ Some s)) → (v : Reading) × Ends text fs u.outer u.done i v
    by_over (inl h) = let r = block_ends fs u.outer u.done text i h block open_.0 open_.1 in (Tree r.0, r.1)
    by_over (inr (s, h)) = (Refused s, over_ends text fs u.outer u.done i s (all_quiet text (ahead text false i) fs open_.1 block e) open_.0 h)

-- between brackets a mark is a sign
marked_reading : (text : List ℕ) (i : ℕ) (fs : List Form) (u : Unfinished) → IsFlow (top fs) → Open fs u → is_marked (ahead text true i).token ≡ true → (v : Reading) × Ends text fs u.outer u.done i v
marked_reading text i fs u flow open_ m = by_forms fs flow open_ where
  reading : (gs : List Form) (w : Unfinished) (map : Bool) → top gs ≡ Flow map → Open gs w → (v : Reading) × Ends text gs w.outer w.done i v
  reading gs w map e o = (Refused (ManyDocuments (ahead text true i).at), (marked_after_gives text map gs w i (ahead text true i).at (ahead text true i) refl refl m e o).0)

  by_forms : (fs : List Form) → IsFlow (top fs) → Open fs u → (v : Reading) × Ends text fs u.outer u.done i v
  by_forms [] f o = absurd f
  by_forms (Root ∷ gs) f o = absurd f
  by_forms (Items k ∷ gs) f o = absurd f
  by_forms (Entries k ∷ gs) f o = absurd f
  by_forms (Tagged at above shares ∷ gs) f o = absurd f
  by_forms (Flow map ∷ gs) f o = reading (Flow map ∷ gs) u map refl o
  by_forms (FlowTagged p ∷ gs) f o =
      let on : TagOn p (FlowTagged p ∷ gs) gs u = (FlowTagged p, refl, refl, o) in
      let below = tag_popped p (FlowTagged p ∷ gs) gs u (with_end u) on refl in
      let r = reading gs (with_end u) below.2.0 below.2.1 below.0 in
      (r.0, (tag_both text p (FlowTagged p ∷ gs) gs u (with_end u) i on refl r.0).1 r.1)

-- where a value may stand, and may be missing, what follows behind nothing follows
missing_reading : (text : List ℕ) (fs : List Form) (u : Unfinished) (i : ℕ) → (top fs ≡ Root → ⊥) → (top fs ≡ Flow false → ⊥) → (v : Reading) × Ends text fs (with_value kind.Null [] i u).outer (with_value kind.Null [] i u).done i v → (v : Reading) × Awaits text fs u.outer u.done u.key i v
missing_reading text fs u i root list (v, h) = (v, (leaf kind.Null [] u.key i, Nil, To i, null_node text (top fs) (length u.outer) u.key i root list, h))

-- ---- where reading stops

module _ (text : List ℕ) (p : Position) (fs : List Form) (u : Unfinished) (q : ℕ) (utf8 : IsUtf8 text) (lives : LivesOn text p fs u) (grows : Grows text p fs u) (goes : p.stage ≡ stage.Whole → ⊥) (fits : Fits text p.stage fs u p.at) (cut : IsCharBoundary text p.at)
    (nothing : (v : Reading) → Rest text p.stage fs u p.at v → ⊥) (stops : Stops text p.at (NoRest p.stage fs u p.at) (Err (stop.Unread q))) (last : ends_with 13 text ≡ false) (says : LengthensAt text p.stage fs u p.at q) where
  -- where what settles the position lies within the text
  near_syntax : 0 < length text → settled text (in_flow (top fs)) p.stage p.at ≤ length text - 1 → (fs ≡ [] → IsStart text p.at → root_seen text p.at < length text) → IsSyntax text q
  near_syntax some near root = by_stop stops where
    by_stop : Stops text p.at (NoRest p.stage fs u p.at) (Err (stop.Unread q)) → IsSyntax text q
    by_stop (inl (inl e)) = length_short text p fs u utf8 lives goes some near root last q says e
    by_stop (inl (inr l)) = last_dead text p fs u utf8 lives goes some near root last q says l
    by_stop (inr (l, (place, past, from, none))) = inl (twins_dead text place q utf8 l past (none_twin text p fs u place (lives_of text p fs u cut.0 lives) goes from none))

  -- between brackets, where nothing is ahead
  end_syntax : IsFlow (top fs) → (ahead text true p.at).token ≡ End → IsSyntax text q
  end_syntax flow end = by_stop stops where
    by_stop : Stops text p.at (NoRest p.stage fs u p.at) (Err (stop.Unread q)) → IsSyntax text q
    by_stop (inl (inl e)) = inr (e, (end_short text p fs u utf8 grows goes fits cut.0 flow end last).1)
    by_stop (inl (inr l)) = (let f = end_follows text p fs u utf8 grows goes fits cut.0 flow end last in absurd ((says last).1 l f.0 f.1 f.2.2 f.2.1 f.3.0 f.3.1))
    by_stop (inr (l, (place, past, from, none))) = inl (twins_dead text place q utf8 l past (none_twin text p fs u place (lives_of text p fs u cut.0 lives) goes from none))

  root_or_not : (f : Form) → (f ≡ Root) ⊎ (f ≡ Root → ⊥)
  root_or_not Root = inl refl
  root_or_not (Flow map) = inr (λ e. absurd (cc))
  root_or_not (FlowTagged at) = inr (λ e. absurd (cc))
  root_or_not (Items m) = inr (λ e. absurd (cc))
  root_or_not (Entries m) = inr (λ e. absurd (cc))
  root_or_not (Tagged at above shares) = inr (λ e. absurd (cc))

  abbrev Near : Stage → Type 0
  Near s = (settled text (in_flow (top fs)) s p.at ≤ length text - 1) → (fs ≡ [] → IsStart text p.at → root_seen text p.at < length text) → IsSyntax text q

  -- between brackets all else is settled within the text
  flow_syntax : IsFlow (top fs) → length text ≤ ahead_seen text p.at → (s : Stage) → (s ≡ stage.Whole → ⊥) → Fits text s fs u p.at → ((v : Reading) → Rest text s fs u p.at v → ⊥) → (0 < length text → Near s) → IsSyntax text q
  flow_syntax flow far s open_ fit none near = by_kind (flow_kind (ahead text true p.at).token (inner_ahead text p.at)) where
    in_flow_is : (f : Form) → IsFlow f → in_flow f ≡ true
    in_flow_is Root k = absurd k
    in_flow_is (Flow map) k = refl
    in_flow_is (FlowTagged at) k = refl
    in_flow_is (Items m) k = absurd k
    in_flow_is (Entries m) k = absurd k
    in_flow_is (Tagged at above shares) k = absurd k

    rooted : fs ≡ [] → IsStart text p.at → root_seen text p.at < length text
    rooted e = absurd (subst (λ (x : List Form). IsFlow (top x)) e flow)

    root_free : top fs ≡ Root → ⊥
    root_free e = subst IsFlow e flow

    marked : is_marked (ahead text true p.at).token ≡ true → (s : Stage) → (s ≡ stage.Whole → ⊥) → Fits text s fs u p.at → ((v : Reading) → Rest text s fs u p.at v → ⊥) → (0 < length text → Near s) → p.at < length text → IsSyntax text q
    marked m stage.Entry o fit none near l = near (omega (arith, l)) (omega (arith, l)) rooted
    marked m stage.Value o fit none near l = (let r = missing_reading text fs u p.at root_free fit.1 (marked_reading text p.at fs (with_value kind.Null [] p.at u) flow fit.0 m) in absurd (none r.0 r.1))
    marked m stage.After o fit none near l = (let r = marked_reading text p.at fs u flow fit.0 m in absurd (none r.0 r.1))
    marked m stage.Whole o fit none near l = absurd (o refl)

    told : is_told (ahead text true p.at).token ≡ true → (((loose : Bool) → (ahead text true p.at).token ≡ Point loose → ⊥) → is_open (ahead text true p.at).token ≡ false) → (is_flow_ending (ahead text true p.at).token ≡ true → is_opening (ahead text true p.at).token ≡ true)
        → (s : Stage) → (s ≡ stage.Whole → ⊥) → (0 < length text → Near s) → p.at < length text → IsSyntax text q
    told t n o stage.Entry w near l = near (omega (arith, l)) (omega (arith, l)) rooted
    told t n o stage.Value w near l = by_ending (is_flow_ending (ahead text true p.at).token) refl (near (omega (arith, l))) where
      by_ending : (r : Bool) → is_flow_ending (ahead text true p.at).token ≡ r → (cond r (ahead_seen text p.at) p.at ≤ length text - 1 → (fs ≡ [] → IsStart text p.at → root_seen text p.at < length text) → IsSyntax text q) → IsSyntax text q
      by_ending true e near = (let z = opening_seen text true p.at (o e) in let y = told_at text true p.at t in absurd (omega (arith, z, y, far)))
      by_ending false e near = near (omega (arith, l)) rooted
    told t n o stage.After w near l = near (omega (arith, l)) (subst (λ r. settled text r stage.After p.at ≤ length text - 1) (sym (in_flow_is (top fs) flow)) (by_point (is_point (ahead text true p.at).token) refl)) rooted where
      there : (ahead text true p.at).at < length text
      there = told_at text true p.at t

      by_last : is_open (ahead text true p.at).token ≡ false → (r : Bool) → cond (r || (true && not (is_open (ahead text true p.at).token))) (ahead text true p.at).at (ahead_seen text p.at) ≤ length text - 1
      by_last shut true = let y = there in omega (arith, y)
      by_last shut false = subst (λ r. cond (true && not r) (ahead text true p.at).at (ahead_seen text p.at) ≤ length text - 1) (sym shut) (let y = there in omega (arith, y))

      by_point : (r : Bool) → is_point (ahead text true p.at).token ≡ r → settled text true stage.After p.at ≤ length text - 1
      by_point true k = let z = point_of (ahead text true p.at).token k in let y = settled_point text p.at z.0 utf8 cut z.1 in omega (arith, y)
      by_point false k = by_last (n (λ loose e. true≢false (sym (ap is_point e) ∙ k))) (is_last_point text true (ahead text true p.at))
    told t n o stage.Whole w near l = absurd (w refl)

    by_kind : ((ahead text true p.at).token ≡ End) ⊎ ((is_marked (ahead text true p.at).token ≡ true) ⊎ (((ahead text true p.at).token ≡ Stray) ⊎ ((is_told (ahead text true p.at).token ≡ true) × (((loose : Bool) → (ahead text true p.at).token ≡ Point loose → ⊥) → is_open (ahead text true p.at).token ≡ false) × (is_flow_ending (ahead text true p.at).token ≡ true → is_opening (ahead text true p.at).token ≡ true))))
        → IsSyntax text q
    by_kind (inl e) = end_syntax flow e
    by_kind (inr (inl m)) = marked m s open_ fit none near (some_ahead text true p.at cut.0 (λ e. true≢false (sym m ∙ ap is_marked e)))
    by_kind (inr (inr (inl k))) = absurd (stray_within text true p.at utf8 cut last k far)
    by_kind (inr (inr (inr (t, n, o)))) = told t n o s open_ near (some_ahead text true p.at cut.0 (λ e. true≢false (sym t ∙ ap is_told e)))

  -- outside of brackets, but where a token behind a node is looked at as far as the text's end
  block_syntax : IsBlock (top fs) → length text ≤ ahead_seen text p.at → (s : Stage) → (s ≡ stage.Whole → ⊥) → Fits text s fs u p.at → ((v : Reading) → Rest text s fs u p.at v → ⊥) → (0 < length text → Near s) → (s ≡ stage.Value → fs ≡ [] → IsStart text p.at → is_told (ahead text false p.at).token ≡ true → root_seen text p.at < length text)
      → (is_told (ahead text false p.at).token ≡ true → s ≡ stage.After → IsSyntax text q) → IsSyntax text q
  block_syntax block far s open_ fit none near rooted torn = by_ending (is_ending (ahead text false p.at).token) refl where
    no_entry : (map : Bool) → top fs ≡ Flow map → ⊥
    no_entry map e = subst IsBlock e block

    ended : is_ending (ahead text false p.at).token ≡ true → (s : Stage) → (s ≡ stage.Whole → ⊥) → Fits text s fs u p.at → ((v : Reading) → Rest text s fs u p.at v → ⊥) → IsSyntax text q
    ended e stage.Entry o fit none = absurd (no_entry fit.1.0 fit.1.1)
    ended e stage.Value o fit none = by_root (root_or_not (top fs)) where
      by_root : (top fs ≡ Root) ⊎ (top fs ≡ Root → ⊥) → IsSyntax text q
      by_root (inl r) = (let z = subst (λ (f : Form). IsSpelled text f p.at) r fit.4 in absurd (true≢false (sym e ∙ z)))
      by_root (inr n) = (let r = missing_reading text fs u p.at n fit.1 (ending_reading text utf8 p.at cut last fs (with_value kind.Null [] p.at u) block fit.0 e far) in absurd (none r.0 r.1))
    ended e stage.After o fit none = (let r = ending_reading text utf8 p.at cut last fs u block fit.0 e far in absurd (none r.0 r.1))
    ended e stage.Whole o fit none = absurd (o refl)

    told : is_told (ahead text false p.at).token ≡ true → p.at < length text → (s : Stage) → (s ≡ stage.Whole → ⊥) → Fits text s fs u p.at → (0 < length text → Near s) → (s ≡ stage.Value → fs ≡ [] → IsStart text p.at → is_told (ahead text false p.at).token ≡ true → root_seen text p.at < length text) → (s ≡ stage.After → IsSyntax text q) → IsSyntax text q
    told t l stage.Entry o fit near rooted torn = absurd (no_entry fit.1.0 fit.1.1)
    told t l stage.After o fit near rooted torn = torn refl
    told t l stage.Whole o fit near rooted torn = absurd (o refl)
    told t l stage.Value o fit near rooted torn = near (omega (arith, l)) (near_value text p.at utf8 cut last t) (λ e st. rooted refl e st t)

    by_ending : (r : Bool) → is_ending (ahead text false p.at).token ≡ r → IsSyntax text q
    by_ending true e = ended e s open_ fit none
    by_ending false e = by_told (stray_told (ahead text false p.at).token e) where
      by_told : (is_told (ahead text false p.at).token ≡ true) ⊎ ((ahead text false p.at).token ≡ Stray) → IsSyntax text q
      by_told (inl t) = told t (some_ahead text false p.at cut.0 (λ k. true≢false (sym t ∙ ap is_told k))) s open_ fit near rooted (torn t)
      by_told (inr k) = absurd (stray_within text false p.at utf8 cut last k far)

  pub stop_syntax : (p.stage ≡ stage.Value → fs ≡ [] → IsStart text p.at → is_told (ahead text false p.at).token ≡ true → root_seen text p.at < length text)
      → (IsBlock (top fs) → is_told (ahead text false p.at).token ≡ true → p.stage ≡ stage.After → IsSyntax text q) → IsSyntax text q
  stop_syntax rooted torn = by_order (cases_lt (ahead_seen text p.at) (length text)) where
    by_form : length text ≤ ahead_seen text p.at → IsFlow (top fs) ⊎ IsBlock (top fs) → IsSyntax text q
    by_form far (inl f) = flow_syntax f far p.stage goes fits nothing near_syntax
    by_form far (inr b) = block_syntax b far p.stage goes fits nothing near_syntax rooted (torn b)

    by_order : (ahead_seen text p.at < length text) ⊎ (length text ≤ ahead_seen text p.at) → IsSyntax text q
    by_order (inl l) = (let z = settled_least text (in_flow (top fs)) p.stage p.at cut.0 in near_syntax (omega (arith, l)) (omega (arith, z, l)) (λ e s. let r = root_least text p.at in omega (arith, r, l)))
    by_order (inr far) = by_form far (flow_or_block (top fs))
