-- Where a scalar goes on over a colon that ends the text: nothing follows it in a text where a colon stands there too, and a letter behind the colon mends the text. By what is ahead of the scalar's end.
use Rattle.std.proofs.Common.{◌≡◌, ℕ, suc, ◌+◌, ◌*◌, ◌<◌, ◌≤◌, inl, inr, Bool, true, false, ◌||◌, ◌&&◌, not, cond, nat_eq, arith, List, [], ◌∷◌, drop, length, refl, sym, ap, ◌∙◌, subst, true≢false}
use Rattle.std.proofs.lemmas.Bool.Decides.{nat_tests}
use Rattle.std.specs.Prelude.{Result, Ok, None}
use Rattle.std.specs.Str.{IsCharBoundary, IsUtf8}
use Rattle.doc_values.specs.Unfinished.{Unfinished, with_end}
use Rattle.yaml_scalars.specs.declared.scalar.Setting.{Setting}
use Rattle.yaml_scalars.specs.Lines.{Stands, begins_with, ends_with, lead, lines}
use Rattle.yaml_scalars.specs.Plain.{is_unsafe}
use Rattle.yaml_scalars.specs.Scalar.{begins_block, begins_quoted, block_scalar, plain_scalar, quoted_scalar, scalar_at}
use Rattle.yaml_scalars.specs.code.Walk.{line_at}
use Rattle.yaml_laws.specs.code.Agreement.{out_shown, plain_shown, scalar_shown}
use Rattle.yaml_grammar.specs.declared.ahead.Ahead.{Ahead}
use Rattle.yaml_grammar.specs.declared.ahead.Token.{Token}
use Rattle.yaml_grammar.specs.declared.ahead.Token.TheVariants.{Tag, NoTag, Opens, Closes, Comma, Point, Anchor, Percent, Stray, Other}
use Rattle.yaml_grammar.specs.declared.form.Form.{Form}
use Rattle.yaml_grammar.specs.declared.form.Form.TheVariants.{Root, Flow, FlowTagged, Items, Entries, Tagged}
use Rattle.yaml_grammar.specs.declared.stage.Position.{Position}
use Rattle.yaml_grammar.specs.declared.stop.Stop.{Stop}
use Rattle.yaml_grammar.specs.Ahead.{begins_letter, ends_tag, is_name, other_token, tag_token, token_len, token_of, ahead}
use Rattle.yaml_grammar.specs.Flow.{may_miss}
use Rattle.yaml_grammar.specs.Nodes.{follows_get_att, is_tagged, node_sign, scalar_ahead, setting_of, starts_scalar}
use Rattle.yaml_grammar.specs.Signs.{Reading}
use Rattle.yaml_grammar.specs.code.Closers.{HasRoom, MayBegin, MendsValue}
use Rattle.yaml_grammar.specs.code.Points.{gap, is_plain, is_point, is_last_point, is_pointed}
use Rattle.yaml_grammar.specs.code.Rest.{top, Awaits, Ends}
use Rattle.yaml_grammar.specs.code.Splits.{InRoom, IsRoomy}
use Rattle.yaml_grammar.specs.code.Steps.{IsFlow, IsSeen, Open, Rest, Fits, Gives, Goes, Holds, SameFlowNode, is_flow_ending}
use Rattle.yaml_grammar.specs.code.Twins.{MendsNode}
use Rattle.yaml_grammar.proofs.FirstTokens.{Begun, first_byte}
use Rattle.yaml_grammar.proofs.Fixed.{apart, flow_in, starts_of}
use Rattle.yaml_grammar.proofs.Gains.{TagOn, flow_spot, holds_gives, none_follows, tag_both, tag_popped}
use Rattle.yaml_grammar.proofs.Lettered.{value_lettered}
use Rattle.yaml_grammar.proofs.Placed.{placed}
use Rattle.yaml_grammar.proofs.PlainPoints.{Told, found_at, gap_place, plain_found}
use Rattle.yaml_grammar.proofs.Pointed.{ends_by, last_parts, plain_unquoted, point_of, point_told, point_unmarked, pointed_parts}
use Rattle.yaml_grammar.proofs.SameTexts.{holds_same}
use Rattle.yaml_grammar.proofs.SplitPlaces.{room_here}

-- ---- the colon

-- a token that begins with another byte is none
point_byte : (b : ℕ) (xs : List ℕ) → is_point (token_of true (b ∷ xs)) ≡ true → b ≡ 58
point_byte b xs h = by_tests (nat_eq b 91) (nat_eq b 123) (nat_eq b 93) (nat_eq b 125) (nat_eq b 44) (nat_eq b 58) refl h where
  other : (t : Token) → is_point t ≡ false → is_point t ≡ true → b ≡ 58
  other t n k = absurd (true≢false (sym k ∙ n))

  pick : (x y : Token) (q : Bool) → is_point x ≡ false → is_point y ≡ false → is_point (cond q x y) ≡ false
  pick x y true h k = h
  pick x y false h k = k

  rest : is_point (cond (nat_eq b 33) (tag_token true xs) (other_token b)) ≡ false
  rest =
      pick (tag_token true xs) (other_token b) (nat_eq b 33) (pick (Tag (lead is_name xs)) NoTag (begins_letter xs && ends_tag true (drop (lead is_name xs) xs)) refl refl)
      (pick Anchor (cond (nat_eq b 37) Percent (cond (nat_eq b 35 || nat_eq b 13) Stray Other)) (nat_eq b 38 || nat_eq b 42) refl (pick Percent (cond (nat_eq b 35 || nat_eq b 13) Stray Other) (nat_eq b 37) refl (pick Stray Other (nat_eq b 35 || nat_eq b 13) refl refl)))

  by_tests : (o m c d k p : Bool) → nat_eq b 58 ≡ p
      → is_point (cond o (Opens false) (cond m (Opens true) (cond c (Closes false) (cond d (Closes true) (cond k Comma (cond p (Point (is_unsafe true xs)) (cond (nat_eq b 33) (tag_token true xs) (other_token b)))))))) ≡ true → b ≡ 58
  by_tests true m c d k p e h = other (Opens false) refl h
  by_tests false true c d k p e h = other (Opens true) refl h
  by_tests false false true d k p e h = other (Closes false) refl h
  by_tests false false false true k p e h = other (Closes true) refl h
  by_tests false false false false true p e h = other Comma refl h
  by_tests false false false false false true e h = grind (arith, nat_tests, e)
  by_tests false false false false false false e h = other (cond (nat_eq b 33) (tag_token true xs) (other_token b)) rest h

point_here : (text : List ℕ) (e : ℕ) → is_point (ahead text true e).token ≡ true → begins_with 58 (drop (ahead text true e).at text) ≡ true
point_here text e h = by_begun (first_byte text true e (point_told (ahead text true e).token h)) where
  by_begun : Begun text true (ahead text true e) → begins_with 58 (drop (ahead text true e).at text) ≡ true
  by_begun (b, rest, here, black, tok) = ap (begins_with 58) here ∙ ap (λ c. nat_eq c 58) (point_byte b (line_at rest) (sym (ap is_point tok) ∙ h))

-- ---- it shows the end of the scalar

module _ (s : Setting) (text : List ℕ) (at : ℕ) (t : List ℕ) (e : ℕ) (utf8 : IsUtf8 text) (flow : s.flow ≡ true) (one : s.one_line ≡ false) (low : at ≤ length text) (cut : IsCharBoundary text e) (st : scalar_at s text at ≡ Stands t e) (pointed : is_pointed text true at e ≡ true) where
  parts : (is_plain true (drop at text) ≡ true) × (is_last_point text true (ahead text true e) ≡ true) × ((false || nat_eq (e + gap (drop e text)) (ahead text true e).at) ≡ true)
  parts = pointed_parts text true at e pointed

  last : (is_point (ahead text true e).token ≡ true) × ((ahead text true e).behind ≡ length text) × ((true || not (ahead text true e).fresh) ≡ true)
  last = last_parts text true (ahead text true e) parts.1

  unquoted : begins_quoted (drop at text) ≡ false
  unquoted = plain_unquoted true (drop at text) parts.0

  -- the colon stands in front of the text's end
  colon_last : suc (ahead text true e).at ≡ length text
  colon_last =
      let b = (placed text true e utf8 cut).3 in
      let n : token_len (ahead text true e).token ≡ 1 = ap token_len (point_of (ahead text true e).token last.0).1 in
      let z = last.1 in
      omega (arith, b, n, z)

  found_is : found_at text e ≡ (ahead text true e).at
  found_is = let z : e + gap (drop e text) ≡ (ahead text true e).at = same (e + gap (drop e text)) (ahead text true e).at parts.2 in sym (gap_place text e cut.0) ∙ z where
    same : (m n : ℕ) → nat_eq m n ≡ true → m ≡ n
    same m n h = grind (arith, nat_tests, h)

  pub ends_point : ends_with 58 text ≡ true
  ends_point = ends_by 58 (ahead text true e).at text colon_last (point_here text e last.0)

  setting : s ≡ record { parent = s.parent; flow = true; one_line = false }
  setting = ap (λ (q : Bool). record { parent = s.parent; flow = q; one_line = s.one_line }) flow ∙ ap (λ (q : Bool). record { parent = s.parent; flow = true; one_line = q }) one

  unblocked : begins_block s (drop at text) ≡ false
  unblocked = ap (λ f. not (f || s.one_line) && (begins_with 124 (drop at text) || begins_with 62 (drop at text))) flow

  plain : plain_scalar s text at ≡ Stands t e
  plain =
      sym (ap (λ q. cond q (quoted_scalar s text at) (cond (begins_block s (drop at text)) (block_scalar s text at) (plain_scalar s text at))) unquoted ∙ ap (λ q. cond q (block_scalar s text at) (plain_scalar s text at)) unblocked) ∙ st

  plain_last : plain_shown s (length text) (lines at (drop at text)) ≡ length text
  plain_last = subst (λ (z : Setting). plain_shown z (length text) (lines at (drop at text)) ≡ length text) (sym setting) (by_told (plain_found s.parent text at t e low (sym (ap (λ z. plain_scalar z text at) setting) ∙ plain))) where
    by_told : Told text (ahead text true e) (found_at text e) (plain_shown (record { parent = s.parent; flow = true; one_line = false }) (length text) (lines at (drop at text))) → plain_shown (record { parent = s.parent; flow = true; one_line = false }) (length text) (lines at (drop at text)) ≡ length text
    by_told (inl (b, x)) = let f = found_is in let c = colon_last in omega (arith, x, f, c)
    by_told (inr (inl m)) = absurd (true≢false (sym m ∙ point_unmarked (ahead text true e).token last.0))
    by_told (inr (inr (b, x))) = absurd (true≢false (sym (point_here text e last.0) ∙ ap (λ n. begins_with 58 (drop n text)) (sym found_is) ∙ b))

  pub pointed_shown : scalar_shown s text at e ≡ length text
  pointed_shown =
      ap (λ q. cond q e (cond (begins_block s (drop at text)) (e + out_shown (line_at (drop e text))) (plain_shown s (length text) (lines at (drop at text))))) unquoted ∙ ap (λ q. cond q (e + out_shown (line_at (drop e text))) (plain_shown s (length text) (lines at (drop at text)))) unblocked ∙ plain_last

-- ---- nothing follows

-- behind a node between brackets a colon
flow_none : (text : List ℕ) (fs : List Form) (w : Unfinished) (i : ℕ) → IsFlow (top fs) → Open fs w → is_point (ahead text true i).token ≡ true → (v : Reading) → Ends text fs w.outer w.done i v → ⊥
flow_none text fs w i flow open_ point = by_forms fs refl where
  a : Ahead
  a = ahead text true i

  is : (loose : Bool) × ((ahead text true i).token ≡ Point loose)
  is = point_of (ahead text true i).token point

  no_comma : (ahead text true i).token ≡ Comma → ⊥
  no_comma e = let z : Point is.0 ≡ Comma = sym is.1 ∙ e in absurd (cc)

  no_closes : (map : Bool) → (ahead text true i).token ≡ Closes map → ⊥
  no_closes map e = let z : Point is.0 ≡ Closes map = sym is.1 ∙ e in absurd (cc)

  none : (map : Bool) (gs : List Form) (z : Unfinished) → top gs ≡ Flow map → Open gs z → (v : Reading) → Ends text gs z.outer z.done i v → ⊥
  none map gs z form o v h = none_follows text map gs z.outer z.done i (ahead text true i) refl no_comma (no_closes map) (point_unmarked (ahead text true i).token point) form o.0 v h

  by_top : (g : Form) (gs : List Form) → fs ≡ g ∷ gs → (f : Form) → g ≡ f → IsFlow f → (v : Reading) → Ends text fs w.outer w.done i v → ⊥
  by_top g gs e Root k b v h = absurd b
  by_top g gs e (Flow map) k b v h = none map fs w (ap top e ∙ k) open_ v h
  by_top g gs e (FlowTagged p) k b v h =
      let on : TagOn p fs gs w = (g, e, ap top e ∙ k, open_) in
      let popped = tag_popped p fs gs w (with_end w) on refl in
      none popped.2.0 gs (with_end w) popped.2.1 popped.0 v (((tag_both text p fs gs w (with_end w) i on refl) v).0 h)
  by_top g gs e (Items m) k b v h = absurd b
  by_top g gs e (Entries m) k b v h = absurd b
  by_top g gs e (Tagged at above shares) k b v h = absurd b

  by_forms : (hs : List Form) → fs ≡ hs → (v : Reading) → Ends text fs w.outer w.done i v → ⊥
  by_forms [] e v h = absurd (subst IsFlow (ap top e) flow)
  by_forms (g ∷ gs) e v h = by_top g gs e g refl (subst IsFlow (ap top e) flow) v h

-- ---- a scalar between brackets

module _ (text : List ℕ) (fs : List Form) (u w : Unfinished) (f : Form) (i : ℕ) (a : Ahead) (form : top fs ≡ f) (flow : IsFlow f) (open_ : Open fs u) (starts : starts_scalar a.token ≡ true) (unsigned : node_sign (is_tagged f) a.at a.token ≡ None) (there : may_miss f ≡ true → is_flow_ending a.token ≡ false) where
  no_opens : (map : Bool) → a.token ≡ Opens map → ⊥
  no_opens map e = true≢false (sym starts ∙ ap starts_scalar e)

  no_tag : (len : ℕ) → a.token ≡ Tag len → ⊥
  no_tag len e = true≢false (sym starts ∙ ap starts_scalar e)

  pub word_gives : (r : Result Position Stop) → Holds text (setting_of f) (follows_get_att text f i) a u w r → (other : List ℕ) → IsSeen other true i a → SameFlowNode text other f i a → Gives other (Awaits other fs u.outer u.done u.key i) (2 * i + 2) fs w r
  word_gives r h other seen same =
      holds_gives other fs u w f (is_tagged f) i a r seen.0 (flow_spot other fs u f i a seen form flow open_) no_opens no_tag refl unsigned there
      (subst (λ q. Holds other (setting_of f) q a u w r) (sym same.cuts) (holds_same text other (setting_of f) a same.scalar (follows_get_att text f i) u w r h))

  pub pointed_gives : (p : Position) → Holds text (setting_of f) (follows_get_att text f i) a u w (Ok p) → is_pointed text true a.at p.at ≡ true → (other : List ℕ) → IsSeen other true i a → SameFlowNode text other f i a → (v : Reading) → Awaits other fs u.outer u.done u.key i v → ⊥
  pointed_gives p h pointed other seen same v y = by_goes h (word_gives (Ok p) h other seen same) where
    by_goes : Holds text (setting_of f) (follows_get_att text f i) a u w (Ok p) → Goes other (Awaits other fs u.outer u.done u.key i) (2 * i + 2) fs w p → ⊥
    by_goes (t, k, (st, hk, low, cut), es, ew, room) (g, fits, b, n) =
        let z = subst (λ s. Rest other s fs w p.at v) es ((g v).0 y) in
        let o = subst (λ s. Fits other s fs w p.at) es fits in
        flow_none other fs w p.at (subst IsFlow (sym form) flow) o.0 (same.point t p.at st pointed) v z

-- ---- a letter mends it

-- how a scalar stands there
pub many : (f : Form) → IsFlow f → ((setting_of f).flow ≡ true) × ((setting_of f).one_line ≡ false)
many Root k = absurd k
many (Flow map) k = (refl, refl)
many (FlowTagged at) k = (refl, refl)
many (Items m) k = absurd k
many (Entries m) k = absurd k
many (Tagged at above shares) k = absurd k

module _ (text : List ℕ) (utf8 : IsUtf8 text) (fs : List Form) (u : Unfinished) (i : ℕ) (cut : IsCharBoundary text i) where
  mends_here : (t : List ℕ) (j q : ℕ) → IsFlow (top fs) → Open fs u → scalar_ahead text (setting_of (top fs)) (ahead text true i) ≡ Stands t j → (ahead text true i).at < j → IsCharBoundary text j → is_pointed text true (ahead text true i).at j ≡ true → q ≡ length text → IsRoomy text u (top fs) i (ahead text true i) → MendsNode text fs u i q
  mends_here t j q flow open_ st low last pointed place room = λ ends. (
    (λ h going. mended (room block)),
    (λ l. absurd (let z = l.0 in omega (arith, z, place))),
  ) where
    word : (starts_scalar (ahead text true i).token ≡ true) × (scalar_at (setting_of (top fs)) text (ahead text true i).at ≡ Stands t j)
    word = starts_of text (setting_of (top fs)) (ahead text true i) t j st

    near : (ahead text true i).at < length text
    near = let l = last.0 in omega (arith, low, l)

    set : ((setting_of (top fs)).flow ≡ true) × ((setting_of (top fs)).one_line ≡ false)
    set = many (top fs) flow

    shown : scalar_shown (setting_of (top fs)) text (ahead text true i).at j ≡ length text
    shown = pointed_shown (setting_of (top fs)) text (ahead text true i).at t j utf8 set.0 set.1 (omega (arith, near)) last word.1 pointed

    ends_in : ends_with 58 text ≡ true
    ends_in = ends_point (setting_of (top fs)) text (ahead text true i).at t j utf8 set.0 set.1 (omega (arith, near)) last word.1 pointed

    quote : begins_quoted (drop (ahead text true i).at text) ≡ false
    quote = plain_unquoted true (drop (ahead text true i).at text) (pointed_parts text true (ahead text true i).at j pointed).0

    block : begins_block (setting_of (top fs)) (drop (ahead text true i).at text) ≡ false
    block = ap (λ q. not (q || (setting_of (top fs)).one_line) && (begins_with 124 (drop (ahead text true i).at text) || begins_with 62 (drop (ahead text true i).at text))) set.0

    mended : (follows_get_att text (top fs) i ≡ true → HasRoom text (ahead text true i).at (length u.outer)) → MendsValue text fs u.outer u.done u.key i
    mended room =
        subst (λ o. MayBegin (top fs) (ahead text o i) → starts_scalar (ahead text o i).token ≡ true → (ahead text o i).at < length text → ends_with 58 text ≡ true → begins_quoted (drop (ahead text o i).at text) ≡ false → begins_block (setting_of (top fs)) (drop (ahead text o i).at text) ≡ false
        → scalar_shown (setting_of (top fs)) text (ahead text o i).at j ≡ length text → scalar_at (setting_of (top fs)) text (ahead text o i).at ≡ Stands t j → (follows_get_att text (top fs) i ≡ true → HasRoom text (ahead text o i).at (length u.outer)) → MendsValue text fs u.outer u.done u.key i) (flow_in (top fs) flow)
        (value_lettered fs u.outer u.done u.key i open_.0 open_.1 text t j cut.0) (λ b. absurd (apart (top fs) b flow)) word.0 near ends_in quote block shown word.1 room

  pub pointed_mends : (f : Form) (a : Ahead) (cuts : Bool) (w : Unfinished) (p : Position) (q : ℕ) → a ≡ ahead text true i → top fs ≡ f → IsFlow f → Open fs u → Holds text (setting_of f) cuts a u w (Ok p) → is_pointed text true a.at p.at ≡ true → q ≡ length text → InRoom text u f i a (MendsNode text fs u i) q
  pointed_mends f a cuts w p q here form flow open_ (t, k, (st, hk, low, last), es, ew, fit) pointed place roomy =
      mends_here t p.at q (subst IsFlow (sym form) flow) open_ (subst (λ g. scalar_ahead text (setting_of g) (ahead text true i) ≡ Stands t p.at) (sym form) (subst (λ (b : Ahead). scalar_ahead text (setting_of f) b ≡ Stands t p.at) here st)) (subst (λ (b : Ahead). b.at < p.at) here low) last
      (subst (λ (b : Ahead). is_pointed text true b.at p.at ≡ true) here pointed) place (room_here text fs u i f a true form here (roomy place))
