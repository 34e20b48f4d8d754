-- Outside of brackets, where a plain scalar goes on over a colon that ends the text: nothing follows it in a text where a colon stands on its line too, and a letter behind the colon mends the text. By what is ahead of the scalar's end.
use Rattle.std.proofs.Common.{◌≡◌, ℕ, suc, ◌+◌, ◌*◌, ◌<◌, ◌≤◌, Bool, true, false, ◌||◌, ◌&&◌, not, cond, arith, List, ◌∷◌, drop, length, refl, sym, ap, ◌∙◌, subst}
use Rattle.std.specs.Prelude.{Result, Ok}
use Rattle.std.specs.Str.{IsCharBoundary, IsUtf8}
use Rattle.doc_values.specs.Unfinished.{Unfinished}
use Rattle.yaml_scalars.specs.declared.scalar.Setting.{Setting}
use Rattle.yaml_scalars.specs.Lines.{Stands, begins_with, ends_with, lines}
use Rattle.yaml_scalars.specs.Scalar.{begins_block, begins_quoted, block_scalar, plain_scalar, quoted_scalar, scalar_at}
use Rattle.yaml_scalars.specs.code.Walk.{line_at}
use Rattle.yaml_laws.specs.code.Agreement.{out_shown, plain_shown, scalar_shown}
use Rattle.yaml_grammar.specs.declared.ahead.Ahead.{Ahead}
use Rattle.yaml_grammar.specs.declared.form.Form.{Form}
use Rattle.yaml_grammar.specs.declared.form.Form.TheVariants.{Root, Flow, FlowTagged, Items, Entries, Tagged}
use Rattle.yaml_grammar.specs.declared.stage.Stage.TheVariants as stage
use Rattle.yaml_grammar.specs.declared.stage.Position.{Position}
use Rattle.yaml_grammar.specs.declared.stop.Stop.{Stop}
use Rattle.yaml_grammar.specs.Ahead.{token_len, ahead}
use Rattle.yaml_grammar.specs.Blocks.{takes_mapping, takes_scalar}
use Rattle.yaml_grammar.specs.Nodes.{follows_get_att, scalar_ahead, setting_of, starts_scalar}
use Rattle.yaml_grammar.specs.Signs.{Reading}
use Rattle.yaml_grammar.specs.code.Closers.{HasRoom, in_flow, MayBegin, MendsValue}
use Rattle.yaml_grammar.specs.code.Points.{is_plain, is_point, is_pointed}
use Rattle.yaml_grammar.specs.code.Rest.{top, Awaits}
use Rattle.yaml_grammar.specs.code.Splits.{InRoom, IsRoomy}
use Rattle.yaml_grammar.specs.code.Steps.{Awaited, IsBlock, Rest, Fits, Gives, Goes, Holds, NoKey, SameNode, is_ending}
use Rattle.yaml_grammar.specs.code.Twins.{LengthensAt}
use Rattle.yaml_grammar.proofs.BlockGains.{nothing_follows, scalar_gives, spot_of}
use Rattle.yaml_grammar.proofs.BlockPoints.{block_setting, plain_points, point_first}
use Rattle.yaml_grammar.proofs.FirstTokens.{Begun, first_byte}
use Rattle.yaml_grammar.proofs.Fixed.{starts_of}
use Rattle.yaml_grammar.proofs.Lettered.{value_lettered}
use Rattle.yaml_grammar.proofs.Placed.{placed}
use Rattle.yaml_grammar.proofs.Pointed.{ends_by, last_parts, plain_unblocked, plain_unquoted, point_of, point_told, pointed_parts, pointed_stale}
use Rattle.yaml_grammar.proofs.Quiet.{inside_at, line_quiet}
use Rattle.yaml_grammar.proofs.SameTexts.{holds_same}
use Rattle.yaml_grammar.proofs.SplitPlaces.{room_here}

-- ---- the colon shows the end of the scalar

and_none : (q : Bool) → (q && false) ≡ false
and_none true = refl
and_none false = refl

module _ (s : Setting) (text : List ℕ) (at : ℕ) (t : List ℕ) (e : ℕ) (utf8 : IsUtf8 text) (flow : s.flow ≡ false) (one : s.one_line ≡ false) (low : at ≤ length text) (cut : IsCharBoundary text e) (st : scalar_at s text at ≡ Stands t e) (pointed : is_pointed text false at e ≡ true) where
  plain_here : is_plain false (drop at text) ≡ true
  plain_here = (pointed_parts text false at e pointed).0

  last : (is_point (ahead text false e).token ≡ true) × ((ahead text false e).behind ≡ length text) × ((false || not (ahead text false e).fresh) ≡ true)
  last = last_parts text false (ahead text false e) (pointed_parts text false at e pointed).1

  unquoted : begins_quoted (drop at text) ≡ false
  unquoted = plain_unquoted false (drop at text) plain_here

  pub line_unblocked : begins_block s (drop at text) ≡ false
  line_unblocked = ap (λ q. not (s.flow || s.one_line) && q) (plain_unblocked (drop at text) plain_here) ∙ and_none (not (s.flow || s.one_line))

  colon_last : suc (ahead text false e).at ≡ length text
  colon_last =
      let b = (placed text false e utf8 cut).3 in
      let n : token_len (ahead text false e).token ≡ 1 = ap token_len (point_of (ahead text false e).token last.0).1 in
      let z = last.1 in
      omega (arith, b, n, z)

  pub line_ends : ends_with 58 text ≡ true
  line_ends = ends_by 58 (ahead text false e).at text colon_last (by_begun (first_byte text false e (point_told (ahead text false e).token last.0))) where
    by_begun : Begun text false (ahead text false e) → begins_with 58 (drop (ahead text false e).at text) ≡ true
    by_begun (b, rest, here, black, tok) = ap (begins_with 58) here ∙ ap (λ c. begins_with 58 (c ∷ rest)) (point_first b (line_at rest) (sym (ap is_point tok) ∙ last.0))

  setting : s ≡ block_setting s.parent
  setting = ap (λ (q : Bool). record { parent = s.parent; flow = q; one_line = s.one_line }) flow ∙ ap (λ (q : Bool). record { parent = s.parent; flow = false; one_line = q }) one

  plain : plain_scalar s text at ≡ Stands t e
  plain =
      sym (ap (λ q. cond q (quoted_scalar s text at) (cond (begins_block s (drop at text)) (block_scalar s text at) (plain_scalar s text at))) unquoted ∙ ap (λ q. cond q (block_scalar s text at) (plain_scalar s text at)) line_unblocked) ∙ st

  plain_last : plain_shown s (length text) (lines at (drop at text)) ≡ length text
  plain_last =
      subst (λ (z : Setting). plain_shown z (length text) (lines at (drop at text)) ≡ length text) (sym setting)
      (plain_points s.parent text at t e low (sym (ap (λ z. plain_scalar z text at) setting) ∙ plain) (pointed_stale text at e pointed) last.0 ∙ colon_last)

  pub line_shown_last : scalar_shown s text at e ≡ length text
  line_shown_last =
      ap (λ q. cond q e (cond (begins_block s (drop at text)) (e + out_shown (line_at (drop e text))) (plain_shown s (length text) (lines at (drop at text))))) unquoted ∙ ap (λ q. cond q (e + out_shown (line_at (drop e text))) (plain_shown s (length text) (lines at (drop at text)))) line_unblocked ∙ plain_last

-- ---- nothing follows

module _ (text : List ℕ) (fs : List Form) (u w : Unfinished) (f : Form) (i : ℕ) (a : Ahead) (starts : starts_scalar a.token ≡ true) (takes : takes_scalar f a ≡ true) (keyless : takes_mapping f a ≡ true → NoKey text a) where
  pub line_gives : (r : Result Position Stop) → Holds text (setting_of f) (follows_get_att text f i) a u w r → (other : List ℕ) → Awaited other fs u f i a → SameNode text other f i a → Gives other (Awaits other fs u.outer u.done u.key i) (2 * i + 1) fs w r
  line_gives r h other there same =
      scalar_gives other fs u w f i a r there.seen.0 (spot_of other fs u f i a there) starts takes (λ k. same.none k (keyless k))
      (subst (λ q. Holds other (setting_of f) q a u w r) (sym same.cuts) (holds_same text other (setting_of f) a (same.scalar takes keyless) (follows_get_att text f i) u w r h))

  pub pointed_line : (p : Position) → Holds text (setting_of f) (follows_get_att text f i) a u w (Ok p) → is_pointed text false a.at p.at ≡ true → (other : List ℕ) → Awaited other fs u f i a → SameNode text other f i a → (v : Reading) → Awaits other fs u.outer u.done u.key i v → ⊥
  pointed_line p h pointed other there same v y = by_goes h (line_gives (Ok p) h other there same) where
    by_goes : Holds text (setting_of f) (follows_get_att text f i) a u w (Ok p) → Goes other (Awaits other fs u.outer u.done u.key i) (2 * i + 1) fs w p → ⊥
    by_goes (t, k, (st, hk, low, cut), es, ew, room) (g, fits, b, n) =
        let z = subst (λ s. Rest other s fs w p.at v) es ((g v).0 y) in
        let o = subst (λ s. Fits other s fs w p.at) es fits in
        let pt = same.point takes keyless t p.at st pointed in
        let going : is_ending (ahead other false p.at).token ≡ false = ap is_ending (point_of (ahead other false p.at).token pt.0).1 in
        nothing_follows other fs w p.at (ahead other false p.at) refl (inside_at other p.at going) (line_quiet other (ahead other false p.at) fs o.0.1 (subst IsBlock (sym there.form) there.block) pt.1) v z

-- ---- a letter mends it

block_out : (g : Form) → IsBlock g → in_flow g ≡ false
block_out Root b = refl
block_out (Flow m) b = absurd b
block_out (FlowTagged m) b = absurd b
block_out (Items m) b = refl
block_out (Entries m) b = refl
block_out (Tagged at ab sh) b = refl

pub many : (f : Form) → IsBlock f → ((setting_of f).flow ≡ false) × ((setting_of f).one_line ≡ false)
many Root k = (refl, refl)
many (Flow map) k = absurd k
many (FlowTagged at) k = absurd k
many (Items m) k = (refl, refl)
many (Entries m) k = (refl, refl)
many (Tagged at above shares) k = (refl, refl)

module _ (text : List ℕ) (utf8 : IsUtf8 text) (fs : List Form) (u : Unfinished) (i : ℕ) (cut : IsCharBoundary text i) where
  mends_here : (t : List ℕ) (j q : ℕ) → IsBlock (top fs) → Fits text stage.Value fs u i → takes_scalar (top fs) (ahead text false i) ≡ true → scalar_ahead text (setting_of (top fs)) (ahead text false i) ≡ Stands t j → (ahead text false i).at < j → IsCharBoundary text j → is_pointed text false (ahead text false i).at j ≡ true → q ≡ length text → IsRoomy text u (top fs) i (ahead text false i)
      → LengthensAt text stage.Value fs u i q
  mends_here t j q block fits takes st low last pointed place room = λ ends. (
    (λ h. mended (room unblocked)),
    (λ l more longer. absurd (let z = l.0 in omega (arith, z, place))),
  ) where
    word : (starts_scalar (ahead text false i).token ≡ true) × (scalar_at (setting_of (top fs)) text (ahead text false i).at ≡ Stands t j)
    word = starts_of text (setting_of (top fs)) (ahead text false i) t j st

    near : (ahead text false i).at < length text
    near = let l = last.0 in omega (arith, low, l)

    set : ((setting_of (top fs)).flow ≡ false) × ((setting_of (top fs)).one_line ≡ false)
    set = many (top fs) block

    unblocked : begins_block (setting_of (top fs)) (drop (ahead text false i).at text) ≡ false
    unblocked = line_unblocked (setting_of (top fs)) text (ahead text false i).at t j utf8 set.0 set.1 (omega (arith, near)) last word.1 pointed

    mended : (follows_get_att text (top fs) i ≡ true → HasRoom text (ahead text false i).at (length u.outer)) → MendsValue text fs u.outer u.done u.key i
    mended room =
        subst (λ o. MayBegin (top fs) (ahead text o i) → starts_scalar (ahead text o i).token ≡ true → (ahead text o i).at < length text → ends_with 58 text ≡ true → begins_quoted (drop (ahead text o i).at text) ≡ false → begins_block (setting_of (top fs)) (drop (ahead text o i).at text) ≡ false
        → scalar_shown (setting_of (top fs)) text (ahead text o i).at j ≡ length text → scalar_at (setting_of (top fs)) text (ahead text o i).at ≡ Stands t j → (follows_get_att text (top fs) i ≡ true → HasRoom text (ahead text o i).at (length u.outer)) → MendsValue text fs u.outer u.done u.key i) (block_out (top fs) block)
        (value_lettered fs u.outer u.done u.key i fits.0.0 fits.0.1 text t j cut.0) (λ b. takes) word.0 near
        (line_ends (setting_of (top fs)) text (ahead text false i).at t j utf8 set.0 set.1 (omega (arith, near)) last word.1 pointed)
        (plain_unquoted false (drop (ahead text false i).at text) (pointed_parts text false (ahead text false i).at j pointed).0)
        unblocked
        (line_shown_last (setting_of (top fs)) text (ahead text false i).at t j utf8 set.0 set.1 (omega (arith, near)) last word.1 pointed) word.1 room

  pub line_mends : (f : Form) (a : Ahead) (cuts : Bool) (w : Unfinished) (p : Position) (q : ℕ) → Awaited text fs u f i a → takes_scalar f a ≡ true → Holds text (setting_of f) cuts a u w (Ok p) → is_pointed text false a.at p.at ≡ true → q ≡ length text → InRoom text u f i a (LengthensAt text stage.Value fs u i) q
  line_mends f a cuts w p q there takes (t, k, (st, hk, low, last), es, ew, fit) pointed place roomy =
      let here = there.seen.0 in
      let form = there.form in
      mends_here t p.at q (subst IsBlock (sym form) there.block) there.fits (subst (λ g. takes_scalar g (ahead text false i) ≡ true) (sym form) (subst (λ (b : Ahead). takes_scalar f b ≡ true) here takes))
      (subst (λ g. scalar_ahead text (setting_of g) (ahead text false i) ≡ Stands t p.at) (sym form) (subst (λ (b : Ahead). scalar_ahead text (setting_of f) b ≡ Stands t p.at) here st)) (subst (λ (b : Ahead). b.at < p.at) here low) last
      (subst (λ (b : Ahead). is_pointed text false b.at p.at ≡ true) here pointed) place (room_here text fs u i f a false form here (roomy place))
