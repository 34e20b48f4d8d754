-- What a site between brackets says of the text's length and of its last byte, where no carriage return ends the text. By the cases of what stops it.
use Rattle.std.proofs.Common.{◌≡◌, ℕ, ◌+◌, ◌<◌, ◌≤◌, ◌⊎◌, inl, inr, Bool, true, false, ◌||◌, ◌&&◌, cond, nat_eq, nat_lt, arith, List, [], ◌∷◌, ◌++◌, drop, length, refl, sym, ap, ◌∙◌, subst, true≢false, length-drop}
use Rattle.std.proofs.lemmas.Bool.{cases_lt, ltb-true}
use Rattle.std.proofs.lemmas.Bool.Decides.{nat_tests}
use Rattle.std.specs.Prelude.{Result, Ok, Err, None}
use Rattle.std.specs.Str.{IsCharBoundary, IsUtf8}
use Rattle.doc_values.specs.Tree.{Forest, has_key}
use Rattle.doc_values.specs.Unfinished.{AwaitsValue, Level, Unfinished, with_end}
use Rattle.yaml_scalars.specs.declared.scalar.Setting.{Setting}
use Rattle.yaml_scalars.specs.Lines.{Line, Fails, Stands, begins_with, each, ends_with, is_cut_mark, is_mark, is_white, lead, past_white, lines}
use Rattle.yaml_scalars.specs.Block.{widest}
use Rattle.yaml_scalars.specs.Scalar.{begins_block, is_first_column, scalar_at}
use Rattle.yaml_scalars.specs.code.Walk.{line_at}
use Rattle.yaml_laws.specs.code.Refusals.{is_ascii}
use Rattle.yaml_laws.proofs.ScalarLaw.{scalar_upper}
use Rattle.yaml_grammar.specs.declared.ahead.Ahead.{Ahead}
use Rattle.yaml_grammar.specs.declared.ahead.Token.{Token}
use Rattle.yaml_grammar.specs.declared.ahead.Token.TheVariants.{End, Dashes, Dots, Dash, Tag, NoTag, Opens, Closes, Comma, Point, Anchor, Percent, Tabbed, Stray, Other}
use Rattle.yaml_grammar.specs.declared.form.Form.{Form}
use Rattle.yaml_grammar.specs.declared.form.Form.TheVariants.{Root, Flow, FlowTagged, Items, Entries, Tagged}
use Rattle.yaml_grammar.specs.declared.stage.Stage.TheVariants as stage
use Rattle.yaml_grammar.specs.declared.stage.Position.{Position}
use Rattle.yaml_grammar.specs.declared.stop.Stop.{Stop}
use Rattle.yaml_grammar.specs.declared.stop.Stop.TheVariants as stop
use Rattle.yaml_grammar.specs.Ahead.{begins_letter, ends_tag, is_name, is_passed, mark_of, other_token, tag_token, token_at, token_of, content_ahead, line_ahead, rest_ahead, ahead}
use Rattle.yaml_grammar.specs.Nodes.{as_key, follows_get_att, is_marked, node_sign, scalar_ahead, setting_of, starts_scalar}
use Rattle.yaml_grammar.specs.Flow.{IsColon, may_miss}
use Rattle.yaml_grammar.specs.Signs.{Tree}
use Rattle.yaml_grammar.specs.code.AheadSeen.{ahead_seen, first_return, is_told}
use Rattle.yaml_grammar.specs.code.Closers.{MayBegin, HasRoom}
use Rattle.yaml_grammar.specs.code.Rest.{top, Awaits, Enters}
use Rattle.yaml_grammar.specs.code.Splits.{InRoom}
use Rattle.yaml_grammar.specs.code.StopPlaces.{is_stray, past_return, token_width, told_place, flow_place, last_told, width, within}
use Rattle.yaml_grammar.specs.code.Steps.{Agrees, IsBehind, IsFlow, IsSeen, IsSpelled, Closed, Open, Fits, is_ending, is_flow_ending, is_open}
use Rattle.yaml_grammar.specs.code.Twins.{FailedAt, IsLast, Lengthens, LengthensAt, Mends, MendsNode, NoRest, OnUnread, Stops}
use Rattle.yaml_grammar.proofs.FirstDead.{after_dead}
use Rattle.yaml_grammar.proofs.Fixed.{apart, flow_in}
use Rattle.yaml_grammar.proofs.FirstEntries.{map_dead}
use Rattle.yaml_grammar.proofs.FirstTokens.{is_shut}
use Rattle.yaml_grammar.proofs.FlowMends.{end_mends, item_mends, key_grows, key_mends}
use Rattle.yaml_grammar.proofs.Forms.{apart_open}
use Rattle.yaml_grammar.proofs.Gains.{TagOn, tag_both, tag_popped}
use Rattle.yaml_grammar.proofs.KeyTails.{marked_ends, tail_place, tail_within}
use Rattle.yaml_grammar.proofs.LastBytes.{agrees_longer, stray_told, stray_within}
use Rattle.yaml_grammar.proofs.Lengthened.{cut_mark_bytes, ends_drop, last_lengthens, some_text, told_at, word_told}
use Rattle.yaml_grammar.proofs.OtherStops.{memory_on, on_from, unread_on}
use Rattle.yaml_grammar.proofs.Settled.{is_bare, bare_seen}
use Rattle.yaml_grammar.proofs.PlainOut.{ahead_from}
use Rattle.yaml_grammar.proofs.Quiet.{word_inside}
use Rattle.yaml_grammar.proofs.ScalarFails.{seen_fails}
use Rattle.yaml_grammar.proofs.ShownTokens.{ahead_wide}
use Rattle.yaml_grammar.proofs.SplitPlaces.{room_here}
use Rattle.yaml_grammar.proofs.Stopped.{last_told_stops, told_stops, within_end, within_here}
use Rattle.yaml_grammar.proofs.Values.{value_grown}

-- ---- tokens between brackets

-- a `-` and a tab in front of a line's content are none
abbrev pub is_outer : Token → Bool
is_outer Dash = true
is_outer Tabbed = true
is_outer _ = false

inner_token : (xs : List ℕ) → is_outer (token_of true xs) ≡ false
inner_token [] = refl
inner_token (b ∷ bs) = pick _ _ (nat_eq b 91) refl (pick _ _ (nat_eq b 123) refl (pick _ _ (nat_eq b 93) refl (pick _ _ (nat_eq b 125) refl (pick _ _ (nat_eq b 44) refl (pick _ _ (nat_eq b 58) refl (pick _ _ (nat_eq b 33) tag other)))))) where
  pick : (x y : Token) (q : Bool) → is_outer x ≡ false → is_outer y ≡ false → is_outer (cond q x y) ≡ false
  pick x y true h k = h
  pick x y false h k = k

  other : is_outer (other_token b) ≡ false
  other = pick _ _ (nat_eq b 38 || nat_eq b 42) refl (pick _ _ (nat_eq b 37) refl (pick _ _ (nat_eq b 35 || nat_eq b 13) refl refl))

  tag : is_outer (tag_token true bs) ≡ false
  tag = pick _ _ (begins_letter bs && ends_tag true (drop (lead is_name bs) bs)) refl refl

inner_line : (size : ℕ) (ls : List Line) → is_outer (line_ahead true size ls).token ≡ false
inner_line size [] = refl
inner_line size (l ∷ ls) = by_tests (is_mark l.bytes) (is_passed true l.bytes) (inner_line size ls) where
  by_mark : (q : Bool) → is_outer (cond q Dashes Dots) ≡ false
  by_mark true = refl
  by_mark false = refl

  by_tests : (q r : Bool) → is_outer (line_ahead true size ls).token ≡ false → is_outer (cond q (token_at (mark_of l.bytes) true 0 l.at) (cond r (line_ahead true size ls) (content_ahead true l.at l.bytes))).token ≡ false
  by_tests true r h = by_mark (begins_with 45 l.bytes)
  by_tests false true h = h
  by_tests false false h = inner_token (past_white l.bytes)

pub inner_ahead : (text : List ℕ) (i : ℕ) → is_outer (ahead text true i).token ≡ false
inner_ahead text i = by_column (is_first_column text i) (lines i (drop i text)) where
  by_rest : (ls : List Line) → is_outer (rest_ahead true (length text) ls).token ≡ false
  by_rest [] = refl
  by_rest (l ∷ ls) = by_test (is_passed false l.bytes) where
    by_test : (r : Bool) → is_outer (cond r (line_ahead true (length text) ls) (token_at (token_of true (past_white l.bytes)) false (lead is_white l.bytes) (l.at + lead is_white l.bytes))).token ≡ false
    by_test true = inner_line (length text) ls
    by_test false = inner_token (past_white l.bytes)

  by_column : (q : Bool) (ls : List Line) → is_outer (cond q (line_ahead true (length text) ls) (rest_ahead true (length text) ls)).token ≡ false
  by_column true ls = inner_line (length text) ls
  by_column false ls = by_rest ls

-- where no mark stands and no colon, one at which something more may stand is the text's end
open_end : (t : Token) → (is_ending t || is_open t) ≡ true → is_marked t ≡ false → is_outer t ≡ false → ((loose : Bool) → t ≡ Point loose → ⊥) → t ≡ End
open_end End o m n p = refl
open_end Dashes o m n p = absurd (true≢false m)
open_end Dots o m n p = absurd (true≢false m)
open_end Tabbed o m n p = absurd (true≢false n)
open_end (Point q) o m n p = absurd (p q refl)
open_end Dash o m n p = absurd (true≢false (sym o))
open_end (Tag k) o m n p = absurd (true≢false (sym o))
open_end NoTag o m n p = absurd (true≢false (sym o))
open_end (Opens q) o m n p = absurd (true≢false (sym o))
open_end (Closes q) o m n p = absurd (true≢false (sym o))
open_end Comma o m n p = absurd (true≢false (sym o))
open_end Anchor o m n p = absurd (true≢false (sym o))
open_end Percent o m n p = absurd (true≢false (sym o))
open_end Stray o m n p = absurd (true≢false (sym o))
open_end Other o m n p = absurd (true≢false (sym o))

-- a sign stands at none that goes on
pub unsigned : (tagged : Bool) (at : ℕ) (t : Token) → node_sign tagged at t ≡ None → (t ≡ NoTag → ⊥) × (t ≡ Anchor → ⊥)
unsigned tagged at t h = ((λ e. absurd (let z = sym (ap (node_sign tagged at) e) ∙ h in cc)), (λ e. absurd (let z = sym (ap (node_sign tagged at) e) ∙ h in cc)))

-- brackets that end say no place
pub closed_on : (holds : ℕ → Type 0) (at : ℕ) (fs gs : List Form) (u w : Unfinished) (r : Result Position Stop) → Closed at fs u gs w r → OnUnread holds r
closed_on holds at fs gs u w (Ok p) h = tt
closed_on holds at fs gs u w (Err e) h = memory_on holds e h

-- ---- the place

pub flow_stops : (text : List ℕ) (i : ℕ) (none : List ℕ → Type 0) (a : Ahead) (q : ℕ) → a ≡ ahead text true i → q ≡ flow_place text a → ((other : List ℕ) → is_ending a.token ≡ false → none other) → Stops text i none (Err (stop.Unread q))
flow_stops text i none a q e p n = by_open (is_ending a.token) refl p where
  by_open : (r : Bool) → is_ending a.token ≡ r → q ≡ cond r (told_place text a) (last_told text a) → Stops text i none (Err (stop.Unread q))
  by_open true o k = told_stops text i none true a q e k n
  by_open false o k = last_told_stops text i none true a q e o k (λ other. n other o)

module _ (text : List ℕ) (utf8 : IsUtf8 text) (fs : List Form) (u : Unfinished) (i : ℕ) (cut : IsCharBoundary text i) where
  low : i ≤ (ahead text true i).at
  low = ahead_from text i cut.0

  -- behind a complete node
  pub after_lengthens : (map : Bool) (a : Ahead) (q : ℕ) → a ≡ ahead text true i → top fs ≡ Flow map → Open fs u → u.key ≡ None → (a.token ≡ Comma → ⊥) → (a.token ≡ Closes map → ⊥) → is_marked a.token ≡ false → q ≡ flow_place text a → Lengthens text stage.After fs u i (Err (stop.Unread q))
  after_lengthens map a q e form open_ none comma closed plain place = by_open (is_ending a.token) refl place where
    flow : IsFlow (top fs)
    flow = subst IsFlow (sym form) tt

    fits : Fits text stage.After fs u i
    fits = (open_, none, (λ b. absurd (apart (top fs) b flow)))

    no_point : (t : Token) → is_ending t ≡ true → (loose : Bool) → t ≡ Point loose → ⊥
    no_point t s loose k = true≢false (sym s ∙ ap is_ending k)

    by_open : (r : Bool) → is_ending a.token ≡ r → q ≡ cond r (told_place text a) (last_told text a) → Lengthens text stage.After fs u i (Err (stop.Unread q))
    by_open true o k =
        let end : a.token ≡ End = open_end a.token (ap (λ c. c || is_open a.token) o) plain (ap (λ (b : Ahead). is_outer b.token) e ∙ inner_ahead text i) (no_point a.token o) in
        let there : q ≡ length text = k ∙ ap (λ t. cond (is_ending t) (length text) (past_return text (a.at + width a (drop a.at text)))) end in
        λ last. ((λ h. end_mends text stage.After fs u i fits cut.0 flow (sym (ap (λ (b : Ahead). b.token) e) ∙ end)), (λ l more longer. (let z = l.0 in absurd (omega (arith, z, there)))))
    by_open false o k =
        last_lengthens text utf8 fs u i cut stage.After true a q e o k
        (λ more longer last t l far there fits2 g h.
        after_dead text (text ++ more) i low t (agrees_longer text more (ahead text true i).at l) map fs u g form open_ (λ z. comma (ap (λ (b : Ahead). b.token) e ∙ z)) (λ z. closed (ap (λ (b : Ahead). b.token) e ∙ z)) h)

  -- behind the node of a tag, whose map ends
  pub tag_lengthens : (place : ℕ) (gs : List Form) (w : Unfinished) (r : Result Position Stop) → TagOn place fs gs u → w ≡ with_end u → Lengthens text stage.After gs w i r → Lengthens text stage.After fs u i r
  tag_lengthens place gs w r on e h = on_from (LengthensAt text stage.After gs w i) (LengthensAt text stage.After fs u i) r (λ q g last. let z = g last in ((λ k. mends (z.0 k)), (λ l more longer there fits t y. z.1 l more longer there (inner_fits (text ++ more)) t (((tag_both (text ++ more) place fs gs u w i on e) (Tree t)).0 y)))) h where
    popped : Open gs w × (w.key ≡ None) × ((map : Bool) × (top gs ≡ Flow map))
    popped = tag_popped place fs gs u w on e

    flow : IsFlow (top gs)
    flow = subst IsFlow (sym popped.2.1) tt

    inner_fits : (other : List ℕ) → Fits other stage.After gs w i
    inner_fits other = (popped.0, popped.1, (λ b. absurd (apart (top gs) b flow)))

    mends : Mends text stage.After gs w i → Mends text stage.After fs u i
    mends (more, ascii, tree, y) = (more, ascii, tree, ((tag_both (text ++ more) place fs gs u w i on e) (Tree tree)).1 y)

  -- ---- a node that stops: at a token that begins none, and at a scalar that fails

  bare_token : (t : Token) → is_told t ≡ true → is_outer t ≡ false → starts_scalar t ≡ false → ((map : Bool) → t ≡ Opens map → ⊥) → ((len : ℕ) → t ≡ Tag len → ⊥) → (t ≡ NoTag → ⊥) → (t ≡ Anchor → ⊥) → is_bare t ≡ true
  bare_token End h o s p q n a = absurd (true≢false (sym h))
  bare_token Dashes h o s p q n a = absurd (true≢false (sym h))
  bare_token Dots h o s p q n a = absurd (true≢false (sym h))
  bare_token Dash h o s p q n a = absurd (true≢false o)
  bare_token (Tag k) h o s p q n a = absurd (q k refl)
  bare_token NoTag h o s p q n a = absurd (n refl)
  bare_token (Opens map) h o s p q n a = refl
  bare_token (Closes map) h o s p q n a = refl
  bare_token Comma h o s p q n a = refl
  bare_token (Point loose) h o s p q n a = absurd (true≢false s)
  bare_token Anchor h o s p q n a = absurd (a refl)
  bare_token Percent h o s p q n a = refl
  bare_token Tabbed h o s p q n a = absurd (true≢false (sym h))
  bare_token Stray h o s p q n a = absurd (true≢false (sym h))
  bare_token Other h o s p q n a = absurd (true≢false s)

  pub token_mends : (a : Ahead) (q : ℕ) → a ≡ ahead text true i → starts_scalar a.token ≡ false → ((map : Bool) → a.token ≡ Opens map → ⊥) → ((len : ℕ) → a.token ≡ Tag len → ⊥) → (a.token ≡ NoTag → ⊥) → (a.token ≡ Anchor → ⊥) → q ≡ flow_place text a → MendsNode text fs u i q
  token_mends a q e starts opens tags none anchor place = λ last. ((λ h going. absurd (past last h going)), (λ l. absurd (late last l))) where
    here : (ahead text true i).token ≡ a.token
    here = sym (ap (λ (b : Ahead). b.token) e)

    shut : is_ending a.token ≡ false → q ≡ last_told text a
    shut z = place ∙ ap (λ r. cond r (told_place text a) (last_told text a)) z

    some : is_ending a.token ≡ false → 0 < length text
    some z = some_text text true i cut.0 (ap is_ending here ∙ z)

    past : ends_with 13 text ≡ false → q ≡ length text → is_ending (ahead text true i).token ≡ false → ⊥
    past last h going = by_order (cases_lt (told_place text a) (length text)) where
      z : is_ending a.token ≡ false
      z = sym (ap is_ending here) ∙ going

      by_order : (told_place text a < length text) ⊎ (length text ≤ told_place text a) → ⊥
      by_order (inl l) = let k = shut z ∙ within_here text (told_place text a) l in omega (arith, h, k, l)
      by_order (inr l) = let k = shut z ∙ within_end text (told_place text a) l in let y = some z in omega (arith, h, k, y)

    late : ends_with 13 text ≡ false → IsLast text i q → ⊥
    late last l = by_ending (is_ending a.token) refl where
      by_told : (is_told a.token ≡ true) ⊎ (a.token ≡ Stray) → ⊥
      by_told (inl t) =
          let o = bare_token a.token t (sym (ap is_outer here) ∙ inner_ahead text i) starts opens tags none anchor in
          let s = bare_seen text true i (ap is_bare here ∙ o) in
          let w = told_at text true i (ap is_told here ∙ t) in
          let far = l.1 last in
          omega (arith, s, w, far)
      by_told (inr k) = stray_within text true i utf8 cut last (here ∙ k) (l.1 last)

      by_ending : (r : Bool) → is_ending a.token ≡ r → ⊥
      by_ending true z = let k : q ≡ length text = place ∙ ap (λ r. cond r (told_place text a) (last_told text a)) z ∙ ap (λ r. cond r (length text) (past_return text (a.at + width a (drop a.at text)))) z in let y = l.0 in omega (arith, k, y)
      by_ending false z = by_told (stray_told a.token z)

  word_bare : (t : Token) → starts_scalar t ≡ true → is_stray t ≡ false
  word_bare Other e = refl
  word_bare (Point loose) e = refl
  word_bare End e = refl
  word_bare Dashes e = refl
  word_bare Dots e = refl
  word_bare Tabbed e = refl
  word_bare Stray e = absurd (true≢false (sym e))
  word_bare Dash e = refl
  word_bare (Tag len) e = refl
  word_bare NoTag e = refl
  word_bare (Opens map) e = refl
  word_bare (Closes map) e = refl
  word_bare Comma e = refl
  word_bare Anchor e = refl
  word_bare Percent e = refl

  -- one that fails within the text is shown there
  fails_inside : (s : Setting) (r : ℕ) → starts_scalar (ahead text true i).token ≡ true → scalar_at s text (ahead text true i).at ≡ Fails r → r < length text → ends_with 13 text ≡ false → length text ≤ ahead_seen text i → ⊥
  fails_inside s r starts h l last far = by_mark (is_cut_mark (line_at (drop (ahead text true i).at text))) refl where
    wide : length text ≤ (ahead text true i).at + token_width (drop (ahead text true i).at text)
    wide =
        let w = subst (λ q. ahead_seen text i ≤ (ahead text true i).at + cond (q && ((ahead text true i).fresh || nat_lt 0 (ahead text true i).column)) (first_return (drop (ahead text true i).at text)) (token_width (drop (ahead text true i).at text))) (word_bare (ahead text true i).token starts)
        (ahead_wide text true i (word_inside (ahead text true i).token starts)) in
        omega (arith, w, far)

    by_mark : (q : Bool) → is_cut_mark (line_at (drop (ahead text true i).at text)) ≡ q → ⊥
    by_mark false k = let s2 = seen_fails s text true i r cut.0 starts h k in omega (arith, s2, l, far)
    by_mark true k = returned (cut_mark_bytes (drop (ahead text true i).at text) k) where
      returned : (token_width (drop (ahead text true i).at text) ≤ 4) × ((a b c : ℕ) × (rest : List ℕ) × (drop (ahead text true i).at text ≡ a ∷ b ∷ c ∷ 13 ∷ rest)) → ⊥
      returned (w, (a, b, c, [], e)) = true≢false (sym (ends_drop (ahead text true i).at text (a ∷ b ∷ c ∷ 13 ∷ []) e refl) ∙ last)
      returned (w, (a, b, c, x ∷ rest, e)) = let n = ap (λ (t : List ℕ). length t) e in let y = wide in omega (arith, w, y, n, length-drop (ahead text true i).at text)

  flow_block : (f : Form) (xs : List ℕ) → IsFlow f → begins_block (setting_of f) xs ≡ false
  flow_block Root xs k = absurd k
  flow_block (Flow map) xs k = refl
  flow_block (FlowTagged at) xs k = refl
  flow_block (Items m) xs k = absurd k
  flow_block (Entries m) xs k = absurd k
  flow_block (Tagged at above shares) xs k = absurd k

  abbrev Mended : Type 0
  Mended = (more : List ℕ) × (each is_ascii more ≡ true) × (tree : Forest) × Awaits (text ++ more) fs u.outer u.done u.key i (Tree tree)

  pub word_mends : (f : Form) (a : Ahead) (q : ℕ) → a ≡ ahead text true i → top fs ≡ f → IsFlow f → Open fs u → starts_scalar a.token ≡ true → FailedAt text (setting_of f) a q → InRoom text u f i a (MendsNode text fs u i) q
  word_mends f a q e form flow open_ starts failed roomy = λ last. by_fail last failed where
    word : starts_scalar (ahead text true i).token ≡ true
    word = sym (ap (λ (b : Ahead). starts_scalar b.token) e) ∙ starts

    inside_text : (ahead text true i).at < length text
    inside_text = told_at text true i (word_told (ahead text true i).token word)

    flowing : IsFlow (top fs)
    flowing = subst IsFlow (sym form) flow

    mend : ends_with 13 text ≡ false → scalar_at (setting_of (top fs)) text (ahead text true i).at ≡ Fails (length text) → (follows_get_att text (top fs) i ≡ true → HasRoom text (ahead text true i).at (length u.outer)) → Mended
    mend last h room =
        subst (λ o. MayBegin (top fs) (ahead text o i) → starts_scalar (ahead text o i).token ≡ true → (ahead text o i).at < length text → begins_block (setting_of (top fs)) (drop (ahead text o i).at text) ≡ false → ends_with 13 text ≡ false → scalar_at (setting_of (top fs)) text (ahead text o i).at ≡ Fails (length text) → (follows_get_att text (top fs) i ≡ true → HasRoom text (ahead text o i).at (length u.outer)) → Mended) (flow_in (top fs) flowing)
        (value_grown fs u.outer u.done u.key i open_.0 open_.1 text cut.0) (λ b. absurd (apart (top fs) b flowing)) word inside_text (flow_block (top fs) (drop (ahead text true i).at text) flowing) last h room

    Says : Type 0
    Says = (q ≡ length text → is_ending (ahead text true i).token ≡ false → Mended) × (IsLast text i q → (follows_get_att text (top fs) i ≡ true) × ((more : List ℕ) → IsUtf8 (text ++ more) → (t : Forest) → Awaits (text ++ more) fs u.outer u.done u.key i (Tree t) → ⊥))

    by_less : (r : ℕ) (c : Bool) → nat_lt r (length text) ≡ c → ends_with 13 text ≡ false → scalar_at (setting_of f) text (ahead text true i).at ≡ Fails r → q ≡ cond c (within text (past_return text (widest (a.at + width a (drop a.at text)) r))) (length text) → Says
    by_less r true k last h g =
        let l = ltb-true r (length text) k in
        ((λ z going. absurd (inner (past_return text (widest (a.at + width a (drop a.at text)) r)) z g l)), (λ x. absurd (fails_inside (setting_of f) r word h l last (x.1 last)))) where
          inner : (n : ℕ) → q ≡ length text → q ≡ within text n → r < length text → ⊥
          inner n z g l = by_order (cases_lt n (length text)) where
            by_order : (n < length text) ⊎ (length text ≤ n) → ⊥
            by_order (inl y) = let w = g ∙ within_here text n y in omega (arith, z, w, y)
            by_order (inr y) = let w = g ∙ within_end text n y in omega (arith, z, w, l)
    by_less r false k last h g = ((λ z going. mend last whole (room_here text fs u i f a true form e (roomy z) (flow_block (top fs) (drop (ahead text true i).at text) flowing))), (λ x. absurd (let y = x.0 in omega (arith, y, g)))) where
      most : r ≤ length text
      most = scalar_upper (setting_of f) text (ahead text true i).at r inside_text h

      end : r ≡ length text
      end = let z : length text ≤ r = grind (arith, nat_tests, k) in let m = most in omega (arith, z, m)

      whole : scalar_at (setting_of (top fs)) text (ahead text true i).at ≡ Fails (length text)
      whole = ap (λ g. scalar_at (setting_of g) text (ahead text true i).at) form ∙ h ∙ ap Fails end

    by_fail : ends_with 13 text ≡ false → FailedAt text (setting_of f) a q → Says
    by_fail last (inl (g, k)) = let l = inside_text in let y = ap (λ (b : Ahead). b.at) e in absurd (omega (arith, l, y, k))
    by_fail last (inr (r, l, h, g)) =
        by_less r (nat_lt r (length text)) refl last (ap (λ (b : Ahead). scalar_at (setting_of f) text b.at) (sym e) ∙ sym (ap (λ c. cond c (scalar_at (setting_of f) text a.at) (Fails a.at)) starts) ∙ h) g

  -- ---- where an entry may stand

  shut_token : (t : Token) → is_told t ≡ true → is_outer t ≡ false → starts_scalar t ≡ false → is_shut t ≡ true
  shut_token End h o s = absurd (true≢false (sym h))
  shut_token Dashes h o s = absurd (true≢false (sym h))
  shut_token Dots h o s = absurd (true≢false (sym h))
  shut_token Dash h o s = absurd (true≢false o)
  shut_token (Tag k) h o s = refl
  shut_token NoTag h o s = refl
  shut_token (Opens map) h o s = refl
  shut_token (Closes map) h o s = refl
  shut_token Comma h o s = refl
  shut_token (Point loose) h o s = absurd (true≢false s)
  shut_token Anchor h o s = refl
  shut_token Percent h o s = refl
  shut_token Tabbed h o s = absurd (true≢false (sym h))
  shut_token Stray h o s = absurd (true≢false (sym h))
  shut_token Other h o s = absurd (true≢false s)

  no_point : (t : Token) → starts_scalar t ≡ false → (loose : Bool) → t ≡ Point loose → ⊥
  no_point t s loose e = true≢false (sym (ap starts_scalar e) ∙ s)

  -- a token that begins no key
  pub key_token_lengthens : (a : Ahead) (q : ℕ) → a ≡ ahead text true i → top fs ≡ Flow true → Open fs u → u.key ≡ None → starts_scalar a.token ≡ false → (a.token ≡ Closes true → ⊥) → is_marked a.token ≡ false → q ≡ flow_place text a → Lengthens text stage.Entry fs u i (Err (stop.Unread q))
  key_token_lengthens a q e form open_ none starts closed plain place = by_open (is_ending a.token) refl place where
    flow : IsFlow (top fs)
    flow = subst IsFlow (sym form) tt

    by_open : (r : Bool) → is_ending a.token ≡ r → q ≡ cond r (told_place text a) (last_told text a) → Lengthens text stage.Entry fs u i (Err (stop.Unread q))
    by_open true o k =
        let end : a.token ≡ End = open_end a.token (ap (λ c. c || is_open a.token) o) plain (ap (λ (b : Ahead). is_outer b.token) e ∙ inner_ahead text i) (no_point a.token starts) in
        let there : q ≡ length text = k ∙ ap (λ t. cond (is_ending t) (length text) (past_return text (a.at + width a (drop a.at text)))) end in
        λ last. ((λ h. end_mends text stage.Entry fs u i (open_, (true, form), none) cut.0 flow (sym (ap (λ (b : Ahead). b.token) e) ∙ end)), (λ l more longer. (let z = l.0 in absurd (omega (arith, z, there)))))
    by_open false o k =
        last_lengthens text utf8 fs u i cut stage.Entry true a q e o k (λ more longer last t l far there fits g h. by_forms more t l fs u.outer form open_.0 g h) where
          by_forms : (more : List ℕ) → is_told (ahead text true i).token ≡ true → (ahead text true i).at < length text → (hs : List Form) (outer : List Level) → top hs ≡ Flow true → Agrees hs outer → (g : Forest) → Enters (text ++ more) hs outer u.done i (Tree g) → ⊥
          by_forms more t l [] outer f ag g h = absurd (apart_open f)
          by_forms more t l (y ∷ ys) [] f ag g h = absurd ag
          by_forms more t l (y ∷ ys) (x ∷ xs) f ag g h =
              map_dead text (text ++ more) i low t (agrees_longer text more (ahead text true i).at l) ys x xs u.done g (shut_token (ahead text true i).token t (inner_ahead text i) (sym (ap (λ (b : Ahead). starts_scalar b.token) e) ∙ starts))
              (λ z. closed (ap (λ (b : Ahead). b.token) e ∙ z)) (subst (λ k. Enters (text ++ more) (k ∷ ys) (x ∷ xs) u.done i (Tree g)) f h)

  -- a key that fails
  pub key_fails_lengthens : (a : Ahead) (z : Setting) (e : Stop) → a ≡ ahead text true i → starts_scalar a.token ≡ true → z ≡ as_key true → ((q : ℕ) → e ≡ stop.Unread q → FailedAt text z a q) → top fs ≡ Flow true → Open fs u → Lengthens text stage.Entry fs u i (Err e)
  key_fails_lengthens a z e here starts same place form open_ = unread_on (LengthensAt text stage.Entry fs u i) (Err e) (λ q h last. by_fail last q (subst (λ y. FailedAt text y a q) same (place q (error_is (Err e) q refl h)))) where
    error_is : (r : Result Position Stop) (q : ℕ) → r ≡ Err e → r ≡ Err (stop.Unread q) → e ≡ stop.Unread q
    error_is r q g k = cc

    word : starts_scalar (ahead text true i).token ≡ true
    word = sym (ap (λ (b : Ahead). starts_scalar b.token) here) ∙ starts

    inside_text : (ahead text true i).at < length text
    inside_text = told_at text true i (word_told (ahead text true i).token word)

    Says : ℕ → Type 0
    Says q = (q ≡ length text → Mends text stage.Entry fs u i) × (IsLast text i q → (more : List ℕ) → IsUtf8 (text ++ more) → NoRest stage.Entry fs u i (text ++ more))

    by_less : (q r : ℕ) (c : Bool) → nat_lt r (length text) ≡ c → ends_with 13 text ≡ false → scalar_at (as_key true) text (ahead text true i).at ≡ Fails r → q ≡ cond c (within text (past_return text (widest (a.at + width a (drop a.at text)) r))) (length text) → Says q
    by_less q r true k last h g =
        let l = ltb-true r (length text) k in
        ((λ z. absurd (inner (past_return text (widest (a.at + width a (drop a.at text)) r)) z g l)), (λ x more longer. absurd (fails_inside (as_key true) r word h l last (x.1 last)))) where
          inner : (n : ℕ) → q ≡ length text → q ≡ within text n → r < length text → ⊥
          inner n z g l = by_order (cases_lt n (length text)) where
            by_order : (n < length text) ⊎ (length text ≤ n) → ⊥
            by_order (inl y) = let w = g ∙ within_here text n y in omega (arith, z, w, y)
            by_order (inr y) = let w = g ∙ within_end text n y in omega (arith, z, w, l)
    by_less q r false k last h g = ((λ z. key_grows text fs u i form open_ cut.0 word inside_text last (h ∙ ap Fails end)), (λ x more longer. (let y = x.0 in absurd (omega (arith, y, g))))) where
      end : r ≡ length text
      end = let z : length text ≤ r = grind (arith, nat_tests, k) in let m = scalar_upper (as_key true) text (ahead text true i).at r inside_text h in omega (arith, z, m)

    by_fail : ends_with 13 text ≡ false → (q : ℕ) → FailedAt text (as_key true) a q → Says q
    by_fail last q (inl (g, k)) = let l = inside_text in let y = ap (λ (b : Ahead). b.at) here in absurd (omega (arith, l, y, k))
    by_fail last q (inr (r, l, h, g)) =
        by_less q r (nat_lt r (length text)) refl last (ap (λ (b : Ahead). scalar_at (as_key true) text b.at) (sym here) ∙ sym (ap (λ c. cond c (scalar_at (as_key true) text a.at) (Fails a.at)) starts) ∙ h) g

  -- a key without its colon
  pub key_end_lengthens : (a : Ahead) (t : List ℕ) (e q : ℕ) (quoted : Bool) → IsSeen text true i a → top fs ≡ Flow true → Open fs u → scalar_ahead text (as_key true) a ≡ Stands t e → a.at < e → IsCharBoundary text e → has_key u.done t ≡ false → ((p : ℕ) → IsColon text quoted e p → ⊥)
      → q ≡ flow_place text (ahead text true e) → Lengthens text stage.Entry fs u i (Err (stop.Unread q))
  key_end_lengthens a t e q quoted seen form open_ st less there fresh none place = λ last. by_ending last (is_ending (ahead text true e).token) refl where
    st2 : scalar_ahead text (as_key true) (ahead text true i) ≡ Stands t e
    st2 = subst (λ (b : Ahead). scalar_ahead text (as_key true) b ≡ Stands t e) seen.0 st

    unmarked : is_marked (ahead text true e).token ≡ false
    unmarked = by_mark (is_marked (ahead text true e).token) refl where
      by_mark : (r : Bool) → is_marked (ahead text true e).token ≡ r → r ≡ false
      by_mark true m = absurd (none e (inr (marked_ends (ahead text true e).token m, refl)))
      by_mark false m = refl

    at_end : is_ending (ahead text true e).token ≡ true → (ahead text true e).token ≡ End
    at_end go = open_end (ahead text true e).token (ap (λ z. z || is_open (ahead text true e).token) go) unmarked (inner_ahead text e) (λ loose k. true≢false (sym go ∙ ap is_ending k))

    place_is : (ahead text true e).token ≡ End → q ≡ length text
    place_is end = place ∙ ap (λ z. cond (is_ending z) (cond (is_ending z) (length text) (past_return text ((ahead text true e).at + width (ahead text true e) (drop (ahead text true e).at text)))) (last_told text (ahead text true e))) end

    Says : Type 0
    Says = (q ≡ length text → Mends text stage.Entry fs u i) × (IsLast text i q → (more : List ℕ) → IsUtf8 (text ++ more) → NoRest stage.Entry fs u i (text ++ more))

    by_ending : ends_with 13 text ≡ false → (r : Bool) → is_ending (ahead text true e).token ≡ r → Says
    by_ending last true go = (
      (λ h. (let b = there.0 in let l = less in key_mends text fs u i t e form open_ cut.0 last st2 (subst (λ (b : Ahead). b.at < length text) seen.0 (omega (arith, b, l))) there.0 (at_end go) fresh)),
      (λ l more longer. (let z = l.0 in let y = place_is (at_end go) in absurd (omega (arith, z, y)))),
    )
    by_ending last false go = (
      (λ h. (let z = tail_place text utf8 i a seen cut t e st less there quoted none q place last go in absurd (omega (arith, z, h)))),
      (λ l more longer. (let z = tail_within text utf8 i a seen cut t e st less there quoted none q place last go in let y = l.1 last in absurd (omega (arith, z, y)))),
    )

  -- an entry of a list
  pub item_lengthens : (a : Ahead) (r : Result Position Stop) → a ≡ ahead text true i → top fs ≡ Flow false → Open fs u → u.key ≡ None → is_marked a.token ≡ false → OnUnread (MendsNode text fs u i) r → Lengthens text stage.Entry fs u i r
  item_lengthens a r e form open_ none plain h = on_from (MendsNode text fs u i) (LengthensAt text stage.Entry fs u i) r (λ q g last. let z = g last in ((λ k. by_ending (is_ending (ahead text true i).token) refl q k z.0), (λ l more longer. absurd (true≢false (sym (z.1 l).0 ∙ ap (λ f. follows_get_att text f i) form))))) h where
    flow : IsFlow (top fs)
    flow = subst IsFlow (sym form) tt

    no_colon : (t : Token) → is_ending t ≡ true → (loose : Bool) → t ≡ Point loose → ⊥
    no_colon t s loose k = true≢false (sym s ∙ ap is_ending k)

    by_ending : (c : Bool) → is_ending (ahead text true i).token ≡ c → (q : ℕ) → q ≡ length text → (q ≡ length text → is_ending (ahead text true i).token ≡ false → (more : List ℕ) × (each is_ascii more ≡ true) × (tree : Forest) × Awaits (text ++ more) fs u.outer u.done u.key i (Tree tree))
        → Mends text stage.Entry fs u i
    by_ending true o q k z =
        end_mends text stage.Entry fs u i (open_, (false, form), none) cut.0 flow
        (open_end (ahead text true i).token (ap (λ c. c || is_open (ahead text true i).token) o) (sym (ap (λ (b : Ahead). is_marked b.token) e) ∙ plain) (inner_ahead text i) (no_colon (ahead text true i).token o))
    by_ending false o q k z = item_mends text fs u i form open_ (subst (λ y. (more : List ℕ) × (each is_ascii more ≡ true) × (tree : Forest) × Awaits (text ++ more) fs u.outer u.done y i (Tree tree)) none (z k o))

  -- ---- where a value may stand

  ending_end : (t : Token) → is_ending t ≡ true → is_flow_ending t ≡ false → is_outer t ≡ false → t ≡ End
  ending_end End e f o = refl
  ending_end Dashes e f o = absurd (true≢false f)
  ending_end Dots e f o = absurd (true≢false f)
  ending_end Tabbed e f o = absurd (true≢false o)
  ending_end Dash e f o = absurd (true≢false (sym e))
  ending_end (Tag n) e f o = absurd (true≢false (sym e))
  ending_end NoTag e f o = absurd (true≢false (sym e))
  ending_end (Opens q) e f o = absurd (true≢false (sym e))
  ending_end (Closes q) e f o = absurd (true≢false (sym e))
  ending_end Comma e f o = absurd (true≢false (sym e))
  ending_end (Point q) e f o = absurd (true≢false (sym e))
  ending_end Anchor e f o = absurd (true≢false (sym e))
  ending_end Percent e f o = absurd (true≢false (sym e))
  ending_end Stray e f o = absurd (true≢false (sym e))
  ending_end Other e f o = absurd (true≢false (sym e))

  flow_spelled : (f : Form) → IsFlow f → IsSpelled text f i
  flow_spelled Root k = absurd k
  flow_spelled (Flow map) k = tt
  flow_spelled (FlowTagged at) k = tt
  flow_spelled (Items m) k = absurd k
  flow_spelled (Entries m) k = absurd k
  flow_spelled (Tagged at above shares) k = absurd k

  pub value_lengthens : (f : Form) (a : Ahead) (r : Result Position Stop) → a ≡ ahead text true i → top fs ≡ f → IsFlow f → may_miss f ≡ true → IsBehind f i → Open fs u → AwaitsValue u → is_flow_ending a.token ≡ false → OnUnread (MendsNode text fs u i) r → Lengthens text stage.Value fs u i r
  value_lengthens f a r e form flow misses behind open_ awaited plain h =
      on_from (MendsNode text fs u i) (LengthensAt text stage.Value fs u i) r (λ q g last. let z = g last in ((λ k. by_ending (is_ending (ahead text true i).token) refl q k z.0), (λ l more longer there fitting. (z.1 l).1 more longer))) h where
        flowing : IsFlow (top fs)
        flowing = subst IsFlow (sym form) flow

        no_list : top fs ≡ Flow false → ⊥
        no_list k = true≢false (sym misses ∙ ap may_miss (sym form ∙ k))

        fits : Fits text stage.Value fs u i
        fits = (open_, no_list, awaited, subst (λ g. IsBehind g i) (sym form) behind, flow_spelled (top fs) flowing)

        by_ending : (c : Bool) → is_ending (ahead text true i).token ≡ c → (q : ℕ) → q ≡ length text → (q ≡ length text → is_ending (ahead text true i).token ≡ false
            → (more : List ℕ) × (each is_ascii more ≡ true) × (tree : Forest) × Awaits (text ++ more) fs u.outer u.done u.key i (Tree tree)) → Mends text stage.Value fs u i
        by_ending true o q k z = end_mends text stage.Value fs u i fits cut.0 flowing (ending_end (ahead text true i).token o (sym (ap (λ (b : Ahead). is_flow_ending b.token) e) ∙ plain) (inner_ahead text i))
        by_ending false o q k z = z k o
