-- What a value of a block is stands in longer texts too, where a token that its bytes tell is ahead behind it. By the cases of what is found.
use Rattle.std.proofs.Common.{◌≡◌, ℕ, suc, ◌+◌, ◌*◌, ◌-◌, ◌<◌, ◌≤◌, ◌⊎◌, inl, inr, Bool, true, false, ◌||◌, ◌&&◌, cond, nat_eq, nat_lt, arith, List, [], ◌∷◌, ◌++◌, drop, length, refl, sym, ap, ◌∙◌, subst, true≢false, length-drop}
use Rattle.std.proofs.lemmas.Bool.{cases_lt}
use Rattle.std.proofs.lemmas.Bool.Decides.{nat_tests}
use Rattle.std.specs.Prelude.{Result, Ok, Err, IfOk, None}
use Rattle.std.specs.Str.{IsCharBoundary, IsUtf8}
use Rattle.std.specs.Cow.{cow_str_bytes}
use Rattle.doc_values.specs.declared.kind.Kind.TheVariants as kind
use Rattle.doc_values.specs.Tree.{Forest}
use Rattle.doc_values.specs.Unfinished.{Unfinished, with_value}
use Rattle.yaml_scalars.specs.Lines.{Stands, begins_with, ends_with, is_white, is_end, lead, lines}
use Rattle.yaml_scalars.specs.Scalar.{begins_quoted, begins_block}
use Rattle.yaml_scalars.specs.code.Walk.{line_at}
use Rattle.yaml_laws.specs.code.Agreement.{AgreesTo, out_shown, plain_shown, scalar_shown}
use Rattle.yaml_grammar.specs.declared.ahead.Ahead.{Ahead}
use Rattle.yaml_grammar.specs.declared.ahead.Token.{Token}
use Rattle.yaml_grammar.specs.declared.ahead.Token.TheVariants.{End, Dashes, Dots, Dash, Tag, NoTag, Opens, Closes, Comma, Point, Anchor, Percent, Tabbed, Stray, Other}
use Rattle.yaml_grammar.specs.declared.form.Form.{Form}
use Rattle.yaml_grammar.specs.declared.form.Form.TheVariants.{Root, Flow, FlowTagged, Items, Entries, Tagged}
use Rattle.yaml_grammar.specs.declared.stage.Stage.{Stage}
use Rattle.yaml_grammar.specs.declared.stage.Stage.TheVariants as stage
use Rattle.yaml_grammar.specs.declared.stage.Position.{Position}
use Rattle.yaml_grammar.specs.declared.stop.Stop.{Stop}
use Rattle.yaml_grammar.specs.Ahead.{begins_letter, ends_tag, is_name, tag_token, other_token, token_len, token_of, ahead}
use Rattle.yaml_grammar.specs.Nodes.{setting_of, as_key, starts_scalar, scalar_ahead, is_marked, is_tagged, node_sign}
use Rattle.yaml_grammar.specs.Blocks.{takes_scalar, takes_mapping, takes_sequence, takes_tag, block_sign}
use Rattle.yaml_grammar.specs.Signs.{Tree}
use Rattle.yaml_grammar.specs.Yaml.{text_start}
use Rattle.yaml_grammar.specs.code.AheadSeen.{ahead_seen, first_return, is_told}
use Rattle.yaml_grammar.specs.code.Extends.{Comes, IsPointed, ExtendsValue, Leaves, Shuts}
use Rattle.yaml_grammar.specs.code.Points.{is_pointed}
use Rattle.yaml_grammar.specs.code.Rest.{top, Awaits}
use Rattle.yaml_grammar.specs.code.StopPlaces.{token_width, width}
use Rattle.yaml_grammar.specs.code.Steps.{IsBlock, IsFlow, IsBehind, IsSeen, Fits, Nests, Awaited, SameNode, SameScalar, NoNode, NoKey, Holds, TagBegun, Opened, Closed, Completes, Gives}
use Rattle.yaml_grammar.specs.code.Twins.{IsTwin}
use Rattle.yaml_grammar.proofs.AheadOrder.{seen_behind, seen_least}
use Rattle.yaml_grammar.proofs.AwaitedNodes.{place_behind}
use Rattle.yaml_grammar.proofs.Back.{twin_end}
use Rattle.yaml_grammar.proofs.BlockEnds.{unquoted_free}
use Rattle.yaml_grammar.proofs.BlockGains.{IsOnce, Spot, spot_of, missing_gives}
use Rattle.yaml_grammar.proofs.BlockRests.{awaits_missing}
use Rattle.yaml_grammar.proofs.Continuations.{block_below}
use Rattle.yaml_grammar.proofs.FirstDead.{AreStill, still_none, IsFirst, first_same}
use Rattle.yaml_grammar.proofs.FirstTokens.{first_byte}
use Rattle.yaml_grammar.proofs.Fixed.{apart, end_is, starts_of, scalar_from, none_twin}
use Rattle.yaml_grammar.proofs.KeyEnds.{key_end}
use Rattle.yaml_grammar.proofs.LastBytes.{agrees_longer, dash_back}
use Rattle.yaml_grammar.proofs.Lengthened.{told_at}
use Rattle.yaml_grammar.proofs.Placed.{placed}
use Rattle.yaml_grammar.proofs.Quiet.{tag_takes}
use Rattle.yaml_grammar.proofs.SameTexts.{seen_alike}
use Rattle.yaml_grammar.proofs.RootLonger.{told_calm}
use Rattle.yaml_grammar.proofs.Scalars.{missed_other}
use Rattle.yaml_grammar.proofs.ScalarWithin.{scalar_within}
use Rattle.yaml_grammar.proofs.Settled.{is_bare, bare_seen, settled_least}
use Rattle.yaml_grammar.proofs.ShownTokens.{ahead_wide}
use Rattle.yaml_grammar.proofs.SyntaxPlaces.{near_value, some_ahead}
use Rattle.yaml_grammar.proofs.Twins.{twin_cuts, twin_ahead, twin_ahead_scalar, twin_quoted, twin_scalar}

-- ---- where no node is complete

pub entry_apart : stage.Entry ≡ stage.Value → ⊥
entry_apart e = absurd (cc)

pub value_apart : stage.Value ≡ stage.After → ⊥
value_apart e = absurd (cc)

pub after_apart : (s : Stage) → s ≡ stage.After → s ≡ stage.Entry → ⊥
after_apart s e f = absurd (let z : stage.After ≡ stage.Entry = sym e ∙ f in cc)

pub value_extends : (text : List ℕ) (fs gs : List Form) (u w : Unfinished) (i : ℕ) (p : Position) → p.stage ≡ stage.Value → ExtendsValue text fs u i gs w (Ok p)
value_extends text fs gs u w i p e = λ after end late told. absurd (let z : stage.Value ≡ stage.After = sym e ∙ after in cc)

pub tag_extends : (text : List ℕ) (f : Form) (a : Ahead) (fs gs : List Form) (u w x : Unfinished) (i : ℕ) (r : Result Position Stop) → TagBegun text f a fs x gs w r → ExtendsValue text fs u i gs w r
tag_extends text f a fs gs u w x i (Err e) h = tt
tag_extends text f a fs gs u w x i (Ok p) (es, ej, eg, ew, d) = value_extends text fs gs u w i p es

pub opened_extends : (text : List ℕ) (map : Bool) (a : Ahead) (fs gs : List Form) (u w x : Unfinished) (i : ℕ) (r : Result Position Stop) → Opened map a fs x gs w r → ExtendsValue text fs u i gs w r
opened_extends text map a fs gs u w x i (Err e) h = tt
opened_extends text map a fs gs u w x i (Ok p) (es, ej, eg, ew, d) = λ after end late told. absurd (let z : stage.Entry ≡ stage.After = sym es ∙ after in cc)

-- between brackets
pub closed_shuts : (text : List ℕ) (i : ℕ) (map : Bool) (a : Ahead) (fs gs : List Form) (u w : Unfinished) (r : Result Position Stop) → IsSeen text true i a → a.token ≡ Closes map → Closed a.behind fs u gs w r → Shuts text i gs r
closed_shuts text i map a fs gs u w (Err e) seen t h = tt
closed_shuts text i map a fs gs u w (Ok p) seen t (es, ej, eg, ew) = λ after block. (map, ap (λ (b : Ahead). b.token) (sym seen.0) ∙ t, ej ∙ ap (λ (b : Ahead). b.behind) seen.0)

pub inner_shuts : (text : List ℕ) (i : ℕ) (gs : List Form) (r : Result Position Stop) → IsFlow (top gs) → Shuts text i gs r
inner_shuts text i gs (Err e) flow = tt
inner_shuts text i gs (Ok p) flow = λ after block. absurd (apart (top gs) block flow)

pub value_shuts : (text : List ℕ) (i : ℕ) (gs : List Form) (p : Position) → p.stage ≡ stage.Value → Shuts text i gs (Ok p)
value_shuts text i gs p e = λ after block. absurd (value_apart (sym e ∙ after))

pub entry_shuts : (text : List ℕ) (i : ℕ) (gs : List Form) (p : Position) → p.stage ≡ stage.Entry → Shuts text i gs (Ok p)
entry_shuts text i gs p e = λ after block. absurd (after_apart p.stage after e)

pub tag_shuts : (text : List ℕ) (f : Form) (a : Ahead) (fs gs : List Form) (u w : Unfinished) (i : ℕ) (r : Result Position Stop) → TagBegun text f a fs u gs w r → Shuts text i gs r
tag_shuts text f a fs gs u w i (Err e) h = tt
tag_shuts text f a fs gs u w i (Ok p) (es, ej, eg, ew, d) = value_shuts text i gs p es

pub opened_shuts : (text : List ℕ) (map : Bool) (a : Ahead) (fs gs : List Form) (u w : Unfinished) (i : ℕ) (r : Result Position Stop) → Opened map a fs u gs w r → Shuts text i gs r
opened_shuts text map a fs gs u w i (Err e) h = tt
opened_shuts text map a fs gs u w i (Ok p) (es, ej, eg, ew, d) = λ after block. absurd (after_apart p.stage after es)

-- outside of them none close
pub no_shuts : (text : List ℕ) (fs gs : List Form) (i : ℕ) (f : Form) (r : Result Position Stop) → f ≡ top fs → IsBlock f → IsFlow (top fs) → Shuts text i gs r
no_shuts text fs gs i f r e block flow = absurd (apart f block (subst IsFlow (sym e) flow))

-- between brackets no value of a block stands
pub flow_extends : (text : List ℕ) (fs gs : List Form) (u w : Unfinished) (i : ℕ) (f : Form) (r : Result Position Stop) → f ≡ top fs → IsFlow f → IsBlock (top fs) → ExtendsValue text fs u i gs w r
flow_extends text fs gs u w i f r e flow block = absurd (apart f (subst IsBlock (sym e) block) flow)

pub value_leaves : (p : Position) → p.stage ≡ stage.Value → Leaves (Ok p)
value_leaves p e = λ after. absurd (let z : stage.Value ≡ stage.After = sym e ∙ after in cc)

pub whole_leaves : (r : Result Position Stop) → IfOk r (λ p. p.stage ≡ stage.Whole) → Leaves r
whole_leaves (Err e) h = tt
whole_leaves (Ok p) h = λ after. absurd (let z : stage.Whole ≡ stage.After = sym h ∙ after in cc)

-- ---- tokens

abbrev pick_point : Token → Bool
pick_point (Point loose) = true
pick_point _ = false

abbrev pick_tag : Token → Bool
pick_tag (Tag len) = true
pick_tag _ = false

picks : (holds : Token → Bool) (q : Bool) (s t : Token) → holds s ≡ false → holds t ≡ false → holds (cond q s t) ≡ false
picks holds true s t h k = h
picks holds false s t h k = k

other_picked : (holds : Token → Bool) (b : ℕ) → holds Anchor ≡ false → holds Percent ≡ false → holds Stray ≡ false → holds Other ≡ false → holds (other_token b) ≡ false
other_picked holds b a p s o = picks holds (nat_eq b 38 || nat_eq b 42) _ _ a (picks holds (nat_eq b 37) _ _ p (picks holds (nat_eq b 35 || nat_eq b 13) _ _ s o))

-- outside of flow a colon begins with one, and a tag with `!`
point_byte : (b : ℕ) (xs : List ℕ) → pick_point (token_of false (b ∷ xs)) ≡ true → b ≡ 58
point_byte b xs h = by_byte (nat_eq b 58) refl where
  by_byte : (q : Bool) → nat_eq b 58 ≡ q → b ≡ 58
  by_byte true e = grind (arith, nat_tests, e)
  by_byte false e = absurd (true≢false (sym h ∙ picks pick_point (nat_eq b 91) _ _ refl (picks pick_point (nat_eq b 123) _ _ refl (picks pick_point (nat_eq b 45 && is_end xs) _ _ refl none)))) where
    none : pick_point (cond (nat_eq b 58 && is_end xs) (Point true) (cond (nat_eq b 33) (tag_token false xs) (other_token b))) ≡ false
    none = ap (λ q. pick_point (cond (q && is_end xs) (Point true) (cond (nat_eq b 33) (tag_token false xs) (other_token b)))) e ∙ picks pick_point (nat_eq b 33) _ _ (picks pick_point (begins_letter xs && ends_tag false (drop (lead is_name xs) xs)) _ _ refl refl) (other_picked pick_point b refl refl refl refl)

tag_byte : (b : ℕ) (xs : List ℕ) → pick_tag (token_of false (b ∷ xs)) ≡ true → b ≡ 33
tag_byte b xs h = by_byte (nat_eq b 33) refl where
  by_byte : (q : Bool) → nat_eq b 33 ≡ q → b ≡ 33
  by_byte true e = grind (arith, nat_tests, e)
  by_byte false e = absurd (true≢false (sym h ∙ picks pick_tag (nat_eq b 91) _ _ refl (picks pick_tag (nat_eq b 123) _ _ refl (picks pick_tag (nat_eq b 45 && is_end xs) _ _ refl (picks pick_tag (nat_eq b 58 && is_end xs) _ _ refl none))))) where
    none : pick_tag (cond (nat_eq b 33) (tag_token false xs) (other_token b)) ≡ false
    none = ap (λ q. pick_tag (cond q (tag_token false xs) (other_token b))) e ∙ other_picked pick_tag b refl refl refl refl

-- a colon that is looked at as far as the text's end is the last byte
colon_last : (text : List ℕ) (i : ℕ) → is_told (ahead text false i).token ≡ true → begins_with 58 (drop (ahead text false i).at text) ≡ true → length text ≤ ahead_seen text i → ((ahead text false i).token ≡ Point true) × (length text ≤ suc (ahead text false i).at)
colon_last text i told colon far = by_byte (first_byte text false i told) where
  a : Ahead
  a = ahead text false i

  near : length text ≤ suc (ahead text false i).at
  near = by_wide (drop (ahead text false i).at text) refl colon where
    by_wide : (xs : List ℕ) → drop (ahead text false i).at text ≡ xs → begins_with 58 xs ≡ true → length text ≤ suc (ahead text false i).at
    by_wide [] e c = absurd (true≢false (sym c))
    by_wide (b ∷ xs) e c =
        let z = ahead_wide text false i (told_calm (ahead text false i).token told).0 in
        let same : b ≡ 58 = grind (arith, nat_tests, c) in
        let w : width a (drop a.at text) ≡ 1 =
        ap (λ q. cond (q && (a.fresh || nat_lt 0 a.column)) (first_return (drop a.at text)) (token_width (drop a.at text))) (told_calm (ahead text false i).token told).1 ∙ ap token_width e ∙ ap (λ d. token_width (d ∷ xs)) same in
        omega (arith, z, w, far)

  by_byte : (b : ℕ) × (rest : List ℕ) × (drop (ahead text false i).at text ≡ b ∷ rest) × (is_white b ≡ false) × ((ahead text false i).token ≡ token_of false (b ∷ line_at rest)) → ((ahead text false i).token ≡ Point true) × (length text ≤ suc (ahead text false i).at)
  by_byte (b, rest, e, black, tok) =
      let size = ap (λ (t : List ℕ). length t) e in
      let n = near in
      let none = empty rest (omega (arith, size, n, length-drop (ahead text false i).at text)) in
      let is : b ≡ 58 = byte_is b rest (sym (ap (begins_with 58) e) ∙ colon) in
      (tok ∙ ap (λ r. token_of false (b ∷ line_at r)) none ∙ ap (λ k. token_of false (k ∷ [])) is, near) where
        empty : (r : List ℕ) → length r ≡ 0 → r ≡ []
        empty [] z = refl
        empty (x ∷ r) z = absurd (omega (arith, z))

        byte_is : (b : ℕ) (r : List ℕ) → begins_with 58 (b ∷ r) ≡ true → b ≡ 58
        byte_is b r h = grind (arith, nat_tests, h)

-- ---- a scalar

block_setting : (f : Form) → IsBlock f → ((setting_of f).flow ≡ false) × ((setting_of f).one_line ≡ false)
block_setting Root b = (refl, refl)
block_setting (Flow map) b = absurd b
block_setting (FlowTagged at) b = absurd b
block_setting (Items m) b = (refl, refl)
block_setting (Entries m) b = (refl, refl)
block_setting (Tagged at above shares) b = (refl, refl)

no_starter : (a : Ahead) (t : Token) → a.token ≡ t → starts_scalar t ≡ false → starts_scalar a.token ≡ true → ⊥
no_starter a t e n h = true≢false (sym h ∙ ap starts_scalar e ∙ n)

module _ (text more : List ℕ) (utf8 : IsUtf8 text) (long : IsUtf8 (text ++ more)) (end : ends_with 13 text ≡ false) where
  abbrev other : List ℕ
  other = text ++ more

  abbrev n : ℕ
  n = length text - 1

  -- behind a scalar that is no key none begins in the longer text
  module _ (a : Ahead) (t : List ℕ) (j : ℕ) (f : Form) (block : IsBlock f) (low : a.at < j) (last : IsCharBoundary text j) (same : SameScalar text other (setting_of f) a) (st : scalar_ahead text (setting_of f) a ≡ Stands t j)
      (told : is_told (ahead text false j).token ≡ true) (free : begins_quoted (drop a.at text) ≡ false → IsPointed text j → ⊥) (nk : NoKey text a) where
    within : j < length text
    within = some_ahead text false j last.0 (λ e. true≢false (sym told ∙ ap is_told e))

    m : IsTwin text n other
    m = let l = within in twin_end text more utf8 long (omega (arith, l)) end

    at_low : j ≤ (ahead text false j).at
    at_low = (placed text false j utf8 last).0

    first : IsFirst text other false j
    first = first_same text other false j at_low told (agrees_longer text more (ahead text false j).at (told_at text false j told))

    -- a colon that is looked at as far as the text's end
    far_colon : length text ≤ ahead_seen text j → (u : List ℕ) → scalar_ahead other (as_key false) a ≡ Stands u j → (ahead other false j).fresh ≡ false → (ahead other false j).token ≡ Point true → ⊥
    far_colon far u st2 fr tk = by_quote (begins_quoted (drop a.at text)) refl where
      colon : first.byte ≡ 58
      colon = by_same first.same where
        by_same : ((ahead other false j).token ≡ token_of false (first.byte ∷ first.that)) ⊎ (is_marked (ahead other false j).token ≡ true) → first.byte ≡ 58
        by_same (inl e) = point_byte first.byte first.that (sym (ap pick_point e) ∙ ap pick_point tk)
        by_same (inr k) = absurd (true≢false (sym k ∙ ap is_marked tk))

      here : ((ahead text false j).token ≡ Point true) × (length text ≤ suc (ahead text false j).at)
      here = colon_last text j told (ap (λ b. begins_with b (drop (ahead text false j).at text)) (sym colon) ∙ first.here) far

      fresh : (ahead text false j).fresh ≡ false
      fresh = sym first.fresh ∙ fr

      pointed : IsPointed text j
      pointed = (fresh, here.0, (let z = seen_behind text false j (Point true) here.0 refl (omega arith) in omega (arith, z, far)))

      by_quote : (q : Bool) → begins_quoted (drop a.at text) ≡ q → ⊥
      by_quote false e = free e pointed
      by_quote true e =
          let l = within in
          let back : IsTwin other n text = record { utf8 = utf8; marks = sym m.marks; agrees = turned m.agrees; breaks = sym m.breaks } in
          let quoted : begins_quoted (drop a.at other) ≡ true = twin_quoted text n other m a.at (omega (arith, low, l)) ∙ e in
          let shown : scalar_shown (as_key false) other a.at j ≡ j = ap (λ q. cond q j (cond (begins_block (as_key false) (drop a.at other)) (j + out_shown (line_at (drop j other))) (plain_shown (as_key false) (length other) (lines a.at (drop a.at other))))) quoted in
          let there = twin_ahead_scalar other n text back (as_key false) a u j (omega (arith, low, l)) (omega (arith, shown, l)) st2 in
          nk u (ahead text false j).behind (j, there, fresh, here.0, refl) where
            turned : AgreesTo n text other → AgreesTo n other text
            turned (before, behind, rest, b, e, g, size) = (before, rest, behind, b, g, e, size)

    none_longer : NoKey other a
    none_longer = by_order (cases_lt (ahead_seen text j) (length text)) where
      by_order : (ahead_seen text j < length text) ⊎ (length text ≤ ahead_seen text j) → NoKey other a
      by_order (inl l) = let k = within in none_twin text n other m utf8 f a t j block same st (omega (arith, low, k)) last.0 (omega (arith, l)) nk
      by_order (inr far) = λ u q (e, st2, fr, tk, b).
          let je : j ≡ e = key_end other a f block u t e j st2 fr (same.scalar ∙ st) in
          far_colon far u (subst (λ k. scalar_ahead other (as_key false) a ≡ Stands u k) (sym je) st2) (subst (λ k. (ahead other false k).fresh ≡ false) (sym je) fr) (subst (λ k. (ahead other false k).token ≡ Point true) (sym je) tk)

pub scalar_extends : (text : List ℕ) (fs : List Form) (u w : Unfinished) (f : Form) (i : ℕ) (a : Ahead) (cuts : Bool) (p : Position) → IsUtf8 text → Awaited text fs u f i a → (takes_mapping f a ≡ true → NoKey text a) → Holds text (setting_of f) cuts a u w (Ok p) → is_pointed text false a.at p.at ≡ false
    → ((other : List ℕ) → Awaited other fs u f i a → SameNode text other f i a → Gives other (Awaits other fs u.outer u.done u.key i) (2 * i + 1) fs w (Ok p)) → ExtendsValue text fs u i fs w (Ok p)
scalar_extends text fs u w f i a cuts p utf8 aw none (t, k, (st, hk, low, last), es, ew, room) still gives = λ after end late told.
    let l = within told in
    let z = from in
    let y = settled_least text false stage.Value i aw.boundary.0 in
    (omega (arith, y, z, l), (λ e. omega (arith, z, l)), (λ more long there fits. inl (gives (text ++ more) (awaited more long end told there fits) (same more long end late told)))) where
      behind : IsBehind f i
      behind = place_behind text fs u f i a aw

      within : is_told (ahead text false p.at).token ≡ true → p.at < length text
      within told = some_ahead text false p.at last.0 (λ e. true≢false (sym told ∙ ap is_told e))

      twin : (more : List ℕ) → IsUtf8 (text ++ more) → ends_with 13 text ≡ false → is_told (ahead text false p.at).token ≡ true → IsTwin text (length text - 1) (text ++ more)
      twin more long end told = let l = within told in twin_end text more utf8 long (omega (arith, l)) end

      from : ahead_seen text i ≤ p.at
      from = scalar_from text false i a aw.seen aw.boundary (setting_of f) t p.at st low last

      awaited : (more : List ℕ) → IsUtf8 (text ++ more) → ends_with 13 text ≡ false → is_told (ahead text false p.at).token ≡ true → IsCharBoundary (text ++ more) i → Fits (text ++ more) stage.Value fs u i → Awaited (text ++ more) fs u f i a
      awaited more long end told there fits =
          let l = within told in
          let z = from in
          let same = twin_ahead text (length text - 1) (text ++ more) (twin more long end told) false i aw.boundary.0 (omega (arith, z, l)) in
          record { small = aw.small; boundary = there; seen = subst (λ (b : Ahead). IsSeen (text ++ more) false i b) (sym aw.seen.0) (seen_alike text (text ++ more) false i long there same); form = aw.form; block = aw.block; fits = fits }

      same : (more : List ℕ) → IsUtf8 (text ++ more) → ends_with 13 text ≡ false → text_start text ≤ i → is_told (ahead text false p.at).token ≡ true → SameNode text (text ++ more) f i a
      same more long end late told =
          let l = within told in
          let z = from in
          let least = seen_least text i aw.boundary.0 in
          let here = aw.seen.1.0 in
          let tw = twin more long end told in
          let kind = block_setting f aw.block in
          let start = starts_of text (setting_of f) a t p.at st in
          let free : begins_quoted (drop a.at text) ≡ false → IsPointed text p.at → ⊥ = λ q pointed. unquoted_free f text a.at t p.at utf8 last aw.block start.1 still q pointed.0 pointed.1 pointed.2 in
          let shown = scalar_within (setting_of f) text a.at t p.at kind.0 kind.1 (omega (arith, low, l)) last.0 (omega (arith, late, here)) low told free start.1 in
          let scalar = twin_scalar text (length text - 1) (text ++ more) tw (setting_of f) a t p.at (omega (arith, low, l)) (omega (arith, shown)) (omega (arith, l)) st in
          record {
            name = λ len h g. absurd (no_starter a (Tag len) g refl start.0);
            cuts = twin_cuts text (length text - 1) (text ++ more) tw f i behind (omega (arith, least, z, l));
            scalar = λ h nk. scalar;
            none = λ h nk. none_longer text more utf8 long end a t p.at f aw.block low last scalar st told free nk;
            key = λ h k2 found. absurd (none h (cow_str_bytes k2.text) k2.behind found.0);
            point = λ h nk x j st2 y. absurd (true≢false (sym y ∙ ap (is_pointed text false a.at) (sym (end_is t x p.at j (sym st ∙ st2))) ∙ still));
          }

-- ---- a node that is missing

-- whether a node may begin at a token depends on its column and on whether it begins a line
module _ (f : Form) (a b : Ahead) (fresh : b.fresh ≡ a.fresh) (column : b.column ≡ a.column) where
  abbrev moved : Ahead
  moved = record { token = b.token; fresh = a.fresh; column = a.column; at = b.at; behind = b.behind }

  moved_is : b ≡ moved
  moved_is = ap (λ q. record { token = b.token; fresh = q; column = b.column; at = b.at; behind = b.behind }) fresh ∙ ap (λ c. record { token = b.token; fresh = a.fresh; column = c; at = b.at; behind = b.behind }) column

  scalar_takes : takes_scalar f b ≡ takes_scalar f a
  scalar_takes = ap (takes_scalar f) moved_is ∙ by_form f where
    by_form : (f : Form) → takes_scalar f moved ≡ takes_scalar f a
    by_form Root = refl
    by_form (Flow map) = refl
    by_form (FlowTagged at) = refl
    by_form (Items m) = refl
    by_form (Entries m) = refl
    by_form (Tagged at above shares) = refl

  sequence_takes : takes_sequence f b ≡ takes_sequence f a
  sequence_takes = ap (takes_sequence f) moved_is ∙ by_form f where
    by_form : (f : Form) → takes_sequence f moved ≡ takes_sequence f a
    by_form Root = refl
    by_form (Flow map) = refl
    by_form (FlowTagged at) = refl
    by_form (Items m) = refl
    by_form (Entries m) = refl
    by_form (Tagged at above shares) = refl

-- where a tag may begin, unless behind one
untagged_takes : (f : Form) (a : Ahead) → IsBlock f → is_tagged f ≡ false → takes_tag f a ≡ takes_scalar f a
untagged_takes Root a b n = refl
untagged_takes (Flow map) a b n = absurd b
untagged_takes (FlowTagged at) a b n = absurd b
untagged_takes (Items m) a b n = refl
untagged_takes (Entries m) a b n = refl
untagged_takes (Tagged at above shares) a b n = absurd (true≢false n)

-- where a node may begin, and none does, a token shows itself by its first byte
missing_bare : (f : Form) (a : Ahead) → IsBlock f → takes_scalar f a ≡ true → NoNode f a → block_sign f a ≡ None → (a.token ≡ Dash → takes_scalar f a ≡ false) → is_told a.token ≡ true → is_bare a.token ≡ true
missing_bare f a block tk none us dash told = by_token a.token refl told where
  signed : (s : Token) → a.token ≡ s → (node_sign (is_tagged f) a.at s ≡ None → ⊥) → ⊥
  signed s e n = n (sym (ap (node_sign (is_tagged f) a.at) e) ∙ sym (ap (λ q. cond q (node_sign (is_tagged f) a.at a.token) None) tk) ∙ us)

  tagged : (len : ℕ) → a.token ≡ Tag len → ⊥
  tagged len e = by_tagged (is_tagged f) refl where
    by_tagged : (q : Bool) → is_tagged f ≡ q → ⊥
    by_tagged false k = none.2 (untagged_takes f a block k ∙ tk) len e
    by_tagged true k = signed (Tag len) e (λ n. some_none (sym (ap (λ q. node_sign q a.at (Tag len)) k) ∙ n)) where
      some_none : node_sign true a.at (Tag len) ≡ None → ⊥
      some_none z = absurd (cc)

  by_token : (t : Token) → a.token ≡ t → is_told t ≡ true → is_bare a.token ≡ true
  by_token End e h = absurd (true≢false (sym h))
  by_token Dashes e h = absurd (true≢false (sym h))
  by_token Dots e h = absurd (true≢false (sym h))
  by_token Tabbed e h = absurd (true≢false (sym h))
  by_token Stray e h = absurd (true≢false (sym h))
  by_token Dash e h = absurd (true≢false (sym tk ∙ dash e))
  by_token (Tag len) e h = absurd (tagged len e)
  by_token NoTag e h = absurd (signed NoTag e (λ z. absurd (cc)))
  by_token Anchor e h = absurd (signed Anchor e (λ z. absurd (cc)))
  by_token (Opens q) e h = ap is_bare e
  by_token (Closes q) e h = ap is_bare e
  by_token Comma e h = ap is_bare e
  by_token Percent e h = ap is_bare e
  by_token (Point q) e h = absurd (true≢false (sym (ap starts_scalar e) ∙ (none.0 tk).0))
  by_token Other e h = absurd (true≢false (sym (ap starts_scalar e) ∙ (none.0 tk).0))

-- at a token that begins no scalar and is no `-` no block goes on
module _ (text : List ℕ) (a : Ahead) (word : starts_scalar a.token ≡ false) (dash : a.token ≡ Dash → ⊥) where
  pub tag_still : (fs : List Form) → Nests fs → IsBlock (top fs) → AreStill text a fs
  tag_still [] ns b = tt
  tag_still (Root ∷ fs) ns b = absurd ns.0
  tag_still (Flow map ∷ fs) ns b = absurd b
  tag_still (FlowTagged at ∷ fs) ns b = absurd b
  tag_still (Items m ∷ fs) (l, s, ns) b = ((λ fr col d. dash d), tag_still fs ns (block_below (Items m) (top fs) b l))
  tag_still (Entries m ∷ fs) (l, s, ns) b = ((λ fr col. missed_other text (as_key false) a word), tag_still fs ns (block_below (Entries m) (top fs) b l))
  tag_still (Tagged at above shares ∷ fs) (l, s, ns) b = (tt, tag_still fs ns (block_below (Tagged at above shares) (top fs) b l))

pub missing_extends : (text : List ℕ) (fs : List Form) (u w : Unfinished) (f : Form) (i : ℕ) (a : Ahead) (r : Result Position Stop) → IsUtf8 text → Awaited text fs u f i a → NoNode f a → block_sign f a ≡ None → IsOnce f a → (f ≡ Root → ⊥) → (a.token ≡ Dash → takes_scalar f a ≡ false)
    → Completes i (with_value kind.Null [] i u) w r → ExtendsValue text fs u i fs w r
missing_extends text fs u w f i a (Err e) utf8 aw none us once root dash h = tt
missing_extends text fs u w f i a (Ok p) utf8 aw none us once root dash (es, ej, ew) = λ after end late told.
    let told_here : is_told (ahead text false i).token ≡ true = subst (λ k. is_told (ahead text false k).token ≡ true) ej told in
    (near_value text i utf8 aw.boundary end told_here, (λ e. absurd (root (sym aw.form ∙ ap top e))), (λ more long there fits. longer more long end told_here there fits)) where
      here : a ≡ ahead text false i
      here = aw.seen.0

      longer : (more : List ℕ) → IsUtf8 (text ++ more) → ends_with 13 text ≡ false → is_told (ahead text false i).token ≡ true → IsCharBoundary (text ++ more) i → Fits (text ++ more) stage.Value fs u i
          → Comes text (text ++ more) (λ v. Awaits (text ++ more) fs u.outer u.done u.key i v) (2 * i + 1) fs w p
      longer more long end told there fits = by_none (scalar_none (takes_scalar f a) refl) where
        low : i ≤ (ahead text false i).at
        low = (placed text false i utf8 aw.boundary).0

        first : IsFirst text (text ++ more) false i
        first = first_same text (text ++ more) false i low told (agrees_longer text more (ahead text false i).at (told_at text false i told))

        b : Ahead
        b = ahead (text ++ more) false i

        fresh : (ahead (text ++ more) false i).fresh ≡ a.fresh
        fresh = first.fresh ∙ ap (λ (x : Ahead). x.fresh) (sym here)

        column : (ahead (text ++ more) false i).column ≡ a.column
        column = first.column ∙ ap (λ (x : Ahead). x.column) (sym here)

        within : i < length text
        within = some_ahead text false i aw.boundary.0 (λ e. true≢false (sym told ∙ ap is_told e))

        scalar_none : (q : Bool) → takes_scalar f a ≡ q → NoNode f (ahead (text ++ more) false i) × (block_sign f (ahead (text ++ more) false i) ≡ None)
        scalar_none true tk =
            let bare = missing_bare f a aw.block tk none us dash (ap (λ (x : Ahead). is_told x.token) here ∙ told) in
            let z = bare_seen text false i (ap (λ (x : Ahead). is_bare x.token) (sym here) ∙ bare) in
            let y = told_at text false i told in
            let l = within in
            let same : a ≡ ahead (text ++ more) false i = here ∙ sym (twin_ahead text (length text - 1) (text ++ more) (twin_end text more utf8 long (omega (arith, l)) end) false i aw.boundary.0 (omega (arith, z, y))) in
            (subst (λ (x : Ahead). NoNode f x) same none, subst (λ (x : Ahead). block_sign f x ≡ None) same us)
        scalar_none false tk =
            let gone : takes_scalar f (ahead (text ++ more) false i) ≡ false = scalar_takes f a (ahead (text ++ more) false i) fresh column ∙ tk in (
              (
                (λ h. absurd (true≢false (sym h ∙ gone))),
                (λ h d. none.1 (sym (sequence_takes f a (ahead (text ++ more) false i) fresh column) ∙ h) (ap (λ (x : Ahead). x.token) here ∙ dash_back text more utf8 long end i low aw.boundary.0 told (told_at text false i told) (dash_len d) d)),
                (λ h len t. true≢false (sym (tag_takes text f (ahead (text ++ more) false i) h) ∙ gone)),
              ),
              ap (λ q. cond q (node_sign (is_tagged f) (ahead (text ++ more) false i).at (ahead (text ++ more) false i).token) None) gone,
            ) where
              dash_len : (ahead (text ++ more) false i).token ≡ Dash → (ahead (text ++ more) false i).behind ≡ suc (ahead (text ++ more) false i).at
              dash_len d = let z = (placed (text ++ more) false i long there).3 ∙ ap (λ t. (ahead (text ++ more) false i).at + token_len t) d in omega (arith, z)

        awaited : Awaited (text ++ more) fs u f i (ahead (text ++ more) false i)
        awaited =
            let same : (ahead (text ++ more) false i).at ≡ a.at = first.at ∙ ap (λ (x : Ahead). x.at) (sym here) in
            let small = aw.small in
            record { small = omega (arith, same, small); boundary = there; seen = (refl, placed (text ++ more) false i long there); form = aw.form; block = aw.block; fits = fits }

        by_none : NoNode f (ahead (text ++ more) false i) × (block_sign f (ahead (text ++ more) false i) ≡ None) → Comes text (text ++ more) (λ v. Awaits (text ++ more) fs u.outer u.done u.key i v) (2 * i + 1) fs w p
        by_none (free, unsigned) = by_tag (is_tagged f) refl (ahead (text ++ more) false i).token refl where
          sp : Spot (text ++ more) fs u f i (ahead (text ++ more) false i)
          sp = spot_of (text ++ more) fs u f i (ahead (text ++ more) false i) awaited

          goes : IsOnce f (ahead (text ++ more) false i) → Comes text (text ++ more) (λ v. Awaits (text ++ more) fs u.outer u.done u.key i v) (2 * i + 1) fs w p
          goes o = inl (missing_gives (text ++ more) fs u w f i (ahead (text ++ more) false i) (Ok p) refl there sp free unsigned root o (es, ej, ew))

          exclaims : (len : ℕ) → (ahead (text ++ more) false i).token ≡ Tag len → begins_with 33 (drop (ahead text false p.at).at text) ≡ true
          exclaims len e = by_same first.same where
            byte : first.byte ≡ 33 → begins_with 33 (drop (ahead text false p.at).at text) ≡ true
            byte k = ap (λ n. begins_with 33 (drop (ahead text false n).at text)) ej ∙ ap (λ b. begins_with b (drop (ahead text false i).at text)) (sym k) ∙ first.here

            by_same : ((ahead (text ++ more) false i).token ≡ token_of false (first.byte ∷ first.that)) ⊎ (is_marked (ahead (text ++ more) false i).token ≡ true) → begins_with 33 (drop (ahead text false p.at).at text) ≡ true
            by_same (inl s) = byte (tag_byte first.byte first.that (sym (ap pick_tag s) ∙ ap pick_tag e))
            by_same (inr k) = absurd (true≢false (sym k ∙ ap is_marked e))

          nothing : (len : ℕ) → (ahead (text ++ more) false i).token ≡ Tag len → (t : Forest) → Awaits (text ++ more) fs u.outer u.done u.key i (Tree t) → ⊥
          nothing len e t h =
              still_none (text ++ more) fs u.outer (with_value kind.Null [] i u).done i t (tag_still (text ++ more) (ahead (text ++ more) false i) (ap starts_scalar e) (λ d. (let z : Tag len ≡ Dash = sym e ∙ d in absurd (cc))) fs sp.4.1 (subst IsBlock (sym sp.2) sp.3)) (λ k. (let z : Tag len ≡ End = sym e ∙ k in absurd (cc))) (λ k. (let z : Tag len ≡ Dots = sym e ∙ k in absurd (cc)))
              (awaits_missing (text ++ more) fs u.outer f sp.2 sp.3 u.done u.key i (Tree t) free unsigned h)

          by_tag : (q : Bool) → is_tagged f ≡ q → (t : Token) → (ahead (text ++ more) false i).token ≡ t → Comes text (text ++ more) (λ v. Awaits (text ++ more) fs u.outer u.done u.key i v) (2 * i + 1) fs w p
          by_tag false k t e = goes (λ h. absurd (true≢false (sym h ∙ k)))
          by_tag true k (Tag len) e = inr (exclaims len e, nothing len e)
          by_tag true k End e = goes (λ h len g. (let z : End ≡ Tag len = sym e ∙ g in absurd (cc)))
          by_tag true k Dashes e = goes (λ h len g. (let z : Dashes ≡ Tag len = sym e ∙ g in absurd (cc)))
          by_tag true k Dots e = goes (λ h len g. (let z : Dots ≡ Tag len = sym e ∙ g in absurd (cc)))
          by_tag true k Dash e = goes (λ h len g. (let z : Dash ≡ Tag len = sym e ∙ g in absurd (cc)))
          by_tag true k NoTag e = goes (λ h len g. (let z : NoTag ≡ Tag len = sym e ∙ g in absurd (cc)))
          by_tag true k (Opens q) e = goes (λ h len g. (let z : Opens q ≡ Tag len = sym e ∙ g in absurd (cc)))
          by_tag true k (Closes q) e = goes (λ h len g. (let z : Closes q ≡ Tag len = sym e ∙ g in absurd (cc)))
          by_tag true k Comma e = goes (λ h len g. (let z : Comma ≡ Tag len = sym e ∙ g in absurd (cc)))
          by_tag true k (Point q) e = goes (λ h len g. (let z : Point q ≡ Tag len = sym e ∙ g in absurd (cc)))
          by_tag true k Anchor e = goes (λ h len g. (let z : Anchor ≡ Tag len = sym e ∙ g in absurd (cc)))
          by_tag true k Percent e = goes (λ h len g. (let z : Percent ≡ Tag len = sym e ∙ g in absurd (cc)))
          by_tag true k Tabbed e = goes (λ h len g. (let z : Tabbed ≡ Tag len = sym e ∙ g in absurd (cc)))
          by_tag true k Stray e = goes (λ h len g. (let z : Stray ≡ Tag len = sym e ∙ g in absurd (cc)))
          by_tag true k Other e = goes (λ h len g. (let z : Other ≡ Tag len = sym e ∙ g in absurd (cc)))
