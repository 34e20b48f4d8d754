-- What a step found between brackets is found where a further line stands behind the text that begins with a bracket or a comma. By the cases of what is found.
use Rattle.std.proofs.Common.{◌≡◌, ℕ, zero, suc, ◌+◌, ◌-◌, ◌<◌, ◌≤◌, ◌⊎◌, inl, inr, Bool, true, false, ◌||◌, not, cond, get_or, arith, List, [], ◌∷◌, ◌++◌, take, drop, length, refl, sym, ap, ◌∙◌, subst, true≢false, length-append, length-drop}
use Rattle.std.proofs.lemmas.Bool.{cases_lt}
use Rattle.std.proofs.lemmas.List.{take-append-le}
use Rattle.std.proofs.lemmas.Str.{IsCharBoundary-before_ascii}
use Rattle.std.specs.Prelude.{Result, Ok, Err}
use Rattle.std.specs.Str.{IsCharBoundary, bytes_eq}
use Rattle.doc_values.specs.Unfinished.{Unfinished}
use Rattle.yaml_scalars.specs.declared.scalar.Setting.{Setting}
use Rattle.yaml_scalars.specs.Lines.{Stands, Fails, ends_with}
use Rattle.yaml_scalars.specs.Plain.{is_flow_mark}
use Rattle.yaml_scalars.specs.Scalar.{scalar_at, is_typed, begins_quoted, begins_block}
use Rattle.yaml_laws.proofs.Agree.{drop_before}
use Rattle.yaml_laws.proofs.ScalarFollowed.{quoted_longer, block_longer, flow_fed}
use Rattle.yaml_grammar.specs.declared.ahead.Ahead.{Ahead}
use Rattle.yaml_grammar.specs.declared.ahead.Token.{Token}
use Rattle.yaml_grammar.specs.declared.ahead.Token.TheVariants.{End, Dashes, Dots, Dash, Tag, NoTag, Opens, Closes, Comma, Point, Anchor, Percent, Tabbed, Stray, Other}
use Rattle.yaml_grammar.specs.declared.form.Form.{Form}
use Rattle.yaml_grammar.specs.declared.form.Form.TheVariants.{Root, Flow, FlowTagged, Items, Entries, Tagged}
use Rattle.yaml_grammar.specs.declared.stage.Stage.{Stage}
use Rattle.yaml_grammar.specs.declared.stage.Stage.TheVariants as stage
use Rattle.yaml_grammar.specs.declared.stage.Position.{Position}
use Rattle.yaml_grammar.specs.declared.stop.Stop.{Stop}
use Rattle.yaml_grammar.specs.Ahead.{token_len, ahead}
use Rattle.yaml_grammar.specs.Nodes.{tag_name, get_att, follows_get_att, setting_of, as_key, starts_scalar, scalar_ahead}
use Rattle.yaml_grammar.specs.Flow.{ends_key, IsColon}
use Rattle.yaml_grammar.specs.code.Steps.{IsSeen, IsBlock, IsFlow, IsBehind, Holds, TagBegun, Opened, Closed, Completes, SameScalar, SameFlowNode, SameFlowKey, SameStep, is_flow_ending}
use Rattle.yaml_grammar.specs.code.Points.{is_pointed}
use Rattle.yaml_grammar.specs.code.Feeds.{IsFed, FeedsSeen, FeedsFlowNode, FeedsFlowKey, FeedsEntry, FeedsStep, Feeds, Opening}
use Rattle.yaml_grammar.proofs.AheadFed.{ahead_fed, some_of}
use Rattle.yaml_grammar.proofs.AheadEnds.{seam_get}
use Rattle.yaml_grammar.proofs.Fixed.{starts_of, end_is, apart}
use Rattle.yaml_grammar.proofs.Scalars.{missed_other}

-- ---- the longer text

front_get : (xs ys : List ℕ) (i : ℕ) → i < length xs → get_or (xs ++ ys) i 0 ≡ get_or xs i 0
front_get [] ys i l = absurd (omega (arith, l))
front_get (x ∷ xs) ys zero l = refl
front_get (x ∷ xs) ys (suc i) l = front_get xs ys i (omega (arith, l))

module _ (text tail : List ℕ) (c : ℕ) (mark : is_flow_mark c ≡ true) (last : ends_with 13 text ≡ false) where
  abbrev more : List ℕ
  more = 10 ∷ c ∷ tail

  abbrev longer : List ℕ
  longer = text ++ (10 ∷ c ∷ tail)

  pub fed_seen : (i : ℕ) → i ≤ length text → ((ahead text true i).token ≡ End → ⊥) → ahead longer true i ≡ ahead text true i
  fed_seen i low n = ahead_fed text (c ∷ tail) true i low last (some_of (ahead text true i).token n)

  pub fed_cut : (j : ℕ) → IsCharBoundary text j → IsCharBoundary longer j
  fed_cut j (w, b) = by_order (cases_lt j (length text)) where
    size : length longer ≡ length text + suc (suc (length tail))
    size = length-append text more

    by_order : (j < length text) ⊎ (length text ≤ j) → IsCharBoundary longer j
    by_order (inl l) = (omega (arith, w, size), (λ s g. subst (λ n. 192 ≤ n) (sym (front_get text more j l)) (b l (subst (λ n. 128 ≤ n) (front_get text more j l) g))))
    by_order (inr l) =
        let e : length text ≡ j = omega (arith, w, l) in
        subst (IsCharBoundary longer) e (IsCharBoundary-before_ascii longer (length text) (omega (arith, size)) (subst (λ n. n < 128) (sym (seam_get text (c ∷ tail) 10)) (omega arith)))

  fed_name : (at behind : ℕ) → at < behind → behind ≤ length text → tag_name longer at behind ≡ tag_name text at behind
  fed_name at behind o l =
      let k = at + 1 in
      let n = behind - (at + 1) in
      ap (take n) (drop_before k text more (omega (arith, o, l))) ∙ take-append-le n (drop k text) more (omega (arith, o, l, length-drop k text))

  fed_typed : (s : Setting) (at : ℕ) → at < length text → is_typed s longer at ≡ is_typed s text at
  fed_typed s at l =
      ap (λ q. not (s.one_line || (q || begins_block s (drop at longer)))) (quoted_longer text more at l) ∙ ap (λ q. not (s.one_line || (begins_quoted (drop at text) || q))) (block_longer s text more at l)

  fed_cuts : (f : Form) (i : ℕ) → IsBehind f i → i ≤ length text → follows_get_att longer f i ≡ follows_get_att text f i
  fed_cuts Root i o l = refl
  fed_cuts (Flow mp) i o l = refl
  fed_cuts (FlowTagged at) i o l = ap (λ (t : List ℕ). bytes_eq t get_att) (fed_name at i o l)
  fed_cuts (Items m) i o l = refl
  fed_cuts (Entries m) i o l = refl
  fed_cuts (Tagged at above shares) i o l = ap (λ (t : List ℕ). bytes_eq t get_att) (fed_name at i o l)

  -- at a token that begins none no scalar stands, in either
  fed_other : (s : Setting) (a : Ahead) → a.at < length text → starts_scalar a.token ≡ false → SameScalar text longer s a
  fed_other s a l n = record {
    scalar = ap (λ q. cond q (scalar_at s longer a.at) (Fails a.at)) n ∙ sym (ap (λ q. cond q (scalar_at s text a.at) (Fails a.at)) n);
    typed = fed_typed s a.at l;
    last = λ t j k b. fed_cut j b;
  }

  fed_scalar : (s : Setting) (a : Ahead) (t : List ℕ) (e : ℕ) → s.flow ≡ true → a.at < length text → e ≤ length text → scalar_ahead text s a ≡ Stands t e → SameScalar text longer s a
  fed_scalar s a t e flow l near st = record {
    scalar = (let g = starts_of text s a t e st in ap (λ q. cond q (scalar_at s longer a.at) (Fails a.at)) g.0 ∙ flow_fed s text c tail a.at t e flow mark last l near g.1 ∙ sym st);
    typed = fed_typed s a.at l;
    last = λ u j k b. fed_cut j b;
  }

  fed_key : (a : Ahead) (t : List ℕ) (e : ℕ) → a.at < length text → e ≤ length text → scalar_ahead text (as_key true) a ≡ Stands t e → ((ahead text true e).token ≡ End → ⊥) → SameFlowKey text longer a
  fed_key a t e l near st some = record {
    scalar = fed_scalar (as_key true) a t e refl l near st;
    quoted = quoted_longer text more a.at l;
    behind = λ u j k. subst (λ n. ahead longer true n ≡ ahead text true n) (end_is t u e j (sym st ∙ k)) (fed_seen e near some);
    last = λ u j loose k z b. fed_cut (ahead text true j).behind b;
  }

  -- where no key begins
  fed_keyless : (a : Ahead) → a.at < length text → starts_scalar a.token ≡ false → SameFlowKey text longer a
  fed_keyless a l n = record {
    scalar = fed_other (as_key true) a l n;
    quoted = quoted_longer text more a.at l;
    behind = λ u j k. absurd (missed_other text (as_key true) a n u j k);
    last = λ u j loose k z b. fed_cut (ahead text true j).behind b;
  }

  fed_node : (f : Form) (i : ℕ) (a : Ahead) → IsBehind f i → i ≤ length text → a.at < length text → starts_scalar a.token ≡ false → ((len : ℕ) → a.token ≡ Tag len → (a.at < a.behind) × (a.behind ≤ length text)) → SameFlowNode text longer f i a
  fed_node f i a o low l n named = record { name = λ len e. (let g = named len e in fed_name a.at a.behind g.0 g.1); cuts = fed_cuts f i o low; scalar = fed_other (setting_of f) a l n; point = λ t j st p. absurd (missed_other text (setting_of f) a n t j st) }

  fed_word : (f : Form) (i : ℕ) (a : Ahead) (t : List ℕ) (e : ℕ) → IsFlow f → IsBehind f i → i ≤ length text → a.at < length text → e ≤ length text → scalar_ahead text (setting_of f) a ≡ Stands t e → is_pointed text true a.at e ≡ false → SameFlowNode text longer f i a
  fed_word f i a t e flow o low l near st none = record {
    name = λ len h. absurd (true≢false (sym (starts_of text (setting_of f) a t e st).0 ∙ ap starts_scalar h));
    cuts = fed_cuts f i o low;
    scalar = fed_scalar (setting_of f) a t e (flow_setting f flow) l near st;
    point = λ u j st2 p. absurd (true≢false (sym p ∙ ap (is_pointed text true a.at) (sym (end_is t u e j (sym st ∙ st2))) ∙ none));
  } where
    flow_setting : (f : Form) → IsFlow f → (setting_of f).flow ≡ true
    flow_setting Root k = absurd k
    flow_setting (Flow mp) k = refl
    flow_setting (FlowTagged at) k = refl
    flow_setting (Items m) k = absurd k
    flow_setting (Entries m) k = absurd k
    flow_setting (Tagged at above shares) k = absurd k

-- ---- tokens

long_some : (t : Token) → 0 < token_len t → t ≡ End → ⊥
long_some t l e = let z : 0 < token_len End = subst (λ t. 0 < token_len t) e l in omega (arith, z)

starts_known : (t : Token) → starts_scalar t ≡ true → t ≡ End → ⊥
starts_known t s e = true≢false (sym s ∙ ap starts_scalar e)

-- one that ends a node between brackets
ending_long : (t : Token) → is_flow_ending t ≡ true → (0 < token_len t) × (starts_scalar t ≡ false)
ending_long End h = absurd (true≢false (sym h))
ending_long Dashes h = (omega arith, refl)
ending_long Dots h = (omega arith, refl)
ending_long Dash h = absurd (true≢false (sym h))
ending_long (Tag n) h = absurd (true≢false (sym h))
ending_long NoTag h = absurd (true≢false (sym h))
ending_long (Opens q) h = absurd (true≢false (sym h))
ending_long (Closes q) h = (omega arith, refl)
ending_long Comma h = (omega arith, refl)
ending_long (Point q) h = absurd (true≢false (sym h))
ending_long Anchor h = absurd (true≢false (sym h))
ending_long Percent h = absurd (true≢false (sym h))
ending_long Tabbed h = absurd (true≢false (sym h))
ending_long Stray h = absurd (true≢false (sym h))
ending_long Other h = absurd (true≢false (sym h))

key_some : (t : Token) → ends_key t ≡ true → t ≡ End → ⊥
key_some t h e = true≢false (sym h ∙ ap ends_key e)

-- behind a key with its colon, or one that ends, something is ahead
colon_some : (text : List ℕ) (quoted : Bool) (e q : ℕ) → IsColon text quoted e q → (ahead text true e).token ≡ End → ⊥
colon_some text quoted e q (inl (loose, t, h, b)) z = absurd (let y : Point loose ≡ End = sym t ∙ z in cc)
colon_some text quoted e q (inr (t, b)) z = key_some (ahead text true e).token t z

-- what is ahead of a place has a byte there
module _ (text : List ℕ) (i : ℕ) (a : Ahead) (seen : IsSeen text true i a) (cut : IsCharBoundary text i) where
  token_in : 0 < token_len a.token → (a.at < a.behind) × (a.behind ≤ length text) × (a.at < length text)
  token_in l = let e = seen.1.3 in let b = seen.1.2.0 in (omega (arith, e, l), b, omega (arith, e, l, b))

  same_ahead : (tail : List ℕ) (c : ℕ) → is_flow_mark c ≡ true → ends_with 13 text ≡ false → (a.token ≡ End → ⊥) → ahead (text ++ (10 ∷ c ∷ tail)) true i ≡ ahead text true i
  same_ahead tail c mark last n = fed_seen text tail c mark last i cut.0 (λ z. n (ap (λ (b : Ahead). b.token) seen.0 ∙ z))

  -- ---- steps

  -- at a token with a length that begins no scalar
  token_feeds : (f : Form) (p : Position) → IsBehind f i → starts_scalar a.token ≡ false → 0 < token_len a.token → FeedsFlowNode text f i a (Ok p)
  token_feeds f p o n l = λ last other fed. by_fed last other fed where
    by_fed : ends_with 13 text ≡ false → (other : List ℕ) → IsFed text other → (ahead other true i ≡ ahead text true i) × SameFlowNode text other f i a
    by_fed last other (c, tail, mark, e) =
        let t = token_in l in
        subst (λ o. (ahead o true i ≡ ahead text true i) × SameFlowNode text o f i a) (sym e)
        (same_ahead tail c mark last (long_some a.token l), fed_node text tail c mark last f i a o cut.0 t.2 n (λ len z. (t.0, t.1)))

  pub tag_feeds : (f g : Form) (len : ℕ) (fs gs : List Form) (u w : Unfinished) (r : Result Position Stop) → IsBehind f i → a.token ≡ Tag len → TagBegun text g a fs u gs w r → FeedsFlowNode text f i a r
  tag_feeds f g len fs gs u w (Err e) o t h = tt
  tag_feeds f g len fs gs u w (Ok p) o t h = token_feeds f p o (ap starts_scalar t) (subst (λ k. 0 < token_len k) (sym t) (omega arith))

  pub opens_feeds : (f : Form) (map : Bool) (fs gs : List Form) (u w : Unfinished) (r : Result Position Stop) → IsBehind f i → a.token ≡ Opens map → Opened map a fs u gs w r → FeedsFlowNode text f i a r
  opens_feeds f map fs gs u w (Err e) o t h = tt
  opens_feeds f map fs gs u w (Ok p) o t h = token_feeds f p o (ap starts_scalar t) (subst (λ k. 0 < token_len k) (sym t) (omega arith))

  pub null_feeds : (f : Form) (u w : Unfinished) (r : Result Position Stop) → IsBehind f i → is_flow_ending a.token ≡ true → Completes i u w r → FeedsFlowNode text f i a r
  null_feeds f u w (Err e) o n h = tt
  null_feeds f u w (Ok p) o n h = let t = ending_long a.token n in token_feeds f p o t.1 t.0

  pub scalar_feeds : (f : Form) (cuts : Bool) (u w : Unfinished) (p : Position) → IsFlow f → IsBehind f i → Holds text (setting_of f) cuts a u w (Ok p) → is_pointed text true a.at p.at ≡ false → FeedsFlowNode text f i a (Ok p)
  scalar_feeds f cuts u w p flow o (t, k, (st, hk, low, end), es, ew, room) none = λ last other fed. by_fed last other fed where
    by_fed : ends_with 13 text ≡ false → (other : List ℕ) → IsFed text other → (ahead other true i ≡ ahead text true i) × SameFlowNode text other f i a
    by_fed last other (c, tail, mark, e) =
        let b = end.0 in
        subst (λ o. (ahead o true i ≡ ahead text true i) × SameFlowNode text o f i a) (sym e)
        (same_ahead tail c mark last (starts_known a.token (starts_of text (setting_of f) a t p.at st).0), fed_word text tail c mark last f i a t p.at flow o cut.0 (omega (arith, low, b)) b st none)

  pub key_feeds : (quoted : Bool) (t : List ℕ) (q e : ℕ) (p : Position) → scalar_ahead text (as_key true) a ≡ Stands t e → a.at < e → IsCharBoundary text e → IsColon text quoted e q → FeedsFlowKey text i a (Ok p)
  key_feeds quoted t q e p st low end colon = λ last other fed. by_fed last other fed where
    by_fed : ends_with 13 text ≡ false → (other : List ℕ) → IsFed text other → (ahead other true i ≡ ahead text true i) × SameFlowKey text other a
    by_fed last other (c, tail, mark, w) =
        let b = end.0 in
        subst (λ o. (ahead o true i ≡ ahead text true i) × SameFlowKey text o a) (sym w)
        (same_ahead tail c mark last (starts_known a.token (starts_of text (as_key true) a t e st).0), fed_key text tail c mark last a t e (omega (arith, low, b)) b st (colon_some text quoted e q colon))

  pub closed_feeds : (map : Bool) (fs gs : List Form) (u w : Unfinished) (r : Result Position Stop) → a.token ≡ Closes map → Closed a.behind fs u gs w r → FeedsEntry text map i a r
  closed_feeds map fs gs u w (Err e) t h = tt
  closed_feeds map fs gs u w (Ok p) t h = λ last other fed. by_fed last other fed where
    long : 0 < token_len a.token
    long = subst (λ k. 0 < token_len k) (sym t) (omega arith)

    by_fed : ends_with 13 text ≡ false → (other : List ℕ) → IsFed text other → (ahead other true i ≡ ahead text true i) × (map ≡ true → SameFlowKey text other a) × (map ≡ false → SameFlowNode text other (Flow false) i a)
    by_fed last other (c, tail, mark, e) =
        let z = token_in long in
        subst (λ o. (ahead o true i ≡ ahead text true i) × (map ≡ true → SameFlowKey text o a) × (map ≡ false → SameFlowNode text o (Flow false) i a)) (sym e)
        (same_ahead tail c mark last (long_some a.token long), (λ k. fed_keyless text tail c mark last a z.2 (ap starts_scalar t)), (λ k. fed_node text tail c mark last (Flow false) i a tt cut.0 z.2 (ap starts_scalar t) (λ len y. (z.0, z.1))))

  -- behind a node
  long_seen : (p : Position) → 0 < token_len a.token → FeedsSeen text i (Ok p)
  long_seen p l = λ last other fed. by_fed last other fed where
    by_fed : ends_with 13 text ≡ false → (other : List ℕ) → IsFed text other → ahead other true i ≡ ahead text true i
    by_fed last other (c, tail, mark, e) = subst (λ o. ahead o true i ≡ ahead text true i) (sym e) (same_ahead tail c mark last (long_some a.token l))

  pub closed_fed : (map : Bool) (fs gs : List Form) (u w : Unfinished) (r : Result Position Stop) → a.token ≡ Closes map → Closed a.behind fs u gs w r → FeedsSeen text i r
  closed_fed map fs gs u w (Err e) t h = tt
  closed_fed map fs gs u w (Ok p) t h = long_seen p (subst (λ k. 0 < token_len k) (sym t) (omega arith))

  pub comma_fed : (p : Position) → a.token ≡ Comma → FeedsSeen text i (Ok p)
  comma_fed p t = long_seen p (subst (λ k. 0 < token_len k) (sym t) (omega arith))

-- an entry of a list, and of a map
pub node_entry_feeds : (text : List ℕ) (i : ℕ) (a : Ahead) (map : Bool) (r : Result Position Stop) → map ≡ false → FeedsFlowNode text (Flow false) i a r → FeedsEntry text map i a r
node_entry_feeds text i a map (Err e) n h = tt
node_entry_feeds text i a map (Ok p) n h = λ last other fed. let g = h last other fed in (g.0, (λ k. absurd (true≢false (sym k ∙ n))), (λ k. g.1))

pub key_entry_feeds : (text : List ℕ) (i : ℕ) (a : Ahead) (map : Bool) (r : Result Position Stop) → map ≡ true → FeedsFlowKey text i a r → FeedsEntry text map i a r
key_entry_feeds text i a map (Err e) n h = tt
key_entry_feeds text i a map (Ok p) n h = λ last other fed. let g = h last other fed in (g.0, (λ k. g.1), (λ k. absurd (true≢false (sym n ∙ k))))

-- ---- a step

flow_is : (map : Bool) (f : Form) → f ≡ Flow map → (b : Bool) → f ≡ Flow b → map ≡ b
flow_is map f e b h = let z : Flow map ≡ Flow b = sym e ∙ h in cc

pub entry_feeds : (text : List ℕ) (f : Form) (i : ℕ) (map : Bool) (gs : List Form) (r : Result Position Stop) → f ≡ Flow map → FeedsEntry text map i (ahead text true i) r → FeedsStep text stage.Entry f i gs r
entry_feeds text f i map gs r form h = ((λ flow. feeds r h), (λ block. absurd (apart f block (subst IsFlow (sym form) tt)))) where
  feeds : (r : Result Position Stop) → FeedsEntry text map i (ahead text true i) r → Feeds text (λ other. SameStep text other stage.Entry f i) r
  feeds (Err e) h = tt
  feeds (Ok p) h = λ last other fed. let g = h last other fed in (g.0, (λ k. g.1 (flow_is map f form true k)), (λ k. g.2 (flow_is map f form false k)))

pub flow_value_feeds : (text : List ℕ) (f : Form) (i : ℕ) (gs : List Form) (r : Result Position Stop) → IsFlow f → FeedsFlowNode text f i (ahead text true i) r → FeedsStep text stage.Value f i gs r
flow_value_feeds text f i gs r flow h = ((λ k. feeds r h), (λ block. absurd (apart f block flow))) where
  feeds : (r : Result Position Stop) → FeedsFlowNode text f i (ahead text true i) r → Feeds text (λ other. SameStep text other stage.Value f i) r
  feeds (Err e) h = tt
  feeds (Ok p) h = λ last other fed. let g = h last other fed in ((λ k. g), (λ k. absurd (apart f k flow)))

pub flow_after_feeds : (text : List ℕ) (f : Form) (i : ℕ) (gs : List Form) (r : Result Position Stop) → IsFlow f → FeedsSeen text i r → FeedsStep text stage.After f i gs r
flow_after_feeds text f i gs r flow h = ((λ k. feeds r h), (λ block. absurd (apart f block flow))) where
  feeds : (r : Result Position Stop) → FeedsSeen text i r → Feeds text (λ other. SameStep text other stage.After f i) r
  feeds (Err e) h = tt
  feeds (Ok p) h = λ last other fed. ((λ k. h last other fed), (λ k. absurd (apart f k flow)))

-- outside of brackets
pub block_feeds : (text : List ℕ) (s : Stage) (f : Form) (i : ℕ) (gs : List Form) (r : Result Position Stop) → IsBlock f → Opening gs r → FeedsStep text s f i gs r
block_feeds text s f i gs r block h = ((λ flow. absurd (apart f block flow)), (λ k. h))
