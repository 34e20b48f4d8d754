-- Where reading stops at the text's end and a node outside of flow may stand: which bytes mend it, or that nothing follows in a longer text. By what is ahead there.
use Rattle.std.proofs.Common.{◌≡◌, ℕ, suc, ◌+◌, ◌<◌, ◌≤◌, ◌⊎◌, inl, inr, Bool, true, false, ◌||◌, ◌&&◌, not, cond, nat_eq, nat_lt, nat_le, arith, List, [], ◌∷◌, ◌++◌, drop, length, refl, sym, ap, ◌∙◌, subst, true≢false}
use Rattle.std.proofs.lemmas.Bool.{cases_lt, ltb-true}
use Rattle.std.proofs.lemmas.Bool.Decides.{nat_tests}
use Rattle.std.specs.Prelude.{Err, Some, None}
use Rattle.std.specs.Str.{IsCharBoundary, IsUtf8}
use Rattle.doc_values.specs.declared.kind.Kind.TheVariants as kind
use Rattle.doc_values.specs.Unfinished.{Unfinished, with_value}
use Rattle.yaml_scalars.specs.declared.scalar.Setting.{Setting}
use Rattle.yaml_scalars.specs.Block.{widest}
use Rattle.yaml_scalars.specs.Lines.{Fails, ends_with, begins_with, is_end, lead}
use Rattle.yaml_scalars.specs.Scalar.{begins_block, begins_quoted, scalar_at}
use Rattle.yaml_scalars.specs.code.Walk.{has_break}
use Rattle.yaml_laws.proofs.ScalarLaw.{scalar_upper}
use Rattle.yaml_grammar.specs.declared.ahead.Ahead.{Ahead}
use Rattle.yaml_grammar.specs.declared.ahead.Token.{Token}
use Rattle.yaml_grammar.specs.declared.ahead.Token.TheVariants.{End, Dashes, Dots, Dash, Tag, NoTag, Opens, Closes, Comma, Point, Anchor, Percent, Tabbed, Stray, Other}
use Rattle.yaml_grammar.specs.declared.form.Form.{Form}
use Rattle.yaml_grammar.specs.declared.form.Form.TheVariants.{Root, Flow, FlowTagged, Items, Entries, Tagged}
use Rattle.yaml_grammar.specs.declared.stage.Stage.TheVariants as stage
use Rattle.yaml_grammar.specs.declared.stop.Stop.TheVariants as stop
use Rattle.yaml_grammar.specs.Ahead.{is_name, begins_letter, ends_tag, tag_token, token_of, ahead}
use Rattle.yaml_grammar.specs.Blocks.{takes_scalar, takes_sequence, takes_tag, block_sign}
use Rattle.yaml_grammar.specs.Nodes.{as_key, follows_get_att, is_marked, is_tagged, node_sign, setting_of, starts_scalar}
use Rattle.yaml_grammar.specs.Signs as sign
use Rattle.yaml_grammar.specs.Signs.{Sign, Reading, Tree}
use Rattle.yaml_grammar.specs.code.AheadSeen.{ahead_seen, is_told}
use Rattle.yaml_grammar.specs.code.Closers.{in_flow, HasRoom, MayBegin}
use Rattle.yaml_grammar.specs.code.Rest.{top, Awaits}
use Rattle.yaml_grammar.specs.code.Splits.{InRoom, IsRoomy}
use Rattle.yaml_grammar.specs.code.StopPlaces.{width, past_return, within, last_told, dash_place, ends_in_dash}
use Rattle.yaml_grammar.specs.code.Steps.{IsBlock, IsSpelled, LiesIn, Nests, NoNode, Awaited, is_ending}
use Rattle.yaml_grammar.specs.code.Twins.{FailedAt, IsLast, Mends, NoRest, IsStill, LengthensAt, Lengthens}
use Rattle.yaml_grammar.proofs.BlockGains.{no_root, nothing_follows, sign_nowhere}
use Rattle.yaml_grammar.proofs.BlockRests.{awaits_missing}
use Rattle.yaml_grammar.proofs.Continuations.{block_below}
use Rattle.yaml_grammar.proofs.Dashes.{dash_completes}
use Rattle.yaml_grammar.proofs.FirstDead.{IsFirst, AreStill, first_same, still_none}
use Rattle.yaml_grammar.proofs.FirstTokens.{first_mark}
use Rattle.yaml_grammar.proofs.LastBytes.{agrees_longer}
use Rattle.yaml_grammar.proofs.Lengthened.{dash_test, told_at, last_lengthens, dash_end, dash_within, ends_drop, fails_within, word_told}
use Rattle.yaml_grammar.proofs.Placed.{placed}
use Rattle.yaml_grammar.proofs.Quiet.{inside_at, line_quiet}
use Rattle.yaml_grammar.proofs.Rests.{no_scalar}
use Rattle.yaml_grammar.proofs.SplitPlaces.{room_here}
use Rattle.yaml_grammar.proofs.Stopped.{within_end, within_here}
use Rattle.yaml_grammar.proofs.TornBlocks.{value_torn}
use Rattle.yaml_grammar.proofs.TornDashes.{dots_last, undashed_end}
use Rattle.yaml_grammar.proofs.Values.{takes_alike, value_grown, value_header}

-- whether a token is a sign of the document does not hang on its place
any_place : (t : Token) (n m : ℕ) → node_sign false n t ≡ None → node_sign false m t ≡ None
any_place Anchor n m e = absurd (cc)
any_place NoTag n m e = absurd (cc)
any_place (Tag len) n m e = refl
any_place End n m e = refl
any_place Dashes n m e = refl
any_place Dots n m e = refl
any_place Tabbed n m e = refl
any_place Stray n m e = refl
any_place Dash n m e = refl
any_place (Opens map) n m e = refl
any_place (Closes map) n m e = refl
any_place Comma n m e = refl
any_place (Point loose) n m e = refl
any_place Percent n m e = refl
any_place Other n m e = refl

-- ---- a `-` on the line of a key or a tag

dash_stale : (f : Form) (a : Ahead) → IsBlock f → takes_scalar f a ≡ true → takes_sequence f a ≡ false → a.fresh ≡ false
dash_stale Root a b tk ns = ns
dash_stale (Flow m) a b tk ns = absurd b
dash_stale (FlowTagged m) a b tk ns = absurd b
dash_stale (Items m) a b tk ns = absurd (true≢false (sym tk ∙ ns))
dash_stale (Entries m) a b tk ns = by_fresh a.fresh tk ns where
  by_fresh : (q : Bool) → (not q || nat_lt m a.column) ≡ true → (q && nat_le m a.column) ≡ false → q ≡ false
  by_fresh false k n = refl
  by_fresh true k n = let l : nat_le m a.column ≡ true = grind (arith, nat_tests, k) in absurd (true≢false (sym l ∙ n))
dash_stale (Tagged at ab sh) a b tk ns = by_fresh a.fresh (nat_le ab a.column) tk ns where
  by_fresh : (q r : Bool) → (not q || r) ≡ true → (q && (r || (sh && nat_eq ab (suc a.column)))) ≡ false → q ≡ false
  by_fresh false r k n = refl
  by_fresh true true k n = absurd (true≢false n)
  by_fresh true false k n = absurd (true≢false (sym k))

no_sequence : (f : Form) (a : Ahead) → NoNode f a → a.token ≡ Dash → takes_sequence f a ≡ false
no_sequence f a none d = by_test (takes_sequence f a) refl where
  by_test : (q : Bool) → takes_sequence f a ≡ q → q ≡ false
  by_test true e = absurd (none.1 e d)
  by_test false e = refl

pub late_dash_none : (text : List ℕ) (fs : List Form) (u : Unfinished) (f : Form) (at : ℕ) (next : Ahead) → Awaited text fs u f at next → next.token ≡ Dash → takes_scalar f next ≡ true → NoNode f next → block_sign f next ≡ None → (v : Reading) → Awaits text fs u.outer u.done u.key at v → ⊥
late_dash_none text fs u f at next w d tk none us v h =
    let here = w.seen.0 in
    let stale = dash_stale f next w.block tk (no_sequence f next none d) in
    nothing_follows text fs (with_value kind.Null [] at u) at next here (inside_at text at (ap (λ (b : Ahead). is_ending b.token) (sym here) ∙ ap is_ending d)) (line_quiet text next fs w.fits.0.1 (subst IsBlock (sym w.form) w.block) stale) v
    (awaits_missing text fs u.outer f w.form w.block u.done u.key at v (subst (NoNode f) here none) (ap (block_sign f) (sym here) ∙ us) h)

-- ---- tokens by their bytes

abbrev NotTree : Token → Type 0
NotTree t = (starts_scalar t ≡ false) × ((map : Bool) → t ≡ Opens map → ⊥) × (t ≡ Dash → ⊥) × ((len : ℕ) → t ≡ Tag len → ⊥) × ((at : ℕ) → node_sign false at t ≡ None)

-- what begins no node, and is no token of flow, is `%`
percent_byte : (b : ℕ) (xs : List ℕ) → is_told (token_of false (b ∷ xs)) ≡ true → NotTree (token_of false (b ∷ xs)) → b ≡ 37
percent_byte b xs told n = by_tests (nat_eq b 91) (nat_eq b 123) (nat_eq b 45 && is_end xs) (nat_eq b 58 && is_end xs) (nat_eq b 33) (nat_eq b 38 || nat_eq b 42) (nat_eq b 37) (nat_eq b 35 || nat_eq b 13) refl told n where
  some_none : (s : Sign) → Some s ≡ None → ⊥
  some_none s e = absurd (cc)

  by_tag : (q : Bool) → ((len : ℕ) → cond q (Tag (lead is_name xs)) NoTag ≡ Tag len → ⊥) → ((at : ℕ) → node_sign false at (cond q (Tag (lead is_name xs)) NoTag) ≡ None) → ⊥
  by_tag true g s = g (lead is_name xs) refl
  by_tag false g s = some_none (sign.Tag 0) (s 0)

  by_tests : (o m d c t a p s : Bool) → nat_eq b 37 ≡ p → is_told (cond o (Opens false) (cond m (Opens true) (cond d Dash (cond c (Point true) (cond t (tag_token false xs) (cond a Anchor (cond p Percent (cond s Stray Other)))))))) ≡ true
      → NotTree (cond o (Opens false) (cond m (Opens true) (cond d Dash (cond c (Point true) (cond t (tag_token false xs) (cond a Anchor (cond p Percent (cond s Stray Other)))))))) → b ≡ 37
  by_tests true m d c t a p s e k n = absurd (n.1 false refl)
  by_tests false true d c t a p s e k n = absurd (n.1 true refl)
  by_tests false false true c t a p s e k n = absurd (n.2 refl)
  by_tests false false false true t a p s e k n = absurd (true≢false n.0)
  by_tests false false false false true a p s e k n = absurd (by_tag (begins_letter xs && ends_tag false (drop (lead is_name xs) xs)) n.3 n.4)
  by_tests false false false false false true p s e k n = absurd (some_none (sign.Anchor 0) (n.4 0))
  by_tests false false false false false false true s e k n = grind (arith, nat_tests, e)
  by_tests false false false false false false false true e k n = absurd (true≢false (sym k))
  by_tests false false false false false false false false e k n = absurd (true≢false n.0)

-- a tag begins with `!`
tag_byte : (b : ℕ) (xs : List ℕ) (len : ℕ) → token_of false (b ∷ xs) ≡ Tag len → b ≡ 33
tag_byte b xs len h = by_tests (nat_eq b 91) (nat_eq b 123) (nat_eq b 45 && is_end xs) (nat_eq b 58 && is_end xs) (nat_eq b 33) (nat_eq b 38 || nat_eq b 42) (nat_eq b 37) (nat_eq b 35 || nat_eq b 13) refl h where
  by_tests : (o m d c t a p s : Bool) → nat_eq b 33 ≡ t → cond o (Opens false) (cond m (Opens true) (cond d Dash (cond c (Point true) (cond t (tag_token false xs) (cond a Anchor (cond p Percent (cond s Stray Other))))))) ≡ Tag len → b ≡ 33
  by_tests true m d c t a p s e k = absurd (cc)
  by_tests false true d c t a p s e k = absurd (cc)
  by_tests false false true c t a p s e k = absurd (cc)
  by_tests false false false true t a p s e k = absurd (cc)
  by_tests false false false false true a p s e k = grind (arith, nat_tests, e)
  by_tests false false false false false true p s e k = absurd (cc)
  by_tests false false false false false false true s e k = absurd (cc)
  by_tests false false false false false false false true e k = absurd (cc)
  by_tests false false false false false false false false e k = absurd (cc)

abbrev Quiet : Token → Type 0
Quiet z = (starts_scalar z ≡ false) × (z ≡ Dash → ⊥) × (z ≡ End → ⊥) × (z ≡ Dots → ⊥)

bang_token : (xs : List ℕ) → (starts_scalar (token_of false (33 ∷ xs)) ≡ false) × (token_of false (33 ∷ xs) ≡ Dash → ⊥) × (token_of false (33 ∷ xs) ≡ End → ⊥) × (token_of false (33 ∷ xs) ≡ Dots → ⊥)
bang_token xs = by_test (begins_letter xs && ends_tag false (drop (lead is_name xs) xs)) where
  by_test : (q : Bool) → (starts_scalar (cond q (Tag (lead is_name xs)) NoTag) ≡ false) × (cond q (Tag (lead is_name xs)) NoTag ≡ Dash → ⊥) × (cond q (Tag (lead is_name xs)) NoTag ≡ End → ⊥) × (cond q (Tag (lead is_name xs)) NoTag ≡ Dots → ⊥)
  by_test true = (refl, (λ e. absurd (cc)), (λ e. absurd (cc)), (λ e. absurd (cc)))
  by_test false = (refl, (λ e. absurd (cc)), (λ e. absurd (cc)), (λ e. absurd (cc)))

marked_quiet : (t : Token) → is_marked t ≡ true → NotTree t
marked_quiet Dashes e = (refl, (λ m h. absurd (cc)), (λ h. absurd (cc)), (λ n h. absurd (cc)), (λ at. refl))
marked_quiet Dots e = (refl, (λ m h. absurd (cc)), (λ h. absurd (cc)), (λ n h. absurd (cc)), (λ at. refl))
marked_quiet End e = absurd (true≢false (sym e))
marked_quiet Tabbed e = absurd (true≢false (sym e))
marked_quiet Stray e = absurd (true≢false (sym e))
marked_quiet Dash e = absurd (true≢false (sym e))
marked_quiet (Tag len) e = absurd (true≢false (sym e))
marked_quiet NoTag e = absurd (true≢false (sym e))
marked_quiet (Opens map) e = absurd (true≢false (sym e))
marked_quiet (Closes map) e = absurd (true≢false (sym e))
marked_quiet Comma e = absurd (true≢false (sym e))
marked_quiet (Point loose) e = absurd (true≢false (sym e))
marked_quiet Anchor e = absurd (true≢false (sym e))
marked_quiet Percent e = absurd (true≢false (sym e))
marked_quiet Other e = absurd (true≢false (sym e))

percent_quiet : (t : Token) → t ≡ Percent → NotTree t
percent_quiet t e = subst NotTree (sym e) (refl, (λ m h. absurd (cc)), (λ h. absurd (cc)), (λ n h. absurd (cc)), (λ at. refl))

-- no node of the root stands at such a token
root_quiet : (a : Ahead) → NotTree a.token → NoNode Root a × (block_sign Root a ≡ None)
root_quiet a n = (((λ tk. (n.0, n.1)), (λ tk. n.2), (λ tk. n.3)), by_test (takes_scalar Root a) (n.4 a.at)) where
  by_test : (q : Bool) → node_sign false a.at a.token ≡ None → cond q (node_sign false a.at a.token) None ≡ None
  by_test true e = e
  by_test false e = refl

stale_quiet : (a : Ahead) → a.fresh ≡ false → NoNode Root a × (block_sign Root a ≡ None)
stale_quiet a f = (((λ tk. absurd (true≢false (sym tk ∙ f))), (λ tk. absurd (true≢false (sym tk ∙ f))), (λ tk. absurd (true≢false (sym tk ∙ f)))), sign_nowhere Root a f)

-- ---- bytes of a block scalar

unquoted : (s : Setting) (xs : List ℕ) → begins_block s xs ≡ true → begins_quoted xs ≡ false
unquoted s [] h = refl
unquoted s (x ∷ xs) h = by_mark (not (s.flow || s.one_line)) h where
  by_mark : (p : Bool) → (p && (nat_eq x 124 || nat_eq x 62)) ≡ true → (nat_eq x 34 || nat_eq x 39) ≡ false
  by_mark true k = grind (arith, nat_tests, k)
  by_mark false k = absurd (true≢false (sym k))

unreturned : (n : ℕ) (text : List ℕ) → ends_with 13 text ≡ false → ends_with 13 (drop n text) ≡ false
unreturned n text h = by_test (ends_with 13 (drop n text)) refl where
  by_test : (q : Bool) → ends_with 13 (drop n text) ≡ q → q ≡ false
  by_test true e = absurd (true≢false (sym (ends_drop n text (drop n text) refl e) ∙ h))
  by_test false e = refl

-- ---- sites

-- at the root the document goes on
pub root_going : (text : List ℕ) (fs : List Form) (u : Unfinished) (i : ℕ) (a : Ahead) (f : Form) → Awaited text fs u f i a → f ≡ Root → is_ending a.token ≡ false
root_going text fs u i a f w root = ap (λ (b : Ahead). is_ending b.token) w.seen.0 ∙ subst (λ g. IsSpelled text g i) (w.form ∙ root) w.fits.4

module _ (text : List ℕ) (utf8 : IsUtf8 text) (fs : List Form) (u : Unfinished) (i : ℕ) (cut : IsCharBoundary text i) (f : Form) (a : Ahead) (q : ℕ) (w : Awaited text fs u f i a) where
  here : a ≡ ahead text false i
  here = w.seen.0

  block : IsBlock (top fs)
  block = subst IsBlock (sym w.form) w.block

  pub late_dash_lengthens : a.token ≡ Dash → takes_scalar f a ≡ true → q ≡ dash_place text a → Lengthens text stage.Value fs u i (Err (stop.Unread q))
  late_dash_lengthens d tk p = by_test (dash_test text a q p) where
    dash : (ahead text false i).token ≡ Dash
    dash = sym (ap (λ (b : Ahead). b.token) here) ∙ d

    takes : takes_scalar (top fs) (ahead text false i) ≡ true
    takes = ap (λ g. takes_scalar g (ahead text false i)) w.form ∙ ap (takes_scalar f) (sym here) ∙ tk

    mend : (ahead text false i).behind ≡ length text → Mends text stage.Value fs u i
    mend z = let t = dash_completes text fs u.outer u.done u.key i cut.0 block takes dash (dash_end text utf8 fs u i cut dash z) w.fits.0.0 w.fits.0.1 in (97 ∷ [], refl, t.0, t.1)

    by_test : ((a.token ≡ Dash) × (a.behind ≡ length text) × (q ≡ length text)) ⊎ ((a.token ≡ Dash → a.behind ≡ length text → ⊥) × (q ≡ last_told text a)) → Lengthens text stage.Value fs u i (Err (stop.Unread q))
    by_test (inl (t, z, k)) = λ last. ((λ h. mend (sym (ap (λ (b : Ahead). b.behind) here) ∙ z)), (λ l more longer. (let y = l.0 in absurd (omega (arith, y, k)))))
    by_test (inr (n, k)) =
        last_lengthens text utf8 fs u i cut stage.Value false a q here (ap is_ending d) k
        (λ more longer last t l far. absurd (dash_within text utf8 fs u i cut dash (λ z. n d (ap (λ (b : Ahead). b.behind) here ∙ z)) far))

  pub missing_lengthens : f ≡ Root → NoNode f a → block_sign f a ≡ None → q ≡ last_told text a → Lengthens text stage.Value fs u i (Err (stop.Unread q))
  missing_lengthens root none us p = last_lengthens text utf8 fs u i cut stage.Value false a q here going p dead where
    going : is_ending a.token ≡ false
    going = root_going text fs u i a f w root

    none_here : NoNode Root (ahead text false i) × (block_sign Root (ahead text false i) ≡ None)
    none_here = subst (λ b. NoNode Root b × (block_sign Root b ≡ None)) here (subst (λ g. NoNode g a × (block_sign g a ≡ None)) root (none, us))

    dead : (more : List ℕ) → IsUtf8 (text ++ more) → ends_with 13 text ≡ false → is_told (ahead text false i).token ≡ true → (ahead text false i).at < length text → length text ≤ ahead_seen text i → NoRest stage.Value fs u i (text ++ more)
    dead more longer last t l far there fits g h = (let n = quiet in no_root (text ++ more) fs u i (ahead (text ++ more) false i) Root refl (w.form ∙ root) refl n.0 n.1 (Tree g) h) where
      first : IsFirst text (text ++ more) false i
      first = first_same text (text ++ more) false i (placed text false i utf8 cut).0 t (agrees_longer text more (ahead text false i).at l)

      by_fresh : (r : Bool) → (ahead text false i).fresh ≡ r → NoNode Root (ahead (text ++ more) false i) × (block_sign Root (ahead (text ++ more) false i) ≡ None)
      by_fresh false e = stale_quiet (ahead (text ++ more) false i) (first.fresh ∙ e)
      by_fresh true e = root_quiet (ahead (text ++ more) false i) (by_same first.same) where
        signless : node_sign false (ahead text false i).at (ahead text false i).token ≡ None
        signless = sym (ap (λ r. cond r (node_sign false (ahead text false i).at (ahead text false i).token) None) e) ∙ none_here.1

        plain : NotTree (ahead text false i).token
        plain = let n = none_here.0 in ((n.0 e).0, (n.0 e).1, n.1 e, n.2 e, (λ at. any_place (ahead text false i).token (ahead text false i).at at signless))

        percent : first.byte ≡ 37
        percent = percent_byte first.byte first.this (sym (ap is_told first.token) ∙ t) (subst NotTree first.token plain)

        by_same : ((ahead (text ++ more) false i).token ≡ token_of false (first.byte ∷ first.that)) ⊎ (is_marked (ahead (text ++ more) false i).token ≡ true) → NotTree (ahead (text ++ more) false i).token
        by_same (inl s) = percent_quiet (ahead (text ++ more) false i).token (s ∙ ap (λ b. token_of false (b ∷ first.that)) percent)
        by_same (inr m) = marked_quiet (ahead (text ++ more) false i).token m

      quiet : NoNode Root (ahead (text ++ more) false i) × (block_sign Root (ahead (text ++ more) false i) ≡ None)
      quiet = by_fresh (ahead text false i).fresh refl

  -- a tag behind a tag without its node
  pub tag_again_lengthens : (len : ℕ) → a.token ≡ Tag len → is_tagged f ≡ true → block_sign f a ≡ None → q ≡ last_told text a → Lengthens text stage.Value fs u i (Err (stop.Unread q))
  tag_again_lengthens len tag tagged us p = last_lengthens text utf8 fs u i cut stage.Value false a q here (ap is_ending tag) p dead where
    token : (ahead text false i).token ≡ Tag len
    token = sym (ap (λ (b : Ahead). b.token) here) ∙ tag

    apart : takes_scalar f (ahead text false i) ≡ false
    apart = ap (takes_scalar f) (sym here) ∙ by_test (takes_scalar f a) refl us where
      by_test : (r : Bool) → takes_scalar f a ≡ r → cond r (node_sign (is_tagged f) a.at a.token) None ≡ None → r ≡ false
      by_test false e k = refl
      by_test true e k = absurd (shown (sym (ap (λ t. node_sign t a.at a.token) tagged ∙ ap (node_sign true a.at) tag) ∙ k)) where
        shown : Some (sign.Tag a.at) ≡ None → ⊥
        shown z = absurd (cc)

    dead : (more : List ℕ) → IsUtf8 (text ++ more) → ends_with 13 text ≡ false → is_told (ahead text false i).token ≡ true → (ahead text false i).at < length text → length text ≤ ahead_seen text i → NoRest stage.Value fs u i (text ++ more)
    dead more longer last t l far there fits g h =
        still_none (text ++ more) fs (with_value kind.Null [] i u).outer (with_value kind.Null [] i u).done i g (stills fs w.fits.0.1 block) quiet.2 quiet.3
        (awaits_missing (text ++ more) fs u.outer f w.form w.block u.done u.key i (Tree g) none (sign_nowhere f (ahead (text ++ more) false i) apart_there) h) where
          first : IsFirst text (text ++ more) false i
          first = first_same text (text ++ more) false i (placed text false i utf8 cut).0 t (agrees_longer text more (ahead text false i).at l)

          bang : first.byte ≡ 33
          bang = tag_byte first.byte first.this len (sym first.token ∙ token)

          marked : (z : Token) → is_marked z ≡ true → (z ≡ Dots → ⊥) → Quiet z
          marked z m d = let n = marked_quiet z m in (n.0, n.2, (λ e. true≢false (sym m ∙ ap is_marked e)), d)

          no_dots : (ahead (text ++ more) false i).token ≡ Dots → ⊥
          no_dots d = other_byte (drop (ahead (text ++ more) false i).at (text ++ more)) ((first_mark (text ++ more) false i (ap is_marked d)).2 d) first.there where
            other_byte : (xs : List ℕ) → begins_with 46 xs ≡ true → begins_with first.byte xs ≡ true → ⊥
            other_byte [] e k = true≢false (sym e)
            other_byte (x ∷ xs) e k = let y : x ≡ 46 = grind (arith, nat_tests, e) in let z : x ≡ first.byte = grind (arith, nat_tests, k) in let b = bang in absurd (omega (arith, y, z, b))

          quiet : Quiet (ahead (text ++ more) false i).token
          quiet = by_same first.same where
            by_same : ((ahead (text ++ more) false i).token ≡ token_of false (first.byte ∷ first.that)) ⊎ (is_marked (ahead (text ++ more) false i).token ≡ true) → Quiet (ahead (text ++ more) false i).token
            by_same (inl s) = subst Quiet (sym (s ∙ ap (λ b. token_of false (b ∷ first.that)) bang)) (bang_token first.that)
            by_same (inr m) = marked (ahead (text ++ more) false i).token m no_dots

          apart_there : takes_scalar f (ahead (text ++ more) false i) ≡ false
          apart_there = takes_alike f (ahead text false i) (ahead (text ++ more) false i) first.fresh first.column ∙ apart

          no_tag : (g : Form) → is_tagged g ≡ true → IsBlock g → takes_tag g (ahead (text ++ more) false i) ≡ true → ⊥
          no_tag Root e b k = true≢false (sym e)
          no_tag (Flow m) e b k = b
          no_tag (FlowTagged m) e b k = b
          no_tag (Items m) e b k = true≢false (sym e)
          no_tag (Entries m) e b k = true≢false (sym e)
          no_tag (Tagged at ab sh) e b k = true≢false (sym k)

          none : NoNode f (ahead (text ++ more) false i)
          none = ((λ tk. absurd (true≢false (sym tk ∙ apart_there))), (λ tk. quiet.1), (λ tk. absurd (no_tag f tagged w.block tk)))

          stills : (hs : List Form) → Nests hs → IsBlock (top hs) → AreStill (text ++ more) (ahead (text ++ more) false i) hs
          stills [] ns b = tt
          stills (h ∷ hs) ns b = (one h (top hs) ns.0 b, stills hs ns.2 (block_below h (top hs) b ns.0)) where
            one : (h g : Form) → LiesIn h g → IsBlock h → IsStill (text ++ more) (ahead (text ++ more) false i) h
            one Root g lies b = absurd lies
            one (Flow m) g lies b = absurd b
            one (FlowTagged m) g lies b = absurd b
            one (Items m) g lies b = λ fr col. quiet.1
            one (Entries m) g lies b = λ fr col s j st. no_scalar (text ++ more) (ahead (text ++ more) false i) quiet.0 (as_key false) s j st
            one (Tagged at ab sh) g lies b = tt

  abbrev Says : Type 0
  Says = (q ≡ length text → Mends text stage.Value fs u i) × (IsLast text i q → (more : List ℕ) → IsUtf8 (text ++ more) → NoRest stage.Value fs u i (text ++ more))

  -- a scalar that fails
  pub scalar_lengthens : starts_scalar a.token ≡ true → takes_scalar f a ≡ true → FailedAt text (setting_of f) a q → (q ≡ length text → ends_in_dash text a ≡ false) → InRoom text u f i a (LengthensAt text stage.Value fs u i) q
  scalar_lengthens starts tk failed undashed roomy = λ last. by_fail last failed where
    word : starts_scalar (ahead text false i).token ≡ true
    word = sym (ap (λ (b : Ahead). starts_scalar b.token) here) ∙ starts

    within_text : (ahead text false i).at < length text
    within_text = told_at text false i (word_told (ahead text false i).token word)

    out : in_flow (top fs) ≡ false
    out = block_out (top fs) block where
      block_out : (g : Form) → IsBlock g → in_flow g ≡ false
      block_out Root b = refl
      block_out (Flow m) b = absurd b
      block_out (FlowTagged m) b = absurd b
      block_out (Items m) b = refl
      block_out (Entries m) b = refl
      block_out (Tagged at ab sh) b = refl

    takes : takes_scalar (top fs) (ahead text false i) ≡ true
    takes = ap (λ g. takes_scalar g (ahead text false i)) w.form ∙ ap (takes_scalar f) (sym here) ∙ tk

    -- by how the scalar begins
    mend : ends_with 13 text ≡ false → scalar_at (setting_of (top fs)) text (ahead text false i).at ≡ Fails (length text) → IsRoomy text u (top fs) i (ahead text false i) → ends_in_dash text (ahead text false i) ≡ false → Mends text stage.Value fs u i
    mend last h room plain = by_kind (begins_block (setting_of (top fs)) (drop (ahead text false i).at text)) refl (has_break (drop (ahead text false i).at text)) refl where
      by_kind : (b : Bool) → begins_block (setting_of (top fs)) (drop (ahead text false i).at text) ≡ b → (k : Bool) → has_break (drop (ahead text false i).at text) ≡ k → Mends text stage.Value fs u i
      by_kind true b true k =
          let bare = unquoted (setting_of (top fs)) (drop (ahead text false i).at text) b in
          value_torn fs u.outer u.done u.key i w.fits.0.0 w.fits.0.1 block text cut.0 takes word within_text bare b k last h
          (dots_last (setting_of (top fs)) text (ahead text false i).at within_text bare b k last h (undashed_end text (ahead text false i) (setting_of (top fs)) b k plain))
      by_kind false b k z =
          subst (λ o. MayBegin (top fs) (ahead text o i) → starts_scalar (ahead text o i).token ≡ true → (ahead text o i).at < length text → begins_block (setting_of (top fs)) (drop (ahead text o i).at text) ≡ false → ends_with 13 text ≡ false → scalar_at (setting_of (top fs)) text (ahead text o i).at ≡ Fails (length text) → (follows_get_att text (top fs) i ≡ true → HasRoom text (ahead text o i).at (length u.outer)) → Mends text stage.Value fs u i) out
          (value_grown fs u.outer u.done u.key i w.fits.0.0 w.fits.0.1 text cut.0) (λ x. takes) word within_text b last h (room b)
      by_kind true b false k =
          subst (λ o. MayBegin (top fs) (ahead text o i) → starts_scalar (ahead text o i).token ≡ true → (ahead text o i).at < length text → begins_quoted (drop (ahead text o i).at text) ≡ false → begins_block (setting_of (top fs)) (drop (ahead text o i).at text) ≡ true → ends_with 13 (drop (ahead text o i).at text) ≡ false → has_break (drop (ahead text o i).at text) ≡ false → scalar_at (setting_of (top fs)) text (ahead text o i).at ≡ Fails (length text) → Mends text stage.Value fs u i) out
          (value_header fs u.outer u.done u.key i w.fits.0.0 w.fits.0.1 text cut.0) (λ x. takes) word within_text (unquoted (setting_of (top fs)) (drop (ahead text false i).at text) b) b (unreturned (ahead text false i).at text last) k h

    by_less : (r : ℕ) (c : Bool) → nat_lt r (length text) ≡ c → ends_with 13 text ≡ false → scalar_at (setting_of f) text (ahead text false i).at ≡ Fails r → q ≡ cond c (within text (past_return text (widest (a.at + width a (drop a.at text)) r))) (length text) → Says
    by_less r true e last h g =
        let l = ltb-true r (length text) e in
        ((λ k. absurd (inner (past_return text (widest (a.at + width a (drop a.at text)) r)) k g l)), (λ x more longer. absurd (fails_within text utf8 fs u i cut (setting_of f) r word h l last (x.1 last)))) where
          inner : (n : ℕ) → q ≡ length text → q ≡ within text n → r < length text → ⊥
          inner n k g l = by_order (cases_lt n (length text)) where
            by_order : (n < length text) ⊎ (length text ≤ n) → ⊥
            by_order (inl z) = let y = g ∙ within_here text n z in omega (arith, k, y, z)
            by_order (inr z) = let y = g ∙ within_end text n z in omega (arith, k, y, l)
    by_less r false e last h g = ((λ k. mend last whole (room_here text fs u i f a false w.form here (roomy k)) (ap (ends_in_dash text) (sym here) ∙ undashed k)), (λ x more longer. (let y = x.0 in absurd (omega (arith, y, g))))) where
      most : r ≤ length text
      most = scalar_upper (setting_of f) text (ahead text false i).at r within_text h

      end : r ≡ length text
      end = let z : length text ≤ r = grind (arith, nat_tests, e) in let m = most in omega (arith, z, m)

      whole : scalar_at (setting_of (top fs)) text (ahead text false i).at ≡ Fails (length text)
      whole = ap (λ g. scalar_at (setting_of g) text (ahead text false i).at) w.form ∙ h ∙ ap Fails end

    by_fail : ends_with 13 text ≡ false → FailedAt text (setting_of f) a q → Says
    by_fail last (inl (g, k)) = let l = within_text in let e = ap (λ (b : Ahead). b.at) here in absurd (omega (arith, l, e, k))
    by_fail last (inr (r, l, h, g)) =
        by_less r (nat_lt r (length text)) refl last (ap (λ (b : Ahead). scalar_at (setting_of f) text b.at) (sym here) ∙ sym (ap (λ c. cond c (scalar_at (setting_of f) text a.at) (Fails a.at)) starts) ∙ h) g
