-- Where the document begins: reading stands behind a byte order mark; and behind a line `---` a stray carriage return shows that no document begins, within the text, if no carriage return ends it. By what is ahead there.
use Rattle.std.proofs.Common.{◌≡◌, ℕ, suc, ◌<◌, ◌≤◌, ◌⊎◌, inl, inr, Bool, true, false, cond, not, ◌&&◌, ◌+◌, List, [], ◌∷◌, drop, length, refl, sym, ap, ◌∙◌, subst, true≢false, arith}
use Rattle.std.proofs.lemmas.Bool.{cases_lt}
use Rattle.std.specs.Prelude.{Option, None, Some, option_map}
use Rattle.std.specs.Str.{IsCharBoundary, IsUtf8}
use Rattle.doc_values.specs.Tree.{Forest}
use Rattle.yaml_scalars.specs.Lines.{Line, ends_with, is_white, lead, lines, past_white}
use Rattle.yaml_scalars.specs.Scalar.{is_first_column}
use Rattle.yaml_grammar.specs.declared.ahead.Ahead.{Ahead}
use Rattle.yaml_grammar.specs.declared.ahead.Token.{Token}
use Rattle.yaml_grammar.specs.declared.ahead.Token.TheVariants.{End, Dashes, Dots, Dash, Tag, NoTag, Opens, Closes, Comma, Point, Anchor, Percent, Tabbed, Stray, Other}
use Rattle.yaml_grammar.specs.declared.stop.Stop.{Stop}
use Rattle.yaml_grammar.specs.declared.stop.Stop.TheVariants as stop
use Rattle.yaml_grammar.specs.Ahead.{ahead, is_passed, line_ahead, rest_ahead, token_at, token_of}
use Rattle.yaml_grammar.specs.Signs as sign
use Rattle.yaml_grammar.specs.Signs.{Sign}
use Rattle.yaml_grammar.specs.Yaml.{IsYaml, is_content, sign_before, start_sign, text_start}
use Rattle.yaml_grammar.specs.code.AheadSeen.{ahead_seen}
use Rattle.yaml_grammar.specs.Places.{IsSyntax}
use Rattle.yaml_grammar.specs.code.Places.{IsSyntaxStop, StopsAt}
use Rattle.yaml_grammar.specs.code.Refused.{of_sign}
use Rattle.yaml_grammar.specs.code.StopPlaces.{told_place, within, last_told}
use Rattle.yaml_grammar.specs.Nodes.{is_marked}
use Rattle.yaml_grammar.proofs.AheadEnds.{IsSome, token_some}
use Rattle.yaml_grammar.proofs.AheadOrder.{seen_mark}
use Rattle.yaml_grammar.proofs.DeadPlaces.{NoTwin}
use Rattle.yaml_grammar.proofs.Gains.{told, untold}
use Rattle.yaml_grammar.proofs.KeyEnds.{line_fresh}
use Rattle.yaml_grammar.proofs.LastBytes.{stray_within}
use Rattle.yaml_grammar.proofs.Lives.{same_start}
use Rattle.yaml_grammar.proofs.MarkTexts.{twins_dead}
use Rattle.yaml_grammar.proofs.ShownTokens.{IsTold, told_shown}
use Rattle.yaml_grammar.proofs.Stopped.{last_return, within_end, within_here}
use Rattle.yaml_grammar.proofs.Twins.{twin_ahead, twin_within}

-- ---- the place

-- a sign has no such place
sign_shown : (text : List ℕ) (s : Sign) → IsSyntaxStop text (of_sign s)
sign_shown text (sign.Tab at) = tt
sign_shown text (sign.Anchor at) = tt
sign_shown text (sign.Tag at) = tt
sign_shown text (sign.Directive at) = tt
sign_shown text (sign.ManyDocuments at) = tt
sign_shown text (sign.DuplicateKey at) = tt
sign_shown text (sign.TooDeep at) = tt

pub signed_shown : (text : List ℕ) (o : Option Sign) (e : Stop) → Some e ≡ option_map of_sign o → IsSyntaxStop text e
signed_shown text o e h = let t = told o e h in subst (λ z. IsSyntaxStop text z) t.2 (sign_shown text t.0)

-- the text's end counts as a line of its own
rest_fresh : (flow : Bool) (size : ℕ) (ls : List Line) → (rest_ahead flow size ls).token ≡ End → (rest_ahead flow size ls).fresh ≡ true
rest_fresh flow size [] h = refl
rest_fresh flow size (l ∷ ls) h = by_passed (is_passed false l.bytes) h where
  by_passed : (q : Bool) → (cond q (line_ahead flow size ls) (token_at (token_of flow (past_white l.bytes)) false (lead is_white l.bytes) (l.at + lead is_white l.bytes))).token ≡ End
      → (cond q (line_ahead flow size ls) (token_at (token_of flow (past_white l.bytes)) false (lead is_white l.bytes) (l.at + lead is_white l.bytes))).fresh ≡ true
  by_passed true k = line_fresh flow size ls
  by_passed false k = absurd (subst IsSome k (token_some flow (past_white l.bytes)))

pub end_fresh : (text : List ℕ) (i : ℕ) → (ahead text false i).token ≡ End → (ahead text false i).fresh ≡ true
end_fresh text i h = by_column (is_first_column text i) h where
  by_column : (q : Bool) → (cond q (line_ahead false (length text) (lines i (drop i text))) (rest_ahead false (length text) (lines i (drop i text)))).token ≡ End
      → (cond q (line_ahead false (length text) (lines i (drop i text))) (rest_ahead false (length text) (lines i (drop i text)))).fresh ≡ true
  by_column true k = line_fresh false (length text) (lines i (drop i text))
  by_column false k = rest_fresh false (length text) (lines i (drop i text)) k

-- a token that is no content
bare_token : (t : Token) → is_content t ≡ false → (t ≡ End) ⊎ (t ≡ Stray)
bare_token End h = inl refl
bare_token Stray h = inr refl
bare_token Dashes h = absurd (true≢false h)
bare_token Dots h = absurd (true≢false h)
bare_token Tabbed h = absurd (true≢false h)
bare_token Dash h = absurd (true≢false h)
bare_token (Tag len) h = absurd (true≢false h)
bare_token NoTag h = absurd (true≢false h)
bare_token (Opens map) h = absurd (true≢false h)
bare_token (Closes map) h = absurd (true≢false h)
bare_token Comma h = absurd (true≢false h)
bare_token (Point loose) h = absurd (true≢false h)
bare_token Anchor h = absurd (true≢false h)
bare_token Percent h = absurd (true≢false h)
bare_token Other h = absurd (true≢false h)

unsigned : (a b : Ahead) → b.fresh ≡ false → sign_before a b Dashes ≡ None → is_content b.token ≡ false
unsigned a b stale h = by_tests b.fresh (is_content b.token) stale h where
  by_tests : (p q : Bool) → p ≡ false → cond (not p && q) (Some (sign.ManyDocuments a.at)) None ≡ None → q ≡ false
  by_tests p false e k = refl
  by_tests true true e k = absurd (true≢false e)
  by_tests false true e k = absurd (some k) where
    some : Some (sign.ManyDocuments a.at) ≡ None → ⊥
    some z = absurd (cc)

module _ (text : List ℕ) (utf8 : IsUtf8 text) (at behind : ℕ) (next after : Ahead) (ea : at ≡ text_start text) (ca : IsCharBoundary text at) (en : next ≡ ahead text false at) (eb : behind ≡ next.behind) (cb : IsCharBoundary text behind) (ef : after ≡ ahead text false behind)
    (d : next.token ≡ Dashes) (f : after.fresh ≡ false) where
  -- no text that is the same as far as is looked at is a document
  none : (p : ℕ) → ahead_seen text behind ≤ p → NoTwin text p
  none p near = λ other m tree y.
      let first : next ≡ ahead text false (text_start text) = en ∙ ap (ahead text false) ea in
      let from = seen_mark text false at p (subst (λ (a : Ahead). is_marked a.token ≡ true) en (ap is_marked d)) (twin_within text p other m) (subst (λ n. ahead_seen text n ≤ p) (eb ∙ ap (λ (a : Ahead). a.behind) en) near) in
      let here : ahead other false (text_start other) ≡ ahead text false (text_start text) = ap (ahead other false) (same_start text p other m ∙ sym ea) ∙ twin_ahead text p other m false at ca.0 from ∙ ap (ahead text false) ea in
      let over : ahead other false behind ≡ ahead text false behind = twin_ahead text p other m false behind cb.0 near in
      let there : (ahead other false (text_start other)).token ≡ Dashes = ap (λ (a : Ahead). a.token) here ∙ ap (λ (a : Ahead). a.token) (sym first) ∙ d in
      let place : (ahead other false (text_start other)).behind ≡ behind = ap (λ (a : Ahead). a.behind) here ∙ ap (λ (a : Ahead). a.behind) (sym first) ∙ sym eb in
      let stale : (ahead other false behind).fresh ≡ false = ap (λ (a : Ahead). a.fresh) over ∙ ap (λ (a : Ahead). a.fresh) (sym ef) ∙ f in
      by_start other tree there place stale y where
        by_start : (other : List ℕ) (tree : Forest) → (ahead other false (text_start other)).token ≡ Dashes → (ahead other false (text_start other)).behind ≡ behind → (ahead other false behind).fresh ≡ false → IsYaml other tree → ⊥
        by_start other tree there place stale (l, kids, i, j, inl (t, e, g), r, z, h) = true≢false (sym g ∙ ap (λ n. (ahead other false n).fresh) (e ∙ place) ∙ stale)
        by_start other tree there place stale (l, kids, i, j, inr (n, e), r, z, h) = n there

  pub start_at : (q : ℕ) → q ≡ last_told text after → StopsAt text (stop.Unread q)
  start_at q eq = by_told (told_shown text false behind) (eq ∙ ap (λ (a : Ahead). within text (told_place text a)) ef) where
    by_told : IsTold text false behind (told_place text (ahead text false behind)) → q ≡ within text (told_place text (ahead text false behind)) → StopsAt text (stop.Unread q)
    by_told (inl k) e = inl (let w = e ∙ within_end text (told_place text (ahead text false behind)) (omega (arith, k)) in omega (arith, w))
    by_told (inr (n, l, (p, past, near))) e = subst (λ z. StopsAt text (stop.Unread z)) (sym (e ∙ within_here text (told_place text (ahead text false behind)) l)) (inr (twins_dead text p (told_place text (ahead text false behind)) utf8 l past (none p near)))

  -- it is a stray carriage return, which is shown within a text that none ends
  pub start_shown : None ≡ option_map of_sign (start_sign text) → (q : ℕ) → q ≡ last_told text after → ends_with 13 text ≡ false → IsSyntaxStop text (stop.Unread q)
  start_shown free q eq last = by_told last (told_shown text false behind) (eq ∙ ap (λ (a : Ahead). within text (told_place text a)) ef) where
    first : next ≡ ahead text false (text_start text)
    first = en ∙ ap (ahead text false) ea

    stale : (ahead text false behind).fresh ≡ false
    stale = ap (λ (a : Ahead). a.fresh) (sym ef) ∙ f

    no_sign : sign_before next (ahead text false behind) Dashes ≡ None
    no_sign =
        ap (sign_before next (ahead text false behind)) (sym d) ∙ ap (λ (a : Ahead). sign_before a (ahead text false behind) a.token) first
        ∙ ap (λ n. sign_before (ahead text false (text_start text)) (ahead text false n) (ahead text false (text_start text)).token) (eb ∙ ap (λ (a : Ahead). a.behind) first) ∙ untold (start_sign text) free

    stray : (ahead text false behind).token ≡ Stray
    stray = by_bare (bare_token (ahead text false behind).token (unsigned next (ahead text false behind) stale no_sign)) where
      by_bare : ((ahead text false behind).token ≡ End) ⊎ ((ahead text false behind).token ≡ Stray) → (ahead text false behind).token ≡ Stray
      by_bare (inl e) = absurd (true≢false (sym (end_fresh text behind e) ∙ stale))
      by_bare (inr e) = e

    inside : ends_with 13 text ≡ false → ahead_seen text behind < length text
    inside last = by_order (cases_lt (ahead_seen text behind) (length text)) where
      by_order : (ahead_seen text behind < length text) ⊎ (length text ≤ ahead_seen text behind) → ahead_seen text behind < length text
      by_order (inl l) = l
      by_order (inr l) = absurd (stray_within text false behind utf8 cb last stray l)

    by_told : ends_with 13 text ≡ false → IsTold text false behind (told_place text (ahead text false behind)) → q ≡ within text (told_place text (ahead text false behind)) → IsSyntax text q
    by_told last (inl k) e =
        let w = e ∙ within_end text (told_place text (ahead text false behind)) (omega (arith, k)) in
        let l = inside last in
        let end : suc q ≡ length text = omega (arith, w, l) in
        inl (twins_dead text q q utf8 (omega (arith, end)) (inr (refl, last_return text q end last)) (none q (omega (arith, l, end))))
    by_told last (inr (n, l, (p, past, near))) e = subst (IsSyntax text) (sym (e ∙ within_here text (told_place text (ahead text false behind)) l)) (inl (twins_dead text p (told_place text (ahead text false behind)) utf8 l past (none p near)))
