-- Where reading stops behind a key: no colon follows it, in no text that is the same as far as what it has ahead is looked at. By the cases of what is ahead.
use Rattle.std.proofs.Common.{◌≡◌, ℕ, suc, ◌+◌, cond, ◌<◌, ◌≤◌, inl, inr, Bool, true, false, List, drop, refl, sym, ◌∙◌, subst, arith}
use Rattle.std.specs.Prelude.{Err}
use Rattle.std.specs.Str.{IsCharBoundary}
use Rattle.doc_values.specs.Tree.{has_key}
use Rattle.doc_values.specs.Unfinished.{Unfinished}
use Rattle.yaml_scalars.specs.Lines.{Stands, begins_with, is_white, lead}
use Rattle.yaml_scalars.specs.Scalar.{begins_quoted}
use Rattle.yaml_scalars.specs.code.Walk.{line_at}
use Rattle.yaml_grammar.specs.declared.ahead.Ahead.{Ahead}
use Rattle.yaml_grammar.specs.declared.ahead.Token.TheVariants.{Closes, Point}
use Rattle.yaml_grammar.specs.declared.form.Form.{Form}
use Rattle.yaml_grammar.specs.declared.form.Form.TheVariants.{Flow, Entries}
use Rattle.yaml_grammar.specs.declared.stop.Stop.TheVariants.{Unread}
use Rattle.yaml_grammar.specs.Ahead.{ahead}
use Rattle.yaml_grammar.specs.Flow.{IsColon}
use Rattle.yaml_grammar.specs.Nodes.{as_key, starts_scalar, scalar_ahead}
use Rattle.yaml_grammar.specs.Signs.{Tree}
use Rattle.yaml_grammar.specs.code.AheadSeen.{ahead_seen}
use Rattle.yaml_grammar.specs.code.StopPlaces.{past_return, told_place, colon_place}
use Rattle.yaml_grammar.specs.code.Rest.{top}
use Rattle.yaml_grammar.specs.code.Steps.{IsSeen, Open}
use Rattle.yaml_grammar.specs.code.Twins.{IsTwin, Stops, NoLine, NoEntry}
use Rattle.yaml_grammar.proofs.BlockGains.{no_colon as no_line_colon}
use Rattle.yaml_grammar.proofs.Fixed.{starts_of, scalar_from, scalar_to, scalar_all, place_from}
use Rattle.yaml_grammar.proofs.Gains.{no_colon}
use Rattle.yaml_grammar.proofs.KeyLineEnds.{key_shown, key_shown_next, pointless_twin, pointless_next, no_colon_byte}
use Rattle.yaml_grammar.proofs.Quiet.{inside_at, word_inside}
use Rattle.yaml_grammar.proofs.SameTexts.{colon_alike}
use Rattle.yaml_grammar.proofs.ShownTokens.{IsPassed, passed_return, IsTold, told_shown}
use Rattle.yaml_grammar.proofs.Twins.{twin_ahead, twin_quoted, twin_ahead_scalar}

module _ (text : List ℕ) (fs : List Form) (u : Unfinished) (i : ℕ) (a : Ahead) where
  -- in flow
  pub no_colon_twin : (quoted : Bool) (t : List ℕ) (e : ℕ) → IsSeen text true i a → IsCharBoundary text i → (a.token ≡ Closes true → ⊥) → top fs ≡ Flow true → Open fs u → scalar_ahead text (as_key true) a ≡ Stands t e → a.at < e → IsCharBoundary text e
      → has_key u.done t ≡ false → quoted ≡ begins_quoted (drop a.at text) → ((p : ℕ) → IsColon text quoted e p → ⊥) → (p : ℕ) (other : List ℕ) → IsTwin text p other → ahead_seen text e ≤ p → NoEntry i a fs u other
  no_colon_twin quoted t e seen cut there form open_ st low last new eq none p other m near = λ seen2 v h.
      let from = scalar_from text true i a seen cut (as_key true) t e st low last in
      let to = scalar_to text true i a seen cut (as_key true) t e st low last in
      let all = scalar_all text true i a seen cut (as_key true) t e st low last in
      let first = place_from text true i a seen in
      let here : a.at ≤ p = omega (arith, first, from, to, near) in
      let same = twin_ahead text p other m true e last.0 near in
      let stands = twin_ahead_scalar text p other m (as_key true) a t e here (omega (arith, all, near)) st in
      no_colon other fs u.outer u.done i e a t seen2.0 there form open_.0 stands new
      (λ k c. none k (subst (λ b. IsColon text b e k) (twin_quoted text p other m a.at here ∙ sym eq) (colon_alike other text (begins_quoted (drop a.at other)) e k (sym same) c))) (Tree v) h

  pub no_colon_stops : (quoted : Bool) (t : List ℕ) (e q : ℕ) → IsSeen text true i a → IsCharBoundary text i → (a.token ≡ Closes true → ⊥) → top fs ≡ Flow true → Open fs u → scalar_ahead text (as_key true) a ≡ Stands t e → a.at < e → IsCharBoundary text e
      → has_key u.done t ≡ false → quoted ≡ begins_quoted (drop a.at text) → ((p : ℕ) → IsColon text quoted e p → ⊥) → q ≡ told_place text (ahead text true e) → Stops text i (NoEntry i a fs u) (Err (Unread q))
  no_colon_stops quoted t e q seen cut there form open_ st low last new eq none place = by_told (subst (IsTold text true e) (sym place) (told_shown text true e)) where
    from : ahead_seen text i ≤ e
    from = scalar_from text true i a seen cut (as_key true) t e st low last

    to : e ≤ ahead_seen text e
    to = scalar_to text true i a seen cut (as_key true) t e st low last

    by_told : IsTold text true e q → Stops text i (NoEntry i a fs u) (Err (Unread q))
    by_told (inl k) = inl (inl k)
    by_told (inr (n, l, (p, past, near))) = inr (l, (p, past, omega (arith, from, to, near), (λ other m. no_colon_twin quoted t e seen cut there form open_ st low last new eq none p other m near)))

  -- outside of flow
  pub no_line_colon_stops : (column : ℕ) (t : List ℕ) (e q : ℕ) → IsSeen text false i a → IsCharBoundary text i → top fs ≡ Entries column → Open fs u → a.column ≡ column → scalar_ahead text (as_key false) a ≡ Stands t e → a.at < e → IsCharBoundary text e
      → has_key u.done t ≡ false → ((ahead text false e).fresh ≡ false → (ahead text false e).token ≡ Point true → ⊥) → q ≡ colon_place text e → Stops text i (NoLine i a fs u) (Err (Unread q))
  no_line_colon_stops column t e q seen cut form open_ col st low last new none place = by_end (begins_with 58 (drop End text)) refl place where
    End : ℕ
    End = e + lead is_white (line_at (drop e text))

    from : ahead_seen text i ≤ e
    from = scalar_from text false i a seen cut (as_key false) t e st low last

    first : a.at ≤ ahead_seen text i
    first = place_from text false i a seen

    word : starts_scalar a.token ≡ true
    word = (starts_of text (as_key false) a t e st).0

    -- in a text in which the key stands and no colon follows it
    missing : (other : List ℕ) → scalar_ahead other (as_key false) a ≡ Stands t e → ((ahead other false e).fresh ≡ false → (ahead other false e).token ≡ Point true → ⊥) → NoLine i a fs u other
    missing other stands absent = λ seen2 calm v h.
        no_line_colon other column fs u i e a t seen2.0 (inside_at other i (word_inside (ahead other false i).token (subst (λ (b : Ahead). starts_scalar b.token ≡ true) seen2.0 word))) form open_ col stands new absent v h

    -- the line ends behind the key, or goes on with another byte
    line_missing : begins_with 58 (drop End text) ≡ false → (other : List ℕ) → IsTwin text End other → NoLine i a fs u other
    line_missing bare other m =
        let shown = key_shown text a.at t e (starts_of text (as_key false) a t e st).1 (no_colon_byte text e bare) in
        missing other (twin_ahead_scalar text End other m (as_key false) a t e (omega (arith, low)) shown st) (pointless_twin text e other bare m)

    line_end : begins_with 58 (drop End text) ≡ false → IsPassed text End q → Stops text i (NoLine i a fs u) (Err (Unread q))
    line_end bare (inl k) = inl (inl k)
    line_end bare (inr (l, past)) = inr (l, (End, past, omega (arith, from), (λ other m. line_missing bare other m)))

    -- or with a colon
    next_missing : begins_with 58 (drop End text) ≡ true → (other : List ℕ) → IsTwin text (suc End) other → NoLine i a fs u other
    next_missing colon other m =
        let shown = key_shown_next text a.at t e (starts_of text (as_key false) a t e st).1 in
        missing other (twin_ahead_scalar text (suc End) other m (as_key false) a t e (omega (arith, low)) shown st) (pointless_next text e other colon m none)

    line_next : begins_with 58 (drop End text) ≡ true → IsPassed text (suc End) q → Stops text i (NoLine i a fs u) (Err (Unread q))
    line_next colon (inl k) = inl (inl k)
    line_next colon (inr (l, past)) = inr (l, (suc End, past, omega (arith, from), (λ other m. next_missing colon other m)))

    by_end : (r : Bool) → begins_with 58 (drop End text) ≡ r → q ≡ past_return text (cond r (suc End) End) → Stops text i (NoLine i a fs u) (Err (Unread q))
    by_end true colon k = line_next colon (subst (IsPassed text (suc End)) (sym k) (passed_return text (suc End)))
    by_end false bare k = line_end bare (subst (IsPassed text End) (sym k) (passed_return text End))
