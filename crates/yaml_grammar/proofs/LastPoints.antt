-- A colon that ends the text on the line of a node outside of brackets: it stands there between brackets too, and it is one that a key may have. By the cases of what is ahead.
use Rattle.std.proofs.Common.{◌≡◌, ℕ, ◌+◌, Bool, true, false, ◌&&◌, cond, nat_eq, arith, List, [], ◌∷◌, drop, length, refl, sym, ap, ◌∙◌, subst, true≢false}
use Rattle.std.proofs.lemmas.Bool.Decides.{nat_tests}
use Rattle.yaml_scalars.specs.Lines.{Line, lines, is_end, is_white, lead, past_white}
use Rattle.yaml_scalars.specs.Scalar.{is_first_column}
use Rattle.yaml_scalars.specs.code.Walk.{line_at}
use Rattle.yaml_grammar.specs.declared.ahead.Ahead.{Ahead}
use Rattle.yaml_grammar.specs.declared.ahead.Token.TheVariants.{Point, Other}
use Rattle.yaml_grammar.specs.Ahead.{is_passed, token_at, token_len, token_of, line_ahead, rest_ahead, ahead}
use Rattle.yaml_grammar.specs.code.Points.{is_point, is_last_point}
use Rattle.yaml_grammar.proofs.BlockPoints.{line_fresh, point_first}
use Rattle.yaml_grammar.proofs.FirstTokens.{Begun, first_byte}
use Rattle.yaml_grammar.proofs.Pointed.{last_parts, last_stale, point_of, point_told}

-- ---- between brackets it stands there too

abbrev Alike : Ahead → Ahead → Type 0
Alike a b = (b.at ≡ a.at) × (is_point b.token ≡ true) × (b.behind ≡ a.behind)

flow_point : (xs : List ℕ) → is_point (token_of false xs) ≡ true → (is_point (token_of true xs) ≡ true) × (token_len (token_of true xs) ≡ 1)
flow_point [] h = absurd (true≢false (sym h))
flow_point (b ∷ xs) h = subst (λ c. (is_point (token_of true (c ∷ xs)) ≡ true) × (token_len (token_of true (c ∷ xs)) ≡ 1)) (sym (point_first b xs h)) (refl, refl)

rest_alike : (size : ℕ) (ls : List Line) → (rest_ahead false size ls).fresh ≡ false → is_point (rest_ahead false size ls).token ≡ true → Alike (rest_ahead false size ls) (rest_ahead true size ls)
rest_alike size [] f t = absurd (true≢false f)
rest_alike size (l ∷ ls) f t = by_test (is_passed false l.bytes) f t where
  at : ℕ
  at = l.at + lead is_white l.bytes

  by_test : (q : Bool) → (cond q (line_ahead false size ls) (token_at (token_of false (past_white l.bytes)) false (lead is_white l.bytes) (l.at + lead is_white l.bytes))).fresh ≡ false → is_point (cond q (line_ahead false size ls) (token_at (token_of false (past_white l.bytes)) false (lead is_white l.bytes) (l.at + lead is_white l.bytes))).token ≡ true
      → Alike (cond q (line_ahead false size ls) (token_at (token_of false (past_white l.bytes)) false (lead is_white l.bytes) (l.at + lead is_white l.bytes))) (cond q (line_ahead true size ls) (token_at (token_of true (past_white l.bytes)) false (lead is_white l.bytes) (l.at + lead is_white l.bytes)))
  by_test true f t = absurd (true≢false (sym (line_fresh size ls) ∙ f))
  by_test false f t =
      let g = flow_point (past_white l.bytes) t in
      let n : token_len (token_of false (past_white l.bytes)) ≡ 1 = ap token_len (point_of (token_of false (past_white l.bytes)) t).1 in
      (refl, g.0, ap (λ n. l.at + lead is_white l.bytes + n) (g.1 ∙ sym n))

alike_point : (text : List ℕ) (i : ℕ) → (ahead text false i).fresh ≡ false → is_point (ahead text false i).token ≡ true → Alike (ahead text false i) (ahead text true i)
alike_point text i f t = by_column (is_first_column text i) f t where
  by_column : (q : Bool) → (cond q (line_ahead false (length text) (lines i (drop i text))) (rest_ahead false (length text) (lines i (drop i text)))).fresh ≡ false → is_point (cond q (line_ahead false (length text) (lines i (drop i text))) (rest_ahead false (length text) (lines i (drop i text)))).token ≡ true
      → Alike (cond q (line_ahead false (length text) (lines i (drop i text))) (rest_ahead false (length text) (lines i (drop i text)))) (cond q (line_ahead true (length text) (lines i (drop i text))) (rest_ahead true (length text) (lines i (drop i text))))
  by_column true f t = absurd (true≢false (sym (line_fresh (length text) (lines i (drop i text))) ∙ f))
  by_column false f t = rest_alike (length text) (lines i (drop i text)) f t

pub alike_last : (text : List ℕ) (i : ℕ) → is_last_point text false (ahead text false i) ≡ true → (is_last_point text true (ahead text true i) ≡ true) × ((ahead text true i).at ≡ (ahead text false i).at)
alike_last text i h =
    let p = last_parts text false (ahead text false i) h in
    let k = alike_point text i (last_stale text (ahead text false i) h) p.0 in
    let far : (ahead text true i).behind ≡ length text = k.2 ∙ p.1 in
    (ap (λ q. q && (nat_eq (ahead text true i).behind (length text) && true)) k.1 ∙ ap (λ q. q && true) (same (ahead text true i).behind (length text) far), k.0) where
      same : (m n : ℕ) → m ≡ n → nat_eq m n ≡ true
      same m n e = grind (arith, nat_tests, e)

-- ---- it is one that a key may have

pub loose_point : (text : List ℕ) (e : ℕ) → is_point (ahead text false e).token ≡ true → (ahead text false e).token ≡ Point true
loose_point text e h = by_begun (first_byte text false e (point_told (ahead text false e).token h)) where
  by_end : (ys : List ℕ) (q : Bool) → is_point (cond q (Point true) Other) ≡ true → cond q (Point true) Other ≡ Point true
  by_end ys true h = refl
  by_end ys false h = absurd (true≢false (sym h))

  by_begun : Begun text false (ahead text false e) → (ahead text false e).token ≡ Point true
  by_begun (b, rest, here, black, tok) =
      let t : is_point (token_of false (b ∷ line_at rest)) ≡ true = sym (ap is_point tok) ∙ h in
      let c = point_first b (line_at rest) t in
      let same : (ahead text false e).token ≡ token_of false (58 ∷ line_at rest) = tok ∙ ap (λ d. token_of false (d ∷ line_at rest)) c in
      same ∙ by_end (line_at rest) (is_end (line_at rest)) (sym (ap is_point same) ∙ h)
