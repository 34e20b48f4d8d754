-- Where no key with its colon stands at a scalar of a text that ends in a carriage return and a line feed, none stands there in a longer text. By the line of the key, which is the same.
use Rattle.std.proofs.Common.{◌≡◌, ℕ, suc, ◌+◌, ◌<◌, ◌≤◌, Bool, true, false, cond, List, [], ◌∷◌, ◌++◌, drop, length, refl, sym, ap, ◌∙◌, true≢false, arith, append_assoc, length-append, length-drop}
use Rattle.yaml_scalars.specs.declared.scalar.Setting.{Setting}
use Rattle.yaml_scalars.specs.Lines.{Stands, Fails, begins_break, is_white, lead, lines, past_white}
use Rattle.yaml_scalars.specs.Scalar.{is_first_column, scalar_at}
use Rattle.yaml_scalars.specs.code.Walk.{behind, line_at}
use Rattle.yaml_laws.proofs.Agree.{drop_before}
use Rattle.yaml_laws.proofs.KeyLines.{key_broken}
use Rattle.yaml_laws.proofs.ScalarLaw.{column_longer}
use Rattle.yaml_grammar.specs.declared.ahead.Ahead.{Ahead}
use Rattle.yaml_grammar.specs.declared.ahead.Token.TheVariants.{End}
use Rattle.yaml_grammar.specs.Ahead.{ahead, is_passed, line_ahead, rest_ahead, token_at, token_of}
use Rattle.yaml_grammar.specs.Nodes.{as_key, scalar_ahead, starts_scalar}
use Rattle.yaml_grammar.specs.code.ReadAgain.{Extends}
use Rattle.yaml_grammar.specs.code.Steps.{NoKey}
use Rattle.yaml_grammar.proofs.FedLoop.{extended}
use Rattle.yaml_grammar.proofs.FedTexts.{fed_key, fed_same, in_front}
use Rattle.yaml_grammar.proofs.Fixed.{starts_of}
use Rattle.yaml_grammar.proofs.KeyEnds.{line_fresh}
use Rattle.yaml_grammar.proofs.KeyLineEnds.{key_within}
use Rattle.yaml_grammar.proofs.Looks.{first_rest}
use Rattle.yaml_grammar.proofs.LoneReturns.{token_not_end}

line_broken : (xs y : List ℕ) → line_at (xs ++ (13 ∷ 10 ∷ y)) ≡ line_at xs
line_broken [] y = refl
line_broken (b ∷ []) y = refl
line_broken (b ∷ c ∷ xs) y = ap (λ t. cond (begins_break b (c ∷ xs)) [] (b ∷ t)) (line_broken (c ∷ xs) y)

line_fits : (xs : List ℕ) → length (line_at xs) ≤ length xs
line_fits [] = omega arith
line_fits (b ∷ xs) = by_break (begins_break b xs) (line_fits xs) where
  by_break : (q : Bool) → length (line_at xs) ≤ length xs → length (cond q [] (b ∷ line_at xs)) ≤ suc (length xs)
  by_break true l = omega arith
  by_break false l = omega (arith, l)

-- what is ahead begins a line where the rest of the line is passed over
module _ (text : List ℕ) (i : ℕ) where
  abbrev here : Ahead
  here = token_at (token_of false (past_white (line_at (drop i text)))) false (lead is_white (line_at (drop i text))) (i + lead is_white (line_at (drop i text)))

  abbrev below : Ahead
  below = line_ahead false (length text) (behind i (drop i text))

  fresh_is : (ahead text false i).fresh ≡ cond (is_first_column text i) true (is_passed false (line_at (drop i text)))
  fresh_is = by_column (is_first_column text i) where
    by_passed : (q : Bool) → (cond q below here).fresh ≡ q
    by_passed true = line_fresh false (length text) (behind i (drop i text))
    by_passed false = refl

    by_column : (p : Bool) → (cond p (line_ahead false (length text) (lines i (drop i text))) (rest_ahead false (length text) (lines i (drop i text)))).fresh ≡ cond p true (is_passed false (line_at (drop i text)))
    by_column true = line_fresh false (length text) (lines i (drop i text))
    by_column false = ap (λ (a : Ahead). a.fresh) (first_rest text false i) ∙ by_passed (is_passed false (line_at (drop i text)))

  -- else something is ahead
  stale_some : (ahead text false i).fresh ≡ false → (ahead text false i).token ≡ End → ⊥
  stale_some = by_column (is_first_column text i) where
    by_passed : (q : Bool) → (cond q below here).fresh ≡ false → (cond q below here).token ≡ End → ⊥
    by_passed true f e = true≢false (sym (line_fresh false (length text) (behind i (drop i text))) ∙ f)
    by_passed false f e = token_not_end false (past_white (line_at (drop i text))) e

    by_column : (p : Bool) → (cond p (line_ahead false (length text) (lines i (drop i text))) (rest_ahead false (length text) (lines i (drop i text)))).fresh ≡ false
        → (cond p (line_ahead false (length text) (lines i (drop i text))) (rest_ahead false (length text) (lines i (drop i text)))).token ≡ End → ⊥
    by_column true f e = true≢false (sym (line_fresh false (length text) (lines i (drop i text))) ∙ f)
    by_column false f e =
        by_passed (is_passed false (line_at (drop i text))) (sym (ap (λ (a : Ahead). a.fresh) (first_rest text false i)) ∙ f) (sym (ap (λ (a : Ahead). a.token) (first_rest text false i)) ∙ e)

module _ (front rest : List ℕ) where
  abbrev old : List ℕ
  old = front ++ (13 ∷ 10 ∷ [])

  abbrev new : List ℕ
  new = (front ++ (13 ∷ 10 ∷ [])) ++ rest

  -- up to the break a place has the same line in both
  fresh_same : (i : ℕ) → i ≤ length front → (ahead new false i).fresh ≡ (ahead old false i).fresh
  fresh_same i l =
      fresh_is new i ∙ ap (λ q. cond q true (is_passed false (line_at (drop i new)))) column ∙ ap (λ t. cond (is_first_column old i) true (is_passed false t)) line ∙ sym (fresh_is old i) where
        column : is_first_column new i ≡ is_first_column old i
        column = column_longer old rest i (omega (arith, l, length-append front (13 ∷ 10 ∷ [])))

        line : line_at (drop i new) ≡ line_at (drop i old)
        line =
            ap (λ t. line_at (drop i t)) (append_assoc front (13 ∷ 10 ∷ []) rest) ∙ ap line_at (drop_before i front (13 ∷ 10 ∷ rest) l) ∙ line_broken (drop i front) rest
            ∙ sym (ap line_at (drop_before i front (13 ∷ 10 ∷ []) l) ∙ line_broken (drop i front) [])

  key_none : (a : Ahead) → starts_scalar a.token ≡ true → a.at < length front → NoKey old a → NoKey new a
  key_none a n l none t p (e, st, fresh, tok, place) =
      none t p (e, stands, stale, ap (λ (b : Ahead). b.token) (sym same) ∙ tok, place ∙ ap (λ (b : Ahead). b.behind) same) where
        found : scalar_at (as_key false) old a.at ≡ Stands t e
        found = sym (fed_key front (as_key false) a.at rest refl l) ∙ (starts_of new (as_key false) a t e st).1

        stands : scalar_ahead old (as_key false) a ≡ Stands t e
        stands = ap (λ q. cond q (scalar_at (as_key false) old a.at) (Fails a.at)) n ∙ found

        low : e ≤ length front
        low =
            let w = key_within front a.at t e (sym (key_broken (as_key false) front [] a.at refl l) ∙ found) in
            let f = line_fits (drop a.at front) in
            omega (arith, w, f, l, length-drop a.at front)

        stale : (ahead old false e).fresh ≡ false
        stale = sym (fresh_same e low) ∙ fresh

        same : ahead new false e ≡ ahead old false e
        same = fed_same front rest false e (let z = low in omega (arith, z, length-append front (13 ∷ 10 ∷ []))) (stale_some old e stale)

pub none_key : (text other : List ℕ) → Extends text other → (s : Setting) (a : Ahead) → starts_scalar a.token ≡ true → (t : List ℕ) (j : ℕ) → scalar_ahead text s a ≡ Stands t j → NoKey text a → NoKey other a
none_key text other x s a n t j st none =
    extended (λ y o. scalar_ahead y s a ≡ Stands t j → NoKey y a → NoKey o a) text other x
    (λ front rest utf8 h k. key_none front rest a n (in_front front s a.at (λ p z. fails_not p t j (sym z ∙ (starts_of (front ++ (13 ∷ 10 ∷ [])) s a t j h).1))) k) st none where
      fails_not : (p : ℕ) (t : List ℕ) (j : ℕ) → Fails p ≡ Stands t j → ⊥
      fails_not p t j h = absurd (cc)
