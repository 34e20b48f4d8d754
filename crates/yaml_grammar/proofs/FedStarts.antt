-- A sign in front of the document, in a text that ends in a carriage return and a line feed, stands in front of each longer text too: no document begins with the text. By the cases of tokens.
use Rattle.std.proofs.Common.{◌≡◌, ℕ, ◌<◌, ◌≤◌, ◌⊎◌, inl, inr, Bool, true, false, ◌&&◌, not, cond, List, [], ◌∷◌, ◌++◌, Some, None, drop, length, refl, sym, ap, ◌∙◌, arith}
use Rattle.std.proofs.lemmas.Bool.{cases_lt}
use Rattle.std.proofs.lemmas.List.{drop_all}
use Rattle.yaml_scalars.specs.Lines.{lines}
use Rattle.yaml_scalars.specs.Scalar.{begins_order_mark, is_first_column}
use Rattle.yaml_grammar.specs.declared.ahead.Ahead.{Ahead}
use Rattle.yaml_grammar.specs.declared.ahead.Token.{Token}
use Rattle.yaml_grammar.specs.declared.ahead.Token.TheVariants.{End, Dashes, Percent}
use Rattle.yaml_grammar.specs.Ahead.{ahead, line_ahead, rest_ahead}
use Rattle.yaml_grammar.specs.Signs.{Sign, ManyDocuments}
use Rattle.yaml_grammar.specs.Yaml.{is_content, sign_before, start_sign, text_start}
use Rattle.yaml_grammar.specs.Places.{IsFront}
use Rattle.yaml_grammar.proofs.FedTexts.{fed_marks, fed_same}
use Rattle.yaml_grammar.proofs.Roots.{start_counts}

-- behind the text's end nothing is ahead
pub end_past : (text : List ℕ) (i : ℕ) → length text ≤ i → (ahead text false i).token ≡ End
end_past text i l = by_column (is_first_column text i) where
  none : drop i text ≡ []
  none = drop_all i text l

  by_column : (q : Bool) → (cond q (line_ahead false (length text) (lines i (drop i text))) (rest_ahead false (length text) (lines i (drop i text)))).token ≡ End
  by_column true = ap (λ t. (line_ahead false (length text) (lines i t)).token) none
  by_column false = ap (λ t. (rest_ahead false (length text) (lines i t)).token) none

mark_long : (xs : List ℕ) → begins_order_mark xs ≡ true → 3 ≤ length xs
mark_long [] h = absurd (cc)
mark_long (a ∷ []) h = absurd (cc)
mark_long (a ∷ b ∷ []) h = absurd (cc)
mark_long (a ∷ b ∷ c ∷ xs) h = omega arith

start_within : (text : List ℕ) → text_start text ≤ length text
start_within text = by_mark (begins_order_mark text) refl where
  by_mark : (q : Bool) → begins_order_mark text ≡ q → cond q 3 0 ≤ length text
  by_mark true e = mark_long text e
  by_mark false e = omega arith

no_sign : (s : Sign) → None ≡ Some s → ⊥
no_sign s h = absurd (cc)

content_some : (mark : ℕ) (fresh : Bool) (t : Token) (s : Sign) → cond (not fresh && is_content t) (Some (ManyDocuments mark)) None ≡ Some s → t ≡ End → ⊥
content_some mark true t s h e = no_sign s h
content_some mark false t s h e = no_sign s (sym (ap (λ k. cond (is_content k) (Some (ManyDocuments mark)) None) e) ∙ h)

dashes_some : Dashes ≡ End → ⊥
dashes_some e = absurd (cc)

percent_some : Percent ≡ End → ⊥
percent_some e = absurd (cc)

start_fed : (front rest : List ℕ) (s : Sign) → start_sign (front ++ (13 ∷ 10 ∷ [])) ≡ Some s → start_sign ((front ++ (13 ∷ 10 ∷ [])) ++ rest) ≡ Some s
start_fed front rest s h = by_token (ahead text false (text_start text)).token refl h where
  text : List ℕ
  text = front ++ (13 ∷ 10 ∷ [])

  a : Ahead
  a = ahead (front ++ (13 ∷ 10 ∷ [])) false (text_start (front ++ (13 ∷ 10 ∷ [])))

  same : ((ahead (front ++ (13 ∷ 10 ∷ [])) false (text_start (front ++ (13 ∷ 10 ∷ [])))).token ≡ End → ⊥)
      → ahead ((front ++ (13 ∷ 10 ∷ [])) ++ rest) false (text_start ((front ++ (13 ∷ 10 ∷ [])) ++ rest)) ≡ ahead (front ++ (13 ∷ 10 ∷ [])) false (text_start (front ++ (13 ∷ 10 ∷ [])))
  same n = ap (λ q. ahead ((front ++ (13 ∷ 10 ∷ [])) ++ rest) false (cond q 3 0)) (fed_marks front rest) ∙ fed_same front rest false (text_start (front ++ (13 ∷ 10 ∷ []))) (start_within (front ++ (13 ∷ 10 ∷ []))) n

  further : (j : ℕ) → ((ahead (front ++ (13 ∷ 10 ∷ [])) false j).token ≡ End → ⊥) → ahead ((front ++ (13 ∷ 10 ∷ [])) ++ rest) false j ≡ ahead (front ++ (13 ∷ 10 ∷ [])) false j
  further j n = by_place (cases_lt j (length (front ++ (13 ∷ 10 ∷ [])))) where
    by_place : (j < length (front ++ (13 ∷ 10 ∷ []))) ⊎ (length (front ++ (13 ∷ 10 ∷ [])) ≤ j) → ahead ((front ++ (13 ∷ 10 ∷ [])) ++ rest) false j ≡ ahead (front ++ (13 ∷ 10 ∷ [])) false j
    by_place (inl l) = fed_same front rest false j (omega (arith, l)) n
    by_place (inr l) = absurd (n (end_past (front ++ (13 ∷ 10 ∷ [])) j l))

  -- by what is ahead, and what behind it
  found : (x y : Ahead) (b : Ahead) → b ≡ x → ahead ((front ++ (13 ∷ 10 ∷ [])) ++ rest) false x.behind ≡ y → sign_before x y x.token ≡ Some s → sign_before b (ahead ((front ++ (13 ∷ 10 ∷ [])) ++ rest) false b.behind) b.token ≡ Some s
  found x y b e f g = ap (λ (z : Ahead). sign_before z (ahead ((front ++ (13 ∷ 10 ∷ [])) ++ rest) false z.behind) z.token) e ∙ ap (λ (z : Ahead). sign_before x z x.token) f ∙ g

  by_token : (t : Token) → (ahead (front ++ (13 ∷ 10 ∷ [])) false (text_start (front ++ (13 ∷ 10 ∷ [])))).token ≡ t
      → sign_before (ahead (front ++ (13 ∷ 10 ∷ [])) false (text_start (front ++ (13 ∷ 10 ∷ [])))) (ahead (front ++ (13 ∷ 10 ∷ [])) false (ahead (front ++ (13 ∷ 10 ∷ [])) false (text_start (front ++ (13 ∷ 10 ∷ [])))).behind) t ≡ Some s
      → start_sign ((front ++ (13 ∷ 10 ∷ [])) ++ rest) ≡ Some s
  by_token Percent e g =
      let x = ahead (front ++ (13 ∷ 10 ∷ [])) false (text_start (front ++ (13 ∷ 10 ∷ []))) in
      found x (ahead ((front ++ (13 ∷ 10 ∷ [])) ++ rest) false x.behind) (ahead ((front ++ (13 ∷ 10 ∷ [])) ++ rest) false (text_start ((front ++ (13 ∷ 10 ∷ [])) ++ rest))) (same (λ z. percent_some (sym e ∙ z))) refl
      (ap (sign_before x (ahead ((front ++ (13 ∷ 10 ∷ [])) ++ rest) false x.behind)) e ∙ g)
  by_token Dashes e g =
      let x = ahead (front ++ (13 ∷ 10 ∷ [])) false (text_start (front ++ (13 ∷ 10 ∷ []))) in
      let y = ahead (front ++ (13 ∷ 10 ∷ [])) false x.behind in
      found x y (ahead ((front ++ (13 ∷ 10 ∷ [])) ++ rest) false (text_start ((front ++ (13 ∷ 10 ∷ [])) ++ rest))) (same (λ z. dashes_some (sym e ∙ z))) (further x.behind (content_some x.at y.fresh y.token s g)) (ap (sign_before x y) e ∙ g)
  by_token _ e g = absurd (no_sign s g)

-- no document begins with the text
pub start_front : (front : List ℕ) (s : Sign) → start_sign (front ++ (13 ∷ 10 ∷ [])) ≡ Some s → IsFront (front ++ (13 ∷ 10 ∷ [])) → ⊥
start_front front s h (rest, tree, utf8, y) = (start_counts ((front ++ (13 ∷ 10 ∷ [])) ++ rest) s (start_fed front rest s h)).2 tree y
