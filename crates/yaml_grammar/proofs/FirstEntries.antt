-- Where the first byte of what is ahead shows that no entry between brackets begins, and that they do not end, in each text that agrees through it. By the cases of what an entry is.
use Rattle.std.proofs.Common.{◌≡◌, ℕ, suc, ◌≤◌, ◌⊎◌, inl, inr, Bool, true, false, ◌&&◌, cond, nat_eq, List, ◌∷◌, drop, length, refl, sym, ap, ◌∙◌, subst, true≢false}
use Rattle.doc_values.specs.Tree.{Forest, Nil, Node, snoc, joined}
use Rattle.doc_values.specs.Unfinished.{Level}
use Rattle.yaml_scalars.specs.Lines.{lead, Stands, Fails, Documents}
use Rattle.yaml_scalars.specs.Plain.{is_unsafe}
use Rattle.yaml_scalars.specs.Scalar.{scalar_at}
use Rattle.yaml_scalars.specs.declared.scalar.Setting.{Setting}
use Rattle.yaml_laws.specs.code.Agreement.{AgreesTo}
use Rattle.yaml_grammar.specs.declared.ahead.Ahead.{Ahead}
use Rattle.yaml_grammar.specs.declared.ahead.Token.{Token}
use Rattle.yaml_grammar.specs.declared.ahead.Token.TheVariants.{Tag, NoTag, Opens, Closes, Comma, Point, Anchor, Percent}
use Rattle.yaml_grammar.specs.declared.form.Form.{Form}
use Rattle.yaml_grammar.specs.declared.form.Form.TheVariants.{Flow}
use Rattle.yaml_grammar.specs.Ahead.{is_name, begins_letter, ends_tag, tag_token, other_token, token_of, ahead}
use Rattle.yaml_grammar.specs.Nodes.{as_key, setting_of, is_marked, starts_scalar, scalar_ahead}
use Rattle.yaml_grammar.specs.Signs.{Sign, Reach, To, Shows, Tree, Refused, Then}
use Rattle.yaml_grammar.specs.Flow.{IsFlowNode}
use Rattle.yaml_grammar.specs.Yaml.{Spells}
use Rattle.yaml_grammar.specs.code.AheadSeen.{is_told}
use Rattle.yaml_grammar.specs.code.Rest.{Ends, Enters}
use Rattle.yaml_grammar.proofs.FirstDead.{IsFirst, first_same}
use Rattle.yaml_grammar.proofs.FirstTokens.{ends_word, flow_word, is_shut, shut_scalar, word_closes}
use Rattle.yaml_grammar.proofs.Rests.{no_scalar, marked_word}

-- the first byte of such a token tells it wholly
abbrev pub is_fixed : Token → Bool
is_fixed (Opens map) = true
is_fixed (Closes map) = true
is_fixed Comma = true
is_fixed Anchor = true
is_fixed Percent = true
is_fixed _ = false

fixed_same : (b : ℕ) (xs ys : List ℕ) → is_fixed (token_of true (b ∷ xs)) ≡ true → token_of true (b ∷ ys) ≡ token_of true (b ∷ xs)
fixed_same b xs ys =
    pick (nat_eq b 91) (Opens false) (cond (nat_eq b 123) (Opens true) (inner xs)) (Opens false) (cond (nat_eq b 123) (Opens true) (inner ys)) (λ k. refl)
    (pick (nat_eq b 123) (Opens true) (inner xs) (Opens true) (inner ys) (λ k. refl)
    (pick (nat_eq b 93) (Closes false) (second xs) (Closes false) (second ys) (λ k. refl)
    (pick (nat_eq b 125) (Closes true) (third xs) (Closes true) (third ys) (λ k. refl)
    (pick (nat_eq b 44) Comma (fourth xs) Comma (fourth ys) (λ k. refl)
    (pick (nat_eq b 58) (Point (is_unsafe true xs)) (fifth xs) (Point (is_unsafe true ys)) (fifth ys) (λ k. absurd (true≢false (sym k)))
    (pick (nat_eq b 33) (tag_token true xs) (other_token b) (tag_token true ys) (other_token b) (λ k. absurd (true≢false (sym k ∙ tag))) (λ k. refl))))))) where
      Both : Token → Token → Type 0
      Both s t = is_fixed s ≡ true → t ≡ s

      pick : (q : Bool) (s t u v : Token) → Both s u → Both t v → Both (cond q s t) (cond q u v)
      pick true s t u v h k = h
      pick false s t u v h k = k

      fifth : List ℕ → Token
      fifth zs = cond (nat_eq b 33) (tag_token true zs) (other_token b)

      fourth : List ℕ → Token
      fourth zs = cond (nat_eq b 58) (Point (is_unsafe true zs)) (fifth zs)

      third : List ℕ → Token
      third zs = cond (nat_eq b 44) Comma (fourth zs)

      second : List ℕ → Token
      second zs = cond (nat_eq b 125) (Closes true) (third zs)

      inner : List ℕ → Token
      inner zs = cond (nat_eq b 93) (Closes false) (second zs)

      tag : is_fixed (tag_token true xs) ≡ false
      tag = by_test (begins_letter xs && ends_tag true (drop (lead is_name xs) xs)) where
        by_test : (q : Bool) → is_fixed (cond q (Tag (lead is_name xs)) NoTag) ≡ false
        by_test true = refl
        by_test false = refl

no_documents : (text : List ℕ) (s : Setting) (a : Ahead) (p : ℕ) → starts_scalar a.token ≡ false → scalar_ahead text s a ≡ Documents p → ⊥
no_documents text s a p e h = absurd (let no : Fails a.at ≡ Documents p = sym (ap (λ b. cond b (scalar_at s text a.at) (Fails a.at)) e) ∙ h in cc)

tree_refused : (t : Forest) (s : Sign) → Tree t ≡ Refused s → ⊥
tree_refused t s e = absurd (cc)

module _ (text other : List ℕ) (i : ℕ) (low : i ≤ (ahead text true i).at) (told : is_told (ahead text true i).token ≡ true) (agrees : AgreesTo (ahead text true i).at text other) where
  inside : IsFirst text other true i
  inside = first_same text other true i low told agrees

  no_word : is_shut (ahead text true i).token ≡ true → starts_scalar (ahead other true i).token ≡ false
  no_word shut = by_same inside.same where
    by_same : ((ahead other true i).token ≡ token_of true (inside.byte ∷ inside.that)) ⊎ (is_marked (ahead other true i).token ≡ true) → starts_scalar (ahead other true i).token ≡ false
    by_same (inl s) = ap starts_scalar s ∙ shut_scalar true inside.byte inside.this inside.that (sym (ap is_shut inside.token) ∙ shut)
    by_same (inr k) = marked_word (ahead other true i).token k

  -- a token that is wholly told stands in both, or a mark in the other
  same_or_mark : is_fixed (ahead text true i).token ≡ true → ((ahead other true i).token ≡ (ahead text true i).token) ⊎ (is_marked (ahead other true i).token ≡ true)
  same_or_mark fixed = by_same inside.same where
    by_same : ((ahead other true i).token ≡ token_of true (inside.byte ∷ inside.that)) ⊎ (is_marked (ahead other true i).token ≡ true) → ((ahead other true i).token ≡ (ahead text true i).token) ⊎ (is_marked (ahead other true i).token ≡ true)
    by_same (inl s) = inl (s ∙ fixed_same inside.byte inside.this inside.that (sym (ap is_fixed inside.token) ∙ fixed) ∙ sym inside.token)
    by_same (inr k) = inr k

  -- in a map, where neither a key nor the closing bracket may stand
  pub map_dead : (fs : List Form) (x : Level) (xs : List Level) (done t : Forest) → is_shut (ahead text true i).token ≡ true → ((ahead text true i).token ≡ Closes true → ⊥) → Enters other (Flow true ∷ fs) (x ∷ xs) done i (Tree t) → ⊥
  map_dead fs x xs done t shut closed (Nil, r, inl (j, (k, c, tok, ej), er), en) = by_same inside.same where
    here : k ≡ i
    here = by_place c where
      by_place : (k ≡ i) ⊎ (k ≡ i) → k ≡ i
      by_place (inl e) = e
      by_place (inr e) = e

    ends : (ahead other true i).token ≡ Closes true
    ends = subst (λ n. (ahead other true n).token ≡ Closes true) here tok

    by_same : ((ahead other true i).token ≡ token_of true (inside.byte ∷ inside.that)) ⊎ (is_marked (ahead other true i).token ≡ true) → ⊥
    by_same (inl s) = closed (word_closes true (ahead text true i).token (ap ends_word inside.token ∙ sym (flow_word inside.byte inside.this inside.that) ∙ sym (ap ends_word s) ∙ ap ends_word ends))
    by_same (inr m) = true≢false (sym m ∙ ap is_marked ends)
  map_dead fs x xs done t shut closed (Nil, Shows z, inr (s, h, er), en) = tree_refused t z en
  map_dead fs x xs done t shut closed (Nil, To j, inr (s, h, er), en) = absurd (cc)
  map_dead fs x xs done t shut closed (Node l kids rest, r, (key, p, q, (k, e, word, c, st, hk, ek, col), n, sp), en) =
      no_scalar other (ahead other true i) (no_word shut) (as_key true) word e (subst (λ n. scalar_ahead other (as_key true) (ahead other true n) ≡ Stands word e) c st)

  -- in a list, where neither a node nor the closing bracket may stand
  pub list_dead : (fs : List Form) (x : Level) (xs : List Level) (done t : Forest) → is_shut (ahead text true i).token ≡ true → is_fixed (ahead text true i).token ≡ true → ((ahead text true i).token ≡ Closes false → ⊥) → ((map : Bool) → (ahead text true i).token ≡ Opens map → ⊥)
      → Enters other (Flow false ∷ fs) (x ∷ xs) done i (Tree t) → ⊥
  list_dead fs x xs done t shut fixed closed opened (Nil, r, inl (j, (k, c, tok, ej), er), en) = by_same (same_or_mark fixed) where
    here : k ≡ i
    here = by_place c where
      by_place : (k ≡ i) ⊎ (k ≡ i) → k ≡ i
      by_place (inl e) = e
      by_place (inr e) = e

    ends : (ahead other true i).token ≡ Closes false
    ends = subst (λ n. (ahead other true n).token ≡ Closes false) here tok

    by_same : ((ahead other true i).token ≡ (ahead text true i).token) ⊎ (is_marked (ahead other true i).token ≡ true) → ⊥
    by_same (inl s) = closed (sym s ∙ ends)
    by_same (inr m) = true≢false (sym m ∙ ap is_marked ends)
  list_dead fs x xs done t shut fixed closed opened (Nil, Shows z, inr (s, h, er), en) = tree_refused t z en
  list_dead fs x xs done t shut fixed closed opened (Nil, To j, inr (s, h, er), en) = absurd (cc)
  list_dead fs x xs done t shut fixed closed opened (Node l kids rest, r, (key, p, q, (ek, c), n, sp), en) = by_node c n sp en where
    signed : (s : Sign) (q r : Reach) → q ≡ Shows s → Then q (λ j. Spells other rest (Flow false) (suc (length xs)) false (snoc done l kids) j r) (λ s. (rest ≡ Nil) × (r ≡ Shows s))
        → Then r (λ k. Ends other fs xs (snoc x.before x.label (joined done (Node l kids rest))) k (Tree t)) (λ s. Tree t ≡ Refused s) → ⊥
    signed s (To j) r e sp en = absurd (cc)
    signed s (Shows z) (To j) e (k, h) en = absurd (cc)
    signed s (Shows z) (Shows y) e sp en = tree_refused t y en

    by_tag : (len : ℕ) → (ahead other true i).token ≡ Tag len → ((ahead other true i).token ≡ (ahead text true i).token) ⊎ (is_marked (ahead other true i).token ≡ true) → ⊥
    by_tag len e (inl s) = true≢false (sym fixed ∙ ap is_fixed (sym s ∙ e))
    by_tag len e (inr m) = true≢false (sym m ∙ ap is_marked e)

    by_bracket : (map : Bool) → (ahead other true i).token ≡ Opens map → ((ahead other true i).token ≡ (ahead text true i).token) ⊎ (is_marked (ahead other true i).token ≡ true) → ⊥
    by_bracket map e (inl s) = opened map (sym s ∙ e)
    by_bracket map e (inr m) = true≢false (sym m ∙ ap is_marked e)

    at_place : IsFlowNode other (Flow false) (Spells other kids) (suc (length xs)) key l kids i q → Then q (λ j. Spells other rest (Flow false) (suc (length xs)) false (snoc done l kids) j r) (λ s. (rest ≡ Nil) × (r ≡ Shows s))
        → Then r (λ k. Ends other fs xs (snoc x.before x.label (joined done (Node l kids rest))) k (Tree t)) (λ s. Tree t ≡ Refused s) → ⊥
    at_place (inl (miss, h)) sp en = true≢false (sym miss)
    at_place (inr (inl (inl (word, k, j, st, kind, value)))) sp en = no_scalar other (ahead other true i) (no_word shut) (setting_of (Flow false)) word j st
    at_place (inr (inl (inr (p, d, er)))) sp en = no_documents other (setting_of (Flow false)) (ahead other true i) p (no_word shut) d
    at_place (inr (inr (inl (map, e, h)))) sp en = by_bracket map e (same_or_mark fixed)
    at_place (inr (inr (inr (inl (len, e, may, h))))) sp en = by_tag len e (same_or_mark fixed)
    at_place (inr (inr (inr (inr (s, e, er))))) sp en = signed s q r er sp en

    by_node : p ≡ i → IsFlowNode other (Flow false) (Spells other kids) (suc (length xs)) key l kids p q → Then q (λ j. Spells other rest (Flow false) (suc (length xs)) false (snoc done l kids) j r) (λ s. (rest ≡ Nil) × (r ≡ Shows s))
        → Then r (λ k. Ends other fs xs (snoc x.before x.label (joined done (Node l kids rest))) k (Tree t)) (λ s. Tree t ≡ Refused s) → ⊥
    by_node c n sp en = at_place (subst (λ z. IsFlowNode other (Flow false) (Spells other kids) (suc (length xs)) key l kids z q) c n) sp en
