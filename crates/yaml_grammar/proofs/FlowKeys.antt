-- What makes a document of a text that breaks off behind a key between brackets: a break and the brackets. By the cases of what is ahead.
use Rattle.std.proofs.Common.{◌≡◌, ℕ, suc, ◌<◌, ◌≤◌, inr, Bool, true, false, cond, arith, List, [], ◌∷◌, ◌++◌, Some, length, refl, sym, ap, ◌∙◌, subst, append_assoc, length-append}
use Rattle.doc_values.specs.declared.kind.Kind.TheVariants as kind
use Rattle.doc_values.specs.Tree.{Forest, Nil, Node, snoc, joined, has_key}
use Rattle.doc_values.specs.Unfinished.{Level}
use Rattle.yaml_scalars.specs.Lines.{Stands, Fails, ends_with}
use Rattle.yaml_scalars.specs.Scalar.{scalar_at}
use Rattle.yaml_laws.proofs.KeyLines.{key_fed, key_broken}
use Rattle.yaml_grammar.specs.declared.ahead.Ahead.{Ahead}
use Rattle.yaml_grammar.specs.declared.ahead.Token.TheVariants.{End}
use Rattle.yaml_grammar.specs.declared.form.Form.{Form}
use Rattle.yaml_grammar.specs.declared.form.Form.TheVariants.{Flow}
use Rattle.yaml_grammar.specs.Ahead.{ahead}
use Rattle.yaml_grammar.specs.Flow.{ends_key}
use Rattle.yaml_grammar.specs.Nodes.{as_key, leaf, starts_scalar, scalar_ahead}
use Rattle.yaml_grammar.specs.Signs.{Tree, To}
use Rattle.yaml_grammar.specs.code.Closers.{closers}
use Rattle.yaml_grammar.specs.code.Rest.{Ends, Enters}
use Rattle.yaml_grammar.specs.code.Steps.{Agrees, Nests}
use Rattle.yaml_grammar.proofs.AheadFed.{ahead_fed, ahead_broken, end_broken, starts_some}
use Rattle.yaml_grammar.proofs.AheadEnds.{end_feed, end_flows}
use Rattle.yaml_grammar.proofs.Completions.{IsOver, over_end, over_of, closes, flow_tail, null_node, step_on, step_len}

-- a scalar stands only where one may begin
key_stands : (text : List ℕ) (a : Ahead) (t : List ℕ) (e : ℕ) → scalar_ahead text (as_key true) a ≡ Stands t e → (starts_scalar a.token ≡ true) × (scalar_at (as_key true) text a.at ≡ Stands t e)
key_stands text a t e h = by_start (starts_scalar a.token) refl h where
  fails_not : (p : ℕ) → Fails p ≡ Stands t e → ⊥
  fails_not p h = cc

  by_start : (q : Bool) → starts_scalar a.token ≡ q → cond q (scalar_at (as_key true) text a.at) (Fails a.at) ≡ Stands t e → (starts_scalar a.token ≡ true) × (scalar_at (as_key true) text a.at ≡ Stands t e)
  by_start true i h = (i, h)
  by_start false i h = absurd (fails_not a.at h)

-- a key with nothing behind it but the brackets is the last, and its value is missing
module _ (fs : List Form) (x : Level) (xs : List Level) (done : Forest) (i : ℕ) (t : List ℕ) (e : ℕ) where
  key_last : (text : List ℕ) → IsOver text e → scalar_ahead (text ++ closers (Flow true ∷ fs)) (as_key true) (ahead (text ++ closers (Flow true ∷ fs)) true i) ≡ Stands t e → has_key done t ≡ false → Agrees (Flow true ∷ fs) (x ∷ xs) → Nests (Flow true ∷ fs)
      → (tree : Forest) × Enters (text ++ closers (Flow true ∷ fs)) (Flow true ∷ fs) (x ∷ xs) done i (Tree tree)
  key_last text over stands fresh agrees nests =
      let new = text ++ (125 ∷ closers fs) in
      let null = leaf kind.Null [] (Some t) e in
      let g = Node null Nil Nil in
      let further = snoc x.before x.label (joined done g) in
      let tail = flow_tail text (closers fs) e true false (snoc done null Nil) over in
      let h = closes fs xs further (text ++ (125 ∷ [])) (length (text ++ (125 ∷ []))) (over_end (text ++ (125 ∷ []))) agrees.1 nests.2 in
      let h2 = subst (λ (w : List ℕ). Ends w fs xs further (length (text ++ (125 ∷ []))) (Tree h.0)) (step_on text (closers fs) 125) h.1 in
      let h3 = subst (λ (n : ℕ). Ends new fs xs further n (Tree h.0)) (step_len text 125 ∙ sym tail.1) h2 in
      let closing : ends_key (ahead new true e).token ≡ true = ap ends_key (over.0 true (closers fs)).0 in
      (h.0, (g, To tail.0, (Some t, e, To e, (i, e, t, refl, stands, fresh, refl, inr (closing, refl)), null_node new (Flow true) (suc (length xs)) (Some t) e (λ z. absurd (cc)) (λ z. absurd (cc)), tail.2), h3))

  -- a line feed in front of the brackets
  pub key_closes : (text : List ℕ) → i ≤ length text → ends_with 13 text ≡ false → scalar_ahead text (as_key true) (ahead text true i) ≡ Stands t e → (ahead text true i).at < length text → e ≤ length text → (ahead text true e).token ≡ End → has_key done t ≡ false → Agrees (Flow true ∷ fs) (x ∷ xs) → Nests (Flow true ∷ fs)
      → (tree : Forest) × Enters ((text ++ (10 ∷ [])) ++ closers (Flow true ∷ fs)) (Flow true ∷ fs) (x ∷ xs) done i (Tree tree)
  key_closes text low last h within near end fresh agrees nests =
      let a = ahead text true i in
      let s = key_stands text a t e h in
      let w = closers (Flow true ∷ fs) in
      let is : (text ++ (10 ∷ [])) ++ (125 ∷ closers fs) ≡ text ++ (10 ∷ 125 ∷ closers fs) = append_assoc text (10 ∷ []) (125 ∷ closers fs) in
      let same : ahead (text ++ (10 ∷ 125 ∷ closers fs)) true i ≡ a = ahead_fed text (125 ∷ closers fs) true i low last (starts_some a.token s.0) in
      let key : scalar_at (as_key true) (text ++ (10 ∷ 125 ∷ closers fs)) a.at ≡ Stands t e = key_fed (as_key true) text (125 ∷ closers fs) a.at refl within last ∙ s.1 in
      let stands : scalar_ahead (text ++ (10 ∷ 125 ∷ closers fs)) (as_key true) (ahead (text ++ (10 ∷ 125 ∷ closers fs)) true i) ≡ Stands t e =
      ap (λ b. scalar_ahead (text ++ (10 ∷ 125 ∷ closers fs)) (as_key true) b) same ∙ ap (λ q. cond q (scalar_at (as_key true) (text ++ (10 ∷ 125 ∷ closers fs)) a.at) (Fails a.at)) s.0 ∙ key in
      let over = over_of (text ++ (10 ∷ [])) e (inr (text, refl, near, end_flows true false (text ++ (10 ∷ [])) e (end_feed text true e near end))) in
      key_last (text ++ (10 ∷ [])) over (subst (λ y. scalar_ahead y (as_key true) (ahead y true i) ≡ Stands t e) (sym is) stands) fresh agrees nests

  -- a break, where what stands before it is known
  pub key_breaks : (front : List ℕ) → i ≤ length front → scalar_ahead front (as_key true) (ahead front true i) ≡ Stands t e → (ahead front true i).at < length front → e ≤ length front → (ahead front true e).token ≡ End → has_key done t ≡ false → Agrees (Flow true ∷ fs) (x ∷ xs) → Nests (Flow true ∷ fs)
      → (tree : Forest) × Enters ((front ++ (13 ∷ 10 ∷ [])) ++ closers (Flow true ∷ fs)) (Flow true ∷ fs) (x ∷ xs) done i (Tree tree)
  key_breaks front low h within near end fresh agrees nests =
      let a = ahead front true i in
      let s = key_stands front a t e h in
      let is : (front ++ (13 ∷ 10 ∷ [])) ++ (125 ∷ closers fs) ≡ front ++ (13 ∷ 10 ∷ 125 ∷ closers fs) = append_assoc front (13 ∷ 10 ∷ []) (125 ∷ closers fs) in
      let same : ahead (front ++ (13 ∷ 10 ∷ 125 ∷ closers fs)) true i ≡ a = ahead_broken front (125 ∷ closers fs) true i low (starts_some a.token s.0) in
      let key : scalar_at (as_key true) (front ++ (13 ∷ 10 ∷ 125 ∷ closers fs)) a.at ≡ Stands t e = key_broken (as_key true) front (125 ∷ closers fs) a.at refl within ∙ s.1 in
      let stands : scalar_ahead (front ++ (13 ∷ 10 ∷ 125 ∷ closers fs)) (as_key true) (ahead (front ++ (13 ∷ 10 ∷ 125 ∷ closers fs)) true i) ≡ Stands t e =
      ap (λ b. scalar_ahead (front ++ (13 ∷ 10 ∷ 125 ∷ closers fs)) (as_key true) b) same ∙ ap (λ q. cond q (scalar_at (as_key true) (front ++ (13 ∷ 10 ∷ 125 ∷ closers fs)) a.at) (Fails a.at)) s.0 ∙ key in
      let two : (front ++ (13 ∷ [])) ++ (10 ∷ []) ≡ front ++ (13 ∷ 10 ∷ []) = append_assoc front (13 ∷ []) (10 ∷ []) in
      let size = length-append front (13 ∷ []) in
      let over = over_of (front ++ (13 ∷ 10 ∷ [])) e (inr (front ++ (13 ∷ []), sym two, omega (arith, near, size), end_flows true false (front ++ (13 ∷ 10 ∷ [])) e (end_broken front true e near end))) in
      key_last (front ++ (13 ∷ 10 ∷ [])) over (subst (λ y. scalar_ahead y (as_key true) (ahead y true i) ≡ Stands t e) (sym is) stands) fresh agrees nests
