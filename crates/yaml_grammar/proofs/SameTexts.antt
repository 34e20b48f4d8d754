-- Texts in which the same is ahead: what stands in one stands in the other. By the cases of what the reader finds.
use Rattle.std.proofs.Common.{◌≡◌, ℕ, List, true, false, drop, inl, inr, refl, sym, ap, ◌∙◌, subst}
use Rattle.std.specs.Prelude.{Result, Ok, Err, Bool}
use Rattle.std.specs.Cow.{cow_str_bytes}
use Rattle.std.specs.Str.{IsCharBoundary, IsUtf8}
use Rattle.doc_values.specs.declared.kind.Kind.{Kind}
use Rattle.doc_values.specs.declared.kind.Kind.TheVariants as kind
use Rattle.doc_values.specs.Unfinished.{Unfinished, with_open, with_key}
use Rattle.yaml_scalars.specs.declared.scalar.Setting.{Setting}
use Rattle.yaml_scalars.specs.Lines.{Stands}
use Rattle.yaml_scalars.specs.Scalar.{begins_quoted, HasKind}
use Rattle.yaml_grammar.specs.declared.ahead.Ahead.{Ahead}
use Rattle.yaml_grammar.specs.declared.ahead.Token.{Token}
use Rattle.yaml_grammar.specs.declared.ahead.Token.TheVariants.{End, Dashes, Dots, Dash, Tag, NoTag, Opens, Closes, Comma, Point, Anchor, Percent, Tabbed, Stray, Other}
use Rattle.yaml_grammar.specs.declared.form.Form.{Form}
use Rattle.yaml_grammar.specs.declared.key.Key.{Key}
use Rattle.yaml_grammar.specs.declared.form.Form.TheVariants.{Flow}
use Rattle.yaml_grammar.specs.declared.stage.Stage.{Stage}
use Rattle.yaml_grammar.specs.declared.stage.Stage.TheVariants as stage
use Rattle.yaml_grammar.specs.declared.stage.Position.{Position}
use Rattle.yaml_grammar.specs.declared.stop.Stop.{Stop}
use Rattle.yaml_grammar.specs.Ahead.{ahead}
use Rattle.yaml_grammar.specs.Nodes.{tag_name, tag_key, as_key, scalar_ahead}
use Rattle.yaml_grammar.specs.Flow.{ends_key, IsColon}
use Rattle.yaml_grammar.specs.Blocks.{IsKey}
use Rattle.yaml_grammar.specs.Yaml.{IsEnd, sign_behind, end_sign}
use Rattle.yaml_grammar.specs.code.Steps.{IsPlaced, IsSeen, SameScalar, SameKey, SameNode, SameFlowNode, SameFlowKey, SameEnd, SameStep, Found, Failed, Divides, Finds, Holds, NoKey, HasKey, TagBegun}
use Rattle.yaml_grammar.proofs.Placed.{placed}
use Rattle.yaml_grammar.proofs.Pointed.{pointed_point, pointed_stale}

-- ---- scalars

module _ (text other : List ℕ) (s : Setting) (a : Ahead) (m : SameScalar text other s a) where
  pub found_same : (t : List ℕ) (k : Kind) (j : ℕ) → Found text s a t k j → Found other s a t k j
  found_same t k j (st, hk, lt, b) = (m.scalar ∙ st, subst (λ q. HasKind q t k) (sym m.typed) hk, lt, m.last t j st b)

  pub failed_same : Failed text s a → Failed other s a
  failed_same (n, d) = ((λ t j h. n t j (sym m.scalar ∙ h)), (λ p h. d p (sym m.scalar ∙ h)))

  divides_same : (e : Stop) → Divides text s a e → Divides other s a e
  divides_same e (p, h, d) = (p, h, m.scalar ∙ d)

  pub holds_same : (cuts : Bool) (u w : Unfinished) (r : Result Position Stop) → Holds text s cuts a u w r → Holds other s cuts a u w r
  holds_same cuts u w (Ok p) (t, k, f, es, ew, room) = (t, k, found_same t k p.at f, es, ew, room)
  holds_same cuts u w (Err e) (inl h) = inl h
  holds_same cuts u w (Err e) (inr (inl (h, f))) = inr (inl (h, failed_same f))
  holds_same cuts u w (Err e) (inr (inr (inl d))) = inr (inr (inl (divides_same e d)))
  holds_same cuts u w (Err e) (inr (inr (inr (t, k, j, f, c, h, d)))) = inr (inr (inr (t, k, j, found_same t k j f, c, h, d)))

  pub finds_same : (e : Stop) → Finds text s a (Err e) → Finds other s a (Err e)
  finds_same e (inl h) = inl h
  finds_same e (inr (inl (h, f))) = inr (inl (h, failed_same f))
  finds_same e (inr (inr d)) = inr (inr (divides_same e d))

-- ---- keys

module _ (text other : List ℕ) (a : Ahead) (m : SameKey text other a) where
  key_there : (t : List ℕ) (p : ℕ) → IsKey text a t p → IsKey other a t p
  key_there t p (e, st, f, tk, b) =
      let h = m.behind t e st in
      (e, m.scalar.scalar ∙ st, ap (λ (x : Ahead). x.fresh) h ∙ f, ap (λ (x : Ahead). x.token) h ∙ tk, b ∙ sym (ap (λ (x : Ahead). x.behind) h))

  key_here : (t : List ℕ) (p : ℕ) → IsKey other a t p → IsKey text a t p
  key_here t p (e, st, f, tk, b) =
      let st2 = sym m.scalar.scalar ∙ st in
      let h = m.behind t e st2 in
      (e, st2, sym (ap (λ (x : Ahead). x.fresh) h) ∙ f, sym (ap (λ (x : Ahead). x.token) h) ∙ tk, b ∙ ap (λ (x : Ahead). x.behind) h)

  key_last : (t : List ℕ) (p : ℕ) → IsKey text a t p → IsCharBoundary text p → IsCharBoundary other p
  key_last t p (e, st, f, tk, b) c = subst (IsCharBoundary other) (sym b) (m.last t e st (subst (IsCharBoundary text) b c))

  pub has_key_same : (k : Key) → HasKey text a k → HasKey other a k
  has_key_same k (h, b, l) = (key_there (cow_str_bytes k.text) k.behind h, key_last (cow_str_bytes k.text) k.behind h b, l)

  pub no_key_same : NoKey text a → NoKey other a
  no_key_same n = λ t p h. n t p (key_here t p h)

-- ---- keys in flow

pub colon_alike : (text other : List ℕ) (q : Bool) (e p : ℕ) → ahead other true e ≡ ahead text true e → IsColon text q e p → IsColon other q e p
colon_alike text other q e p h (inl (l, t, s, b)) = inl (l, ap (λ (x : Ahead). x.token) h ∙ t, s, b ∙ sym (ap (λ (x : Ahead). x.behind) h))
colon_alike text other q e p h (inr (t, b)) = inr (ap (λ (x : Ahead). ends_key x.token) h ∙ t, b)

module _ (text other : List ℕ) (a : Ahead) (m : SameFlowKey text other a) (t : List ℕ) (e : ℕ) (st : scalar_ahead text (as_key true) a ≡ Stands t e) where
  pub colon_there : (q : Bool) (p : ℕ) → q ≡ begins_quoted (drop a.at text) → IsColon text q e p → IsColon other (begins_quoted (drop a.at other)) e p
  colon_there q p h c = subst (λ z. IsColon other z e p) (h ∙ sym m.quoted) (colon_alike text other q e p (m.behind t e st) c)

  pub colon_here : (q : Bool) (p : ℕ) → q ≡ begins_quoted (drop a.at text) → IsColon other (begins_quoted (drop a.at other)) e p → IsColon text q e p
  colon_here q p h c = colon_alike other text q e p (sym (m.behind t e st)) (subst (λ z. IsColon other z e p) (m.quoted ∙ sym h) c)

  pub colon_last : (q : Bool) (p : ℕ) → IsColon text q e p → IsCharBoundary text p → IsCharBoundary other e → IsCharBoundary other p
  colon_last q p (inl (l, k, s, b)) c d = subst (IsCharBoundary other) (sym b) (m.last t e l st k (subst (IsCharBoundary text) b c))
  colon_last q p (inr (k, b)) c d = subst (IsCharBoundary other) (sym b) d

-- ---- the document's end

signs_alike : (a n m : Ahead) (t : Token) → (t ≡ Dots → n ≡ m) → sign_behind a n t ≡ sign_behind a m t
signs_alike a n m Dots h = ap (λ (x : Ahead). sign_behind a x Dots) (h refl)
signs_alike a n m End h = refl
signs_alike a n m Dashes h = refl
signs_alike a n m Dash h = refl
signs_alike a n m (Tag l) h = refl
signs_alike a n m NoTag h = refl
signs_alike a n m (Opens q) h = refl
signs_alike a n m (Closes q) h = refl
signs_alike a n m Comma h = refl
signs_alike a n m (Point q) h = refl
signs_alike a n m Anchor h = refl
signs_alike a n m Percent h = refl
signs_alike a n m Tabbed h = refl
signs_alike a n m Stray h = refl
signs_alike a n m Other h = refl

module _ (text other : List ℕ) (i : ℕ) (m : SameEnd text other i) where
  pub sign_same : end_sign other i ≡ end_sign text i
  sign_same =
      ap (λ (x : Ahead). sign_behind x (ahead other false x.behind) x.token) m.here
      ∙ signs_alike (ahead text false i) (ahead other false (ahead text false i).behind) (ahead text false (ahead text false i).behind) (ahead text false i).token m.further

  pub end_there : IsEnd text i → IsEnd other i
  end_there (inl e) = inl (ap (λ (x : Ahead). x.token) m.here ∙ e)
  end_there (inr (d, e)) = inr (ap (λ (x : Ahead). x.token) m.here ∙ d, ap (λ (x : Ahead). (ahead other false x.behind).token) m.here ∙ ap (λ (x : Ahead). x.token) (m.further d) ∙ e)

  pub end_here : IsEnd other i → IsEnd text i
  end_here (inl e) = inl (sym (ap (λ (x : Ahead). x.token) m.here) ∙ e)
  end_here (inr (d, e)) =
      let d2 = sym (ap (λ (x : Ahead). x.token) m.here) ∙ d in
      inr (d2, sym (ap (λ (x : Ahead). x.token) (m.further d2)) ∙ sym (ap (λ (x : Ahead). (ahead other false x.behind).token) m.here) ∙ e)

-- ---- tags

pub tag_same : (text other : List ℕ) (f : Form) (a : Ahead) (fs gs : List Form) (u w : Unfinished) (r : Result Position Stop) → tag_name other a.at a.behind ≡ tag_name text a.at a.behind → TagBegun text f a fs u gs w r → TagBegun other f a fs u gs w r
tag_same text other f a fs gs u w (Ok p) n (es, ej, eg, ew, d) = (es, ej, eg, subst (λ t. w ≡ with_key (tag_key t) (with_open kind.Map a.at u)) (sym n) ew, d)
tag_same text other f a fs gs u w (Err e) n h = h

-- ---- a text itself

pub same_key : (text : List ℕ) (a : Ahead) → SameKey text text a
same_key text a = record { scalar = record { scalar = refl; typed = refl; last = λ t j h b. b }; behind = λ t j h. refl; last = λ t j h b. b }

pub same_node : (text : List ℕ) (f : Form) (i : ℕ) (a : Ahead) → SameNode text text f i a
same_node text f i a = record { name = λ len h e. refl; cuts = refl; scalar = λ h n. record { scalar = refl; typed = refl; last = λ t j k b. b }; none = λ h n. n; key = λ h k there. there; point = λ h n t j st p. (pointed_point text false a.at j p, pointed_stale text a.at j p) }

pub same_flow_node : (text : List ℕ) (f : Form) (i : ℕ) (a : Ahead) → SameFlowNode text text f i a
same_flow_node text f i a = record { name = λ len e. refl; cuts = refl; scalar = record { scalar = refl; typed = refl; last = λ t j h b. b }; point = λ t j h p. pointed_point text true a.at j p }

pub same_flow_key : (text : List ℕ) (a : Ahead) → SameFlowKey text text a
same_flow_key text a = record { scalar = record { scalar = refl; typed = refl; last = λ t j h b. b }; quoted = refl; behind = λ t j h. refl; last = λ t j loose h z b. b }

pub same_end : (text : List ℕ) (i : ℕ) → SameEnd text text i
same_end text i = record { here = refl; further = λ h. refl }

pub same_step : (text : List ℕ) (s : Stage) (f : Form) (i : ℕ) → SameStep text text s f i
same_step text stage.Entry f i = (refl, (λ h. same_flow_key text (ahead text true i)), (λ h. same_flow_node text (Flow false) i (ahead text true i)))
same_step text stage.Value f i = ((λ h. (refl, same_flow_node text f i (ahead text true i))), (λ h. (refl, same_node text f i (ahead text false i))))
same_step text stage.After f i = ((λ h. refl), (λ h. (same_end text i, same_key text (ahead text false i))))
same_step text stage.Whole f i = tt

-- ---- what is seen in another text

pub seen_alike : (text other : List ℕ) (flow : Bool) (i : ℕ) → IsUtf8 other → IsCharBoundary other i → ahead other flow i ≡ ahead text flow i → IsSeen other flow i (ahead text flow i)
seen_alike text other flow i u b e = (sym e, subst (λ (a : Ahead). IsPlaced other i a) e (placed other flow i u b))
