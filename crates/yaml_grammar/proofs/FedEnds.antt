-- Where nothing is ahead, or only what ends the document, no sign follows: a tree does outside of brackets, and between them nothing. By the cases of stages.
use Rattle.std.proofs.Common.{◌≡◌, ℕ, inl, inr, Bool, true, false, List, [], None, ◌⊎◌, refl, ap, ◌∙◌, sym, subst, true≢false}
use Rattle.std.specs.Prelude.{Err}
use Rattle.std.specs.Str.{IsCharBoundary, IsUtf8}
use Rattle.doc_values.specs.Tree.{Forest, Nil, snoc}
use Rattle.doc_values.specs.Unfinished.{Unfinished}
use Rattle.doc_values.specs.declared.kind.Kind.TheVariants as kind
use Rattle.yaml_grammar.specs.declared.ahead.Token.{Token}
use Rattle.yaml_grammar.specs.declared.ahead.Token.TheVariants.{End, Dash, Tag, Opens, Closes}
use Rattle.yaml_grammar.specs.declared.form.Form.{Form}
use Rattle.yaml_grammar.specs.declared.form.Form.TheVariants.{Root, Flow, FlowTagged, Items, Entries, Tagged}
use Rattle.yaml_grammar.specs.declared.stage.Stage.{Stage}
use Rattle.yaml_grammar.specs.declared.stage.Stage.TheVariants as stage
use Rattle.yaml_grammar.specs.declared.stop.Stop.TheVariants as stop
use Rattle.yaml_grammar.specs.Ahead.{ahead}
use Rattle.yaml_grammar.specs.Nodes.{leaf, setting_of, as_key, is_marked, is_tagged, node_sign, starts_scalar}
use Rattle.yaml_grammar.specs.Signs.{Sign, Reading, Tree, Refused}
use Rattle.yaml_grammar.specs.Yaml.{IsEnd}
use Rattle.yaml_grammar.specs.code.Closers.{in_flow}
use Rattle.yaml_grammar.specs.code.Rest.{top, Ends, Enters, Awaits}
use Rattle.yaml_grammar.specs.code.Steps.{IsSeen, IsBlock, IsFlow, IsSpelled, Open, Rest, Fits, Broke, NoNode, is_ending, is_flow_ending}
use Rattle.yaml_grammar.proofs.BlockRests.{missing_awaits}
use Rattle.yaml_grammar.proofs.Continuations.{block_ends}
use Rattle.yaml_grammar.proofs.FedSteps.{flow_in, block_in}
use Rattle.yaml_grammar.proofs.Gains.{no_key, flow_spot, holds_gives}
use Rattle.yaml_grammar.proofs.Placed.{placed}
use Rattle.yaml_grammar.proofs.Rests.{ends_none}
use Rattle.yaml_grammar.proofs.Scalars.{missed_other, failed_other}
use Rattle.yaml_grammar.proofs.Stopped.{item_follows}

tree_not : (t : Forest) (z : Sign) → Tree t ≡ Refused z → ⊥
tree_not t z e = absurd (cc)

apart : (t s : Token) → t ≡ End → t ≡ s → (End ≡ s → ⊥) → ⊥
apart t s e h n = n (sym e ∙ h)

module _ (text : List ℕ) (utf8 : IsUtf8 text) (fs : List Form) (u : Unfinished) (i : ℕ) (cut : IsCharBoundary text i) where
  seen : (flow : Bool) → IsSeen text flow i (ahead text flow i)
  seen flow = (refl, placed text flow i utf8 cut)

  -- between brackets nothing follows
  module _ (e : (ahead text true i).token ≡ End) where
    other : starts_scalar (ahead text true i).token ≡ false
    other = ap starts_scalar e

    none_awaited : (f : Form) → top fs ≡ f → IsFlow f → Open fs u → (v : Reading) → Awaits text fs u.outer u.done u.key i v → ⊥
    none_awaited f form flow open_ v h =
        let a = ahead text true i in
        holds_gives text fs u u f (is_tagged f) i a (Err (stop.Unread 0)) refl (flow_spot text fs u f i a (seen true) form flow open_) (λ m z. apart a.token (Opens m) e z (λ y. absurd (cc))) (λ n z. apart a.token (Tag n) e z (λ y. absurd (cc))) refl
        (ap (node_sign (is_tagged f) a.at) e) (λ m. ap is_flow_ending e) (inr (inl ((0, refl), failed_other text (setting_of f) a other))) v h

    none_enters : (map : Bool) → top fs ≡ Flow map → Open fs u → u.key ≡ None → (v : Reading) → Enters text fs u.outer u.done i v → ⊥
    none_enters true form open_ key v h =
        let a = ahead text true i in
        no_key text fs u.outer u.done i a refl (λ z. apart a.token (Closes true) e z (λ y. absurd (cc))) (ap (node_sign false a.at) e) (ap is_marked e) form open_.0 (missed_other text (as_key true) a other) v h
    none_enters false form open_ key v h =
        let a = ahead text true i in
        none_awaited (Flow false) form tt open_ v (item_follows text fs u i a refl form open_ (λ z. apart a.token (Closes false) e z (λ y. absurd (cc))) (ap is_marked e) key v h)

  -- outside of them a tree does
  module _ (e : (ahead text false i).token ≡ End) where
    no_node : (f : Form) → NoNode f (ahead text false i)
    no_node f =
        let a = ahead text false i in
        ((λ k. (ap starts_scalar e, (λ m z. apart a.token (Opens m) e z (λ y. absurd (cc))))), (λ k z. apart a.token Dash e z (λ y. absurd (cc))), (λ k n z. apart a.token (Tag n) e z (λ y. absurd (cc))))

    null_awaited : (f : Form) → top fs ≡ f → IsBlock f → (f ≡ Root → ⊥) → Open fs u → (t : Forest) × Awaits text fs u.outer u.done u.key i (Tree t)
    null_awaited f form block some open_ =
        let b = block_ends fs u.outer (snoc u.done (leaf kind.Null [] u.key i) Nil) text i (inl e) (subst IsBlock (sym form) block) open_.0 open_.1 in
        (b.0, missing_awaits text fs u.outer f form block u.done u.key i (Tree b.0) some b.1)

  root_told : (f : Form) → top fs ≡ f → f ≡ Root → Fits text stage.Value fs u i → (ahead text false i).token ≡ End → ⊥
  root_told f form r fits e =
      let told : is_ending (ahead text false i).token ≡ false = subst (λ g. IsSpelled text g i) (form ∙ r) fits.4 in
      true≢false (sym (ap is_ending e) ∙ told)

  flow_or : (f : Form) → IsFlow f ⊎ IsBlock f
  flow_or Root = inr tt
  flow_or (Flow map) = inl tt
  flow_or (FlowTagged at) = inl tt
  flow_or (Items m) = inr tt
  flow_or (Entries m) = inr tt
  flow_or (Tagged at above shares) = inr tt

  flow_told : IsFlow (top fs) → (ahead text (in_flow (top fs)) i).token ≡ End → (ahead text true i).token ≡ End
  flow_told w e = subst (λ q. (ahead text q i).token ≡ End) (flow_in (top fs) w) e

  block_told : IsBlock (top fs) → (ahead text (in_flow (top fs)) i).token ≡ End → (ahead text false i).token ≡ End
  block_told w e = subst (λ q. (ahead text q i).token ≡ End) (block_in (top fs) w) e

  -- behind a complete node the document may end
  pub ended_signless : (z : Sign) → IsBlock (top fs) → Open fs u → IsEnd text i → Broke (Ends text fs u.outer u.done i) z → ⊥
  ended_signless z block open_ end b = let t = block_ends fs u.outer u.done text i end block open_.0 open_.1 in tree_not t.0 z (b.1 (Tree t.0) t.1)

  pub end_signless : (s : Stage) (z : Sign) → (s ≡ stage.Whole → ⊥) → Fits text s fs u i → (ahead text (in_flow (top fs)) i).token ≡ End → Broke (Rest text s fs u i) z → ⊥
  end_signless stage.Entry z go (open_, (map, form), key) e b =
      none_enters (flow_told (subst IsFlow (sym form) tt) e) map form open_ key (Refused z) b.0
  end_signless stage.Value z go fits e b = by_form (flow_or (top fs)) where
    root : IsBlock (top fs) → top fs ≡ Root → ⊥
    root w r = root_told (top fs) refl r fits (block_told w e)

    by_form : IsFlow (top fs) ⊎ IsBlock (top fs) → ⊥
    by_form (inl w) = none_awaited (flow_told w e) (top fs) refl w fits.0 (Refused z) b.0
    by_form (inr w) = let t = null_awaited (block_told w e) (top fs) refl w (root w) fits.0 in tree_not t.0 z (b.1 (Tree t.0) t.1)
  end_signless stage.After z go fits e b = by_form (flow_or (top fs)) where
    by_form : IsFlow (top fs) ⊎ IsBlock (top fs) → ⊥
    by_form (inl w) = ends_none text fs u.outer u.done i (Refused z) w fits.0.1 (ap is_flow_ending (flow_told w e)) b.0
    by_form (inr w) = ended_signless z w fits.0 (inl (block_told w e)) b
  end_signless stage.Whole z go fits e b = absurd (go refl)
