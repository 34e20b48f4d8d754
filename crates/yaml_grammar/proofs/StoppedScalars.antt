-- Where reading stops at a scalar that fails: it stands in no text that is the same as far as the place, nor does a key. By what is read there instead.
use Rattle.std.proofs.Common.{◌≡◌, ℕ, ◌+◌, ◌<◌, ◌≤◌, ◌⊎◌, inl, inr, Bool, true, false, nat_lt, List, cond, drop, length, refl, sym, ap, ◌∙◌, subst, true≢false, arith}
use Rattle.std.proofs.lemmas.Bool.{cases_lt, ltb-true}
use Rattle.std.proofs.lemmas.Bool.Decides.{nat_tests}
use Rattle.std.specs.Prelude.{Result, Ok, Err, None}
use Rattle.doc_values.specs.Tree.{Forest}
use Rattle.doc_values.specs.Unfinished.{Unfinished}
use Rattle.yaml_scalars.specs.declared.scalar.Setting.{Setting}
use Rattle.yaml_scalars.specs.Block.{widest}
use Rattle.yaml_scalars.specs.Lines.{Outcome, Stands, Fails, Documents}
use Rattle.yaml_scalars.specs.Scalar.{scalar_at}
use Rattle.yaml_laws.specs.code.Agreement.{AgreesTo}
use Rattle.yaml_laws.proofs.AgreeLess.{agrees_less}
use Rattle.yaml_laws.proofs.ScalarLaw.{scalar_lower, scalar_dead, scalar_upper}
use Rattle.yaml_grammar.specs.declared.ahead.Ahead.{Ahead}
use Rattle.yaml_grammar.specs.declared.ahead.Token.{Token}
use Rattle.yaml_grammar.specs.declared.ahead.Token.TheVariants.{Tag, Opens}
use Rattle.yaml_grammar.specs.declared.form.Form.{Form}
use Rattle.yaml_grammar.specs.declared.stage.Position.{Position}
use Rattle.yaml_grammar.specs.declared.stop.Stop.{Stop}
use Rattle.yaml_grammar.specs.declared.stop.Stop.TheVariants as stop
use Rattle.yaml_grammar.specs.Ahead.{ahead}
use Rattle.yaml_grammar.specs.Blocks.{takes_scalar, takes_mapping}
use Rattle.yaml_grammar.specs.Flow.{may_miss}
use Rattle.yaml_grammar.specs.Nodes.{setting_of, as_key, starts_scalar, scalar_ahead, is_tagged, node_sign}
use Rattle.yaml_grammar.specs.Signs.{Tree, Refused, ManyDocuments}
use Rattle.yaml_grammar.specs.code.AheadSeen.{ahead_seen}
use Rattle.yaml_grammar.specs.code.StopPlaces.{width, within, past_return}
use Rattle.yaml_grammar.specs.code.Rest.{top}
use Rattle.yaml_grammar.specs.code.Steps.{IsFlow, IsBlock, Open, NoKey, Missed, Failed, is_ending, is_flow_ending}
use Rattle.yaml_grammar.specs.code.Twins.{IsTwin, Stops, NoValue, NoFlowValue, FailedAt}
use Rattle.yaml_grammar.proofs.AheadStays.{widest_first}
use Rattle.yaml_grammar.proofs.BlockGains.{scalar_gives, spot_of}
use Rattle.yaml_grammar.proofs.Gains.{flow_spot, holds_gives}
use Rattle.yaml_grammar.proofs.KeyEnds.{key_stands}
use Rattle.yaml_grammar.proofs.Quiet.{word_inside}
use Rattle.yaml_grammar.proofs.Scalars.{key_single}
use Rattle.yaml_grammar.proofs.ShownTokens.{passed_return, ahead_wide}
use Rattle.yaml_grammar.proofs.Stopped.{within_end, within_here, within_stops}

-- ---- in another text

-- one that fails stands in no text that agrees through the place
agreed_missed : (text : List ℕ) (s : Setting) (a : Ahead) (r : ℕ) (other : List ℕ) → AgreesTo r text other → a.at < length text → starts_scalar a.token ≡ true → scalar_at s text a.at ≡ Fails r → Missed other s a
agreed_missed text s a r other (before, behind, more, b, e, f, size) l n h = λ t j st.
    let low = scalar_lower s text a.at r l h in
    scalar_dead s before b behind more a.at t j (omega (arith, low, size)) (ap (λ x. scalar_at s x a.at) (sym e) ∙ h ∙ ap Fails (sym size))
    (ap (λ x. scalar_at s x a.at) (sym f) ∙ sym (ap (λ q. cond q (scalar_at s other a.at) (Fails a.at)) n) ∙ st)

missed_twin : (text : List ℕ) (s : Setting) (a : Ahead) (r p : ℕ) (other : List ℕ) → IsTwin text p other → r ≤ p → a.at < length text → starts_scalar a.token ≡ true → scalar_ahead text s a ≡ Fails r → Missed other s a
missed_twin text s a r p other m o l n h = by_order (cases_lt r p) where
  here : scalar_at s text a.at ≡ Fails r
  here = sym (ap (λ q. cond q (scalar_at s text a.at) (Fails a.at)) n) ∙ h

  by_order : (r < p) ⊎ (p ≤ r) → Missed other s a
  by_order (inl k) = agreed_missed text s a r other (agrees_less r p text other k m.agrees).0 l n here
  by_order (inr k) = let e : p ≡ r = omega (arith, o, k) in agreed_missed text s a r other (subst (λ z. AgreesTo z text other) e m.agrees) l n here

-- where one fails, no key with its colon stands
missed_key : (text : List ℕ) (a : Ahead) (f : Form) → IsBlock f → Missed text (setting_of f) a → NoKey text a
missed_key text a f b none = λ t p (e, st, stale, tk, z). let s = key_stands text a f b t e st stale in none s.0 e s.1

-- what is there instead makes no document
fails_documents : (p q : ℕ) → Fails p ≡ Documents q → ⊥
fails_documents p q h = cc

tree_refused : (t : Forest) (p : ℕ) → Tree t ≡ Refused (ManyDocuments p) → ⊥
tree_refused t p h = cc

pub no_value : (text : List ℕ) (fs : List Form) (u : Unfinished) (f : Form) (i : ℕ) (a : Ahead) → starts_scalar a.token ≡ true → takes_scalar f a ≡ true → Missed text (setting_of f) a → NoValue i a f fs u text
no_value text fs u f i a s tk none w t h = by_outcome (scalar_ahead text (setting_of f) a) refl where
  no_key : takes_mapping f a ≡ true → NoKey text a
  no_key m = missed_key text a f w.block none

  by_outcome : (o : Outcome) → scalar_ahead text (setting_of f) a ≡ o → ⊥
  by_outcome (Stands x j) e = none x j e
  by_outcome (Fails p) e =
      scalar_gives text fs u u f i a (Err (stop.Unread 0)) w.seen.0 (spot_of text fs u f i a w) s tk no_key
      (inr (inl ((0, refl), (none, (λ q d. fails_documents p q (sym e ∙ d)))))) (Tree t) h
  by_outcome (Documents p) e =
      tree_refused t p ((scalar_gives text fs u u f i a (Err (stop.ManyDocuments p)) w.seen.0 (spot_of text fs u f i a w) s tk no_key (inr (inr (inl (p, refl, e))))).1 (Tree t) h)

starts_unopened : (t : Token) → starts_scalar t ≡ true → ((m : Bool) → t ≡ Opens m → ⊥) × ((len : ℕ) → t ≡ Tag len → ⊥)
starts_unopened t s = ((λ m e. true≢false (sym s ∙ ap starts_scalar e)), (λ n e. true≢false (sym s ∙ ap starts_scalar e)))

pub no_flow_value : (text : List ℕ) (fs : List Form) (u : Unfinished) (f : Form) (tagged : Bool) (i : ℕ) (a : Ahead) → starts_scalar a.token ≡ true → top fs ≡ f → IsFlow f → Open fs u → tagged ≡ is_tagged f → node_sign tagged a.at a.token ≡ None → (may_miss f ≡ true → is_flow_ending a.token ≡ false)
    → Missed text (setting_of f) a → NoFlowValue i a fs u text
no_flow_value text fs u f tagged i a s form flow open_ eq us there none seen t h = by_outcome (scalar_ahead text (setting_of f) a) refl where
  by_outcome : (o : Outcome) → scalar_ahead text (setting_of f) a ≡ o → ⊥
  by_outcome (Stands x j) e = none x j e
  by_outcome (Fails p) e =
      holds_gives text fs u u f tagged i a (Err (stop.Unread 0)) seen.0 (flow_spot text fs u f i a seen form flow open_) (starts_unopened a.token s).0 (starts_unopened a.token s).1 eq us there
      (inr (inl ((0, refl), (none, (λ q d. fails_documents p q (sym e ∙ d)))))) (Tree t) h
  by_outcome (Documents p) e =
      tree_refused t p ((holds_gives text fs u u f tagged i a (Err (stop.ManyDocuments p)) seen.0 (flow_spot text fs u f i a seen form flow open_) (starts_unopened a.token s).0 (starts_unopened a.token s).1 eq us there (inr (inr (inl (p, refl, e))))).1 (Tree t) h)

-- a key that does not stand fails
pub missed_failed : (text : List ℕ) (flow : Bool) (a : Ahead) → Missed text (as_key flow) a → Failed text (as_key flow) a
missed_failed text flow a none = (none, (λ p d. key_single flow text a p d))

-- ---- the place

-- at the length the scalar fails at the text's end
pub failed_end : (text : List ℕ) (s : Setting) (a : Ahead) → starts_scalar a.token ≡ true → (q : ℕ) → a.at < length text → q ≡ length text → FailedAt text s a q → scalar_at s text a.at ≡ Fails (length text)
failed_end text s a starts q inside e (inl (g, far)) = absurd (omega (arith, inside, far))
failed_end text s a starts q inside e (inr (r, l, h, g)) = by_less (nat_lt r (length text)) refl g where
  there : scalar_at s text a.at ≡ Fails r
  there = sym (ap (λ c. cond c (scalar_at s text a.at) (Fails a.at)) starts) ∙ h

  inner : (n : ℕ) → q ≡ within text n → ⊥
  inner n k = by_order (cases_lt n (length text)) where
    by_order : (n < length text) ⊎ (length text ≤ n) → ⊥
    by_order (inl z) = let y = k ∙ within_here text n z in omega (arith, e, y, z)
    by_order (inr z) = let y = k ∙ within_end text n z in omega (arith, e, y, inside)

  by_less : (c : Bool) → nat_lt r (length text) ≡ c → q ≡ cond c (within text (past_return text (widest (a.at + width a (drop a.at text)) r))) (length text) → scalar_at s text a.at ≡ Fails (length text)
  by_less true c k = absurd (inner (past_return text (widest (a.at + width a (drop a.at text)) r)) k)
  by_less false c k =
      let most = scalar_upper s text a.at r inside there in
      let least : length text ≤ r = grind (arith, nat_tests, c) in
      there ∙ ap Fails (let z : r ≡ length text = omega (arith, most, least) in z)

module _ (text : List ℕ) (s : Setting) (flow : Bool) (i : ℕ) (a : Ahead) (none : List ℕ → Type 0) (here : a ≡ ahead text flow i) (n : starts_scalar a.token ≡ true) (absent : (other : List ℕ) → Missed other s a → none other) where
  pub failed_stops : (q : ℕ) → FailedAt text s a q → Stops text i none (Err (stop.Unread q))
  failed_stops q (inl e) = inl (inl e.0)
  failed_stops q (inr (r, l, h, e)) = by_end (nat_lt r (length text)) refl e where
    Far : ℕ
    Far = widest (a.at + width a (drop a.at text)) r

    both : (a.at + width a (drop a.at text) ≤ Far) × (r ≤ Far)
    both = widest_first (a.at + width a (drop a.at text)) r Far (omega arith)

    near : ahead_seen text i ≤ Far
    near =
        let w = subst (λ (b : Ahead). ahead_seen text i ≤ b.at + width b (drop b.at text)) (sym here) (ahead_wide text flow i (ap (λ (b : Ahead). is_ending b.token) (sym here) ∙ word_inside a.token n)) in
        let b = both.0 in
        omega (arith, w, b)

    by_end : (k : Bool) → nat_lt r (length text) ≡ k → q ≡ cond k (within text (past_return text Far)) (length text) → Stops text i none (Err (stop.Unread q))
    by_end true k g =
        within_stops text i none Far (past_return text Far) q r (passed_return text Far) g near (ltb-true r (length text) k) both.1 (λ p other o m. absent other (missed_twin text s a r p other m o l n h))
    by_end false k g = inl (inl g)

  pub scalar_stops : (r : Result Position Stop) → ((q : ℕ) → r ≡ Err (stop.Unread q) → FailedAt text s a q) → Stops text i none r
  scalar_stops (Ok p) f = tt
  scalar_stops (Err (stop.Unread q)) f = failed_stops q (f q refl)
  scalar_stops (Err (stop.Tab at)) f = tt
  scalar_stops (Err (stop.Anchor at)) f = tt
  scalar_stops (Err (stop.Tag at)) f = tt
  scalar_stops (Err (stop.Directive at)) f = tt
  scalar_stops (Err (stop.ManyDocuments at)) f = tt
  scalar_stops (Err (stop.DuplicateKey at)) f = tt
  scalar_stops (Err (stop.TooDeep at)) f = tt
  scalar_stops (Err stop.NoMemory) f = tt

-- the same of a key
pub key_stops : (text : List ℕ) (flow : Bool) (i : ℕ) (a : Ahead) (none : List ℕ → Type 0) → a ≡ ahead text flow i → starts_scalar a.token ≡ true → ((other : List ℕ) → Missed other (as_key flow) a → none other)
    → (z : Setting) (e : Stop) → z ≡ as_key flow → ((q : ℕ) → e ≡ stop.Unread q → FailedAt text z a q) → Stops text i none (Err e)
key_stops text flow i a none here n absent z e k f = scalar_stops text (as_key flow) flow i a none here n absent (Err e) (λ q h. subst (λ y. FailedAt text y a q) k (f q (error_is (Err e) e q refl h))) where
  error_is : (r : Result Position Stop) (d : Stop) (q : ℕ) → r ≡ Err d → r ≡ Err (stop.Unread q) → d ≡ stop.Unread q
  error_is r d q h k = cc
