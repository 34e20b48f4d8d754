-- What is said of the last byte where a scalar runs out without room for the list of two that it would be split into: no tree follows in a longer text. By the two kinds of sites.
use Rattle.std.proofs.Common.{◌≡◌, ℕ, ◌-◌, ◌<◌, inl, inr, Bool, true, false, cond, List, length, sym, ap, ◌∙◌, subst, arith}
use Rattle.std.specs.Prelude.{Ok, Err, None}
use Rattle.std.specs.Str.{IsCharBoundary, IsUtf8}
use Rattle.doc_values.specs.Unfinished.{Unfinished, AwaitsValue}
use Rattle.yaml_scalars.specs.declared.scalar.Setting.{Setting}
use Rattle.yaml_scalars.specs.Lines.{Fails}
use Rattle.yaml_scalars.specs.Scalar.{scalar_at}
use Rattle.yaml_grammar.specs.declared.ahead.Ahead.{Ahead}
use Rattle.yaml_grammar.specs.declared.form.Form.{Form}
use Rattle.yaml_grammar.specs.declared.stage.Position.{Position}
use Rattle.yaml_grammar.specs.declared.stage.Stage.TheVariants as stage
use Rattle.yaml_grammar.specs.declared.stop.Stop.{Stop}
use Rattle.yaml_grammar.specs.Ahead.{ahead}
use Rattle.yaml_grammar.specs.Blocks.{takes_scalar, takes_mapping}
use Rattle.yaml_grammar.specs.Flow.{may_miss}
use Rattle.yaml_grammar.specs.Nodes.{follows_get_att, is_tagged, node_sign, setting_of, starts_scalar}
use Rattle.yaml_grammar.specs.code.Points.{is_pointed}
use Rattle.yaml_grammar.specs.code.Rest.{top}
use Rattle.yaml_grammar.specs.code.Splits.{InRoom, RunsOn, RunsOut, is_split, split_stop}
use Rattle.yaml_grammar.specs.code.Steps.{IsSeen, IsFlow, IsBehind, Holds, Open, Awaited, NoKey, is_flow_ending}
use Rattle.yaml_grammar.specs.code.Twins.{FailedAt, Lengthens, LengthensAt, MendsNode, NoFlowValue, NoValue, OnUnread, Stops, TornAt}
use Rattle.yaml_grammar.proofs.Lengthened.{told_at, word_told}
use Rattle.yaml_grammar.proofs.SplitPlaces.{Dead, dot_inside, last_stops, roomless_of, roomy_of, runs_out, split_on, split_stops, split_true}
use Rattle.yaml_grammar.proofs.SplitScalars.{block_split, flow_split}
use Rattle.yaml_grammar.proofs.StoppedScalars.{failed_end}
use Rattle.yaml_grammar.proofs.TornDashes.{IsTornAt, torn_at}

-- ---- at the length a scalar runs out

-- it begins within the text
pub word_within : (text : List ℕ) (flow : Bool) (i : ℕ) (a : Ahead) → a ≡ ahead text flow i → starts_scalar a.token ≡ true → a.at < length text
word_within text flow i a here starts = subst (λ (b : Ahead). b.at < length text) (sym here) (told_at text flow i (word_told (ahead text flow i).token (sym (ap (λ (b : Ahead). starts_scalar b.token) here) ∙ starts)))

-- one that fails
pub runs_fail : (text : List ℕ) (flow : Bool) (s : Setting) (a : Ahead) → starts_scalar a.token ≡ true → (q : ℕ) → a.at < length text → FailedAt text s a q → RunsOn text flow s a q
runs_fail text flow s a starts q inside failed = λ e. inl (ap (λ c. cond c (scalar_at s text a.at) (Fails a.at)) starts ∙ failed_end text s a starts q inside e failed)

pub torn_runs : (text : List ℕ) (s : Setting) (a : Ahead) → starts_scalar a.token ≡ true → a.at < length text → (q : ℕ) → TornAt text s a q → RunsOn text false s a q
torn_runs text s a starts inside q (p, e, failed) = λ k. by_place k (torn_at text a p) where
  by_place : q ≡ length text → IsTornAt text a p → RunsOut text false s a
  by_place k (inl (same, un)) = runs_fail text false s a starts p inside failed (sym same ∙ sym e ∙ k)
  by_place k (inr (is, end, dash)) = absurd (let z : q ≡ length text - 1 = e ∙ is in omega (arith, z, k, inside))

-- one behind which a colon ends the text
pub pointed_runs : (text : List ℕ) (flow : Bool) (s : Setting) (cuts : Bool) (a : Ahead) (u w : Unfinished) (p : Position) (q : ℕ) → Holds text s cuts a u w (Ok p) → is_pointed text flow a.at p.at ≡ true → RunsOn text flow s a q
pointed_runs text flow s cuts a u w p q (t, k, (st, hk, low, last), es, ew, fit) pointed = λ e. inr (t, p.at, st, low, last, pointed)

-- ---- outside of brackets

module _ (text : List ℕ) (utf8 : IsUtf8 text) (fs : List Form) (u : Unfinished) (i : ℕ) (f : Form) (a : Ahead) (w : Awaited text fs u f i a) (starts : starts_scalar a.token ≡ true) (takes : takes_scalar f a ≡ true) (keyless : takes_mapping f a ≡ true → NoKey text a) where
  dead : is_split text (length u.outer) f i a.at ≡ true → RunsOut text false (setting_of f) a → Dead text fs u i
  dead split runs last more long t h =
      let s = split_true text (length u.outer) f i a.at split in
      block_split text fs u i f a utf8 w starts takes keyless (last, s.2, s.1, roomless_of text (length u.outer) a.at s.0 s.3, runs) more long t h

  inside : is_split text (length u.outer) f i a.at ≡ true → 0 < length text
  inside split = let l = dot_inside text a.at (split_true text (length u.outer) f i a.at split).3 in omega (arith, l)

  pub block_split_stops : (split : Bool) (e : Stop) → split ≡ is_split text (length u.outer) f i a.at → OnUnread (RunsOn text false (setting_of f) a) (Err e) → Stops text i (NoValue i a f fs u) (Err e) → Stops text i (NoValue i a f fs u) (Err (split_stop text split e))
  block_split_stops split e is runs h = split_stops text i (NoValue i a f fs u) split e h (λ yes same. last_stops text fs u i (NoValue i a f fs u) (inside (sym is ∙ yes)) (dead (sym is ∙ yes) (runs_out text false (setting_of f) a e runs same)) (λ other none v. none))

  pub block_split_lengthens : (split : Bool) (e : Stop) → split ≡ is_split text (length u.outer) f i a.at → OnUnread (RunsOn text false (setting_of f) a) (Err e) → Stops text i (NoValue i a f fs u) (Err e) → OnUnread (InRoom text u f i a (LengthensAt text stage.Value fs u i)) (Err e)
      → Lengthens text stage.Value fs u i (Err (split_stop text split e))
  block_split_lengthens split e is runs h says = split_on text i (NoValue i a f fs u) u f a (LengthensAt text stage.Value fs u i) split e h says (λ no. roomy_of text u f i a (sym is ∙ no))
      (λ yes same last. ((λ k. absurd (let l = inside (sym is ∙ yes) in omega (arith, k, l))), (λ l more long there fits. dead (sym is ∙ yes) (runs_out text false (setting_of f) a e runs same) last more long)))

-- ---- between brackets

module _ (text : List ℕ) (utf8 : IsUtf8 text) (fs : List Form) (u : Unfinished) (i : ℕ) (f : Form) (a : Ahead) (seen : IsSeen text true i a) (starts : starts_scalar a.token ≡ true) (unsigned : node_sign (is_tagged f) a.at a.token ≡ None) (there : may_miss f ≡ true → is_flow_ending a.token ≡ false) (form : top fs ≡ f) (flow : IsFlow f) (behind : IsBehind f i) (opens : Open fs u) (awaits : AwaitsValue u)
    (boundary : IsCharBoundary text i) where
  flow_dead : is_split text (length u.outer) f i a.at ≡ true → RunsOut text true (setting_of f) a → Dead text fs u i
  flow_dead split runs last more long t h =
      let s = split_true text (length u.outer) f i a.at split in
      flow_split text fs u i f a utf8 seen starts unsigned there form flow behind opens awaits boundary (last, s.2, s.1, roomless_of text (length u.outer) a.at s.0 s.3, runs) more long t h

  flow_inside : is_split text (length u.outer) f i a.at ≡ true → 0 < length text
  flow_inside split = let l = dot_inside text a.at (split_true text (length u.outer) f i a.at split).3 in omega (arith, l)

  pub flow_split_stops : (split : Bool) (e : Stop) → split ≡ is_split text (length u.outer) f i a.at → OnUnread (RunsOn text true (setting_of f) a) (Err e) → Stops text i (NoFlowValue i a fs u) (Err e) → Stops text i (NoFlowValue i a fs u) (Err (split_stop text split e))
  flow_split_stops split e is runs h = split_stops text i (NoFlowValue i a fs u) split e h (λ yes same. last_stops text fs u i (NoFlowValue i a fs u) (flow_inside (sym is ∙ yes)) (flow_dead (sym is ∙ yes) (runs_out text true (setting_of f) a e runs same)) (λ other none v. none))

  pub flow_split_mends : (split : Bool) (e : Stop) → split ≡ is_split text (length u.outer) f i a.at → OnUnread (RunsOn text true (setting_of f) a) (Err e) → Stops text i (NoFlowValue i a fs u) (Err e) → OnUnread (InRoom text u f i a (MendsNode text fs u i)) (Err e) → OnUnread (MendsNode text fs u i) (Err (split_stop text split e))
  flow_split_mends split e is runs h says = split_on text i (NoFlowValue i a fs u) u f a (MendsNode text fs u i) split e h says (λ no. roomy_of text u f i a (sym is ∙ no))
      (λ yes same last. (
        (λ k going. absurd (let l = flow_inside (sym is ∙ yes) in omega (arith, k, l))),
        (λ l. (subst (λ g. follows_get_att text g i ≡ true) (sym form) (split_true text (length u.outer) f i a.at (sym is ∙ yes)).1, flow_dead (sym is ∙ yes) (runs_out text true (setting_of f) a e runs same) last)),
      ))
