-- Where a scalar behind `!GetAtt` runs out, and there is no room for the list of two: the place that is answered is that of the last byte, and what is said of it. By the cases of the test and of why reading stops.
use Rattle.std.proofs.Common.{◌≡◌, ℕ, suc, ◌-◌, ◌<◌, ◌≤◌, ◌⊎◌, inl, inr, Bool, true, false, ◌&&◌, not, nat_lt, List, ◌++◌, drop, length, refl, sym, ap, ◌∙◌, subst, true≢false, arith}
use Rattle.std.proofs.lemmas.Bool.{cases_lt}
use Rattle.std.proofs.lemmas.Bool.Decides.{nat_tests}
use Rattle.std.proofs.lemmas.List.{drop_all}
use Rattle.std.specs.Prelude.{Err}
use Rattle.std.specs.Str.{IsUtf8}
use Rattle.doc_values.specs.Tree.{Forest}
use Rattle.doc_values.specs.Unfinished.{Unfinished}
use Rattle.yaml_scalars.specs.declared.scalar.Setting.{Setting}
use Rattle.yaml_scalars.specs.Lines.{begins_with, ends_with}
use Rattle.yaml_scalars.specs.Scalar.{begins_block}
use Rattle.yaml_laws.specs.code.Dots.{undotted}
use Rattle.yaml_grammar.specs.declared.ahead.Ahead.{Ahead}
use Rattle.yaml_grammar.specs.declared.form.Form.{Form}
use Rattle.yaml_grammar.specs.declared.stop.Stop.{Stop}
use Rattle.yaml_grammar.specs.declared.stop.Stop.TheVariants as stop
use Rattle.yaml_grammar.specs.Ahead.{ahead}
use Rattle.yaml_grammar.specs.Nodes.{follows_get_att, setting_of}
use Rattle.yaml_grammar.specs.Signs.{Reading, Tree}
use Rattle.yaml_grammar.specs.code.AheadSeen.{ahead_seen}
use Rattle.yaml_grammar.specs.code.Closers.{HasRoom}
use Rattle.yaml_grammar.specs.code.ReadAgain.{OnSign}
use Rattle.yaml_grammar.specs.code.Rest.{top, Awaits}
use Rattle.yaml_grammar.specs.code.Splits.{InRoom, IsRoomy, RunsOn, RunsOut, has_dot, is_split, split_stop}
use Rattle.yaml_grammar.specs.code.StopPlaces.{within}
use Rattle.yaml_grammar.specs.code.Steps.{Gives}
use Rattle.yaml_grammar.specs.code.Twins.{IsTwin, OnUnread, Stops}
use Rattle.yaml_grammar.proofs.EndPlaces.{longer_of}
use Rattle.yaml_grammar.proofs.Stopped.{last_return, within_end, within_here}

-- ---- room

-- what is ahead there, in the innermost form
pub room_here : (text : List ℕ) (fs : List Form) (u : Unfinished) (i : ℕ) (f : Form) (a : Ahead) (flow : Bool) → top fs ≡ f → a ≡ ahead text flow i → IsRoomy text u f i a → IsRoomy text u (top fs) i (ahead text flow i)
room_here text fs u i f a flow form here room = subst (λ g. IsRoomy text u g i (ahead text flow i)) (sym form) (subst (IsRoomy text u f i) here room)

all_true : (p q : Bool) → (p && q) ≡ true → (p ≡ true) × (q ≡ true)
all_true true q h = (refl, h)
all_true false q h = absurd (true≢false (sym h))

not_true : (q : Bool) → not q ≡ true → q ≡ false
not_true true h = absurd (true≢false (sym h))
not_true false h = refl

-- the test
pub split_true : (text : List ℕ) (depth : ℕ) (f : Form) (i at : ℕ) → is_split text depth f i at ≡ true → (128 ≤ depth) × (follows_get_att text f i ≡ true) × (begins_block (setting_of f) (drop at text) ≡ false) × (has_dot (drop at text) ≡ true)
split_true text depth f i at h =
    let one = all_true (not (nat_lt depth 128)) (follows_get_att text f i && (not (begins_block (setting_of f) (drop at text)) && has_dot (drop at text))) h in
    let two = all_true (follows_get_att text f i) (not (begins_block (setting_of f) (drop at text)) && has_dot (drop at text)) one.1 in
    let three = all_true (not (begins_block (setting_of f) (drop at text))) (has_dot (drop at text)) two.1 in
    (deep (not_true (nat_lt depth 128) one.0), two.0, not_true (begins_block (setting_of f) (drop at text)) three.0, three.1) where
      deep : nat_lt depth 128 ≡ false → 128 ≤ depth
      deep e = grind (arith, nat_tests, e)

-- a dot stands within the text
pub dot_inside : (text : List ℕ) (at : ℕ) → has_dot (drop at text) ≡ true → at < length text
dot_inside text at h = by_order (cases_lt at (length text)) where
  by_order : (at < length text) ⊎ (length text ≤ at) → at < length text
  by_order (inl l) = l
  by_order (inr l) = absurd (true≢false (sym h ∙ ap has_dot (drop_all at text l)))

-- where it says no, there is room
pub roomy_of : (text : List ℕ) (u : Unfinished) (f : Form) (i : ℕ) (a : Ahead) → is_split text (length u.outer) f i a.at ≡ false → IsRoomy text u f i a
roomy_of text u f i a h = λ block cuts. by_order block cuts (cases_lt (length u.outer) 128) where
  none : (128 ≤ length u.outer) → nat_lt (length u.outer) 128 ≡ false
  none l = grind (arith, nat_tests, l)

  dotless : (q : Bool) → not q ≡ false → q ≡ true
  dotless true e = refl
  dotless false e = absurd (true≢false e)

  by_order : begins_block (setting_of f) (drop a.at text) ≡ false → follows_get_att text f i ≡ true → (length u.outer < 128) ⊎ (128 ≤ length u.outer) → HasRoom text a.at (length u.outer)
  by_order block cuts (inl l) = inl l
  by_order block cuts (inr l) =
      inr (dotless (undotted (begins_with 34 (drop a.at text)) false (drop a.at text)) (sym (
      ap (λ q. not q && (follows_get_att text f i && (not (begins_block (setting_of f) (drop a.at text)) && has_dot (drop a.at text)))) (none l)
      ∙ ap (λ q. q && (not (begins_block (setting_of f) (drop a.at text)) && has_dot (drop a.at text))) cuts
      ∙ ap (λ q. not q && has_dot (drop a.at text)) block) ∙ h))

-- where it says yes, there is none
pub roomless_of : (text : List ℕ) (depth : ℕ) (at : ℕ) → 128 ≤ depth → has_dot (drop at text) ≡ true → HasRoom text at depth → ⊥
roomless_of text depth at deep dot (inl l) = omega (arith, deep, l)
roomless_of text depth at deep dot (inr e) = true≢false (sym e ∙ not_true (undotted (begins_with 34 (drop at text)) false (drop at text)) dot)

-- ---- the place

-- the place of the last byte, where no tree follows in a longer text
abbrev pub Dead : List ℕ → List Form → Unfinished → ℕ → Type 0
Dead text fs u i = ends_with 13 text ≡ false → (more : List ℕ) → IsUtf8 (text ++ more) → (t : Forest) → Awaits (text ++ more) fs u.outer u.done u.key i (Tree t) → ⊥

pub last_stops : (text : List ℕ) (fs : List Form) (u : Unfinished) (i : ℕ) (none : List ℕ → Type 0) → 0 < length text → Dead text fs u i → ((other : List ℕ) → ((t : Forest) → Awaits other fs u.outer u.done u.key i (Tree t) → ⊥) → none other) → Stops text i none (Err (stop.Unread (length text - 1)))
last_stops text fs u i none some dead so = by_return (ends_with 13 text) refl where
  end : suc (length text - 1) ≡ length text
  end = omega (arith, some)

  by_order : ends_with 13 text ≡ false → (ahead_seen text i < length text) ⊎ (length text ≤ ahead_seen text i) → Stops text i none (Err (stop.Unread (length text - 1)))
  by_order last (inr far) = inl (inr (end, (λ e. far)))
  by_order last (inl near) =
      inr (omega (arith, some), (length text - 1, inr (refl, last_return text (length text - 1) end last), omega (arith, near), (λ other m. so other (longer other m)))) where
        longer : (other : List ℕ) → IsTwin text (length text - 1) other → (t : Forest) → Awaits other fs u.outer u.done u.key i (Tree t) → ⊥
        longer other m t h =
            let w = longer_of text other (length text - 1) end m in
            dead last w.0 (subst IsUtf8 w.1 m.utf8) t (subst (λ x. Awaits x fs u.outer u.done u.key i (Tree t)) w.1 h)

  by_return : (q : Bool) → ends_with 13 text ≡ q → Stops text i none (Err (stop.Unread (length text - 1)))
  by_return true e = inl (inr (end, (λ last. absurd (true≢false (sym e ∙ last)))))
  by_return false e = by_order e (cases_lt (ahead_seen text i) (length text))

-- ---- why reading stops

module _ (text : List ℕ) (split : Bool) where
  -- what is said of a refusal, but for the place
  pub split_gives : (other : List ℕ) (P : Reading → Type 0) (n : ℕ) (fs : List Form) (w : Unfinished) (e : Stop) → Gives other P n fs w (Err e) → Gives other P n fs w (Err (split_stop text split e))
  split_gives other P n fs w (stop.Unread q) h = h
  split_gives other P n fs w (stop.Tab at) h = h
  split_gives other P n fs w (stop.Anchor at) h = h
  split_gives other P n fs w (stop.Tag at) h = h
  split_gives other P n fs w (stop.Directive at) h = h
  split_gives other P n fs w (stop.ManyDocuments at) h = h
  split_gives other P n fs w (stop.DuplicateKey at) h = h
  split_gives other P n fs w (stop.TooDeep at) h = h
  split_gives other P n fs w stop.NoMemory h = h

  pub split_again : (holds : Type 0) (e : Stop) → OnSign holds (Err e) → OnSign holds (Err (split_stop text split e))
  split_again holds (stop.Unread q) h = h
  split_again holds (stop.Tab at) h = h
  split_again holds (stop.Anchor at) h = h
  split_again holds (stop.Tag at) h = h
  split_again holds (stop.Directive at) h = h
  split_again holds (stop.ManyDocuments at) h = h
  split_again holds (stop.DuplicateKey at) h = h
  split_again holds (stop.TooDeep at) h = h
  split_again holds stop.NoMemory h = h

-- the length, or a place within the text, which is answered as it is
within_or : (text : List ℕ) (i : ℕ) (none : List ℕ → Type 0) (q : ℕ) → Stops text i none (Err (stop.Unread q)) → (q ≡ length text) ⊎ (q < length text)
within_or text i none q (inl (inl e)) = inl e
within_or text i none q (inl (inr l)) = inr (let e = l.0 in omega (arith, e))
within_or text i none q (inr h) = inr h.0

module _ (text : List ℕ) (i : ℕ) (none : List ℕ → Type 0) where
  pub split_stops : (split : Bool) (e : Stop) → Stops text i none (Err e) → (split ≡ true → e ≡ stop.Unread (length text) → Stops text i none (Err (stop.Unread (length text - 1)))) → Stops text i none (Err (split_stop text split e))
  split_stops false (stop.Unread q) h dead = h
  split_stops true (stop.Unread q) h dead = by_place (within_or text i none q h) where
    by_place : (q ≡ length text) ⊎ (q < length text) → Stops text i none (Err (stop.Unread (within text q)))
    by_place (inl e) = subst (λ z. Stops text i none (Err (stop.Unread z))) (sym (within_end text q (omega (arith, e)))) (dead refl (ap stop.Unread e))
    by_place (inr l) = subst (λ z. Stops text i none (Err (stop.Unread z))) (sym (within_here text q l)) h
  split_stops split (stop.Tab at) h dead = tt
  split_stops split (stop.Anchor at) h dead = tt
  split_stops split (stop.Tag at) h dead = tt
  split_stops split (stop.Directive at) h dead = tt
  split_stops split (stop.ManyDocuments at) h dead = tt
  split_stops split (stop.DuplicateKey at) h dead = tt
  split_stops split (stop.TooDeep at) h dead = tt
  split_stops split stop.NoMemory h dead = tt

  pub split_on : (u : Unfinished) (f : Form) (a : Ahead) (holds : ℕ → Type 0) (split : Bool) (e : Stop) → Stops text i none (Err e) → OnUnread (InRoom text u f i a holds) (Err e) → (split ≡ false → IsRoomy text u f i a) → (split ≡ true → e ≡ stop.Unread (length text) → holds (length text - 1)) → OnUnread holds (Err (split_stop text split e))
  split_on u f a holds false (stop.Unread q) h says room dead = says (λ e. room refl)
  split_on u f a holds true (stop.Unread q) h says room dead = by_place (within_or text i none q h) where
    by_place : (q ≡ length text) ⊎ (q < length text) → holds (within text q)
    by_place (inl e) = subst holds (sym (within_end text q (omega (arith, e)))) (dead refl (ap stop.Unread e))
    by_place (inr l) = subst holds (sym (within_here text q l)) (says (λ e. absurd (omega (arith, e, l))))
  split_on u f a holds split (stop.Tab at) h says room dead = tt
  split_on u f a holds split (stop.Anchor at) h says room dead = tt
  split_on u f a holds split (stop.Tag at) h says room dead = tt
  split_on u f a holds split (stop.Directive at) h says room dead = tt
  split_on u f a holds split (stop.ManyDocuments at) h says room dead = tt
  split_on u f a holds split (stop.DuplicateKey at) h says room dead = tt
  split_on u f a holds split (stop.TooDeep at) h says room dead = tt
  split_on u f a holds split stop.NoMemory h says room dead = tt

-- at the length it runs out
pub runs_out : (text : List ℕ) (flow : Bool) (s : Setting) (a : Ahead) (e : Stop) → OnUnread (RunsOn text flow s a) (Err e) → e ≡ stop.Unread (length text) → RunsOut text flow s a
runs_out text flow s a e h same = subst (λ (d : Stop). OnUnread (RunsOn text flow s a) (Err d)) same h refl
