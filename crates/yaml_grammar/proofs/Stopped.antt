-- Where reading stops: what shows it, and that it is so in other texts. By the cases of what stops it.
use Rattle.std.proofs.Common.{◌≡◌, ℕ, zero, suc, ◌-◌, ◌<◌, ◌≤◌, ◌⊎◌, inl, inr, Bool, true, false, cond, nat_lt, true≢false, List, [], ◌∷◌, drop, length, refl, sym, ap, ◌∙◌, subst, arith}
use Rattle.std.proofs.lemmas.Bool.{cases_lt}
use Rattle.std.proofs.lemmas.Bool.Decides.{nat_tests}
use Rattle.std.specs.Prelude.{Result, Ok, Err, Option, Some, None, option_map}
use Rattle.std.specs.Str.{IsCharBoundary}
use Rattle.doc_values.specs.declared.builder.BuildRefusal.{BuildRefusal}
use Rattle.doc_values.specs.declared.builder.BuildRefusal.TheVariants as build
use Rattle.yaml_scalars.specs.code.Limits.{text_limit}
use Rattle.doc_values.specs.Tree.{Forest}
use Rattle.doc_values.specs.Unfinished.{Unfinished}
use Rattle.yaml_scalars.specs.declared.scalar.Scalar.{Scalar}
use Rattle.yaml_grammar.specs.declared.ahead.Ahead.{Ahead}
use Rattle.yaml_grammar.specs.declared.ahead.Token.TheVariants.{Closes}
use Rattle.yaml_grammar.specs.declared.form.Form.{Form}
use Rattle.yaml_grammar.specs.declared.form.Form.TheVariants.{Flow}
use Rattle.yaml_grammar.specs.declared.stage.Position.{Position}
use Rattle.yaml_grammar.specs.declared.stage.Stage.TheVariants as stage
use Rattle.yaml_grammar.specs.declared.stop.Stop.{Stop}
use Rattle.yaml_grammar.specs.declared.stop.Stop.TheVariants as stop
use Rattle.yaml_grammar.specs.Ahead.{ahead}
use Rattle.yaml_grammar.specs.Nodes.{is_marked}
use Rattle.yaml_grammar.specs.Signs as sign
use Rattle.yaml_grammar.specs.Signs.{Sign, Reading, Tree}
use Rattle.yaml_grammar.specs.code.AheadSeen.{ahead_seen}
use Rattle.yaml_scalars.specs.Lines.{begins_with, ends_with}
use Rattle.yaml_grammar.specs.code.StopPlaces.{told_place, within, last_told}
use Rattle.yaml_grammar.specs.code.Refused.{of_build, of_sign}
use Rattle.yaml_grammar.specs.code.Rest.{top, Inside, Ends, Enters, Awaits}
use Rattle.yaml_grammar.specs.code.Steps.{IsBlock, Open, IsSeen, Fits, Gives, Deep, Opened, TagBegun, Closed, Completes, is_ending}
use Rattle.yaml_grammar.specs.code.Twins.{IsTwin, Stops, NoTail, NoLine, NoFlowValue, NoValue, NoEntry, StopsStep}
use Rattle.yaml_grammar.proofs.Forms.{flow_inside}
use Rattle.yaml_grammar.proofs.Gains.{told}
use Rattle.yaml_grammar.proofs.Rests.{enters_item}
use Rattle.yaml_grammar.proofs.Quiet.{inside_at}
use Rattle.yaml_grammar.proofs.ShownTokens.{IsPassed, IsTold, told_shown}
use Rattle.yaml_grammar.proofs.Twins.{twin_ahead}
use Rattle.yaml_grammar.proofs.SameTexts.{seen_alike}

-- ---- the last byte

pub within_end : (text : List ℕ) (q : ℕ) → length text ≤ q → within text q ≡ length text - 1
within_end text q l = by_less (nat_lt q (length text)) refl where
  by_less : (r : Bool) → nat_lt q (length text) ≡ r → cond r q (length text - 1) ≡ length text - 1
  by_less true e = let z : q < length text = grind (arith, nat_tests, e) in absurd (omega (arith, z, l))
  by_less false e = refl

pub within_here : (text : List ℕ) (q : ℕ) → q < length text → within text q ≡ q
within_here text q l = by_less (nat_lt q (length text)) refl where
  by_less : (r : Bool) → nat_lt q (length text) ≡ r → cond r q (length text - 1) ≡ q
  by_less true e = refl
  by_less false e = let z : length text ≤ q = grind (arith, nat_tests, e) in absurd (omega (arith, z, l))

pub last_return : (text : List ℕ) (n : ℕ) → suc n ≡ length text → ends_with 13 text ≡ false → begins_with 13 (drop n text) ≡ false
last_return [] n e h = absurd (omega (arith, e))
last_return (b ∷ []) zero e h = h
last_return (b ∷ []) (suc n) e h = absurd (omega (arith, e))
last_return (b ∷ c ∷ xs) zero e h = absurd (omega (arith, e))
last_return (b ∷ c ∷ xs) (suc n) e h = last_return (c ∷ xs) n (omega (arith, e)) h

module _ (text : List ℕ) (i : ℕ) (none : List ℕ → Type 0) where
  -- a sign and want of memory say nothing of a place
  sign_stops : (s : Sign) → Stops text i none (Err (of_sign s))
  sign_stops (sign.Tab at) = tt
  sign_stops (sign.Anchor at) = tt
  sign_stops (sign.Tag at) = tt
  sign_stops (sign.Directive at) = tt
  sign_stops (sign.ManyDocuments at) = tt
  sign_stops (sign.DuplicateKey at) = tt
  sign_stops (sign.TooDeep at) = tt

  pub signed_stops : (o : Option Sign) (e : Stop) → Some e ≡ option_map of_sign o → Stops text i none (Err e)
  signed_stops o e h = let t = told o e h in subst (λ z. Stops text i none (Err z)) t.2 (sign_stops t.0)

  build_stops : (r : BuildRefusal) → Stops text i none (Err (of_build r))
  build_stops build.NoMemory = tt
  build_stops (build.TooDeep at) = tt
  build_stops (build.DuplicateKey at) = tt

  pub built_stops : (r : BuildRefusal) (e : Stop) → e ≡ of_build r → Stops text i none (Err e)
  built_stops r e h = subst (λ z. Stops text i none (Err z)) (sym h) (build_stops r)

  pub memory_stops : (e : Stop) → e ≡ stop.NoMemory → Stops text i none (Err e)
  memory_stops e h = subst (λ z. Stops text i none (Err z)) (sym h) tt

  -- nor does a collection that is too deep
  pub deep_stops : (u : Unfinished) (at : ℕ) (e : Stop) → Deep u at e → Stops text i none (Err e)
  deep_stops u at e (inl h) = memory_stops e h
  deep_stops u at e (inr (h, d)) = subst (λ z. Stops text i none (Err z)) (sym h) tt

  pub opened_stops : (map : Bool) (a : Ahead) (fs gs : List Form) (u w : Unfinished) (r : Result Position Stop) → Opened map a fs u gs w r → Stops text i none r
  opened_stops map a fs gs u w (Ok p) h = tt
  opened_stops map a fs gs u w (Err e) h = deep_stops u a.at e h

  pub tag_stops : (f : Form) (a : Ahead) (fs gs : List Form) (u w : Unfinished) (r : Result Position Stop) → TagBegun text f a fs u gs w r → Stops text i none r
  tag_stops f a fs gs u w (Ok p) h = tt
  tag_stops f a fs gs u w (Err e) h = deep_stops u a.at e h

  pub closed_stops : (at : ℕ) (fs gs : List Form) (u w : Unfinished) (r : Result Position Stop) → Closed at fs u gs w r → Stops text i none r
  closed_stops at fs gs u w (Ok p) h = tt
  closed_stops at fs gs u w (Err e) h = memory_stops e h

  pub completed_stops : (at : ℕ) (u w : Unfinished) (r : Result Position Stop) → Completes at u w r → Stops text i none r
  completed_stops at u w (Ok p) h = tt
  completed_stops at u w (Err e) h = memory_stops e h

  -- at the text's length nothing more is said
  pub length_stops : (q : ℕ) → q ≡ length text → Stops text i none (Err (stop.Unread q))
  length_stops q e = inl (inl e)

  -- at what is ahead, where that decides
  pub told_stops : (flow : Bool) (a : Ahead) (q : ℕ) → a ≡ ahead text flow i → q ≡ told_place text a → ((other : List ℕ) → is_ending a.token ≡ false → none other) → Stops text i none (Err (stop.Unread q))
  told_stops flow a q e p n = by_told (subst (IsTold text flow i) (sym (p ∙ ap (told_place text) e)) (told_shown text flow i)) where
    by_told : IsTold text flow i q → Stops text i none (Err (stop.Unread q))
    by_told (inl k) = inl (inl k)
    by_told (inr (t, l, (place, past, near))) = inr (l, (place, past, near, (λ other m. n other (ap (λ (b : Ahead). is_ending b.token) e ∙ t))))

-- at the last byte, where that stands for the length
module _ (text : List ℕ) (i : ℕ) (none : List ℕ → Type 0) where
  last_stops : (q : ℕ) → 0 < length text → q ≡ length text - 1 → ((other : List ℕ) → IsTwin text q other → none other) → Stops text i none (Err (stop.Unread q))
  last_stops q some e n = by_return (ends_with 13 text) refl where
    last : suc q ≡ length text
    last = omega (arith, some, e)

    by_seen : ends_with 13 text ≡ false → (ahead_seen text i < length text) ⊎ (length text ≤ ahead_seen text i) → Stops text i none (Err (stop.Unread q))
    by_seen f (inl l) = inr (omega (arith, some, e), (q, inr (refl, last_return text q last f), omega (arith, l, last), n))
    by_seen f (inr g) = inl (inr (last, (λ k. g)))

    by_return : (r : Bool) → ends_with 13 text ≡ r → Stops text i none (Err (stop.Unread q))
    by_return true f = inl (inr (last, (λ k. absurd (true≢false (sym f ∙ k)))))
    by_return false f = by_seen f (cases_lt (ahead_seen text i) (length text))

  -- at a place that is no carriage return, or behind one
  pub within_stops : (p x q r : ℕ) → IsPassed text p x → q ≡ within text x → ahead_seen text i ≤ p → r < length text → r ≤ p → ((k : ℕ) (other : List ℕ) → r ≤ k → IsTwin text k other → none other) → Stops text i none (Err (stop.Unread q))
  within_stops p x q r (inl h) e near l o n =
      let same : q ≡ length text - 1 = e ∙ within_end text x (omega (arith, h)) in
      last_stops q (omega (arith, l)) same (λ other m. n q other (omega (arith, same, l)) m)
  within_stops p x q r (inr (h, past)) e near l o n =
      let same : q ≡ x = e ∙ within_here text x h in
      subst (λ z. Stops text i none (Err (stop.Unread z))) (sym same) (inr (h, (p, past, near, (λ other m. n p other o m))))

  -- at what is ahead, where that decides and the document does not end
  pub last_told_stops : (flow : Bool) (a : Ahead) (q : ℕ) → a ≡ ahead text flow i → is_ending a.token ≡ false → q ≡ last_told text a → ((other : List ℕ) → none other) → Stops text i none (Err (stop.Unread q))
  last_told_stops flow a q e t p n = by_told (told_shown text flow i) (p ∙ ap (λ b. within text (told_place text b)) e) where
    by_size : (0 < length text) ⊎ (length text ≤ 0) → told_place text (ahead text flow i) ≡ length text → q ≡ within text (told_place text (ahead text flow i)) → Stops text i none (Err (stop.Unread q))
    by_size (inl l) h k = last_stops q l (k ∙ within_end text (told_place text (ahead text flow i)) (omega (arith, h))) (λ other m. n other)
    by_size (inr z) h k = let w = k ∙ within_end text (told_place text (ahead text flow i)) (omega (arith, h)) in inl (inl (omega (arith, w, z)))

    by_told : IsTold text flow i (told_place text (ahead text flow i)) → q ≡ within text (told_place text (ahead text flow i)) → Stops text i none (Err (stop.Unread q))
    by_told (inl h) k = by_size (cases_lt 0 (length text)) h k
    by_told (inr (u, h, (p, past, near))) k = subst (λ z. Stops text i none (Err (stop.Unread z))) (sym (k ∙ within_here text (told_place text (ahead text flow i)) h)) (inr (h, (p, past, near, (λ other m. n other))))

-- what follows before a step, by what follows behind a part of it
pub stops_twin : (text : List ℕ) (i : ℕ) (none some : List ℕ → Type 0) (r : Result Position Stop) → ((p : ℕ) (other : List ℕ) → IsTwin text p other → ahead_seen text i ≤ p → none other → some other) → Stops text i none r → Stops text i some r
stops_twin text i none some (Ok p) f h = tt
stops_twin text i none some (Err (stop.Unread q)) f (inl e) = inl e
stops_twin text i none some (Err (stop.Unread q)) f (inr (l, (p, past, near, h))) = inr (l, (p, past, near, (λ other m. f p other m near (h other m))))
stops_twin text i none some (Err (stop.Tab at)) f h = tt
stops_twin text i none some (Err (stop.Anchor at)) f h = tt
stops_twin text i none some (Err (stop.Tag at)) f h = tt
stops_twin text i none some (Err (stop.Directive at)) f h = tt
stops_twin text i none some (Err (stop.ManyDocuments at)) f h = tt
stops_twin text i none some (Err (stop.DuplicateKey at)) f h = tt
stops_twin text i none some (Err (stop.TooDeep at)) f h = tt
stops_twin text i none some (Err stop.NoMemory) f h = tt

pub stops_from : (text : List ℕ) (i : ℕ) (none some : List ℕ → Type 0) (r : Result Position Stop) → ((other : List ℕ) → none other → some other) → Stops text i none r → Stops text i some r
stops_from text i none some r f h = stops_twin text i none some r (λ p other m near. f other) h

-- what an error is
pub error_same : (r : Result Scalar Stop) (e d : Stop) → r ≡ Err e → r ≡ Err d → e ≡ d
error_same r e d h k = cc

pub unread_same : (p q : ℕ) → stop.Unread p ≡ stop.Unread q → p ≡ q
unread_same p q h = cc

-- ---- where the document does not end

pub told_inside : (other : List ℕ) (i : ℕ) (a : Ahead) → a ≡ ahead other false i → is_ending a.token ≡ false → Inside other i
told_inside other i a e t = inside_at other i (ap (λ (b : Ahead). is_ending b.token) (sym e) ∙ t)

-- where something may follow, reading stops for want of memory or at a sign
pub living_stops : (text : List ℕ) (i : ℕ) (none : List ℕ → Type 0) (P : Reading → Type 0) (n : ℕ) (fs : List Form) (w : Unfinished) (r : Result Position Stop) → (v : Reading) → P v → Gives text P n fs w r → Stops text i none r
living_stops text i none P n fs w (Ok p) v h g = tt
living_stops text i none P n fs w (Err (stop.Unread q)) v h g = absurd (g v h)
living_stops text i none P n fs w (Err (stop.Tab at)) v h g = tt
living_stops text i none P n fs w (Err (stop.Anchor at)) v h g = tt
living_stops text i none P n fs w (Err (stop.Tag at)) v h g = tt
living_stops text i none P n fs w (Err (stop.Directive at)) v h g = tt
living_stops text i none P n fs w (Err (stop.ManyDocuments at)) v h g = tt
living_stops text i none P n fs w (Err (stop.DuplicateKey at)) v h g = tt
living_stops text i none P n fs w (Err (stop.TooDeep at)) v h g = tt
living_stops text i none P n fs w (Err stop.NoMemory) v h g = tt

-- ---- where reading stands at a stage

-- what is ahead of a place is so in a text that is the same as far as that is looked at
seen_twin : (text : List ℕ) (p : ℕ) (other : List ℕ) (flow : Bool) (i : ℕ) → IsTwin text p other → IsCharBoundary text i → IsCharBoundary other i → ahead_seen text i ≤ p → IsSeen other flow i (ahead text flow i)
seen_twin text p other flow i m here there near = seen_alike text other flow i m.utf8 there (twin_ahead text p other m flow i here.0 near)

module _ (text : List ℕ) (fs : List Form) (u : Unfinished) (i : ℕ) (r : Result Position Stop) (cut : IsCharBoundary text i) where
  pub tail_stops : Stops text i (NoTail i (ahead text true i) fs u) r → StopsStep text stage.After fs u i r
  tail_stops h =
      stops_twin text i (NoTail i (ahead text true i) fs u) (λ other. IsCharBoundary other i → Fits other stage.After fs u i → (t : Forest) → Ends other fs u.outer u.done i (Tree t) → ⊥) r
      (λ p other m near none there fits t. none (seen_twin text p other true i m cut there near) (Tree t)) h

  pub line_stops : IsBlock (top fs) → Stops text i (NoLine i (ahead text false i) fs u) r → StopsStep text stage.After fs u i r
  line_stops b h =
      stops_twin text i (NoLine i (ahead text false i) fs u) (λ other. IsCharBoundary other i → Fits other stage.After fs u i → (t : Forest) → Ends other fs u.outer u.done i (Tree t) → ⊥) r
      (λ p other m near none there fits t. none (seen_twin text p other false i m cut there near) (fits.2 b) (Tree t)) h

  pub entry_stops : Stops text i (NoEntry i (ahead text true i) fs u) r → StopsStep text stage.Entry fs u i r
  entry_stops h =
      stops_twin text i (NoEntry i (ahead text true i) fs u) (λ other. IsCharBoundary other i → Fits other stage.Entry fs u i → (t : Forest) → Enters other fs u.outer u.done i (Tree t) → ⊥) r
      (λ p other m near none there fits t. none (seen_twin text p other true i m cut there near) t) h

  pub flow_value_stops : Stops text i (NoFlowValue i (ahead text true i) fs u) r → StopsStep text stage.Value fs u i r
  flow_value_stops h =
      stops_twin text i (NoFlowValue i (ahead text true i) fs u) (λ other. IsCharBoundary other i → Fits other stage.Value fs u i → (t : Forest) → Awaits other fs u.outer u.done u.key i (Tree t) → ⊥) r
      (λ p other m near none there fits t. none (seen_twin text p other true i m cut there near) t) h

  pub value_stops : (f : Form) → (ahead text false i).at ≤ text_limit → top fs ≡ f → IsBlock f → Stops text i (NoValue i (ahead text false i) f fs u) r → StopsStep text stage.Value fs u i r
  value_stops f small form block h =
      stops_twin text i (NoValue i (ahead text false i) f fs u) (λ other. IsCharBoundary other i → Fits other stage.Value fs u i → (t : Forest) → Awaits other fs u.outer u.done u.key i (Tree t) → ⊥) r
      (λ p other m near none there fits t. none (record { small = small; boundary = there; seen = seen_twin text p other false i m cut there near; form = form; block = block; fits = fits }) t) h

-- ---- an item of a list is a node that is awaited

pub item_follows : (text : List ℕ) (fs : List Form) (u : Unfinished) (at : ℕ) (next : Ahead) → next ≡ ahead text true at → top fs ≡ Flow false → Open fs u → (next.token ≡ Closes false → ⊥) → is_marked next.token ≡ false → u.key ≡ None
    → (v : Reading) → Enters text fs u.outer u.done at v → Awaits text fs u.outer u.done u.key at v
item_follows text fs u at next e f open_ shut un n v =
    subst (λ k. Enters text fs u.outer u.done at v → Awaits text fs u.outer u.done k at v) (sym n)
    (flow_inside (λ hs xs. Enters text hs xs u.done at v → Awaits text hs xs u.done None at v) false fs u.outer f open_.0
    (λ hs x xs h. enters_item text false hs x xs u.done at v refl (λ z. shut (ap (λ (a : Ahead). a.token) e ∙ z)) (subst (λ (a : Ahead). is_marked a.token ≡ false) e un) h))
