-- Where a text ends in a carriage return and a line feed and a token is ahead that begins no scalar, the next step is the same in each longer text; and where nothing is ahead there is no sign. By the cases of stages.
use Rattle.std.proofs.Common.{◌≡◌, ℕ, zero, suc, ◌+◌, ◌-◌, ◌<◌, ◌≤◌, Bool, true, false, List, [], ◌∷◌, ◌++◌, take, drop, length, refl, ap, subst, arith}
use Rattle.std.specs.Str.{IsCharBoundary, IsUtf8}
use Rattle.yaml_grammar.specs.declared.ahead.Token.TheVariants.{End, Dots, Tag}
use Rattle.yaml_grammar.specs.declared.form.Form.{Form}
use Rattle.yaml_grammar.specs.declared.form.Form.TheVariants.{Root, Flow, FlowTagged, Items, Entries, Tagged}
use Rattle.yaml_grammar.specs.declared.stage.Stage.{Stage}
use Rattle.yaml_grammar.specs.declared.stage.Stage.TheVariants as stage
use Rattle.yaml_grammar.specs.Ahead.{ahead, token_len}
use Rattle.yaml_grammar.specs.Nodes.{tag_name, setting_of, as_key, starts_scalar}
use Rattle.yaml_grammar.specs.code.Closers.{in_flow}
use Rattle.yaml_grammar.specs.code.Steps.{IsBlock, IsFlow, IsBehind, SameScalar, SameKey, SameNode, SameFlowNode, SameFlowKey, SameStep}
use Rattle.yaml_grammar.specs.code.Twins.{IsTwin}
use Rattle.yaml_grammar.proofs.AheadOrder.{seen_from}
use Rattle.yaml_grammar.proofs.FedTexts.{fed_size, before_break, fed_seen, fed_same, fed_twin}
use Rattle.yaml_grammar.proofs.Placed.{placed}
use Rattle.yaml_grammar.proofs.Scalars.{missed_other}
use Rattle.yaml_grammar.proofs.Twins.{twin_quoted, twin_other, twin_cuts}
use Rattle.std.specs.Cow.{cow_str_bytes}

-- ---- a tag's name

take_front : (xs rest : List ℕ) (n : ℕ) → n ≤ length xs → take n (xs ++ rest) ≡ take n xs
take_front xs rest zero l = refl
take_front [] rest (suc n) l = absurd (omega (arith, l))
take_front (x ∷ xs) rest (suc n) l = ap (λ t. x ∷ t) (take_front xs rest n (omega (arith, l)))

part_front : (xs rest : List ℕ) (k n : ℕ) → k + n ≤ length xs → take n (drop k (xs ++ rest)) ≡ take n (drop k xs)
part_front xs rest zero n l = take_front xs rest n (omega (arith, l))
part_front [] rest (suc k) n l = absurd (omega (arith, l))
part_front (x ∷ xs) rest (suc k) n l = part_front xs rest k n (omega (arith, l))

name_front : (xs rest : List ℕ) (at behind : ℕ) → at < behind → behind ≤ length xs → tag_name (xs ++ rest) at behind ≡ tag_name xs at behind
name_front xs rest at behind o l = part_front xs rest (at + 1) (behind - (at + 1)) (omega (arith, o, l))

pub flow_in : (f : Form) → IsFlow f → in_flow f ≡ true
flow_in Root w = absurd w
flow_in (Flow map) w = refl
flow_in (FlowTagged at) w = refl
flow_in (Items m) w = absurd w
flow_in (Entries m) w = absurd w
flow_in (Tagged at above shares) w = absurd w

pub block_in : (f : Form) → IsBlock f → in_flow f ≡ false
block_in Root w = refl
block_in (Flow map) w = absurd w
block_in (FlowTagged at) w = absurd w
block_in (Items m) w = refl
block_in (Entries m) w = refl
block_in (Tagged at above shares) w = refl

-- ---- the next step

module _ (front rest : List ℕ) (utf8 : IsUtf8 (front ++ (13 ∷ 10 ∷ []))) (longer : IsUtf8 ((front ++ (13 ∷ 10 ∷ [])) ++ rest)) (i : ℕ) (cut : IsCharBoundary (front ++ (13 ∷ 10 ∷ [])) i) where
  abbrev old : List ℕ
  old = front ++ (13 ∷ 10 ∷ [])

  abbrev new : List ℕ
  new = (front ++ (13 ∷ 10 ∷ [])) ++ rest

  abbrev place : ℕ
  place = suc (length front)

  twin : IsTwin (front ++ (13 ∷ 10 ∷ [])) (suc (length front)) ((front ++ (13 ∷ 10 ∷ [])) ++ rest)
  twin = fed_twin front rest longer

  -- a token that begins no scalar, and is there
  module _ (flow : Bool) (some : (ahead old flow i).token ≡ End → ⊥) (plain : starts_scalar (ahead old flow i).token ≡ false) where
    here : ahead new flow i ≡ ahead old flow i
    here = fed_same front rest flow i cut.0 some

    from : i ≤ place
    from = let l = before_break front flow i cut.0 some in omega (arith, l)

    low : (ahead old flow i).at ≤ place
    low = let s = fed_seen front flow i cut.0 some in let w = seen_from old flow i in let z = fed_size front in omega (arith, s, w, z)

    within : (ahead old flow i).behind ≤ length old
    within = (placed old flow i utf8 cut).2.0

    none : (s : _) → SameScalar old new s (ahead old flow i)
    none s = twin_other old place new twin s (ahead old flow i) low plain

    name : (len : ℕ) → (ahead old flow i).token ≡ Tag len → tag_name new (ahead old flow i).at (ahead old flow i).behind ≡ tag_name old (ahead old flow i).at (ahead old flow i).behind
    name len e =
        let w = within in
        let size = (placed old flow i utf8 cut).3 in
        let l : token_len (ahead old flow i).token ≡ suc len = ap token_len e in
        name_front old rest (ahead old flow i).at (ahead old flow i).behind (omega (arith, size, l)) w

    flow_node : (f : Form) → IsBehind f i → SameFlowNode old new f i (ahead old flow i)
    flow_node f o = record { name = name; cuts = twin_cuts old place new twin f i o from; scalar = none (setting_of f); point = λ t j st p. absurd (missed_other old (setting_of f) (ahead old flow i) plain t j st) }

    flow_key : SameFlowKey old new (ahead old flow i)
    flow_key = record {
      scalar = none (as_key true);
      quoted = twin_quoted old place new twin (ahead old flow i).at low;
      behind = λ t j k. absurd (missed_other old (as_key true) (ahead old flow i) plain t j k);
      last = λ t j loose k e c. absurd (missed_other old (as_key true) (ahead old flow i) plain t j k);
    }

    node : (f : Form) → IsBehind f i → SameNode old new f i (ahead old flow i)
    node f o = record {
      name = λ len tk e. name len e;
      cuts = twin_cuts old place new twin f i o from;
      scalar = λ tk nk. none (setting_of f);
      none = λ tm nk t p k. missed_other new (as_key false) (ahead old flow i) plain t k.0 k.1;
      key = λ tm k h. absurd (missed_other old (as_key false) (ahead old flow i) plain (cow_str_bytes k.text) h.0.0 h.0.1);
      point = λ tk nk t j st p. absurd (missed_other old (setting_of f) (ahead old flow i) plain t j st);
    }

    key : SameKey old new (ahead old flow i)
    key = record {
      scalar = none (as_key false);
      behind = λ t j k. absurd (missed_other old (as_key false) (ahead old flow i) plain t j k);
      last = λ t j k c. absurd (missed_other old (as_key false) (ahead old flow i) plain t j k);
    }

  -- at a stage; behind a line `...` something is ahead too
  pub plain_step : (s : Stage) (f : Form) → ((ahead old (in_flow f) i).token ≡ End → ⊥) → starts_scalar (ahead old (in_flow f) i).token ≡ false → (s ≡ stage.Entry → IsFlow f) → (s ≡ stage.Value → IsBehind f i)
      → (s ≡ stage.After → IsBlock f → (ahead old false i).token ≡ Dots → (ahead old false (ahead old false i).behind).token ≡ End → ⊥) → SameStep old new s f i
  plain_step s f some plain flow o dots = by_stage s flow o dots where
    some_flow : IsFlow f → (ahead old true i).token ≡ End → ⊥
    some_flow w = subst (λ q. (ahead old q i).token ≡ End → ⊥) (flow_in f w) some

    plain_flow : IsFlow f → starts_scalar (ahead old true i).token ≡ false
    plain_flow w = subst (λ q. starts_scalar (ahead old q i).token ≡ false) (flow_in f w) plain

    some_block : IsBlock f → (ahead old false i).token ≡ End → ⊥
    some_block w = subst (λ q. (ahead old q i).token ≡ End → ⊥) (block_in f w) some

    plain_block : IsBlock f → starts_scalar (ahead old false i).token ≡ false
    plain_block w = subst (λ q. starts_scalar (ahead old q i).token ≡ false) (block_in f w) plain

    by_stage : (s : Stage) → (s ≡ stage.Entry → IsFlow f) → (s ≡ stage.Value → IsBehind f i) → (s ≡ stage.After → IsBlock f → (ahead old false i).token ≡ Dots → (ahead old false (ahead old false i).behind).token ≡ End → ⊥) → SameStep old new s f i
    by_stage stage.Entry flow o dots =
        let w = flow refl in
        (here true (some_flow w) (plain_flow w), (λ z. flow_key true (some_flow w) (plain_flow w)), (λ z. flow_node true (some_flow w) (plain_flow w) (Flow false) tt))
    by_stage stage.Value flow o dots = (
      (λ w. (here true (some_flow w) (plain_flow w), flow_node true (some_flow w) (plain_flow w) f (o refl))),
      (λ w. (here false (some_block w) (plain_block w), node false (some_block w) (plain_block w) f (o refl))),
    )
    by_stage stage.After flow o dots = (
      (λ w. here true (some_flow w) (plain_flow w)),
      (λ w. (
        record { here = here false (some_block w) (plain_block w); further = λ d. fed_same front rest false (ahead old false i).behind (placed old false i utf8 cut).2.0 (dots refl w d) },
        key false (some_block w) (plain_block w),
      )),
    )
    by_stage stage.Whole flow o dots = tt
