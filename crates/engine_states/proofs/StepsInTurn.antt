-- The steps of a query one after another: each is said behind the one before it, and names its line; those behind it have none yet.
use Rattle.std.proofs.Common.{◌≡◌, ℕ, zero, suc, ◌+◌, ◌<◌, ◌≤◌, refl, sym, ap, ◌∙◌, subst, inl, inr, arith, List, [], ◌∷◌, ◌++◌, length, map, Option, Some, None}
use Rattle.std.specs.Option.{option_map_or}
use Rattle.std.proofs.lemmas.Bool.{cases_lt}
use Rattle.std.proofs.lemmas.Option.{none-some, same_Some}
use Rattle.guard_syntax.specs.Syntax.{File, Query, Step, Steps, more_steps, no_steps}
use Rattle.guard_syntax.specs.code.Seen.{see_query, see_step, step_list}
use Rattle.guard_syntax.specs.declared.syntax.Query as code
use Rattle.guard_syntax.specs.declared.syntax.Query.{out-Query}
use Rattle.guard_syntax.specs.declared.syntax.Step as item
use Rattle.rule_names.specs.Depths.{depth_query, depths_of, first_of_query}
use Rattle.rule_names.specs.EnclosingScopes.{home_of}
use Rattle.rule_names.specs.Pieces.{AreInOrder, OfQuery, OfStep, Piece, piece_at}
use Rattle.rule_names.specs.ReferenceGraph.{step_site}
use Rattle.rule_names.specs.Uses.{query_site}
use Rattle.rule_names.proofs.Shapes.{query-seen}
use Rattle.rule_meaning.specs.Places.{step_in, steps_in}
use Rattle.scope_frames.specs.code.Frames.{StandsFor}
use Rattle.scope_frames.specs.declared.frame.Frame.{Frame}
use Rattle.engine_states.specs.code.Answers.{AnswersStepAt, AnswersStepBehind, GivesStepBefore, LacksStep, StandsUpTo, above}
use Rattle.engine_states.specs.code.Evaluated.{Evaluates}
use Rattle.engine_states.specs.code.Environments.{environment_of, weight}
use Rattle.engine_states.specs.code.Falling.{depth_of, height_at, load_at}
use Rattle.engine_states.specs.code.Inside.{AreInside, IsInside, steps_sited}
use Rattle.engine_states.specs.code.Leaning.{IsNamed}
use Rattle.engine_states.specs.code.States.{IsWhole, State}
use Rattle.engine_states.proofs.Evaluating.{Evaluates-found, Evaluates-none, Evaluates-then, Evaluates-under, frames-ahead, same-file, same-height}
use Rattle.engine_states.proofs.Falls.{earlier-shallower}
use Rattle.engine_states.proofs.FrameNamed.{but-named}
use Rattle.engine_states.proofs.InPart.{in-frame}
use Rattle.engine_states.proofs.InTurn.{still-stands}
use Rattle.engine_states.proofs.Insides.{insides}
use Rattle.engine_states.proofs.Lower.{earlier-lower}
use Rattle.engine_states.proofs.Ranks.{rank_in, rank-on, step_place}
use Rattle.engine_states.proofs.SitesOwn.{query-of-step}
use Rattle.engine_states.proofs.Standing.{ruled-stays, same-load}

abbrev pub line_list : Option ℕ → List ℕ
line_list None = []
line_list (Some c) = c ∷ []

-- ---- the steps of a query

listed : (ss : List item.Step) (i : ℕ) → i < length ss → (p : Step) × (step_in (step_list (map see_step ss)) i ≡ Some p)
listed [] i within = absurd (omega (arith, within))
listed (s ∷ ss) zero within = (see_step s, refl)
listed (s ∷ ss) (suc i) within = listed ss i (omega (arith, within))

-- there is one at each index within
pub step-there : (q : code.Query) (i : ℕ) → i < length (out-Query q).steps.items → (p : Step) × (step_in (steps_in (see_query q)) i ≡ Some p)
step-there q i within =
    let it = listed (out-Query q).steps.items i within in
    (it.0, ap (λ (x : Query). step_in (steps_in x) i) (query-seen q) ∙ it.1)

step-within : (f : File) (site : ℕ) (p : Piece) (q : Query) (first at : ℕ) (ss : Steps) (i : ℕ) (s : Step) → at ≡ first + i → step_in ss i ≡ Some s
    → AreInside f site p (steps_sited q first ss) → IsInside f site p (step_site s, OfStep q at)
step-within f site p q first at no_steps i s same is all = absurd (none-some s is)
step-within f site p q first at (more_steps x ss) zero s same is all =
    let here : first ≡ at = omega (arith, same) in
    subst (λ (k : ℕ). IsInside f site p (step_site s, OfStep q k)) here (subst (λ (y : Step). IsInside f site p (step_site y, OfStep q first)) (same_Some x s is) all.0)
step-within f site p q first at (more_steps x ss) (suc i) s same is all = step-within f site p q (suc first) at ss i s (omega (arith, same)) is all.1

pub place-of-step : (q : Query) (i : ℕ) (p : Step) → step_in (steps_in q) i ≡ Some p → step_place q i ≡ step_site p
place-of-step q i p is = ap (λ (o : Option Step). option_map_or step_site o 0) is

module _ (f : File) (ordered : AreInOrder f) (q : Query) (there : piece_at f (query_site q) ≡ Some (OfQuery q)) where
  pub step-inside : (i : ℕ) (p : Step) → step_in (steps_in q) i ≡ Some p → IsInside f (query_site q) (OfQuery q) (step_site p, OfStep q i)
  step-inside i p is = step-within f (query_site q) (OfQuery q) q 0 i (steps_in q) i p (omega arith) is (insides f ordered (query_site q) (OfQuery q) there)

  -- an earlier step is no higher
  pub no-higher : (frames : List Frame) (frame i j : ℕ) (p r : Step) → step_in (steps_in q) i ≡ Some p → step_in (steps_in q) j ≡ Some r → i ≤ j
      → height_at f frames frame (step_site p) ≤ height_at f frames frame (step_site r)
  no-higher frames frame i j p r is also no_more = elim (cases_lt i j) [
    | inl before ↦
        let low = earlier-lower f ordered frames frame q i j p r is also before (step-inside i p is).there (step-inside j r also).there in
        omega (arith, low)
    | inr past ↦
        let same_index : i ≡ j = omega (arith, no_more, past) in
        let same : p ≡ r = same_Some p r (sym is ∙ ap (step_in (steps_in q)) same_index ∙ also) in
        let height : height_at f frames frame (step_site p) ≡ height_at f frames frame (step_site r) = ap (λ (x : Step). height_at f frames frame (step_site x)) same in
        omega (arith, height)
  ]

-- ---- lines that are named

drop-named : (a c : State) (bound : ℕ) (line : Option ℕ) (numbers : List ℕ) → ((n : ℕ) → line ≡ Some n → IsNamed c.lines n) → Evaluates a c bound (line_list line ++ numbers)
    → Evaluates a c bound numbers
drop-named a c bound None numbers named it = it
drop-named a c bound (Some n) numbers named it = record {
  grows = it.grows;
  whole = it.whole;
  named = but-named (length a.lines) c.lines n numbers (named n refl) it.named;
  parts = it.parts;
  beside = it.beside;
  rules = it.rules;
}

-- ---- in the loop

-- before it
pub steps-begun : (a : State) (bound : ℕ) (line : Option ℕ) → IsWhole a → Evaluates a a bound (line_list line)
steps-begun a bound None whole = Evaluates-none a bound whole
steps-begun a bound (Some n) whole = Evaluates-found a bound n whole

module _ (a b : State) (whole : IsWhole a) (ordered : AreInOrder a.known.file) (frame : ℕ) (q : Query) (last : ℕ) (stands : StandsUpTo a frame q last) (bound : ℕ) (numbers : List ℕ)
    (so_far : Evaluates a b bound numbers) where
  asking : piece_at a.known.file (query_site q) ≡ Some (OfQuery q)
  asking = query-of-step a.known.file (step_site stands.0) ordered q last stands.2.there

  last-there : frame < length a.frames
  last-there = in-frame a whole frame (step_site stands.0, OfStep q last) stands.2

  -- a step up to the last is no higher than it
  pub step-lower : (i : ℕ) (p : Step) → step_in (steps_in q) i ≡ Some p → i ≤ last
      → height_at b.known.file b.frames frame (step_place q i) ≤ height_at a.known.file a.frames frame (step_place q last)
  step-lower i p is no_more =
      let same = same-height a b so_far.grows whole frame (step_site p) last-there in
      let low = no-higher a.known.file ordered q asking a.frames frame i last p stands.0 is stands.1 no_more in
      let here : height_at b.known.file b.frames frame (step_place q i) ≡ height_at b.known.file b.frames frame (step_site p) =
      ap (height_at b.known.file b.frames frame) (place-of-step q i p is) in
      let there : height_at a.known.file a.frames frame (step_place q last) ≡ height_at a.known.file a.frames frame (step_site stands.0) =
      ap (height_at a.known.file a.frames frame) (place-of-step q last stands.0 stands.1) in
      omega (arith, same, low, here, there)

  -- and it stands
  pub step-stands : (i : ℕ) (p : Step) → step_in (steps_in q) i ≡ Some p → i ≤ last → StandsUpTo b frame q i
  step-stands i p is no_more =
      let inside = step-inside a.known.file ordered q asking i p is in
      let last_inside = step-inside a.known.file ordered q asking last stands.0 stands.1 in
      let still = still-stands a b whole bound numbers so_far frame (home_of a.known.file (step_site stands.0)) (step_site stands.0, OfStep q last) last-there stands.2 in
      let home : home_of a.known.file (step_site stands.0) ≡ home_of b.known.file (step_site p) =
      last_inside.home ∙ sym inside.home ∙ sym (ap (λ (f : File). home_of f (step_site p)) (same-file a b so_far.grows whole)) in
      let same = same-load a b so_far.grows whole frame (step_site p) last-there in
      let less = earlier-shallower a.known.file (depths_of a.known.file) q i last no_more in
      let low : load_at a.known.file a.frames frame (step_site p)
      ≡ depth_query a.known.file (depths_of a.known.file) (first_of_query i q) + weight a.known.file (depths_of a.known.file) (environment_of a.known.file a.frames frame) =
      ap (λ (o : Option Piece). depth_of a.known.file o + weight a.known.file (depths_of a.known.file) (environment_of a.known.file a.frames frame)) inside.there in
      let high : load_at a.known.file a.frames frame (step_site stands.0)
      ≡ depth_query a.known.file (depths_of a.known.file) (first_of_query last q) + weight a.known.file (depths_of a.known.file) (environment_of a.known.file a.frames frame) =
      ap (λ (o : Option Piece). depth_of a.known.file o + weight a.known.file (depths_of a.known.file) (environment_of a.known.file a.frames frame)) last_inside.there in (
        p,
        is,
        record {
          there = ap (λ (f : File). piece_at f (step_site p)) (same-file a b so_far.grows whole) ∙ inside.there;
          scope_is = subst (StandsFor b.known.file b.frames frame) home still.scope_is;
          ruled = ruled-stays a b so_far.grows whole so_far.rules (load_at a.known.file a.frames frame (step_site stands.0)) (load_at b.known.file b.frames frame (step_site p))
              (omega (arith, same, less, low, high)) stands.2.ruled;
        },
      )

  -- so it may be evaluated
  pub step-rank : (i : ℕ) (p : Step) → step_in (steps_in q) i ≡ Some p → i ≤ last → (t : ℕ) → rank_in a frame (step_place q last) 3 ≡ t → rank_in b frame (step_place q i) 2 < t
  step-rank i p is no_more t owed =
      let low = step-lower i p is no_more in
      rank-on a b frame frame (step_place q last) (step_place q i) 3 2 t owed low (omega arith)

  module _ (c : State) (index number : ℕ) (line : Option ℕ) (no_more : index ≤ last) (it : AnswersStepBehind b c frame q index line number) where
    pub steps-next : Evaluates a b (above a frame (step_place q last)) (line_list line) → Evaluates a c (above a frame (step_place q last)) (number ∷ [])
    steps-next before =
        let low = step-lower index it.0.0 it.0.1 no_more in
        let here : height_at b.known.file b.frames frame (step_place q index) ≡ height_at b.known.file b.frames frame (step_site it.0.0) =
        ap (height_at b.known.file b.frames frame) (place-of-step q index it.0.0 it.0.1) in
        let next : Evaluates b c (above a frame (step_place q last)) (number ∷ []) =
        Evaluates-under b c (above b frame (step_site it.0.0)) (above a frame (step_place q last)) (number ∷ []) (omega (arith, low, here)) it.0.2.evaluates in
        drop-named a c (above a frame (step_place q last)) line (number ∷ []) it.1
        (Evaluates-then a b c whole (above a frame (step_place q last)) (line_list line) (number ∷ []) before next)

    pub before-next : GivesStepBefore c frame q (index + 1) (Some number)
    before-next =
        let one : suc index ≡ index + 1 = omega arith in
        let given : GivesStepBefore c frame q (suc index) (Some number) = (it.0.0, it.0.1, it.0.2.at, it.0.2.framed, it.0.2.says.0, it.0.2.says.1) in
        subst (λ (n : ℕ). GivesStepBefore c frame q n (Some number)) one given

    pub new-next : ((i : ℕ) → index ≤ i → i ≤ last → LacksStep b frame q i) → (i : ℕ) → index + 1 ≤ i → i ≤ last → LacksStep c frame q i
    new-next new i past within x also =
        let same = same-height a b so_far.grows whole frame (step_site x) last-there in
        let same_here = same-height a b so_far.grows whole frame (step_site it.0.0) last-there in
        let low = earlier-lower a.known.file ordered a.frames frame q index i it.0.0 x it.0.1 also (omega (arith, past)) (step-inside a.known.file ordered q asking index it.0.0 it.0.1).there
        (step-inside a.known.file ordered q asking i x also).there in
        it.0.2.evaluates.parts frame (step_site x) (frames-ahead a b so_far.grows whole frame last-there) (omega (arith, same, same_here, low)) ∙ new i (omega (arith, past)) within x also

-- behind the last
pub steps-end : (a b : State) (frame : ℕ) (q : Query) (last index number : ℕ) → index ≡ suc last → GivesStepBefore b frame q index (Some number)
    → Evaluates a b (above a frame (step_place q last)) (number ∷ []) → AnswersStepAt a b frame q last number
steps-end a b frame q last index number past given evaluates =
    let it : GivesStepBefore b frame q (suc last) (Some number) = subst (λ (n : ℕ). GivesStepBefore b frame q n (Some number)) past given in (
      it.0,
      it.1,
      record {
        evaluates = subst (λ (n : ℕ). Evaluates a b (above a frame n) (number ∷ [])) (place-of-step q last it.0 it.1) evaluates;
        at = it.2;
        framed = it.3;
        says = (it.4, it.5);
      },
    )

pub steps-some : (b : State) (frame : ℕ) (q : Query) (last index : ℕ) → index ≡ suc last → GivesStepBefore b frame q index None → ⊥
steps-some b frame q last index past given = subst (λ (n : ℕ). GivesStepBefore b frame q n None) past given

pub steps-unsaid : (b : State) (frame : ℕ) (q : Query) (last index : ℕ) (line : Option ℕ) → ((n : ℕ) → line ≡ Some n → ⊥) → index ≡ suc last → GivesStepBefore b frame q index line → ⊥
steps-unsaid b frame q last index None none past given = steps-some b frame q last index past given
steps-unsaid b frame q last index (Some n) none past given = none n refl
