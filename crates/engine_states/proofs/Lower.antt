-- What is evaluated for a part is lower than it: a part in it, in the same frame or in one that was entered for it; a part whose load is less, in any frame; and an earlier step
-- of a query. The one state is that of the part, the other a later one.
use Rattle.std.proofs.Common.{◌≡◌, ℕ, suc, ◌+◌, ◌-◌, ◌<◌, ◌≤◌, Bool, sym, ap, ◌∙◌, arith, List, length, Option, Some, option_and_then}
use Rattle.guard_syntax.specs.Named.{Named}
use Rattle.guard_syntax.specs.Syntax.{Body, Conds, Exprs, File, Query, Step, call, filter}
use Rattle.guard_syntax.specs.declared.row.Ref.{Ref}
use Rattle.rule_names.specs.Depths.{depth_body, depth_exprs, depth_part, depth_query, depths_of, first_of_query}
use Rattle.rule_names.specs.Pieces.{AreInOrder, OfBody, OfPart, OfStep, Piece, Sited, piece_at}
use Rattle.rule_names.specs.ReferenceGraph.{step_site}
use Rattle.rule_meaning.specs.Places.{step_in, steps_in}
use Rattle.evidence_rules.specs.CitedLines.{args_of_piece, body_site}
use Rattle.evidence_rules.specs.Follows.{conds_site}
use Rattle.scope_frames.specs.declared.frame.Frame.{Frame}
use Rattle.engine_states.specs.code.Answers.{StandsWithin}
use Rattle.engine_states.specs.code.Entered.{Enters}
use Rattle.engine_states.specs.code.Environments.{environment_of, weight}
use Rattle.engine_states.specs.code.Falling.{above_step, depth_of, height, height_at, height_beside, load_at, place_of, rank}
use Rattle.engine_states.specs.code.Inside.{IsInside, body_sited, conds_sited}
use Rattle.engine_states.specs.code.PartDepths.{depth_in}
use Rattle.engine_states.specs.code.States.{Grows, IsWhole, State}
use Rattle.engine_states.proofs.Evaluating.{same-file}
use Rattle.engine_states.proofs.Falls.{conditions-fall, earlier-shallower}
use Rattle.engine_states.proofs.Heights.{behind-lower, later-step, lower-load, next-lower, next-same, place-within}
use Rattle.engine_states.proofs.SitesWithin.{site-within}
use Rattle.engine_states.proofs.Standing.{called-load, entered-load, inner-load, same-load}
use Rattle.engine_states.proofs.StepsRise.{steps-rise}

-- ---- places

-- a part that is no step stands above all that stands behind it
abbrev pub IsHigh : File → Sited → Type 0
IsHigh f part = place_of f part.0 (Some part.1) ≡ suc (length f.places) + (length f.places - part.0)

module _ (f : File) (ordered : AreInOrder f) where
  module _ (frames later : List Frame) (frame number : ℕ) where
    by-load : (site other : ℕ) (p : Piece) → piece_at f other ≡ Some p → load_at f later number other < load_at f frames frame site
        → height_at f later number other < height_at f frames frame site
    by-load site other p is less =
        let within = site-within f ordered other p is in
        lower-load f (load_at f frames frame site) (load_at f later number other) (place_of f site (piece_at f site)) (place_of f other (piece_at f other)) less
        (place-within f other (piece_at f other) (omega (arith, within)))

    by-place : (outer inner : Sited) → piece_at f outer.0 ≡ Some outer.1 → IsHigh f outer → piece_at f inner.0 ≡ Some inner.1 → outer.0 < inner.0
        → load_at f later number inner.0 ≤ load_at f frames frame outer.0 → height_at f later number inner.0 < height_at f frames frame outer.0
    by-place outer inner stands high there behind no_more =
        let within = site-within f ordered inner.0 inner.1 there in
        behind-lower f outer.0 inner.0 behind (omega (arith, within)) (load_at f frames frame outer.0) (load_at f later number inner.0) (piece_at f outer.0) (piece_at f inner.0) no_more
        (ap (place_of f outer.0) stands ∙ high)

    -- what a step captures stands just above the step
    one-above : (load place : ℕ) → height f load (suc place) ≡ suc (height f load place)
    unfolding height
    one-above load place = omega arith

    by-load-beside : (site other : ℕ) (q : Query) (i : ℕ) → piece_at f other ≡ Some (OfStep q i) → load_at f later number other < load_at f frames frame site
        → suc (height_beside f later number other) ≤ height_at f frames frame site
    by-load-beside site other q i is less =
        let within = site-within f ordered other (OfStep q i) is in
        let place : place_of f other (piece_at f other) ≡ other = ap (place_of f other) is in
        let beside : height_beside f later number other ≡ suc (height_at f later number other) = ap (λ (p : Option Piece). above_step p (height_at f later number other)) is in
        let here : height_at f later number other ≡ height f (load_at f later number other) other = ap (height f (load_at f later number other)) place in
        let up : height f (load_at f later number other) (suc other) ≡ suc (height f (load_at f later number other) other) = one-above (load_at f later number other) other in
        let low : height f (load_at f later number other) (suc other) < height_at f frames frame site =
        lower-load f (load_at f frames frame site) (load_at f later number other) (place_of f site (piece_at f site)) (suc other) less (omega (arith, within)) in
        omega (arith, beside, here, up, low)

  -- an earlier step
  pub earlier-lower : (frames : List Frame) (frame : ℕ) (q : Query) (i j : ℕ) (p r : Step) → step_in (steps_in q) i ≡ Some p → step_in (steps_in q) j ≡ Some r → i < j
      → piece_at f (step_site p) ≡ Some (OfStep q i) → piece_at f (step_site r) ≡ Some (OfStep q j)
      → suc (height_at f frames frame (step_site p)) ≤ height_at f frames frame (step_site r)
  earlier-lower frames frame q i j p r is also before there here =
      let rise = steps-rise f ordered (step_site p) q i i j p r there is also before in
      let less = earlier-shallower f (depths_of f) q i j (omega (arith, before)) in
      let low : load_at f frames frame (step_site p) ≡ depth_query f (depths_of f) (first_of_query i q) + weight f (depths_of f) (environment_of f frames frame) =
      ap (λ (o : Option Piece). depth_of f o + weight f (depths_of f) (environment_of f frames frame)) there in
      let high : load_at f frames frame (step_site r) ≡ depth_query f (depths_of f) (first_of_query j q) + weight f (depths_of f) (environment_of f frames frame) =
      ap (λ (o : Option Piece). depth_of f o + weight f (depths_of f) (environment_of f frames frame)) here in
      let one : height_at f frames frame (step_site p) ≡ height f (load_at f frames frame (step_site p)) (step_site p) =
      ap (λ (o : Option Piece). height f (load_at f frames frame (step_site p)) (place_of f (step_site p) o)) there in
      let two : height_at f frames frame (step_site r) ≡ height f (load_at f frames frame (step_site r)) (step_site r) =
      ap (λ (o : Option Piece). height f (load_at f frames frame (step_site r)) (place_of f (step_site r) o)) here in
      let step = later-step f (load_at f frames frame (step_site r)) (load_at f frames frame (step_site p)) (step_site r) (step_site p) (omega (arith, low, high, less)) rise in
      omega (arith, one, two, step)

-- ---- from one state to a later one

module _ (a b : State) (grows : Grows a b) (whole : IsWhole a) (ordered : AreInOrder a.known.file) where
  height-now : (number site : ℕ) → height_at b.known.file b.frames number site ≡ height_at a.known.file b.frames number site
  height-now number site = ap (λ (f : File). height_at f b.frames number site) (same-file a b grows whole)

  load-now : (number site : ℕ) → load_at b.known.file b.frames number site ≡ load_at a.known.file b.frames number site
  load-now number site = ap (λ (f : File). load_at f b.frames number site) (same-file a b grows whole)

  -- a part anywhere, whose load is less
  pub lower-anywhere : (frame number site other : ℕ) (p : Piece) → piece_at a.known.file other ≡ Some p → load_at b.known.file b.frames number other < load_at a.known.file a.frames frame site
      → height_at b.known.file b.frames number other < height_at a.known.file a.frames frame site
  lower-anywhere frame number site other p is less =
      let load = load-now number other in
      let low = by-load a.known.file ordered a.frames b.frames frame number site other p is (omega (arith, load, less)) in
      let now = height-now number other in
      omega (arith, low, now)

  -- and what a step captures
  pub beside-anywhere : (frame number site other : ℕ) (q : Query) (i : ℕ) → piece_at a.known.file other ≡ Some (OfStep q i)
      → load_at b.known.file b.frames number other < load_at a.known.file a.frames frame site
      → suc (height_beside b.known.file b.frames number other) ≤ height_at a.known.file a.frames frame site
  beside-anywhere frame number site other q i is less =
      let load = load-now number other in
      let low = by-load-beside a.known.file ordered a.frames b.frames frame number site other q i is (omega (arith, load, less)) in
      let now : height_beside b.known.file b.frames number other ≡ height_beside a.known.file b.frames number other =
      ap (λ (f : File). height_beside f b.frames number other) (same-file a b grows whole) in
      omega (arith, low, now)

  -- a part in one that is no step, in any frame in which its load is no greater
  pub lower-inside : (frame number : ℕ) (outer inner : Sited) → piece_at a.known.file outer.0 ≡ Some outer.1 → IsHigh a.known.file outer → IsInside a.known.file outer.0 outer.1 inner
      → load_at b.known.file b.frames number inner.0 ≤ load_at a.known.file a.frames frame outer.0
      → height_at b.known.file b.frames number inner.0 < height_at a.known.file a.frames frame outer.0
  lower-inside frame number outer inner stands high inside no_more =
      let load = load-now number inner.0 in
      let low = by-place a.known.file ordered a.frames b.frames frame number outer inner stands high inside.there inside.behind (omega (arith, load, no_more)) in
      let now = height-now number inner.0 in
      omega (arith, low, now)

  module _ (rules : (site : ℕ) → b.rules site ≡ a.rules site) (frame scope : ℕ) (outer : Sited) (stands : StandsWithin a frame scope outer) (there : frame < length a.frames) where
    -- in the same frame
    pub inner-lower : (inner : Sited) → IsHigh a.known.file outer → IsInside a.known.file outer.0 outer.1 inner
        → height_at b.known.file b.frames frame inner.0 < height_at a.known.file a.frames frame outer.0
    inner-lower inner high inside =
        let same = same-load a b grows whole frame inner.0 there in
        let less = inner-load a b grows whole rules frame scope outer stands inner inside in
        lower-inside frame frame outer inner stands.there high inside (omega (arith, same, less))

    -- a part that is less deep, as those in a step are
    pub shallower-lower : (inner : Sited) → piece_at a.known.file inner.0 ≡ Some inner.1
        → depth_in a.known.file (depths_of a.known.file) inner.1 < depth_in a.known.file (depths_of a.known.file) outer.1
        → height_at b.known.file b.frames frame inner.0 < height_at a.known.file a.frames frame outer.0
    shallower-lower inner is less =
        let same = same-load a b grows whole frame inner.0 there in
        let low : depth_of a.known.file (piece_at a.known.file inner.0) ≡ depth_in a.known.file (depths_of a.known.file) inner.1 = ap (depth_of a.known.file) is in
        let high : depth_of a.known.file (piece_at a.known.file outer.0) ≡ depth_in a.known.file (depths_of a.known.file) outer.1 = ap (depth_of a.known.file) stands.there in
        lower-anywhere frame frame outer.0 inner.0 inner.1 is (omega (arith, same, low, high, less))

-- ---- in a frame that was entered

module _ (a b : State) (whole : IsWhole a) (ordered : AreInOrder a.known.file) (parent scope : ℕ) (outer : Sited) (stands : StandsWithin a parent scope outer) (site : ℕ) (current : Ref)
    (number : ℕ) (enters : Enters a b (Some parent) site current number) where
  -- a body
  pub body-lower : (inner : Body) → body_site inner ≡ site → IsHigh a.known.file outer → IsInside a.known.file outer.0 outer.1 (body_sited inner)
      → height_at b.known.file b.frames number (body_site inner) < height_at a.known.file a.frames parent outer.0
  body-lower inner at high inside =
      let none = ap (option_and_then args_of_piece) (ap (piece_at a.known.file) (sym at) ∙ inside.there) in
      let same = entered-load a b whole parent scope outer stands site current number enters none (body_site inner) in
      let less = inner-load a b enters.evaluates.grows whole enters.evaluates.rules parent scope outer stands (body_sited inner) inside in
      lower-inside a b enters.evaluates.grows whole ordered parent number outer (body_sited inner) stands.there high inside (omega (arith, same, less))

  -- the conditions of a filter
  pub conditions-lower : (q : Query) (i n : ℕ) (capture : Option Named) (conditions : Conds) → outer ≡ (site, OfStep q i) → step_in (steps_in q) i ≡ Some (filter n capture conditions)
      → IsInside a.known.file outer.0 outer.1 (conds_sited conditions)
      → height_at b.known.file b.frames number (conds_site conditions) < height_at a.known.file a.frames parent outer.0
  conditions-lower q i n capture conditions is filters inside =
      let piece : piece_at a.known.file site ≡ Some (OfStep q i) = ap (λ (o : Sited). piece_at a.known.file o.0) (sym is) ∙ stands.there ∙ ap (λ (o : Sited). Some o.1) is in
      let same = entered-load a b whole parent scope outer stands site current number enters (ap (option_and_then args_of_piece) piece) (conds_site conditions) in
      let low = ap (depth_of a.known.file) inside.there in
      let high = ap (depth_of a.known.file) (ap (λ (o : Sited). piece_at a.known.file o.0) is ∙ piece) in
      let less = conditions-fall a.known.file (depths_of a.known.file) q i n capture conditions filters in
      lower-anywhere a b enters.evaluates.grows whole ordered parent number outer.0 (conds_site conditions) (conds_sited conditions).1 inside.there (omega (arith, same, low, high, less))

  -- a called body
  pub called-lower : (m : ℕ) (negated : Bool) (name : List ℕ) (args : Exprs) (message : Option (List ℕ)) (inner : Body) → outer ≡ (site, OfPart (call m negated name args message))
      → piece_at a.known.file (body_site inner) ≡ Some (OfBody inner)
      → depth_body a.known.file (depths_of a.known.file) inner + depth_exprs a.known.file (depths_of a.known.file) args
      < depth_part a.known.file (depths_of a.known.file) (call m negated name args message)
      → height_at b.known.file b.frames number (body_site inner) < height_at a.known.file a.frames parent outer.0
  called-lower m negated name args message inner is there falls =
      let piece : piece_at a.known.file site ≡ Some (OfPart (call m negated name args message)) =
      ap (λ (o : Sited). piece_at a.known.file o.0) (sym is) ∙ stands.there ∙ ap (λ (o : Sited). Some o.1) is in
      let load = called-load a b whole parent scope outer stands site current number enters args (ap (option_and_then args_of_piece) piece) (body_site inner) in
      let low = ap (depth_of a.known.file) there in
      let high = ap (depth_of a.known.file) (ap (λ (o : Sited). piece_at a.known.file o.0) is ∙ piece) in
      lower-anywhere a b enters.evaluates.grows whole ordered parent number outer.0 (body_site inner) (OfBody inner) there (omega (arith, load, low, high, falls))

-- ---- ranks

module _ (f g : File) (frames later : List Frame) (frame number site other step next : ℕ) where
  pub rank-lower : height_at g later number other < height_at f frames frame site → next < 8 → rank g later number other next < rank f frames frame site step
  rank-lower less small = next-lower (height_at f frames frame site) (height_at g later number other) step next less small

  pub rank-same : height_at g later number other ≤ height_at f frames frame site → next < step → rank g later number other next < rank f frames frame site step
  rank-same no_more less = next-same (height_at f frames frame site) (height_at g later number other) step next no_more less
