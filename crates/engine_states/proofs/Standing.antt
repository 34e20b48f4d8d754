-- Parts that stand where they are evaluated: a part of a part, in the same frame or in one that was entered for it. The lines of the rules that it may need are there, since its
-- load is no greater.
use Rattle.std.proofs.Common.{◌≡◌, ◌<◌, ◌≤◌, ◌+◌, ℕ, Bool, refl, sym, ap, ◌∙◌, subst, arith, slice_get, List, length, Option, Some, None, option_and_then, option_map}
use Rattle.std.proofs.lemmas.Option.{slice_get_within}
use Rattle.guard_syntax.specs.Named.{Named}
use Rattle.guard_syntax.specs.Syntax.{Body, Conds, Exprs, File, Query, call, filter}
use Rattle.guard_syntax.specs.declared.row.Ref.{Ref}
use Rattle.rule_names.specs.Depths.{depth_body, depth_exprs, depth_part, depths_of}
use Rattle.rule_names.specs.EnclosingScopes.{home_of}
use Rattle.rule_names.specs.Pieces.{OfBody, OfPart, OfStep, Sited, piece_at}
use Rattle.evidence_rules.specs.CitedLines.{args_at, args_of_piece, body_site, called_body, scope_of_piece, scope_of_step}
use Rattle.evidence_rules.specs.Follows.{conds_site}
use Rattle.rule_meaning.specs.Places.{step_in, steps_in}
use Rattle.scope_frames.specs.code.Frames.{StandsFor, scope_under}
use Rattle.scope_frames.specs.code.Scoping.{scope_at}
use Rattle.scope_frames.specs.declared.frame.Frame.{Frame}
use Rattle.scope_frames.proofs.EnteredFrames.{has-frame, stands-ahead, stands-for}
use Rattle.engine_states.specs.code.Answers.{AreRuled, AreRuledIn, StandsIn, StandsWithin}
use Rattle.engine_states.specs.code.Entered.{Enters}
use Rattle.engine_states.specs.code.Environments.{environment_of, weight}
use Rattle.engine_states.specs.code.Falling.{depth_of, load_at}
use Rattle.engine_states.specs.code.Inside.{IsInside, body_sited, conds_sited, scope_in, scope_in_step}
use Rattle.engine_states.specs.code.PartDepths.{depth_in}
use Rattle.engine_states.specs.code.States.{Grows, IsWhole, State}
use Rattle.engine_states.proofs.Evaluating.{same-file}
use Rattle.engine_states.proofs.FrameEnvironments.{environment-ahead, weight-called, weight-inner}

-- ---- loads

module _ (a b : State) (grows : Grows a b) (whole : IsWhole a) where
  pub same-load : (frame site : ℕ) → frame < length a.frames → load_at b.known.file b.frames frame site ≡ load_at a.known.file a.frames frame site
  same-load frame site less =
      ap (λ (f : File). load_at f b.frames frame site) (same-file a b grows whole)
      ∙ ap (λ (fs : List Frame). load_at a.known.file fs frame site) grows.frames
      ∙ ap (λ e. depth_of a.known.file (piece_at a.known.file site) + weight a.known.file (depths_of a.known.file) e)
      (environment-ahead a.known.file a.frames whole.entered grows.more_frames frame less)

  -- the lines of rules stay, for no more load
  pub ruled-stays : (rules : (site : ℕ) → b.rules site ≡ a.rules site) (most least : ℕ) → least ≤ most → AreRuled a most → AreRuled b least
  ruled-stays rules most least no_more ruled =
      subst (λ (f : File). AreRuledIn f b.rules least) (sym (same-file a b grows whole))
      (λ r among plain less. let it = ruled r among plain (omega (arith, less, no_more)) in (it.0, rules r.site ∙ it.1))

  -- ---- a part of a part

  module _ (rules : (site : ℕ) → b.rules site ≡ a.rules site) (frame scope : ℕ) (outer : Sited) (stands : StandsWithin a frame scope outer) where
    frame-there : frame < length a.frames
    frame-there = let it = has-frame a.known.file a.frames frame scope stands.scope_is in slice_get_within a.frames frame it.0 it.1

    depth-told : (part : Sited) → piece_at a.known.file part.0 ≡ Some part.1 → depth_of a.known.file (piece_at a.known.file part.0) ≡ depth_in a.known.file (depths_of a.known.file) part.1
    depth-told part there = ap (depth_of a.known.file) there

    pub inner-load : (inner : Sited) → IsInside a.known.file outer.0 outer.1 inner → load_at a.known.file a.frames frame inner.0 ≤ load_at a.known.file a.frames frame outer.0
    inner-load inner inside =
        let low = depth-told inner inside.there in
        let high = depth-told outer stands.there in
        let less = inside.shallower (depths_of a.known.file) in
        omega (arith, low, high, less)

    stands-file : (inner : Sited) → piece_at a.known.file inner.0 ≡ Some inner.1 → piece_at b.known.file inner.0 ≡ Some inner.1
    stands-file inner there = ap (λ (f : File). piece_at f inner.0) (same-file a b grows whole) ∙ there

    stands-later : (scope_of_inner : ℕ) → StandsFor a.known.file a.frames frame scope_of_inner → StandsFor b.known.file b.frames frame scope_of_inner
    stands-later s is =
        subst (λ (f : File). StandsFor f b.frames frame s) (sym (same-file a b grows whole))
        (subst (λ (fs : List Frame). StandsFor a.known.file fs frame s) (sym grows.frames) (stands-ahead a.known.file a.frames grows.more_frames frame s is))

    -- it stands in the same frame, where the part's scope is that of what is in it
    pub inner-stands : (inner : Sited) → scope_in a.known.file outer.0 outer.1 ≡ scope → IsInside a.known.file outer.0 outer.1 inner → StandsIn b frame inner
    inner-stands inner same inside = record {
      there = stands-file inner inside.there;
      scope_is =
          let home : home_of b.known.file inner.0 ≡ scope = ap (λ (f : File). home_of f inner.0) (same-file a b grows whole) ∙ inside.home ∙ same in
          subst (StandsFor b.known.file b.frames frame) (sym home) (stands-later scope stands.scope_is);
      ruled =
          let load = same-load frame inner.0 frame-there in
          let less = inner-load inner inside in
          ruled-stays rules (load_at a.known.file a.frames frame outer.0) (load_at b.known.file b.frames frame inner.0) (omega (arith, load, less)) stands.ruled;
    }

-- ---- a part in a frame that was entered

module _ (b : State) (whole : IsWhole b) (number parent site : ℕ) (frame : Frame) (there : slice_get b.frames number ≡ Some frame) (parent_is : frame.parent ≡ Some parent) (site_is : frame.site ≡ site) where
  -- a frame in another has its load, and that of a call has that of the arguments too
  pub inner-weight : args_at b.known.file site ≡ None
      → weight b.known.file (depths_of b.known.file) (environment_of b.known.file b.frames number) ≡ weight b.known.file (depths_of b.known.file) (environment_of b.known.file b.frames parent)
  inner-weight none =
      weight-inner b.known.file b.frames whole.entered (depths_of b.known.file) number parent frame there parent_is (ap (args_at b.known.file) site_is ∙ none)

  pub called-weight : (args : Exprs) → args_at b.known.file site ≡ Some args
      → weight b.known.file (depths_of b.known.file) (environment_of b.known.file b.frames number)
      ≡ depth_exprs b.known.file (depths_of b.known.file) args + weight b.known.file (depths_of b.known.file) (environment_of b.known.file b.frames parent)
  called-weight args given =
      weight-called b.known.file b.frames whole.entered (depths_of b.known.file) number parent frame args there parent_is (ap (args_at b.known.file) site_is ∙ given)

  -- it stands for the scope of its site
  pub entered-scope : (scope : ℕ) → scope_at b.known.file site ≡ Some scope → StandsFor b.known.file b.frames number scope
  entered-scope scope is =
      stands-for b.known.file b.frames number scope frame there
      (ap (λ (p : Option ℕ). scope_under b.known.file frame.site p) parent_is ∙ ap (scope_at b.known.file) site_is ∙ is)

-- ---- what is evaluated in it

module _ (a b : State) (whole : IsWhole a) (parent scope : ℕ) (outer : Sited) (stands : StandsWithin a parent scope outer) (site : ℕ) (current : Ref) (number : ℕ)
    (enters : Enters a b (Some parent) site current number) where
  there-before : parent < length a.frames
  there-before = let it = has-frame a.known.file a.frames parent scope stands.scope_is in slice_get_within a.frames parent it.0 it.1

  file-now : b.known.file ≡ a.known.file
  file-now = same-file a b enters.evaluates.grows whole

  args-now : (args : Option Exprs) → args_at a.known.file site ≡ args → args_at b.known.file site ≡ args
  args-now args is = ap (λ (f : File). args_at f site) file-now ∙ is

  -- a part has the load there that it has in the frame around
  pub entered-load : args_at a.known.file site ≡ None → (n : ℕ) → load_at b.known.file b.frames number n ≡ load_at a.known.file a.frames parent n
  entered-load none n =
      ap (λ (w : ℕ). depth_of b.known.file (piece_at b.known.file n) + w)
      (inner-weight b enters.evaluates.whole number parent site (record { parent = Some parent; site = site; current = current }) enters.frame refl refl (args-now None none))
      ∙ same-load a b enters.evaluates.grows whole parent n there-before

  -- in a called body that of the arguments comes on top
  pub called-load : (args : Exprs) → args_at a.known.file site ≡ Some args → (n : ℕ)
      → load_at b.known.file b.frames number n ≡ depth_exprs a.known.file (depths_of a.known.file) args + load_at a.known.file a.frames parent n
  called-load args given n =
      let weighs = called-weight b enters.evaluates.whole number parent site (record { parent = Some parent; site = site; current = current }) enters.frame refl refl args (args-now (Some args) given) in
      let around = same-load a b enters.evaluates.grows whole parent n there-before in
      let same : depth_exprs b.known.file (depths_of b.known.file) args ≡ depth_exprs a.known.file (depths_of a.known.file) args =
      ap (λ (f : File). depth_exprs f (depths_of f) args) file-now in
      omega (arith, weighs, around, same)

  -- it stands there, where its load is no greater than that of the part for which the frame was entered
  stands-there : (inner : Sited) (under : ℕ) → piece_at a.known.file inner.0 ≡ Some inner.1 → scope_at a.known.file site ≡ Some under
      → load_at b.known.file b.frames number inner.0 ≤ load_at a.known.file a.frames parent outer.0 → StandsWithin b number under inner
  stands-there inner under there is less = record {
    there = ap (λ (f : File). piece_at f inner.0) file-now ∙ there;
    scope_is = entered-scope b enters.evaluates.whole number parent site (record { parent = Some parent; site = site; current = current }) enters.frame refl refl under
        (ap (λ (f : File). scope_at f site) file-now ∙ is);
    ruled = ruled-stays a b enters.evaluates.grows whole enters.evaluates.rules (load_at a.known.file a.frames parent outer.0) (load_at b.known.file b.frames number inner.0) less stands.ruled;
  }

  shallower-load : (inner : Sited) → IsInside a.known.file outer.0 outer.1 inner → args_at a.known.file site ≡ None
      → load_at b.known.file b.frames number inner.0 ≤ load_at a.known.file a.frames parent outer.0
  shallower-load inner inside none =
      let same = entered-load none inner.0 in
      let less = inner-load a b enters.evaluates.grows whole enters.evaluates.rules parent scope outer stands inner inside in
      omega (arith, same, less)

  -- the body of a part
  pub body-stands : (inner : Body) → body_site inner ≡ site → IsInside a.known.file outer.0 outer.1 (body_sited inner) → StandsWithin b number site (body_sited inner)
  body-stands inner at inside =
      let piece : piece_at a.known.file site ≡ Some (OfBody inner) = ap (piece_at a.known.file) (sym at) ∙ inside.there in
      stands-there (body_sited inner) site inside.there (ap (option_and_then (scope_of_piece a.known.file site)) piece)
      (shallower-load (body_sited inner) inside (ap (option_and_then args_of_piece) piece))

  -- the conditions of a filter
  pub conditions-stand : (q : Query) (i n : ℕ) (capture : Option Named) (conditions : Conds) → outer ≡ (site, OfStep q i) → step_in (steps_in q) i ≡ Some (filter n capture conditions)
      → IsInside a.known.file outer.0 outer.1 (conds_sited conditions) → StandsIn b number (conds_sited conditions)
  conditions-stand q i n capture conditions is filters inside =
      let piece : piece_at a.known.file site ≡ Some (OfStep q i) = ap (λ (o : Sited). piece_at a.known.file o.0) (sym is) ∙ stands.there ∙ ap (λ (o : Sited). Some o.1) is in
      let home : home_of a.known.file (conds_site conditions) ≡ site =
      inside.home ∙ ap (λ (o : Sited). scope_in a.known.file o.0 o.1) is ∙ ap (scope_in_step a.known.file site) filters in
      subst (λ (n : ℕ). StandsWithin b number n (conds_sited conditions)) (sym (ap (λ (f : File). home_of f (conds_site conditions)) file-now ∙ home))
      (stands-there (conds_sited conditions) site inside.there (ap (option_and_then (scope_of_piece a.known.file site)) piece ∙ ap (scope_of_step a.known.file site) filters)
      (shallower-load (conds_sited conditions) inside (ap (option_and_then args_of_piece) piece)))

  -- a called body
  pub called-stands : (m : ℕ) (negated : Bool) (name : List ℕ) (args : Exprs) (message : Option (List ℕ)) (inner : Body) → outer ≡ (site, OfPart (call m negated name args message))
      → called_body a.known.file site ≡ Some inner → piece_at a.known.file (body_site inner) ≡ Some (OfBody inner)
      → depth_body a.known.file (depths_of a.known.file) inner + depth_exprs a.known.file (depths_of a.known.file) args
      ≤ depth_part a.known.file (depths_of a.known.file) (call m negated name args message) → StandsWithin b number (body_site inner) (body_sited inner)
  called-stands m negated name args message inner is called there falls =
      let piece : piece_at a.known.file site ≡ Some (OfPart (call m negated name args message)) =
      ap (λ (o : Sited). piece_at a.known.file o.0) (sym is) ∙ stands.there ∙ ap (λ (o : Sited). Some o.1) is in
      let low : depth_of a.known.file (piece_at a.known.file (body_site inner)) ≡ depth_body a.known.file (depths_of a.known.file) inner = ap (depth_of a.known.file) there in
      let high : depth_of a.known.file (piece_at a.known.file outer.0) ≡ depth_part a.known.file (depths_of a.known.file) (call m negated name args message) =
      ap (depth_of a.known.file) (ap (λ (o : Sited). piece_at a.known.file o.0) is ∙ piece) in
      let load = called-load args (ap (option_and_then args_of_piece) piece) (body_site inner) in
      stands-there (body_sited inner) (body_site inner) there (ap (option_and_then (scope_of_piece a.known.file site)) piece ∙ ap (option_map body_site) called)
      (omega (arith, low, high, load, falls))
