-- What the use of a variable means: it stands in the frame so many frames further out, its load is less than that of the use, so it is lower. The expression of a let, the step
-- of a capture.
use Rattle.std.proofs.Common.{◌≡◌, ℕ, suc, ◌+◌, ◌<◌, ◌≤◌, refl, sym, ap, ◌∙◌, subst, arith, Option, Some}
use Rattle.std.proofs.lemmas.Option.{same_Some}
use Rattle.guard_syntax.specs.Syntax.{Query, Step}
use Rattle.rule_names.specs.declared.bind.Bind.{Bind}
use Rattle.rule_names.specs.declared.bind.Bind.TheVariants.{Value, Capture}
use Rattle.rule_names.specs.Depths.{depth_at, depth_bound, depth_piece, depth_query, depth_step, depths_of, first_of_query}
use Rattle.rule_names.specs.EnclosingScopes.{home_of}
use Rattle.rule_names.specs.Pieces.{AreInOrder, OfExpr, OfQuery, OfStep, Piece, piece_at}
use Rattle.rule_names.specs.Resolution.{bind_of}
use Rattle.rule_names.specs.WellNamed.{WellNamed}
use Rattle.rule_meaning.specs.Places.{step_in, steps_in}
use Rattle.scope_frames.specs.code.Frames.{StandsFor, outwards}
use Rattle.scope_frames.specs.code.Scoping.{Captures, IsBound, IsCapture, IsValue, scope_around, up_of}
use Rattle.scope_frames.proofs.FramesAround.{so-many-out}
use Rattle.scope_frames.proofs.NamesBound.{names-bound}
use Rattle.scope_frames.proofs.RulesNamed.{called-home}
use Rattle.engine_states.specs.code.Answers.{StandsIn}
use Rattle.engine_states.specs.code.Environments.{environment_of, weight}
use Rattle.engine_states.specs.code.Falling.{depth_of, height_at, height_beside, load_at}
use Rattle.engine_states.specs.code.States.{IsWhole, State}
use Rattle.engine_states.proofs.Evaluating.{Grows-none}
use Rattle.engine_states.proofs.Falls.{step-falls, told-depth}
use Rattle.engine_states.proofs.FrameEnvironments.{outwards-weight}
use Rattle.engine_states.proofs.Lower.{beside-anywhere, lower-anywhere}
use Rattle.engine_states.proofs.Standing.{ruled-stays}

-- what a let may have, and what captures, as pieces
value-piece : (o : Option Piece) → IsValue o → (p : Piece) × (o ≡ Some p)
value-piece (Some (OfQuery q)) is = (OfQuery q, refl)
value-piece (Some (OfExpr e)) is = (OfExpr e, refl)
value-piece o is = absurd is

capture-piece : (o : Option Piece) → IsCapture o → (q : Query) × (i : ℕ) × (o ≡ Some (OfStep q i)) × Captures (step_in (steps_in q) i)
capture-piece (Some (OfStep q i)) is = (q, i, refl, is)
capture-piece o is = absurd is

module _ (s : State) (whole : IsWhole s) (well : WellNamed s.known.file) (ordered : AreInOrder s.known.file) (frame site : ℕ) (q : Query) (i : ℕ) (stands : StandsIn s frame (site, OfStep q i))
    (use_step : Step) (there : step_in (steps_in q) i ≡ Some use_step)
    (uses : depth_step s.known.file (depths_of s.known.file) use_step ≡ suc (depth_bound s.known.file (depths_of s.known.file) (bind_of s.known.file site))) where
  abbrev weight_of : ℕ → ℕ
  weight_of n = weight s.known.file (depths_of s.known.file) (environment_of s.known.file s.frames n)

  -- the use has a greater load than what it means, in its own frame
  pub use-load : depth_bound s.known.file (depths_of s.known.file) (bind_of s.known.file site) + weight_of frame < load_at s.known.file s.frames frame site
  use-load =
      let falls = step-falls s.known.file (depths_of s.known.file) q i use_step there in
      let high : depth_of s.known.file (piece_at s.known.file site) ≡ depth_query s.known.file (depths_of s.known.file) (first_of_query i q) = ap (depth_of s.known.file) stands.there in
      omega (arith, falls, high, uses)

  module _ (b : Bind) (is : bind_of s.known.file site ≡ Some b) (at : ℕ) (out : outwards s.known.file s.frames (up_of b) frame ≡ Some at) where
    bound : IsBound s.known.file site b
    bound = names-bound s.known.file ordered site b is

    -- the frame is one of the scope that gives the name, and weighs no more
    pub out-there : StandsFor s.known.file s.frames at (scope_around s.known.file (up_of b) (home_of s.known.file site))
    out-there =
        let it = so-many-out s.known.file (called-home s.known.file ordered) s.frames whole.entered (up_of b) frame (home_of s.known.file site) stands.scope_is bound.around in
        subst (λ (n : ℕ). StandsFor s.known.file s.frames n (scope_around s.known.file (up_of b) (home_of s.known.file site))) (same_Some it.0 at (sym it.1 ∙ out)) it.2

    pub out-weight : weight_of at ≤ weight_of frame
    out-weight = outwards-weight s.known.file s.frames whole.entered (depths_of s.known.file) (up_of b) frame at out

    -- what stands in it, with no greater load
    stands-out : (n : ℕ) (p : Piece) → piece_at s.known.file n ≡ Some p → home_of s.known.file n ≡ scope_around s.known.file (up_of b) (home_of s.known.file site)
        → load_at s.known.file s.frames at n < load_at s.known.file s.frames frame site → StandsIn s at (n, p)
    stands-out n p is_there home less = record {
      there = is_there;
      scope_is = subst (StandsFor s.known.file s.frames at) (sym home) out-there;
      ruled = ruled-stays s s (Grows-none s) whole (λ m. refl) (load_at s.known.file s.frames frame site) (load_at s.known.file s.frames at n) (omega (arith, less)) stands.ruled;
    }

  -- ---- a let

  module _ (up value at : ℕ) (is : bind_of s.known.file site ≡ Some (Value up value)) (out : outwards s.known.file s.frames up frame ≡ Some at) where
    pub value-is : IsValue (piece_at s.known.file value)
    value-is = (names-bound s.known.file ordered site (Value up value) is).given.1

    depth-told : (o : Option Piece) → IsValue o → depth_of s.known.file o ≡ depth_piece s.known.file (depths_of s.known.file) o
    depth-told (Some (OfQuery x)) val = refl
    depth-told (Some (OfExpr e)) val = refl
    depth-told o val = absurd val

    pub value-load : load_at s.known.file s.frames at value < load_at s.known.file s.frames frame site
    value-load =
        let told = told-depth s.known.file well ordered value in
        let same : depth_bound s.known.file (depths_of s.known.file) (bind_of s.known.file site) ≡ depth_at s.known.file (depths_of s.known.file) value =
        ap (depth_bound s.known.file (depths_of s.known.file)) is in
        let depth = depth-told (piece_at s.known.file value) value-is in
        let use_it = use-load in
        let out_it = out-weight (Value up value) is at out in
        omega (arith, told, same, depth, use_it, out_it)

    pub value-stands : IsValue (piece_at s.known.file value) × (p : Piece) × StandsIn s at (value, p)
    value-stands =
        let it = value-piece (piece_at s.known.file value) value-is in
        let home : home_of s.known.file value ≡ scope_around s.known.file up (home_of s.known.file site) = (names-bound s.known.file ordered site (Value up value) is).given.0 in
        (value-is, it.0, stands-out (Value up value) is at out value it.0 it.1 home value-load)

    pub value-lower : suc (height_at s.known.file s.frames at value) ≤ height_at s.known.file s.frames frame site
    value-lower =
        let it = value-piece (piece_at s.known.file value) value-is in
        lower-anywhere s s (Grows-none s) whole ordered frame at site value it.0 it.1 value-load

  -- ---- a capture

  module _ (up step at : ℕ) (is : bind_of s.known.file site ≡ Some (Capture up step)) (out : outwards s.known.file s.frames up frame ≡ Some at) where
    captures : (x : Query) × (j : ℕ) × (piece_at s.known.file step ≡ Some (OfStep x j)) × Captures (step_in (steps_in x) j)
    captures = capture-piece (piece_at s.known.file step) (names-bound s.known.file ordered site (Capture up step) is).given.1

    pub capture-load : load_at s.known.file s.frames at step < load_at s.known.file s.frames frame site
    capture-load =
        let told = told-depth s.known.file well ordered step in
        let same : depth_bound s.known.file (depths_of s.known.file) (bind_of s.known.file site) ≡ depth_at s.known.file (depths_of s.known.file) step =
        ap (depth_bound s.known.file (depths_of s.known.file)) is in
        let it = captures in
        let depth : depth_of s.known.file (piece_at s.known.file step) ≡ depth_query s.known.file (depths_of s.known.file) (first_of_query it.1 it.0) = ap (depth_of s.known.file) it.2 in
        let piece : depth_piece s.known.file (depths_of s.known.file) (piece_at s.known.file step) ≡ depth_query s.known.file (depths_of s.known.file) (first_of_query it.1 it.0) =
        ap (depth_piece s.known.file (depths_of s.known.file)) it.2 in
        let use_it = use-load in
        let out_it = out-weight (Capture up step) is at out in
        omega (arith, told, same, depth, piece, use_it, out_it)

    pub capture-stands : (x : Query) × (j : ℕ) × StandsIn s at (step, OfStep x j) × Captures (step_in (steps_in x) j)
    capture-stands =
        let it = captures in
        let home : home_of s.known.file step ≡ scope_around s.known.file up (home_of s.known.file site) = (names-bound s.known.file ordered site (Capture up step) is).given.0 in
        (it.0, it.1, stands-out (Capture up step) is at out step (OfStep it.0 it.1) it.2 home capture-load, it.3)

    pub capture-lower : suc (height_beside s.known.file s.frames at step) ≤ height_at s.known.file s.frames frame site
    capture-lower = let it = captures in beside-anywhere s s (Grows-none s) whole ordered frame at site step it.0 it.1 it.2 capture-load
