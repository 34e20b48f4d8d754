-- The environment of a frame: it is told by those of the frames before it, frames that come later change nothing, and further out it weighs no more.
use Rattle.std.proofs.Common.{◌≡◌, ℕ, zero, suc, ◌+◌, ◌<◌, ◌≤◌, refl, sym, ap, ap₂, ◌∙◌, subst, arith, slice_get, List, [], ◌∷◌, ◌++◌, length, Option, Some, None, option_and_then}
use Rattle.std.specs.Option.{option_map_or}
use Rattle.std.proofs.lemmas.Option.{same_Some, none-some}
use Rattle.guard_syntax.specs.Syntax.{Exprs, File}
use Rattle.guard_syntax.specs.declared.row.Ref.{Ref}
use Rattle.rule_names.specs.Depths.{depth_exprs}
use Rattle.rule_meaning.specs.code.StoreEnvironments.{Environment, Top, Inner, Called}
use Rattle.evidence_rules.specs.CitedLines.{args_at}
use Rattle.scope_frames.specs.code.Frames.{AreEntered, IsBefore, outer_by, outer_of, outwards, past_parent, root_of}
use Rattle.scope_frames.specs.declared.frame.Frame.{Frame}
use Rattle.scope_frames.proofs.EnteredFrames.{kept-ahead}
use Rattle.engine_states.specs.code.Environments.{environment_of, environment_within, under, weight}

-- below the number of frames there is one
pub frame-at : (frames : List Frame) (n : ℕ) → n < length frames → (frame : Frame) × (slice_get frames n ≡ Some frame)
frame-at [] n less = absurd (omega (arith, less))
frame-at (first ∷ frames) zero less = (first, refl)
frame-at (first ∷ frames) (suc n) less = frame-at frames n (omega (arith, less))

module _ (file : File) where
  -- ---- one frame

  at-frame : (frames : List Frame) (most n : ℕ) (frame : Frame) → slice_get frames n ≡ Some frame
      → environment_within file frames (suc most) n ≡ under frame.current (environment_within file frames most) frame.parent (args_at file frame.site)
  at-frame frames most n frame is =
      ap (λ (o : Option Frame). option_map_or (λ (f : Frame). under f.current (environment_within file frames most) f.parent (args_at file f.site)) o Top) is

  at-none : (frames : List Frame) (most n : ℕ) → slice_get frames n ≡ None → environment_within file frames (suc most) n ≡ Top
  at-none frames most n is =
      ap (λ (o : Option Frame). option_map_or (λ (f : Frame). under f.current (environment_within file frames most) f.parent (args_at file f.site)) o Top) is

  -- it is told by what is known of the frames before it
  same-under : (n : ℕ) (current : Ref) (one other : ℕ → Environment) (parent : Option ℕ) (args : Option Exprs) → IsBefore file parent n
      → ((p : ℕ) → p < n → one p ≡ other p) → under current one parent args ≡ under current other parent args
  same-under n current one other None args before same = refl
  same-under n current one other (Some p) None before same = ap (Inner current) (same p before)
  same-under n current one other (Some p) (Some args) before same = ap (Called current args) (same p before)

  module _ (frames : List Frame) where
    -- ---- the file's frame

    pub environment-top : (n : ℕ) (frame : Frame) → slice_get frames n ≡ Some frame → frame.parent ≡ None → environment_of file frames n ≡ Top
    environment-top n frame is parent =
        at-frame frames n n frame is ∙ ap (λ (o : Option ℕ). under frame.current (environment_within file frames n) o (args_at file frame.site)) parent

    root-past : (most n at : ℕ) (frame : Frame) (parent : Option ℕ) → slice_get frames n ≡ Some frame → frame.parent ≡ parent → past_parent (root_of frames most) n parent ≡ Some at
        → ((p : ℕ) → root_of frames most p ≡ Some at → environment_of file frames at ≡ Top) → environment_of file frames at ≡ Top
    root-past most n at frame None is parent e further = subst (λ (m : ℕ). environment_of file frames m ≡ Top) (same_Some n at e) (environment-top n frame is parent)
    root-past most n at frame (Some p) is parent e further = further p e

    root-by : (most n at : ℕ) (o : Option Frame) → slice_get frames n ≡ o → option_and_then (λ (f : Frame). past_parent (root_of frames most) n f.parent) o ≡ Some at
        → ((p : ℕ) → root_of frames most p ≡ Some at → environment_of file frames at ≡ Top) → environment_of file frames at ≡ Top
    root-by most n at None is e further = absurd (none-some at e)
    root-by most n at (Some frame) is e further = root-past most n at frame frame.parent is refl e further

    -- a frame to which others come by parents, and which has none, is one of the file alone
    pub root-top : (most n at : ℕ) → root_of frames most n ≡ Some at → environment_of file frames at ≡ Top
    root-top zero n at e = absurd (none-some at e)
    root-top (suc most) n at e = root-by most n at (slice_get frames n) refl e (λ p. root-top most p at)

    module _ (are : AreEntered file frames) where
      -- ---- how many steps are allowed

      enough-at : (most more n : ℕ) (o : Option Frame) → slice_get frames n ≡ o
          → ((p : ℕ) → p < n → environment_within file frames most p ≡ environment_within file frames more p)
          → environment_within file frames (suc most) n ≡ environment_within file frames (suc more) n
      enough-at most more n None is same = at-none frames most n is ∙ sym (at-none frames more n is)
      enough-at most more n (Some frame) is same =
          at-frame frames most n frame is
          ∙ same-under n frame.current (environment_within file frames most) (environment_within file frames more) frame.parent (args_at file frame.site) (are n frame is).1 same
          ∙ sym (at-frame frames more n frame is)

      enough : (most more n : ℕ) → n < most → n < more → environment_within file frames most n ≡ environment_within file frames more n
      enough zero more n less also = absurd (omega (arith, less))
      enough (suc most) zero n less also = absurd (omega (arith, also))
      enough (suc most) (suc more) n less also =
          enough-at most more n (slice_get frames n) refl (λ p before. enough most more p (omega (arith, less, before)) (omega (arith, also, before)))

      -- as many as any number above that of the frame do
      pub environment-enough : (most n : ℕ) → n < most → environment_within file frames most n ≡ environment_of file frames n
      environment-enough most n less = enough most (suc n) n less (omega arith)

      -- ---- one frame, by its parent

      pub environment-of : (n : ℕ) (frame : Frame) → slice_get frames n ≡ Some frame
          → environment_of file frames n ≡ under frame.current (environment_of file frames) frame.parent (args_at file frame.site)
      environment-of n frame is =
          at-frame frames n n frame is
          ∙ same-under n frame.current (environment_within file frames n) (environment_of file frames) frame.parent (args_at file frame.site) (are n frame is).1
          (λ p before. environment-enough n p before)

      pub environment-inner : (n p : ℕ) (frame : Frame) → slice_get frames n ≡ Some frame → frame.parent ≡ Some p → args_at file frame.site ≡ None
          → environment_of file frames n ≡ Inner frame.current (environment_of file frames p)
      environment-inner n p frame is parent none = environment-of n frame is ∙ ap₂ (under frame.current (environment_of file frames)) parent none

      pub environment-called : (n p : ℕ) (frame : Frame) (args : Exprs) → slice_get frames n ≡ Some frame → frame.parent ≡ Some p → args_at file frame.site ≡ Some args
          → environment_of file frames n ≡ Called frame.current args (environment_of file frames p)
      environment-called n p frame args is parent given = environment-of n frame is ∙ ap₂ (under frame.current (environment_of file frames)) parent given

      -- ---- frames that come later

      ahead-within : (more : List Frame) (most n : ℕ) → n < length frames → environment_within file (frames ++ more) most n ≡ environment_within file frames most n
      ahead-within more zero n less = refl
      ahead-within more (suc most) n less =
          let it = frame-at frames n less in
          at-frame (frames ++ more) most n it.0 (kept-ahead frames more n it.0 it.1)
          ∙ same-under n it.0.current (environment_within file (frames ++ more) most) (environment_within file frames most) it.0.parent (args_at file it.0.site) (are n it.0 it.1).1
          (λ p before. ahead-within more most p (omega (arith, before, less)))
          ∙ sym (at-frame frames most n it.0 it.1)

      pub environment-ahead : (more : List Frame) (n : ℕ) → n < length frames → environment_of file (frames ++ more) n ≡ environment_of file frames n
      environment-ahead more n less = ahead-within more (suc n) n less

      -- ---- weights

      module _ (depths : List ℕ) where
        abbrev weight_at : ℕ → ℕ
        weight_at n = weight file depths (environment_of file frames n)

        pub weight-top : (n : ℕ) (frame : Frame) → slice_get frames n ≡ Some frame → frame.parent ≡ None → weight file depths (environment_of file frames n) ≡ 0
        weight-top n frame is parent = ap (weight file depths) (environment-top n frame is parent)

        pub weight-inner : (n p : ℕ) (frame : Frame) → slice_get frames n ≡ Some frame → frame.parent ≡ Some p → args_at file frame.site ≡ None
            → weight file depths (environment_of file frames n) ≡ weight file depths (environment_of file frames p)
        weight-inner n p frame is parent none = ap (weight file depths) (environment-inner n p frame is parent none)

        pub weight-called : (n p : ℕ) (frame : Frame) (args : Exprs) → slice_get frames n ≡ Some frame → frame.parent ≡ Some p → args_at file frame.site ≡ Some args
            → weight file depths (environment_of file frames n) ≡ depth_exprs file depths args + weight file depths (environment_of file frames p)
        weight-called n p frame args is parent given = ap (weight file depths) (environment-called n p frame args is parent given)

        outer-past : (n at : ℕ) (frame : Frame) (parent : Option ℕ) (args : Option Exprs) → slice_get frames n ≡ Some frame → frame.parent ≡ parent → args_at file frame.site ≡ args
            → outer_by file frames n parent args ≡ Some at → weight_at at ≤ weight_at n
        outer-past n at frame None args is parent given e = absurd (none-some at e)
        outer-past n at frame (Some p) None is parent given e =
            let same : weight_at p ≡ weight_at at = ap (λ (m : ℕ). weight_at m) (same_Some p at e) in
            let inner : weight_at n ≡ weight_at p = weight-inner n p frame is parent given in
            omega (arith, same, inner)
        outer-past n at frame (Some p) (Some args) is parent given e =
            let none : weight_at at ≡ 0 = ap (weight file depths) (root-top (suc n) n at e) in
            omega (arith, none)

        outer-at : (n at : ℕ) (o : Option Frame) → slice_get frames n ≡ o
            → option_and_then (λ (f : Frame). outer_by file frames n f.parent (args_at file f.site)) o ≡ Some at → weight_at at ≤ weight_at n
        outer-at n at None is e = absurd (none-some at e)
        outer-at n at (Some frame) is e = outer-past n at frame frame.parent (args_at file frame.site) is refl refl e

        -- the frame around one weighs no more
        pub outer-weight : (n at : ℕ) → outer_of file frames n ≡ Some at → weight file depths (environment_of file frames at) ≤ weight file depths (environment_of file frames n)
        outer-weight n at e = outer-at n at (slice_get frames n) refl e

        outwards-by : (up n at : ℕ) (o : Option ℕ) → outer_of file frames n ≡ o → option_and_then (outwards file frames up) o ≡ Some at
            → ((m : ℕ) → outwards file frames up m ≡ Some at → weight_at at ≤ weight_at m) → weight_at at ≤ weight_at n
        outwards-by up n at None is e further = absurd (none-some at e)
        outwards-by up n at (Some m) is e further =
            let here : weight_at m ≤ weight_at n = outer-weight n m is in
            let there : weight_at at ≤ weight_at m = further m e in
            omega (arith, here, there)

        -- nor does one that is further out
        pub outwards-weight : (up n at : ℕ) → outwards file frames up n ≡ Some at → weight file depths (environment_of file frames at) ≤ weight file depths (environment_of file frames n)
        outwards-weight zero n at e =
            let same : weight_at n ≡ weight_at at = ap (λ (m : ℕ). weight_at m) (same_Some n at e) in
            omega (arith, same)
        outwards-weight (suc up) n at e = outwards-by up n at (outer_of file frames n) refl e (λ m. outwards-weight up m at)
