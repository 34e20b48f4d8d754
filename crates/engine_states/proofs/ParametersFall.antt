-- What a parameter means: the frame of its scope is that of a call of the rule that has it, so the call has an argument of its index. That stands in the frame in which the call
-- does, and is lower than the use.
use Rattle.std.proofs.Common.{◌≡◌, ℕ, zero, suc, ◌<◌, ◌≤◌, refl, sym, ap, ◌∙◌, subst, arith, List, Some, option_and_then}
use Rattle.std.proofs.lemmas.Option.{same_Some, none-some}
use Rattle.guard_syntax.specs.Syntax.{Expr, Exprs, File, Part, Query, Step, asked, block, call, found, function, guarded, kinds, literal, more_exprs, no_exprs, refer, test}
use Rattle.rule_names.specs.declared.bind.Bind.TheVariants.{Param}
use Rattle.rule_names.specs.Depths.{depth_bound, depth_expr, depth_step, depths_of}
use Rattle.rule_names.specs.EnclosingScopes.{home_of}
use Rattle.rule_names.specs.Pieces.{AreInOrder, OfPart, OfStep, Piece, piece_at}
use Rattle.rule_names.specs.Resolution.{bind_of}
use Rattle.rule_names.specs.Uses.{expr_in}
use Rattle.rule_names.specs.WellNamed.{WellNamed}
use Rattle.rule_meaning.specs.Places.{step_in, steps_in}
use Rattle.evidence_rules.specs.CitedLines.{args_of_part, args_of_piece}
use Rattle.scope_frames.specs.code.Frames.{StandsFor, outwards}
use Rattle.scope_frames.specs.code.Scoping.{scope_around}
use Rattle.scope_frames.specs.declared.frame.Frame.{Frame}
use Rattle.scope_frames.proofs.CallFrames.{IsCallOf, call-given}
use Rattle.scope_frames.proofs.NamesBound.{names-bound}
use Rattle.engine_states.specs.code.Answers.{StandsIn}
use Rattle.engine_states.specs.code.Falling.{depth_of, height_at, load_at}
use Rattle.engine_states.specs.code.Inside.{AreInside, IsInside, expr_sited, exprs_sited, inner_of_part}
use Rattle.engine_states.specs.code.PartDepths.{depth_in}
use Rattle.engine_states.specs.code.States.{IsWhole, State}
use Rattle.engine_states.proofs.Evaluating.{Grows-none}
use Rattle.engine_states.proofs.Falls.{argument-shallower}
use Rattle.engine_states.proofs.FrameEnvironments.{weight-called}
use Rattle.engine_states.proofs.Insides.{insides}
use Rattle.engine_states.proofs.Lower.{lower-anywhere}
use Rattle.engine_states.proofs.NamesFall.{out-there, out-weight, use-load}
use Rattle.engine_states.proofs.Standing.{ruled-stays}

-- ---- arguments

arg-inside : (f : File) (site : ℕ) (p : Piece) (es : Exprs) (i : ℕ) (e : Expr) → expr_in es i ≡ Some e → AreInside f site p (exprs_sited es) → IsInside f site p (expr_sited e)
arg-inside f site p no_exprs i e is all = absurd (none-some e is)
arg-inside f site p (more_exprs x es) zero e is all = subst (λ (y : Expr). IsInside f site p (expr_sited y)) (same_Some x e is) all.0
arg-inside f site p (more_exprs x es) (suc i) e is all = arg-inside f site p es i e is all.1

-- the argument stands in the call
args-inside : (f : File) (site : ℕ) (x : Part) (es : Exprs) → args_of_part x ≡ Some es → AreInside f site (OfPart x) (inner_of_part x) → AreInside f site (OfPart x) (exprs_sited es)
args-inside f site (call n negated name xs message) es is all =
    subst (λ (ys : Exprs). AreInside f site (OfPart (call n negated name xs message)) (exprs_sited ys)) (same_Some xs es is) all
args-inside f site (block n any q b) es is all = absurd (none-some es is)
args-inside f site (guarded n c b) es is all = absurd (none-some es is)
args-inside f site (kinds n name c b) es is all = absurd (none-some es is)
args-inside f site (test n any q op negated right message) es is all = absurd (none-some es is)
args-inside f site (refer n negated name message) es is all = absurd (none-some es is)

call-inside : (f : File) → AreInOrder f → (frames : List Frame) (at index : ℕ) (c : IsCallOf f frames at index) → IsInside f c.site (OfPart c.part) (expr_sited c.arg)
call-inside f ordered frames at index c =
    let args : args_of_part c.part ≡ Some c.args = sym (ap (option_and_then args_of_piece) c.piece_is) ∙ c.args_are in
    arg-inside f c.site (OfPart c.part) c.args index c.arg c.arg_is (args-inside f c.site c.part c.args args (insides f ordered c.site (OfPart c.part) c.piece_is))

pub depth-sited : (f : File) (depths : List ℕ) (e : Expr) → depth_in f depths (expr_sited e).1 ≡ depth_expr f depths e
depth-sited f depths (literal n tree) = refl
depth-sited f depths (function n name es) = refl
depth-sited f depths (asked q) = refl
depth-sited f depths (found n q) = refl

-- ---- the use of a parameter

module _ (s : State) (whole : IsWhole s) (well : WellNamed s.known.file) (ordered : AreInOrder s.known.file) (frame site : ℕ) (q : Query) (i : ℕ) (stands : StandsIn s frame (site, OfStep q i))
    (use_step : Step) (there : step_in (steps_in q) i ≡ Some use_step)
    (uses : depth_step s.known.file (depths_of s.known.file) use_step ≡ suc (depth_bound s.known.file (depths_of s.known.file) (bind_of s.known.file site)))
    (up index at : ℕ) (is : bind_of s.known.file site ≡ Some (Param up index)) (out : outwards s.known.file s.frames up frame ≡ Some at) where
  pub call-there : IsCallOf s.known.file s.frames at index
  call-there =
      call-given s.known.file well ordered s.frames whole.entered at (scope_around s.known.file up (home_of s.known.file site))
      (out-there s whole well ordered frame site q i stands use_step there uses (Param up index) is at out) up index (names-bound s.known.file ordered site (Param up index) is).given

  argument-inside : IsInside s.known.file call-there.site (OfPart call-there.part) (expr_sited call-there.arg)
  argument-inside = call-inside s.known.file ordered s.frames at index call-there

  pub argument-load : load_at s.known.file s.frames call-there.parent (expr_sited call-there.arg).0 < load_at s.known.file s.frames frame site
  argument-load =
      let c = call-there in
      let weighs = weight-called s.known.file s.frames whole.entered (depths_of s.known.file) at c.parent (record { parent = Some c.parent; site = c.site; current = c.current }) c.args
      c.frame_is refl c.args_are in
      let depth : depth_of s.known.file (piece_at s.known.file (expr_sited c.arg).0) ≡ depth_expr s.known.file (depths_of s.known.file) c.arg =
      ap (depth_of s.known.file) argument-inside.there ∙ depth-sited s.known.file (depths_of s.known.file) c.arg in
      let less = argument-shallower s.known.file (depths_of s.known.file) c.args index c.arg c.arg_is in
      let use_it = use-load s whole well ordered frame site q i stands use_step there uses in
      let out_it = out-weight s whole well ordered frame site q i stands use_step there uses (Param up index) is at out in
      omega (arith, weighs, depth, less, use_it, out_it)

  pub argument-stands : StandsIn s call-there.parent (expr_sited call-there.arg)
  argument-stands =
      let c = call-there in
      let less = argument-load in
      record {
        there = argument-inside.there;
        scope_is = subst (StandsFor s.known.file s.frames c.parent) (sym argument-inside.home) c.stands;
        ruled = ruled-stays s s (Grows-none s) whole (λ m. refl) (load_at s.known.file s.frames frame site) (load_at s.known.file s.frames c.parent (expr_sited c.arg).0)
            (omega (arith, less)) stands.ruled;
      }

  pub argument-lower : suc (height_at s.known.file s.frames call-there.parent (expr_sited call-there.arg).0) ≤ height_at s.known.file s.frames frame site
  argument-lower =
      let c = call-there in
      lower-anywhere s s (Grows-none s) whole ordered frame c.parent site (expr_sited c.arg).0 (expr_sited c.arg).1 argument-inside.there argument-load
