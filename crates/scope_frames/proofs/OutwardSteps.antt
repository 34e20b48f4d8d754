-- One step outwards, as loops take it.
use Rattle.std.proofs.Common.{◌≡◌, ℕ, suc, true, false, refl, sym, ap, ◌∙◌, slice_get, List, Option, Some, None, option_and_then, is_some}
use Rattle.std.proofs.lemmas.Bool.{true≢false}
use Rattle.guard_syntax.specs.Syntax.{Exprs, File}
use Rattle.scope_frames.specs.code.Frames.{outer_by, outer_of, outwards, past_parent, root_of}
use Rattle.scope_frames.specs.declared.frame.Frame.{Frame}

module _ (file : File) (frames : List Frame) where
  pub outwards-on : (left less at outer : ℕ) → left ≡ suc less → Some outer ≡ outer_of file frames at → outwards file frames less outer ≡ outwards file frames left at
  outwards-on left less at outer more is =
      ap (option_and_then (outwards file frames less)) is ∙ ap (λ (n : ℕ). outwards file frames n at) (sym more)

  pub outwards-off : (left less at : ℕ) → left ≡ suc less → None ≡ outer_of file frames at → None ≡ outwards file frames left at
  outwards-off left less at more is =
      ap (option_and_then (outwards file frames less)) is ∙ ap (λ (n : ℕ). outwards file frames n at) (sym more)

  pub around-call : (number parent : ℕ) (args : Option Exprs) → is_some args ≡ true → root_of frames (suc number) number ≡ outer_by file frames number (Some parent) args
  around-call number parent None is = absurd (true≢false (sym is))
  around-call number parent (Some args) is = refl

  pub around-other : (number parent : ℕ) (args : Option Exprs) → is_some args ≡ false → Some parent ≡ outer_by file frames number (Some parent) args
  around-other number parent None is = refl
  around-other number parent (Some args) is = absurd (true≢false is)

module _ (frames : List Frame) where
  pub root-off : (most at : ℕ) → None ≡ slice_get frames at → None ≡ root_of frames (suc most) at
  root-off most at is = ap (option_and_then (λ (f : Frame). past_parent (root_of frames most) at f.parent)) is

  pub root-by : (most at : ℕ) (frame : Frame) (parent : Option ℕ) → Some frame ≡ slice_get frames at → frame.parent ≡ parent → past_parent (root_of frames most) at parent ≡ root_of frames (suc most) at
  root-by most at frame parent is of =
      ap (past_parent (root_of frames most) at) (sym of) ∙ ap (option_and_then (λ (f : Frame). past_parent (root_of frames most) at f.parent)) is
