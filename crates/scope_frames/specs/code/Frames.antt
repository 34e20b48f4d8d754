-- Frames, numbered from 0 in the order in which they were first entered: for which scope a frame stands, which frames are around it, and which may be entered.
use Rattle.std.specs.Prelude.{ℕ, zero, suc, ◌≡◌, ◌<◌, List, [], Contains, Option, Some, None, IsSome, option_and_then, slice_get}
use Rattle.guard_syntax.specs.Syntax.{Exprs, File, Rule}
use Rattle.rule_names.specs.EnclosingScopes.{home_of}
use Rattle.evidence_rules.specs.CitedLines.{args_at, body_site}
use Rattle.scope_frames.specs.code.Scoping.{scope_at}
use Rattle.scope_frames.specs.declared.frame.Frame.{Frame}

-- the frame without a parent to which a frame comes by parents, in so many steps at most
abbrev pub past_parent : (ℕ → Option ℕ) → ℕ → Option ℕ → Option ℕ
past_parent further number None = Some number
past_parent further number (Some parent) = further parent

abbrev pub root_of : List Frame → (most : ℕ) → ℕ → Option ℕ
root_of frames zero number = None
root_of frames (suc most) number = option_and_then (λ (f : Frame). past_parent (root_of frames most) number f.parent) (slice_get frames number)

module _ (file : File) where
  -- the scope for which a frame stands: one without a parent is that of the file
  abbrev pub scope_under : (site : ℕ) → (parent : Option ℕ) → Option ℕ
  scope_under site None = Some 0
  scope_under site (Some parent) = scope_at file site

  abbrev pub scope_of : Frame → Option ℕ
  scope_of frame = scope_under frame.site frame.parent

  -- the frame around a frame: its parent; around a called body it is that of the file
  abbrev pub outer_by : List Frame → ℕ → (parent : Option ℕ) → (args : Option Exprs) → Option ℕ
  outer_by frames number None args = None
  outer_by frames number (Some parent) None = Some parent
  outer_by frames number (Some parent) (Some args) = root_of frames (suc number) number

  module _ (frames : List Frame) where
    abbrev pub StandsFor : (number scope : ℕ) → Type 0
    StandsFor number scope = option_and_then scope_of (slice_get frames number) ≡ Some scope

    abbrev pub outer_of : ℕ → Option ℕ
    outer_of number = option_and_then (λ (f : Frame). outer_by frames number f.parent (args_at file f.site)) (slice_get frames number)

    -- the frame so many frames further out
    abbrev pub outwards : (up number : ℕ) → Option ℕ
    outwards zero number = Some number
    outwards (suc up) number = option_and_then (outwards up) (outer_of number)

  -- no rule with parameters has the body of a site: such a body is entered by a call alone
  abbrev pub IsPlain : (site : ℕ) → Type 0
  IsPlain site = (r : Rule) → Contains file.rules r → body_site r.body ≡ site → r.params ≡ []

  -- a frame may be entered: that of the file, without a parent; or that of a body, a filter or a call, in a frame of the scope in which it stands
  abbrev pub MayEnter : List Frame → (parent : Option ℕ) → (site : ℕ) → Type 0
  MayEnter frames None site = site ≡ 0
  MayEnter frames (Some parent) site = StandsFor frames parent (home_of file site) × IsSome (scope_at file site) × IsPlain site

  -- a frame was entered before the one of a number, which names it as its parent
  abbrev pub IsBefore : (parent : Option ℕ) → (number : ℕ) → Type 0
  IsBefore None number = Unit {0}
  IsBefore (Some parent) number = parent < number

  -- each frame was entered so
  abbrev pub AreEntered : List Frame → Type 0
  AreEntered frames = (number : ℕ) (frame : Frame) → slice_get frames number ≡ Some frame → MayEnter frames frame.parent frame.site × IsBefore frame.parent number
