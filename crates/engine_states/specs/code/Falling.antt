-- What falls while a part is evaluated: its load, which is its Depth and the weight of the environment of its frame, and where that stays, its place among parts of the
-- same load. A part stands above those behind it, but steps below any other part, and a later step above an earlier one.
use Rattle.std.specs.Prelude.{ℕ, suc, ◌+◌, ◌*◌, ◌-◌, List, length, Option, Some, None}
use Rattle.guard_syntax.specs.Syntax.{File}
use Rattle.rule_names.specs.Depths.{depths_of}
use Rattle.rule_names.specs.Pieces.{Piece, OfStep, piece_at}
use Rattle.scope_frames.specs.declared.frame.Frame.{Frame}
use Rattle.engine_states.specs.code.Environments.{environment_of, weight}
use Rattle.engine_states.specs.code.PartDepths.{depth_in}

-- what a step captures stands above the step
abbrev pub above_step : Option Piece → ℕ → ℕ
above_step (Some (OfStep q i)) n = suc n
above_step piece n = n

module _ (f : File) where
  abbrev pub depth_of : Option Piece → ℕ
  depth_of (Some p) = depth_in f (depths_of f) p
  depth_of None = 0

  abbrev pub place_of : (site : ℕ) → Option Piece → ℕ
  place_of site (Some (OfStep q i)) = site
  place_of site piece = suc (length f.places) + (length f.places - site)

  -- a part of a load at a place
  unfoldable pub height : (load place : ℕ) → ℕ
  height load place = load * (2 * suc (length f.places)) + place

  module _ (frames : List Frame) where
    abbrev pub load_at : (frame site : ℕ) → ℕ
    load_at frame site = depth_of (piece_at f site) + weight f (depths_of f) (environment_of f frames frame)

    -- of the part of a site in the frame of a number
    abbrev pub height_at : (frame site : ℕ) → ℕ
    height_at frame site = height (load_at frame site) (place_of site (piece_at f site))

    -- of what the step of a site captures, and of the rows of the type block of a site
    abbrev pub height_beside : (frame site : ℕ) → ℕ
    height_beside frame site = above_step (piece_at f site) (height_at frame site)

    -- `step` orders the functions that hand the same part on; there are at most eight
    abbrev pub rank : (frame site step : ℕ) → ℕ
    rank frame site step = height_at frame site * 8 + step
