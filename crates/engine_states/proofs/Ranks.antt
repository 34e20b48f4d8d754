-- The ranks of what is evaluated for a part: what is lower has a lesser rank, and where a function hands the same part on, the one that it calls.
use Rattle.std.proofs.Common.{◌≡◌, ℕ, ◌<◌, ◌≤◌, arith}
use Rattle.std.specs.Option.{option_map_or}
use Rattle.guard_syntax.specs.Syntax.{Query}
use Rattle.rule_names.specs.ReferenceGraph.{step_site}
use Rattle.rule_meaning.specs.Places.{step_in, steps_in}
use Rattle.engine_states.specs.code.Falling.{height_at, rank}
use Rattle.engine_states.specs.code.States.{State}

-- of the part of a site in the frame of a number
abbrev pub rank_in : State → (frame site step : ℕ) → ℕ
rank_in s frame site step = rank s.known.file s.frames frame site step

-- the site of the step of an index
abbrev pub step_place : Query → ℕ → ℕ
step_place q i = option_map_or step_site (step_in (steps_in q) i) 0

module _ (a b : State) (frame number site other step next t : ℕ) (owed : rank_in a frame site step ≡ t) where
  pub rank-below : height_at b.known.file b.frames number other < height_at a.known.file a.frames frame site → next < 8 → rank_in b number other next < t
  rank-below less small = omega (arith, less, small, owed)

  pub rank-on : height_at b.known.file b.frames number other ≤ height_at a.known.file a.frames frame site → next < step → rank_in b number other next < t
  rank-on no_more less = omega (arith, no_more, less, owed)
