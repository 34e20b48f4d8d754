-- What is so once parts were evaluated.
use Rattle.std.specs.Prelude.{ℕ, ◌≡◌, ◌<◌, ◌≤◌, List, length}
use Rattle.engine_states.specs.code.Falling.{height_at, height_beside}
use Rattle.engine_states.specs.code.Leaning.{AreNamedBut}
use Rattle.engine_states.specs.code.States.{Grows, IsWhole, State}

-- there is more, and all that holds of an engine holds; no line of a part is added that is as high as a bound, nor one of a rule; and of the lines that were added, each is
-- named by a later one but for those of these numbers
pub record Evaluates (before after : State) (bound : ℕ) (numbers : List ℕ) : Type 0 where
  pub grows : Grows before after
  pub whole : IsWhole after
  pub named : AreNamedBut (length before.lines) after.lines numbers
  pub parts : (frame site : ℕ) → frame < length before.frames → bound ≤ height_at before.known.file before.frames frame site → after.parts frame site ≡ before.parts frame site
  pub beside : (frame site : ℕ) → frame < length before.frames → bound ≤ height_beside before.known.file before.frames frame site → after.beside frame site ≡ before.beside frame site
  pub rules : (site : ℕ) → after.rules site ≡ before.rules site
