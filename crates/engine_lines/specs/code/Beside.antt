-- Lines beside those of parts, by the frame and the site of each.
use Rattle.std.specs.Prelude.{ℕ, ◌==◌, ◌&&◌, List, [], ◌∷◌, Option, None, Some, if◌then◌else◌}
use Rattle.engine_lines.specs.declared.place.Place.{Place}

abbrev pub beside_in : List (Place × ℕ) → ℕ → ℕ → Option ℕ
beside_in [] frame site = None
beside_in (e ∷ es) frame site = if e.0.frame == frame && e.0.site == site then Some e.1 else beside_in es frame site
