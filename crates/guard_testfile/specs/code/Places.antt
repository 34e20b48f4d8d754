-- Where the nodes of a tree stand, as the code has it.
use Rattle.std.specs.Prelude.{ℕ, ◌≡◌, ◌<◌, List, length, slice_index_or}
use Rattle.doc_values.specs.Tree.{Forest}
use Rattle.guard_testfile.specs.Shape.{place_of}
use Rattle.guard_testfile.specs.declared.place.Place.{Place}
use Rattle.guard_testfile.specs.declared.place.Place.TheVariants.{Cases}

-- the places of the first nodes, as many as are counted
pub record ArePlaces (tree : Forest) (count : ℕ) (places : List Place) : Type 0 where
  pub counted : length places ≡ count
  pub each : (n : ℕ) → n < count → slice_index_or places n Cases ≡ place_of tree n
