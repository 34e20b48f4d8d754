-- Which bytes a list has. A set of bytes is seen as the list of its bytes.
use Rattle.std.specs.Prelude.{ℕ, ◌==◌, Bool, List}
use Rattle.std.specs.List.{list_any}

-- some byte of the list is this one
abbrev pub holds : List ℕ → ℕ → Bool
holds bytes byte = list_any (λ x. x == byte) bytes
