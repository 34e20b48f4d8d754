-- What a walk over parts finds: the Depth of the part that it walks, and those of the sites inside, which it notes in a table.
use Rattle.std.specs.Prelude.{ℕ, ◌<◌, ◌≡◌, ◌⊎◌, List, [], ◌∷◌, Some, length, nat_lt, if◌then◌else◌, slice_index_or, slice_set}
use Rattle.guard_syntax.specs.Syntax.{File}
use Rattle.rule_names.specs.Depths.{capped, depth_piece}
use Rattle.rule_names.specs.Pieces.{Piece, Sited}

-- a piece with its site is one of these
abbrev pub IsAmong : Sited → List Sited → Type 0
IsAmong p [] = ⊥
IsAmong p (q ∷ qs) = (q ≡ p) ⊎ IsAmong p qs

-- a table with another Depth at a site; a site that it does not have changes nothing
abbrev pub noted : List ℕ → ℕ → ℕ → List ℕ
noted table n depth = if nat_lt n (length table) then slice_set table n depth else table

-- at a site stands the Depth of a piece that has it, or what stood there, where no piece there has a Depth
abbrev pub IsNotedAt : File → List ℕ → List Sited → ℕ → ℕ → ℕ → Type 0
IsNotedAt f depths pieces n old new =
    ((new ≡ old) × ((p : Piece) → IsAmong (n, p) pieces → depth_piece f depths (Some p) ≡ 0))
    ⊎ ((p : Piece) × IsAmong (n, p) pieces × (new ≡ capped (depth_piece f depths (Some p))))

-- the Depth of a part with these pieces, and the table before and after
pub record Measured (f : File) (depths : List ℕ) (pieces : List Sited) (depth : ℕ) (before after : List ℕ) (result : ℕ) : Type 0 where
  pub value : result ≡ capped depth
  pub long : length after ≡ length before
  pub sites : (n : ℕ) → n < length before → IsNotedAt f depths pieces n (slice_index_or before n 0) (slice_index_or after n 0)
