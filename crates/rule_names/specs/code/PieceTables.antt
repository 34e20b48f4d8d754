-- Tables of the parts of a file by their sites, as they are made and as they are.
use Rattle.std.specs.Prelude.{◌≡◌, ℕ, List, [], ◌∷◌, length, nat_lt, if◌then◌else◌, slice_get, slice_set}
use Rattle.guard_syntax.specs.Syntax.{File}
use Rattle.rule_names.specs.Pieces.{Piece, Sited, piece_at}

-- a table in which a part is noted at its site, if the table has it
abbrev pub with_piece : List Piece → Sited → List Piece
with_piece table p = if nat_lt p.0 (length table) then slice_set table p.0 p.1 else table

-- one in which parts are noted in turn
abbrev pub with_pieces : List Piece → List Sited → List Piece
with_pieces table [] = table
with_pieces table (p ∷ ps) = with_pieces (with_piece table p) ps

-- a table has the part of each site of a file, and nothing else
abbrev pub IsTableOf : File → List Piece → Type 0
IsTableOf f table = (site : ℕ) → slice_get table site ≡ piece_at f site
