-- What a builder keeps of its rows.
use Rattle.std.specs.Prelude.{ℕ, suc, ◌<◌, ◌≡◌, List, [], ◌∷◌, ◌++◌, length, Option}
use Rattle.doc_values.specs.declared.node.Seat.{Seat}
use Rattle.doc_values.specs.Tree.{Forest, count}
use Rattle.doc_values.specs.Unfinished.{Level, Unfinished}
use Rattle.doc_values.specs.code.WellFormed.{IsUnfinished}
use Rattle.doc_values.specs.code.Rows.{Row, Open, open_of, open_rows, inside}
use Rattle.doc_values.specs.code.Growth.{Growth, key_of, IsFor}

-- the unfinished tree whose nodes are these, with d open collections
abbrev pub unfinished : ℕ → List Row → Option (List ℕ) → Unfinished
unfinished d rs k = let o : Open = open_of d rs in record { outer = o.outer; done = o.done; key = k }

-- the rows are those of the tree, and as many collections are open
pub record Steps (d : ℕ) (rs : List Row) : Type 0 where
  pub whole : (let o : Open = open_of d rs in open_rows o.outer o.done) ≡ rs
  pub depth : length (open_of d rs).outer ≡ d

-- where the next value stands
abbrev pub seat_of : List Level → Forest → Seat
seat_of v done = record { depth = length v; under = inside v; index = count done }

-- where the value behind each open collection stands, the innermost last
abbrev pub seats_of : List Level → List Seat
seats_of [] = []
seats_of (v ∷ vs) = seats_of vs ++ (record { depth = length vs; under = inside vs; index = suc (count v.before) } ∷ [])

pub record Kept (seats : List Seat) (seat : Seat) (rs : List Row) (key : Option (List ℕ)) : Type 0 where
  pub steps : Steps seat.depth rs
  pub behind : seats_of (open_of seat.depth rs).outer ≡ seats
  pub next : seat_of (open_of seat.depth rs).outer (open_of seat.depth rs).done ≡ seat
  pub formed : IsUnfinished (unfinished seat.depth rs key)
  pub small : length rs < 2147483648

-- and the key that awaits its value will stand where the next value stands
pub record IsGrowing (seats : List Seat) (seat : Seat) (g : Growth) : Type 0 where
  pub kept : Kept seats seat g.rows (key_of g.key)
  pub awaited : IsFor seat.under g.key
