-- The list of a tree's nodes in document order, each with the spot where it stands, and back.
use Rattle.std.specs.Prelude.{ℕ, zero, suc, ◌+◌, List, [], ◌∷◌, ◌++◌, length, nat_lt, if◌then◌else◌, Option, Some, None}
use Rattle.doc_values.specs.Tree.{Label, Forest, Nil, Node, snoc, size, count}
use Rattle.doc_values.specs.Unfinished.{Level}

-- a node, how many nodes it stands in, the number behind the innermost of them (0 where it stands in none), and its index beside others there
pub record Row : Type 0 where
  pub depth : ℕ
  pub under : ℕ
  pub index : ℕ
  pub label : Label

-- the nodes of values side by side in document order: they stand at depth `d` under `u`, `i` stand before them, and the first has the number `n`
abbrev pub rows : ℕ → ℕ → ℕ → ℕ → Forest → List Row
rows d u n i Nil = []
rows d u n i (Node l kids rest) = record { depth = d; under = u; index = i; label = l } ∷ (rows (suc d) (suc n) (suc n) 0 kids ++ rows d u (suc (n + size kids)) (suc i) rest)

-- the number that stands before a number, if there is one
abbrev pub above : ℕ → Option ℕ
above zero = None
above (suc p) = Some p

-- the rows of a tree
abbrev pub all_rows : Forest → List Row
all_rows f = rows 0 0 0 0 f

-- the open nodes, the innermost first, and the complete values of the innermost
pub record Open : Type 0 where
  pub outer : List Level
  pub done : Forest

abbrev pub nothing : Open
nothing = record { outer = []; done = Nil }

abbrev pub entered : Label → Open → Open
entered l o = record { outer = record { label = l; before = o.done } ∷ o.outer; done = Nil }

abbrev pub added : Label → Open → Open
added l o = record { outer = o.outer; done = snoc o.done l Nil }

-- the innermost is complete
abbrev pub closed_of : List Level → Forest → Open
closed_of [] done = record { outer = []; done = done }
closed_of (v ∷ vs) done = record { outer = vs; done = snoc v.before v.label done }

abbrev pub closed : Open → Open
closed o = closed_of o.outer o.done

-- all but the outermost d are complete
abbrev pub closed_to : ℕ → List Level → Forest → Open
closed_to d [] done = record { outer = []; done = done }
closed_to d (v ∷ vs) done = if nat_lt d (suc (length vs)) then closed_to d vs (snoc v.before v.label done) else record { outer = v ∷ vs; done = done }

-- a row's node is opened where it stands
abbrev pub placed : Open → Row → Open
placed o r = entered r.label (closed_to r.depth o.outer o.done)

abbrev pub placed_all : Open → List Row → Open
placed_all o [] = o
placed_all o (r ∷ rs) = placed_all (placed o r) rs

-- the unfinished tree whose nodes are these, with d open collections
abbrev pub open_of : ℕ → List Row → Open
open_of d rs = let o = placed_all nothing rs in closed_to d o.outer o.done

-- the tree whose nodes are these
abbrev pub tree_of : List Row → Forest
tree_of rs = (open_of 0 rs).done

-- the number behind the innermost open collection, 0 where none is open
abbrev pub inside : List Level → ℕ
inside [] = 0
inside (v ∷ vs) = suc (inside vs + size v.before)

-- the rows of the nodes of an unfinished tree
abbrev pub open_rows : List Level → Forest → List Row
open_rows [] done = all_rows done
open_rows (v ∷ vs) done =
    open_rows vs v.before
    ++ (record { depth = length vs; under = inside vs; index = count v.before; label = v.label } ∷ rows (suc (length vs)) (inside (v ∷ vs)) (inside (v ∷ vs)) 0 done)
