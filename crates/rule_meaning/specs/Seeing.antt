-- How references into a store are seen as locations. The number of a line and a row says nothing any more: a tree that a call made is told by the site of the call and by the tree.
use Rattle.std.specs.Prelude.{ℕ, zero, suc, Bool, true, false, ◌&&◌, List, [], ◌∷◌, ◌++◌, length, nat_le, nat_lt, slice_index_or, unwrap_or}
use Rattle.std.specs.List.{list_all}
use Rattle.doc_values.specs.Tree.{Forest, Nil, size}
use Rattle.guard_syntax.specs.declared.row.Origin.{Origin}
use Rattle.guard_syntax.specs.declared.row.Origin.TheVariants as origin
use Rattle.guard_syntax.specs.declared.row.Ref.{Ref}
use Rattle.guard_syntax.specs.declared.row.Row.{Row}
use Rattle.guard_syntax.specs.declared.row.Row.TheVariants as row
use Rattle.rule_meaning.specs.Functions as functions
use Rattle.rule_meaning.specs.StoreModel.{StoreModel, is_known, made_at}
use Rattle.rule_meaning.specs.StoreModel as store
use Rattle.rule_meaning.specs.Locations.{LocatedOrigin, Template, Literal, Made, Location, LocatedRow, Found, Missing, Unmade, AnswerRow, New, Kept, Answers, World}

-- the template and the file that a store is over, with what functions answer
abbrev pub world_of : StoreModel → Answers → World
world_of known answers = record { template = known.template; file = known.file; answers = answers }

-- the site of the call that has a line, by the sites of all calls in the order of their lines, which are counted from 1; 0 where no call has the line
abbrev pub call_at : List ℕ → ℕ → ℕ
call_at calls zero = 0
call_at calls (suc n) = slice_index_or calls n 0

-- the tree that was made at a line and a row; where there is none, a tree without nodes, in which nothing stands for anything
abbrev pub tree_made : StoreModel → ℕ → ℕ → Forest
tree_made known line row = unwrap_or (made_at known.made line row) Nil

abbrev pub see_origin : StoreModel → List ℕ → Origin → LocatedOrigin
see_origin known calls origin.Template = Template
see_origin known calls (origin.Literal site) = Literal site
see_origin known calls (origin.Made line row) = Made (call_at calls line) (tree_made known line row)

-- a reference into a store as a location
abbrev pub see_location : StoreModel → List ℕ → Ref → Location
see_location known calls r = record { origin = see_origin known calls r.origin; node = r.node; key = r.key }

-- a row, by what it refers to
abbrev pub see_row : StoreModel → List ℕ → Row → LocatedRow
see_row known calls (row.Found r) = Found (see_location known calls r)
see_row known calls (row.Missing value step) = Missing (see_location known calls value) step
see_row known calls (row.Unmade call) = Unmade call

-- a row of an answer
abbrev pub see_answer : StoreModel → List ℕ → functions.MadeRow → AnswerRow
see_answer known calls (functions.New tree) = New tree
see_answer known calls (functions.Kept r) = Kept (see_row known calls r)

-- the rows of an answer where its trees are kept at a line: each at the row that it has in the answer, which are counted on from a number; the other rows stay
abbrev pub rows_kept : (line at : ℕ) → List functions.MadeRow → List Row
rows_kept line at [] = []
rows_kept line at (functions.New tree ∷ made) = row.Found (record { origin = origin.Made line at; node = 0; key = false }) ∷ rows_kept line (suc at) made
rows_kept line at (functions.Kept r ∷ made) = r ∷ rows_kept line (suc at) made

-- and its trees
abbrev pub trees_kept : (line at : ℕ) → List functions.MadeRow → List store.Made
trees_kept line at [] = []
trees_kept line at (functions.New tree ∷ made) = record { line = line; row = at; tree = tree } ∷ trees_kept line (suc at) made
trees_kept line at (functions.Kept r ∷ made) = trees_kept line (suc at) made

-- each new tree of an answer has a root, and its other rows are known
abbrev pub is_known_answer : StoreModel → List functions.MadeRow → Bool
is_known_answer known [] = true
is_known_answer known (functions.New tree ∷ made) = nat_lt 0 (size tree) && is_known_answer known made
is_known_answer known (functions.Kept r ∷ made) = is_known known r && is_known_answer known made

-- a store with more trees behind those that it has
abbrev pub grown : StoreModel → List store.Made → StoreModel
grown known more = record { template = known.template; file = known.file; made = known.made ++ more }

-- each tree was made by one of the calls
abbrev pub are_called : List ℕ → List store.Made → Bool
are_called calls made = list_all (λ (m : store.Made). nat_le m.line (length calls)) made
