-- What stands inside a step, behind its own site.
use Rattle.std.specs.Prelude.{ℕ, List, [], ◌∷◌}
use Rattle.guard_syntax.specs.code.Seen.{Form}
use Rattle.guard_syntax.specs.Sites.{sites_step}
use Rattle.guard_syntax.specs.Syntax.{no_steps, query}
use Rattle.rule_names.specs.Pieces.{Sited, pieces_step}

-- all but the first
abbrev pub inner : {X : Type 0} → List X → List X
inner [] = []
inner (x ∷ xs) = xs

-- the sites inside a step of a form; they are the same at each site of its own
abbrev pub sites_form : Form → List ℕ
sites_form f = inner (sites_step (f 0))

-- and the pieces; they are the same in each query
abbrev pub pieces_form : Form → List Sited
pieces_form f = inner (pieces_step (query 0 no_steps) 0 (f 0))
