-- Rules and variables that reach themselves.
use Rattle.std.specs.Prelude.{ℕ, zero, suc, ◌≡◌, ◌+◌, ◌-◌, ◌*◌, ◌<◌, ◌≤◌, ◌⊎◌, List, [], Option, Some, None, length, map, filter, nat_lt, slice_index_or}
use Rattle.guard_syntax.specs.Named.{Named}
use Rattle.guard_syntax.specs.Syntax.{Let, File, Query, Steps, Step, assign, query, no_steps, more_steps, splice, filter as filtering, keys}
use Rattle.rule_names.specs.declared.name_kind.NameKind.{NameKind}
use Rattle.rule_names.specs.declared.name_kind.NameKind.TheVariants.{RecursiveRule, RecursiveVariable}
use Rattle.rule_names.specs.Faults.{Fault}
use Rattle.rule_names.specs.Graphs.{Graph, Names, Reaches, Uses, IsFirstOnCycle, NoneOnCycle}
use Rattle.rule_names.specs.Pieces.{Piece, OfLet, OfRule, OfStep, piece_at}
use Rattle.rule_names.specs.ReferenceGraph.{graph_of}

-- the same graph, with edges to parts alone: their nodes are those below a number
abbrev pub parts_only : ℕ → Graph → Graph
parts_only count g = map (filter (λ node. nat_lt node count)) g

-- in what a name stands for there is a use, which leads to that very name, or to one that reaches it
abbrev pub IsUseOf : File → (node site : ℕ) → Type 0
IsUseOf f node site =
    Reaches (parts_only (length f.places) (graph_of f)) node site
    × ((name : ℕ) × Names (graph_of f) site name × (length f.places ≤ name) × Uses (graph_of f) name node)

-- the first such use, in order of site
pub record IsFirstUse (f : File) (node site : ℕ) : Type 0 where
  pub use_there : IsUseOf f node site
  pub first : (other : ℕ) → other < site → IsUseOf f node other → ⊥

-- the place at which a use is answered: of `.%x` that of its variable, of any other that of its site
abbrev pub place_in_step : ℕ → Option Step → ℕ
place_in_step at (Some (splice n name)) = name.at
place_in_step at _ = at

abbrev pub step_of : Steps → ℕ → Option Step
step_of no_steps i = None
step_of (more_steps p ps) zero = Some p
step_of (more_steps p ps) (suc i) = step_of ps i

abbrev pub steps_of : Query → Steps
steps_of (query n ss) = ss

abbrev pub place_in_piece : ℕ → Option Piece → ℕ
place_in_piece at (Some (OfStep q i)) = place_in_step at (step_of (steps_of q) i)
place_in_piece at _ = at

abbrev pub use_place : File → ℕ → ℕ
use_place f site = place_in_piece (slice_index_or f.places site 0) (piece_at f site)

-- the name that a rule, a let or a capture gives
abbrev pub text_if : Option Named → List ℕ
text_if None = []
text_if (Some name) = name.text

abbrev pub capture_in : Option Step → Option Named
capture_in (Some (filtering n capture c)) = capture
capture_in (Some (keys n capture op negated e)) = capture
capture_in _ = None

abbrev pub let_text : Let → List ℕ
let_text (assign n name e) = name.text

abbrev pub given_text : Option Piece → List ℕ
given_text (Some (OfRule r)) = r.name.text
given_text (Some (OfLet l)) = let_text l
given_text (Some (OfStep q i)) = text_if (capture_in (step_of (steps_of q) i))
given_text _ = []

-- a name of the range that begins at a number reaches itself, the first in order of site: the fault is about it, and stands at its first use that reaches it.
-- In a file that was read the order of sites is that of the file and of places, since each part begins behind the part before it.
abbrev pub IsCycle : NameKind → File → ℕ → Fault → Type 0
IsCycle kind f low fault =
    (node site : ℕ) × IsFirstOnCycle (graph_of f) low (low + length f.places) node × IsFirstUse f node site
    × (fault ≡ record { kind = kind; named = record { text = given_text (piece_at f (node - low)); at = use_place f site } })

-- a rule reaches itself; or none does, and a let or capture does
abbrev pub IsRecursionFault : File → Fault → Type 0
IsRecursionFault f fault =
    IsCycle RecursiveRule f (length f.places) fault
    ⊎ (NoneOnCycle (graph_of f) (length f.places) (2 * length f.places) × IsCycle RecursiveVariable f (2 * length f.places) fault)

-- no name reaches itself
abbrev pub IsAcyclic : File → Type 0
IsAcyclic f = NoneOnCycle (graph_of f) (length f.places) (3 * length f.places)
