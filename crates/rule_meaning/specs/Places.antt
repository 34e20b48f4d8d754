-- Steps and type blocks by their sites in a rule file.
use Rattle.std.specs.Prelude.{ℕ, ◌≡◌, IsSome, zero, suc, Bool, true, false, not, List, [], ◌∷◌, Option, Some, None, option_map, option_and_then, is_some, if◌then◌else◌}
use Rattle.std.specs.List.{flat_map}
use Rattle.std.specs.Option.{option_map_or}
use Rattle.guard_syntax.specs.Syntax.{File, Query, Steps, Step, Part, query, no_steps, more_steps, key, filter, kinds}
use Rattle.guard_syntax.specs.declared.row.Ref.{Ref}
use Rattle.guard_syntax.specs.declared.row.Row.{Row}
use Rattle.guard_syntax.specs.declared.row.Row.TheVariants.{Found}
use Rattle.guard_syntax.specs.declared.row.Verdict.{Verdict}
use Rattle.rule_names.specs.Pieces.{Piece, OfStep, OfPart, piece_at}
use Rattle.rule_meaning.specs.StoreModel.{StoreModel}
use Rattle.rule_meaning.specs.Filters.{candidates_in, filtered}
use Rattle.rule_meaning.specs.Kinds.{rows_of_type}
use Rattle.rule_meaning.specs.Steps.{found_step, on_found}

-- a name or a quoted key, also at the start
abbrev pub is_key : Step → Bool
is_key (key site name) = true
is_key _ = false

abbrev pub are_no_steps : Steps → Bool
are_no_steps no_steps = true
are_no_steps (more_steps step steps) = false

abbrev pub is_filter : Step → Bool
is_filter (filter site capture conditions) = true
is_filter _ = false

-- a step where it stands: whether it is its query's first and its last, and whether the step before it is a key step
pub record Placed : Type 0 where
  pub step : Step
  pub first : Bool
  pub last : Bool
  pub after_key : Bool

abbrev pub step_in : Steps → ℕ → Option Step
step_in no_steps i = None
step_in (more_steps step steps) zero = Some step
step_in (more_steps step steps) (suc i) = step_in steps i

abbrev pub is_first : ℕ → Bool
is_first zero = true
is_first (suc i) = false

abbrev pub is_after_key : Steps → ℕ → Bool
is_after_key steps zero = false
is_after_key steps (suc i) = option_map_or is_key (step_in steps i) false

abbrev pub placed_in : Steps → ℕ → Option Placed
placed_in steps i = option_map (λ step. record { step = step; first = is_first i; last = not (is_some (step_in steps (suc i))); after_key = is_after_key steps i }) (step_in steps i)

abbrev pub steps_in : Query → Steps
steps_in (query site steps) = steps

abbrev pub placed_of : Piece → Option Placed
placed_of (OfStep q i) = placed_in (steps_in q) i
placed_of _ = None

-- the step of a site
abbrev pub step_at : File → ℕ → Option Placed
step_at file site = option_and_then placed_of (piece_at file site)

-- what a step gives for rows: a filter has a verdict for each candidate, in order
abbrev pub given_by : StoreModel → Placed → (before rows : List Row) → List Verdict → List Row
given_by known at before rows verdicts =
    if is_filter at.step then filtered known at.after_key before verdicts else flat_map (on_found (found_step known at.last rows at.step)) before

-- no rows stand before a start: it begins at the current value
abbrev pub before_step : Placed → (current : Ref) → (before : List Row) → List Row
before_step at current before = if at.first then Found current ∷ [] else before

-- one step where it stands
abbrev pub step_rows : StoreModel → Placed → (current : Ref) → (before rows : List Row) → List Verdict → List Row
step_rows known at current before rows verdicts = given_by known at (before_step at current before) rows verdicts

-- the candidates of a filter, which is never a start; no other step has any
abbrev pub step_candidates : StoreModel → Placed → (before : List Row) → List Ref
step_candidates known at before = if is_filter at.step then candidates_in known at.after_key before else []

abbrev pub type_of_part : Part → Option (List ℕ)
type_of_part (kinds site name conditions inner) = Some name
type_of_part _ = None

abbrev pub type_of : Piece → Option (List ℕ)
type_of (OfPart p) = type_of_part p
type_of _ = None

-- the type of the type block of a site
abbrev pub type_at : File → ℕ → Option (List ℕ)
type_at file site = option_and_then type_of (piece_at file site)

-- By the sites of what is known.

-- what the step of a site gives
abbrev pub rows_at_step : StoreModel → ℕ → (current : Ref) → (before rows : List Row) → List Verdict → List Row
rows_at_step known site current before rows verdicts =
    option_map_or (λ (at : Placed). step_rows known at current before rows verdicts) (step_at known.file site) []

-- the candidates of the filter of a site
abbrev pub candidates_at : StoreModel → ℕ → (before : List Row) → List Ref
candidates_at known site before = option_map_or (λ (at : Placed). step_candidates known at before) (step_at known.file site) []

-- the rows of the type block of a site
abbrev pub rows_at_type : StoreModel → ℕ → (current : Ref) → List Row
rows_at_type known site current = option_map_or (λ name. rows_of_type known name current) (type_at known.file site) []

abbrev pub IsStepAt : File → ℕ → Type 0
IsStepAt file site = IsSome (step_at file site)

abbrev pub IsStartAt : File → ℕ → Type 0
IsStartAt file site = option_map_or (λ (at : Placed). at.first) (step_at file site) false ≡ true

abbrev pub IsFilterAt : File → ℕ → Type 0
IsFilterAt file site = option_map_or (λ (at : Placed). is_filter at.step) (step_at file site) false ≡ true

abbrev pub IsTypeAt : File → ℕ → Type 0
IsTypeAt file site = IsSome (type_at file site)
