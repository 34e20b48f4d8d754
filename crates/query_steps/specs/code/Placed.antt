-- Steps where they stand in their queries.
use Rattle.std.specs.Prelude.{◌≡◌, true, false, List, [], Option, map}
use Rattle.std.specs.Option.{option_map_or}
use Rattle.guard_syntax.specs.code.Seen.{see_step, step_list}
use Rattle.guard_syntax.specs.declared.row.Ref.{Ref}
use Rattle.guard_syntax.specs.declared.row.Row.{Row}
use Rattle.guard_syntax.specs.declared.row.Verdict.{Verdict}
use Rattle.rule_meaning.specs.Places.{Placed, is_filter, placed_in, step_candidates, step_rows}
use Rattle.rule_meaning.specs.StoreModel.{StoreModel}
use Rattle.query_steps.specs.declared.step_place.StepPlace.{StepPlace}

-- the step of an index, where there is one
abbrev pub see_place : StepPlace → Option Placed
see_place p = placed_in (step_list (map see_step p.steps.now)) p.index

abbrev pub StartsAt : Option Placed → Type 0
StartsAt place = option_map_or (λ (at : Placed). at.first) place false ≡ true

abbrev pub FiltersAt : Option Placed → Type 0
FiltersAt place = option_map_or (λ (at : Placed). is_filter at.step) place false ≡ true

-- what it gives, and the candidates of a filter
abbrev pub rows_of_place : StoreModel → Option Placed → (current : Ref) → (before rows : List Row) → List Verdict → List Row
rows_of_place known place current before rows verdicts = option_map_or (λ (at : Placed). step_rows known at current before rows verdicts) place []

abbrev pub candidates_of_place : StoreModel → Option Placed → (before : List Row) → List Ref
candidates_of_place known place before = option_map_or (λ (at : Placed). step_candidates known at before) place []
