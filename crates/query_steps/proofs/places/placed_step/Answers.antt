use Rattle.std.proofs.Common.{◌≡◌, ◌∷◌, [], List, Bool, length, ap, sym, ◌∙◌, Vec, Global, Result, IfOk}
use Rattle.std.proofs.lemmas.Result.{IfOk-weaker}
use Rattle.std.specs.List.{flat_map}
use Rattle.std.specs.declared.alloc.AllocError.{AllocError}
use Rattle.guard_syntax.specs.code.Seen.{see_step}
use Rattle.guard_syntax.specs.declared.row.Row.{Row}
use Rattle.guard_syntax.specs.declared.row.Row.TheVariants.{Found}
use Rattle.value_store.specs.code.Stores.{see_store}
use Rattle.rule_meaning.specs.Filters.{candidates_in, filtered}
use Rattle.rule_meaning.specs.Steps.{found_step, on_found}
use Rattle.query_steps.specs.code.Placed.{rows_of_place, see_place}
use Rattle.query_steps.proofs.StepPlaces.{candidates-of-filter, rows-of-start, rows-of-filter, rows-of-other, start-there}
use Rattle.query_steps.proofs.places.placed_step.Goals as goal

given-so : (r : Result (Vec Row Global) AllocError) (a b : List Row) → a ≡ b → IfOk r (λ rows. rows.items ≡ a) → IfOk r (λ rows. rows.items ≡ b)
given-so r a b e h = IfOk-weaker r (λ (rows : Vec Row Global). rows.items ≡ a) (λ (rows : Vec Row Global). rows.items ≡ b) (λ rows are. are ∙ e) h

pub returns-then-index-eq0-clause-rows : goal.returns-then-index-eq0-clause-rows
returns-then-index-eq0-clause-rows c =
    let k = see_store c.args.store.now in
    let place = c.args.place in
    let input = c.args.input in
    let step = see_step c.index-steps-index.result in
    given-so c.rows_of_step.result (flat_map (on_found (found_step k c.is_last-last.result input.further.now step)) (Found input.current ∷ []))
    (rows_of_place k (see_place place) input.current input.before.now input.further.now input.verdicts.now)
    (ap (λ (last : Bool). flat_map (on_found (found_step k last input.further.now step)) (Found input.current ∷ [])) c.is_last-last.ensures
    ∙ rows-of-start k place.steps.now place.index c.index-steps-index.result c.args.place.within c.index-steps-index.is
    input.current input.before.now input.further.now input.verdicts.now c.if-index-eq0.true c.requires.start c.requires.verdicts)
    c.rows_of_step.ensures.rows

pub kept_rows-requires-clause-verdicts : goal.kept_rows-requires-clause-verdicts
kept_rows-requires-clause-verdicts c =
    let k = see_store c.args.store.now in
    let place = c.args.place in
    let input = c.args.input in
    c.requires.verdicts
    ∙ ap length (candidates-of-filter k place.steps.now place.index c.index-steps-index.result c.args.place.within c.index-steps-index.is
    input.before.now (sym c.is_filter.ensures ∙ c.if-is_filter.true)
    ∙ ap (λ (after_key : Bool). candidates_in k after_key input.before.now) (sym c.is_after_key-after_key.ensures))

pub returns-then-is_filter-clause-rows : goal.returns-then-is_filter-clause-rows
returns-then-is_filter-clause-rows c =
    let k = see_store c.args.store.now in
    let place = c.args.place in
    let input = c.args.input in
    given-so c.kept_rows.result (filtered k c.is_after_key-after_key.result input.before.now input.verdicts.now)
    (rows_of_place k (see_place place) input.current input.before.now input.further.now input.verdicts.now)
    (ap (λ (after_key : Bool). filtered k after_key input.before.now input.verdicts.now) c.is_after_key-after_key.ensures
    ∙ rows-of-filter k place.steps.now place.index c.index-steps-index.result c.args.place.within c.index-steps-index.is
    input.current input.before.now input.further.now input.verdicts.now c.if-index-eq0.false (sym c.is_filter.ensures ∙ c.if-is_filter.true))
    c.kept_rows.ensures.rows

pub returns-clause-rows : goal.returns-clause-rows
returns-clause-rows c =
    let k = see_store c.args.store.now in
    let place = c.args.place in
    let input = c.args.input in
    let step = see_step c.index-steps-index.result in
    given-so c.rows_of_step-2.result (flat_map (on_found (found_step k c.is_last-last.result input.further.now step)) input.before.now)
    (rows_of_place k (see_place place) input.current input.before.now input.further.now input.verdicts.now)
    (ap (λ (last : Bool). flat_map (on_found (found_step k last input.further.now step)) input.before.now) c.is_last-last.ensures
    ∙ rows-of-other k place.steps.now place.index c.index-steps-index.result c.args.place.within c.index-steps-index.is
    input.current input.before.now input.further.now input.verdicts.now c.if-index-eq0.false (sym c.is_filter.ensures ∙ c.if-is_filter.false))
    c.rows_of_step-2.ensures.rows

pub returns-then-index-eq0-clause-no_memory : goal.returns-then-index-eq0-clause-no_memory
returns-then-index-eq0-clause-no_memory c later none =
    let place = c.args.place in
    absurd (later (start-there (see_store c.args.store.now) place.steps.now place.index c.index-steps-index.result c.args.place.within c.index-steps-index.is c.if-index-eq0.true))
