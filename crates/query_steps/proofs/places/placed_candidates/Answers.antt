use Rattle.std.proofs.Common.{◌≡◌, ◌∙◌, Bool, ap, Vec, Global}
use Rattle.std.proofs.lemmas.Result.{IfOk-weaker}
use Rattle.guard_syntax.specs.declared.row.Ref.{Ref}
use Rattle.value_store.specs.code.Stores.{see_store}
use Rattle.rule_meaning.specs.Filters.{candidates_in}
use Rattle.query_steps.specs.code.Placed.{candidates_of_place, see_place}
use Rattle.query_steps.proofs.StepPlaces.{candidates-at, item-at}
use Rattle.query_steps.proofs.places.placed_candidates.Goals as goal

pub returns-clause-candidates : goal.returns-clause-candidates
returns-clause-candidates c =
    let k = see_store c.args.store.now in
    let item = item-at c.args.place.steps.now c.args.place.index c.args.place.within in
    let same = ap (λ (b : Bool). candidates_in k b c.args.before.now) c.is_after_key.ensures
    ∙ candidates-at k c.args.place.steps.now c.args.place.index item.0 c.args.place.within item.1 c.args.before.now c.requires.filter in
    IfOk-weaker c.filter_candidates.result (λ (refs : Vec Ref Global). refs.items ≡ candidates_in k c.is_after_key.result c.args.before.now)
    (λ (refs : Vec Ref Global). refs.items ≡ candidates_of_place k (see_place c.args.place) c.args.before.now) (λ refs are. are ∙ same) c.filter_candidates.ensures.candidates

pub returns-clause-no_memory : goal.returns-clause-no_memory
returns-clause-no_memory c none =
    let k = see_store c.args.store.now in
    let item = item-at c.args.place.steps.now c.args.place.index c.args.place.within in
    c.filter_candidates.ensures.no_memory (ap (λ (b : Bool). candidates_in k b c.args.before.now) c.is_after_key.ensures
    ∙ candidates-at k c.args.place.steps.now c.args.place.index item.0 c.args.place.within item.1 c.args.before.now c.requires.filter ∙ none)
