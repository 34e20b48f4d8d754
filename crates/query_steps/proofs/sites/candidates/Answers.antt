use Rattle.std.proofs.Common.{◌≡◌, ap, sym, ◌∙◌, subst, Option, Vec, Global}
use Rattle.std.proofs.lemmas.Result.{IfOk-weaker}
use Rattle.guard_syntax.specs.Syntax.{File}
use Rattle.guard_syntax.specs.declared.row.Ref.{Ref}
use Rattle.value_store.specs.code.Stores.{see_store}
use Rattle.rule_meaning.specs.Places.{Placed, candidates_at, step_at}
use Rattle.query_steps.specs.code.Placed.{FiltersAt, candidates_of_place, see_place}
use Rattle.query_steps.proofs.sites.candidates.Goals as goal

pub placed_candidates-requires-clause-filter : goal.placed_candidates-requires-clause-filter
placed_candidates-requires-clause-filter c = subst FiltersAt c.place_of.ensures c.requires.filter

pub returns-clause-candidates : goal.returns-clause-candidates
returns-clause-candidates c =
    let k = see_store c.args.store.now in
    let place = see_place c.place_of.result in
    let at = ap (λ (f : File). step_at f c.args.site) c.requires.file ∙ c.place_of.ensures in
    IfOk-weaker c.placed_candidates.result (λ (refs : Vec Ref Global). refs.items ≡ candidates_of_place k place c.args.before.now)
    (λ (refs : Vec Ref Global). refs.items ≡ candidates_at k c.args.site c.args.before.now)
    (λ refs are. are ∙ sym (ap (λ (o : Option Placed). candidates_of_place k o c.args.before.now) at)) c.placed_candidates.ensures.candidates

pub returns-clause-no_memory : goal.returns-clause-no_memory
returns-clause-no_memory c none =
    let k = see_store c.args.store.now in
    let at = ap (λ (f : File). step_at f c.args.site) c.requires.file ∙ c.place_of.ensures in
    c.placed_candidates.ensures.no_memory (sym (ap (λ (o : Option Placed). candidates_of_place k o c.args.before.now) at) ∙ none)
