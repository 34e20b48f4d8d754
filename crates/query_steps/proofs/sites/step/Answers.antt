use Rattle.std.proofs.Common.{◌≡◌, ap, sym, ◌∙◌, subst, length, Option, Vec, Global}
use Rattle.std.proofs.lemmas.Result.{IfOk-weaker}
use Rattle.guard_syntax.specs.Syntax.{File}
use Rattle.guard_syntax.specs.declared.row.Row.{Row}
use Rattle.value_store.specs.code.Books.{IsBookOf}
use Rattle.value_store.specs.code.Stores.{see_store}
use Rattle.rule_meaning.specs.Places.{Placed, rows_at_step, step_at}
use Rattle.query_steps.specs.code.Placed.{StartsAt, candidates_of_place, rows_of_place, see_place}
use Rattle.query_steps.proofs.sites.step.Goals as goal

pub placed_step-requires-clause-start : goal.placed_step-requires-clause-start
placed_step-requires-clause-start c begins = c.requires.start (subst StartsAt (sym c.place_of.ensures) begins)

pub placed_step-requires-clause-verdicts : goal.placed_step-requires-clause-verdicts
placed_step-requires-clause-verdicts c =
    let k = see_store c.args.store.now in
    let at = ap (λ (f : File). step_at f c.args.site) c.requires.file ∙ c.place_of.ensures in
    c.requires.verdicts ∙ ap (λ (o : Option Placed). length (candidates_of_place k o c.args.before.now)) at

pub placed_step-requires-clause-book : goal.placed_step-requires-clause-book
placed_step-requires-clause-book c = subst (λ (f : File). IsBookOf f c.args.book.now) (sym c.requires.file) c.requires.book

pub returns-clause-rows : goal.returns-clause-rows
returns-clause-rows c =
    let k = see_store c.args.store.now in
    let place = see_place c.place_of.result in
    let at = ap (λ (f : File). step_at f c.args.site) c.requires.file ∙ c.place_of.ensures in
    IfOk-weaker c.placed_step.result (λ (rows : Vec Row Global). rows.items ≡ rows_of_place k place c.args.current c.args.before.now c.args.rows.now c.args.verdicts.now)
    (λ (rows : Vec Row Global). rows.items ≡ rows_at_step k c.args.site c.args.current c.args.before.now c.args.rows.now c.args.verdicts.now)
    (λ rows are. are ∙ sym (ap (λ (o : Option Placed). rows_of_place k o c.args.current c.args.before.now c.args.rows.now c.args.verdicts.now) at)) c.placed_step.ensures.rows

pub returns-clause-no_memory : goal.returns-clause-no_memory
returns-clause-no_memory c later none =
    c.placed_step.ensures.no_memory (λ begins. later (subst StartsAt (sym c.place_of.ensures) begins)) none
