use Rattle.std.proofs.lemmas.Grind.{common_steps}
use Rattle.std.proofs.Common.{length, ap, ◌∙◌, arith}
use Rattle.std.specs.List.{flat_map, list_all}
use Rattle.std.proofs.lemmas.List.{take_all}
use Rattle.guard_syntax.specs.code.Seen.{see_step}
use Rattle.rule_meaning.specs.StoreModel.{is_known}
use Rattle.value_store.specs.code.Stores.{see_store}
use Rattle.rule_meaning.specs.Steps.{found_step, on_found}
use Rattle.query_steps.proofs.KnownRows.{rows-known}
use Rattle.query_steps.proofs.LoopRows.{given-more}
use Rattle.query_steps.proofs.steps.rows_of_step.Goals as goal

pub loop-row-preserved : goal.loop-row-preserved
loop-row-preserved c =
    given-more (on_found (found_step (see_store c.args.context.store.now) c.args.ready.last c.args.ready.further.now (see_step c.args.ready.step.now))) c.args.before.now c.loop-row.row-index _ c.loop-row.given.items c.push_row.new.into.items
    c.loop-row-test.true c.loop-row.invariant c.in_ok-push_row.ensures

pub returns-in_err-push_row-clause-no_memory : goal.returns-in_err-push_row-clause-no_memory
returns-in_err-push_row-clause-no_memory c = λ none. absurd (omega (arith, c.loop-row-test.true, ap length none))

pub returns-in_err-reserve-clause-no_memory : goal.returns-in_err-reserve-clause-no_memory
returns-in_err-reserve-clause-no_memory c = λ none. absurd (omega (arith, ap length none, c.in_err-reserve.ensures.full))

pub returns-clause-known : goal.returns-clause-known
returns-clause-known c =
    let k = see_store c.args.context.store.now in
    let step = see_step c.args.ready.step.now in
    let given = on_found (found_step k c.args.ready.last c.args.ready.further.now step) in
    ap (list_all (is_known k)) (c.loop-row.invariant ∙ ap (flat_map given) (take_all c.loop-row.row-index c.args.before.now c.loop-row-test.false))
    ∙ rows-known k c.args.ready.last c.args.ready.further.now c.requires.further step c.args.before.now c.requires.before

pub returns-clause-rows : goal.returns-clause-rows
returns-clause-rows c = grind (arith, common_steps)
