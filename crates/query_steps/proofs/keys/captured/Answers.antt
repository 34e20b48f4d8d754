use Rattle.std.proofs.lemmas.Grind.{common_steps}
use Rattle.std.proofs.Common.{ap, sym, ◌∙◌, true≢false, arith}
use Rattle.std.specs.List.{flat_map, list_all}
use Rattle.std.proofs.lemmas.List.{take_all}
use Rattle.rule_meaning.specs.StoreModel.{is_known}
use Rattle.value_store.specs.code.Stores.{see_store}
use Rattle.rule_meaning.specs.Keys.{captured_row}
use Rattle.query_steps.proofs.EmptyLists.{item-empty}
use Rattle.query_steps.proofs.KnownRows.{keys-captured}
use Rattle.query_steps.proofs.LoopRows.{given-more}
use Rattle.query_steps.proofs.keys.captured.Goals as goal

pub loop-row-preserved : goal.loop-row-preserved
loop-row-preserved c =
    given-more (captured_row (see_store c.args.store.now)) c.args.rows.now c.loop-row.row-index _ c.loop-row.keys.items c.push_captured.new.keys.items
    c.loop-row-test.true c.loop-row.invariant c.in_ok-push_captured.ensures.keys

pub returns-clause-known : goal.returns-clause-known
returns-clause-known c =
    let k = see_store c.args.store.now in
    ap (list_all (is_known k)) (c.loop-row.invariant ∙ ap (flat_map (captured_row k)) (take_all c.loop-row.row-index c.args.rows.now c.loop-row-test.false))
    ∙ keys-captured k c.args.rows.now c.requires.known

pub returns-in_err-push_captured-clause-no_memory : goal.returns-in_err-push_captured-clause-no_memory
returns-in_err-push_captured-clause-no_memory c none =
    absurd (true≢false (sym (c.in_err-push_captured.ensures.no_memory (item-empty (captured_row (see_store c.args.store.now)) c.args.rows.now c.loop-row.row-index _ c.loop-row-test.true none))))

pub returns-clause-rows : goal.returns-clause-rows
returns-clause-rows c = grind (arith, common_steps)
