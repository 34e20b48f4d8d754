use Rattle.std.proofs.lemmas.Grind.{common_steps}
use Rattle.std.proofs.Common.{take, ◌∙◌, arith}
use Rattle.value_store.specs.code.Stores.{see_store}
use Rattle.guard_builtins.proofs.Plain.{rows-plain}
use Rattle.guard_builtins.proofs.Rows.{rows-more}
use Rattle.guard_builtins.proofs.functions.rows_for.Goals as goal

pub loop-row-preserved : goal.loop-row-preserved
loop-row-preserved g c = record {
  rows = rows-more (g.C.ValueChange.changing c.loop-row.change) (g.C.ValueChange.changing c.args.change.now) (see_store c.args.store.now) c.args.site c.args.rows.now c.loop-row.row-index _ c.loop-row.made.items c.push.new.self.items c.in_ok-row_for.field-0
      c.loop-row.invariant.kept c.loop-row-test.true c.in_ok-push.ensures.items c.in_ok-row_for.ensures.row c.loop-row.invariant.rows;
  kept = c.row_for.ensures.kept ∙ c.loop-row.invariant.kept;
}

pub returns-clause-plain : goal.returns-clause-plain
returns-clause-plain g c = rows-plain (g.C.ValueChange.changing c.args.change.now) (see_store c.args.store.now) c.args.site (take c.loop-row.row-index c.args.rows.now) c.loop-row.made.items c.loop-row.invariant.rows

pub returns-clause-rows : goal.returns-clause-rows
returns-clause-rows g c = grind (arith, common_steps)
