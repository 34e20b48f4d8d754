use Rattle.std.proofs.lemmas.Grind.{common_steps}
use Rattle.std.proofs.Common.{[], arith}
use Rattle.rule_meaning.specs.Kinds.{has_type}
use Rattle.value_store.specs.code.Stores.{see_store}
use Rattle.query_steps.proofs.LoopRows.{kept-more}
use Rattle.query_steps.proofs.resources.typed_rows.Goals as goal

pub loop-value-preserved : goal.loop-value-preserved
loop-value-preserved c =
    kept-more (has_type (see_store c.args.store.now) c.args.name.now) c.args.values.now c.loop-value.value-index _ [] c.loop-value.rows.items c.push_if.new.into.items
    c.has_type.result c.loop-value-test.true c.has_type.ensures c.loop-value.invariant c.in_ok-push_if.ensures

pub returns : goal.returns
returns c = grind (arith, common_steps)
