use Rattle.std.proofs.Common.{arith}
use Rattle.std.proofs.lemmas.Grind.{common_steps}
use Rattle.guard_syntax.specs.declared.row.Row.TheVariants.{Found}
use Rattle.query_steps.proofs.LoopRows.{mapped-more}
use Rattle.query_steps.proofs.steps.push_each.Goals as goal

pub loop-value-preserved : goal.loop-value-preserved
loop-value-preserved c =
    mapped-more Found c.args.values.now c.loop-value.value-index _ c.args.into.now.items c.loop-value.into.items c.push.new.self.items
    c.loop-value-test.true c.loop-value.invariant c.in_ok-push.ensures.items

pub returns : goal.returns
returns c = grind (arith, common_steps)
