use Rattle.std.proofs.Common.{refl}
use Rattle.name_resolution.proofs.HomesInTurn.{of_rules, rules-next, end}
use Rattle.name_resolution.proofs.homes.walk.in_rules.Goals as goal

pub loop-rule-preserved : goal.loop-rule-preserved
loop-rule-preserved c =
    rules-next c.args.home c.args.rules.now c.loop-rule.rule-index c.rule-item.result _ c.loop-rule.table c.note.new.table c.in_opt_conds.new.table c.in_body.new.table
    c.loop-rule-test.true c.rule-item.is c.note.ensures c.in_opt_conds.ensures c.in_body.ensures c.loop-rule.invariant

pub returns : goal.returns
returns c = end (of_rules c.args.home) refl c.args.rules.now c.loop-rule.rule-index _ c.loop-rule.table c.loop-rule-test.false c.loop-rule.invariant
