use Rattle.std.proofs.Common.{refl, map}
use Rattle.rule_names.specs.code.Seen.{see_piece}
use Rattle.rule_names.proofs.PiecesNoted.{of_rules, rules-next, end}
use Rattle.rule_names.proofs.piece_table.walk.in_rules.Goals as goal

pub loop-rule-preserved : goal.loop-rule-preserved
loop-rule-preserved c =
    rules-next c.args.rules.now c.loop-rule.rule-index c.rule-item.result _ (map see_piece c.loop-rule.table.items) (map see_piece c.note.new.table.items) (map see_piece c.in_opt_conds.new.table.items)
    (map see_piece c.in_body.new.table.items) c.loop-rule-test.true c.rule-item.is c.note.ensures c.in_opt_conds.ensures c.in_body.ensures c.loop-rule.invariant

pub returns : goal.returns
returns c = end of_rules refl c.args.rules.now c.loop-rule.rule-index _ (map see_piece c.loop-rule.table.items) c.loop-rule-test.false c.loop-rule.invariant
