use Rattle.std.proofs.Common.{List, arith, map}
use Rattle.guard_syntax.specs.code.Seen.{see_rule}
use Rattle.guard_syntax.specs.declared.syntax.Rule.{Rule}
use Rattle.name_table.specs.code.Measured.{Measured}
use Rattle.name_table.specs.code.Measures.{depth_rules, file_of, known_of}
use Rattle.rule_names.specs.Pieces.{pieces_rules}
use Rattle.name_table.proofs.DeepTables.{rules-next}
use Rattle.name_table.proofs.Measuring.{measured-none}
use Rattle.name_table.proofs.MeasuredParts.{all-walked}
use Rattle.name_table.proofs.depths.of_rules.Goals as goal

pub loop-rule-init : goal.loop-rule-init
loop-rule-init c = measured-none (file_of c.args.measure.now) (known_of c.args.measure.now) c.args.table.now

pub loop-rule-preserved : goal.loop-rule-preserved
loop-rule-preserved c =
    rules-next (file_of c.args.measure.now) (known_of c.args.measure.now) c.args.rules.now c.loop-rule.rule-index c.rule-item.result c.args.table.now c.loop-rule.table c.of_rule.new.table _ _ _
    c.loop-rule-test.true c.rule-item.is c.loop-rule.invariant c.of_rule.ensures c.larger-depth.ensures

pub returns : goal.returns
returns c =
    all-walked (file_of c.args.measure.now) (known_of c.args.measure.now)
    (λ (xs : List Rule). Measured (file_of c.args.measure.now) (known_of c.args.measure.now) (pieces_rules (map see_rule xs)) (depth_rules (file_of c.args.measure.now) (known_of c.args.measure.now) (map see_rule xs)) c.args.table.now c.loop-rule.table c.loop-rule.depth)
    c.args.rules.now c.loop-rule.rule-index (omega arith) c.loop-rule.invariant
