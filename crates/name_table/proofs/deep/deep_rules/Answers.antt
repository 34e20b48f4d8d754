use Rattle.std.proofs.Common.{arith}
use Rattle.name_table.specs.code.Measures.{file_of, known_of}
use Rattle.name_scopes.specs.code.Seen.{see_best}
use Rattle.name_table.proofs.DeepFaults.{rules-next, rules-end}
use Rattle.name_table.proofs.deep.deep_rules.Goals as goal

pub loop-rule-preserved : goal.loop-rule-preserved
loop-rule-preserved c =
    rules-next (file_of c.args.measure.now) (known_of c.args.measure.now) c.args.rules.now c.loop-rule.rule-index c.rule-item.result c.of_rule-depth.result _ (see_best c.loop-rule.best) (see_best c.deep_if-best.result)
    c.loop-rule-test.true c.rule-item.is c.of_rule-depth.ensures.value c.deep_if-best.ensures c.loop-rule.invariant

pub returns : goal.returns
returns c = rules-end (file_of c.args.measure.now) (known_of c.args.measure.now) c.args.rules.now c.loop-rule.rule-index _ (see_best c.loop-rule.best) (omega arith) c.loop-rule.invariant
