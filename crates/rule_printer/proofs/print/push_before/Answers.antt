use Rattle.std.proofs.Common.{arith}
use Rattle.std.proofs.lemmas.Grind.{common_steps}
use Rattle.rule_printer.proofs.print.push_before.Goals as goal

pub loop-at_rule-preserved : goal.loop-at_rule-preserved
loop-at_rule-preserved c = grind (arith, common_steps)

pub returns : goal.returns
returns c = grind (arith, common_steps)

pub returns-then-site-rule : goal.returns-then-site-rule
returns-then-site-rule c = grind (arith, common_steps)
