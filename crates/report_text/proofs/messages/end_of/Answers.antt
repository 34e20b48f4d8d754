use Rattle.std.proofs.Common.{arith}
use Rattle.std.proofs.lemmas.Grind.{common_steps}
use Rattle.report_text.proofs.messages.end_of.Goals as goal

pub loop-end-init : goal.loop-end-init
loop-end-init c = grind (arith, common_steps)

pub loop-end-preserved : goal.loop-end-preserved
loop-end-preserved c = grind (arith, common_steps)

pub returns-then-not-is_white-clause-end : goal.returns-then-not-is_white-clause-end
returns-then-not-is_white-clause-end c = grind (arith, common_steps)
