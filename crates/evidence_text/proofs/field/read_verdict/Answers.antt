use Rattle.std.proofs.Common.{arith}
use Rattle.std.proofs.lemmas.Grind.{common_steps}
use Rattle.evidence_text.proofs.field.read_verdict.Goals as goal

pub returns-in-F : goal.returns-in-F
returns-in-F c = grind (arith, common_steps)

pub returns-in-P : goal.returns-in-P
returns-in-P c = grind (arith, common_steps)

pub returns-in-S : goal.returns-in-S
returns-in-S c = grind (arith, common_steps)
