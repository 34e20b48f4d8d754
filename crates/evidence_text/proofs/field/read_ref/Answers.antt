use Rattle.std.proofs.Common.{arith}
use Rattle.std.proofs.lemmas.Grind.{common_steps}
use Rattle.evidence_text.proofs.field.read_ref.Goals as goal

pub returns-in-100 : goal.returns-in-100
returns-in-100 c = grind (arith, common_steps)

pub returns-in-108 : goal.returns-in-108
returns-in-108 c = grind (arith, common_steps)

pub returns-in-99 : goal.returns-in-99
returns-in-99 c = grind (arith, common_steps)
