use Rattle.std.proofs.Common.{arith}
use Rattle.std.proofs.lemmas.Grind.{common_steps}
use Rattle.evidence_text.proofs.field.read_row.Goals as goal

pub returns-in-109 : goal.returns-in-109
returns-in-109 c = grind (arith, common_steps)

pub returns-in_err-read_place-in-117 : goal.returns-in_err-read_place-in-117
returns-in_err-read_place-in-117 c = grind (arith, common_steps)

pub returns-in_ok-read_place-in-117 : goal.returns-in_ok-read_place-in-117
returns-in_ok-read_place-in-117 c = grind (arith, common_steps)
