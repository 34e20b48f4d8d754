use Rattle.std.proofs.Common.{arith}
use Rattle.std.proofs.lemmas.Grind.{common_steps}
use Rattle.report_text.proofs.lined.Lined.place.Goals as goal

pub returns-else-at-size-clause-column : goal.returns-else-at-size-clause-column
returns-else-at-size-clause-column c = grind (arith, common_steps)

pub returns-else-at-size-clause-line : goal.returns-else-at-size-clause-line
returns-else-at-size-clause-line c = grind (arith, common_steps)
