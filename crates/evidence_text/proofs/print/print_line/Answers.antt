use Rattle.std.proofs.Common.{arith}
use Rattle.std.proofs.lemmas.Grind.{common_steps}
use Rattle.evidence_text.proofs.print.print_line.Goals as goal

pub returns-clause-bounded : goal.returns-clause-bounded
returns-clause-bounded c = grind (arith, common_steps)

pub returns-clause-kept : goal.returns-clause-kept
returns-clause-kept c = grind (arith, common_steps)

pub returns-clause-printed : goal.returns-clause-printed
returns-clause-printed c = grind (arith, common_steps)
