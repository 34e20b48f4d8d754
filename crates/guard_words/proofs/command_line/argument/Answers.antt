use Rattle.std.proofs.Common.{arith}
use Rattle.std.proofs.lemmas.Grind.{common_steps}
use Rattle.guard_words.proofs.command_line.argument.Goals as goal

pub returns-in-Flag-clause-rule : goal.returns-in-Flag-clause-rule
returns-in-Flag-clause-rule c = grind (arith, common_steps)
