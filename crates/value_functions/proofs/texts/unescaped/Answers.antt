use Rattle.std.proofs.Common.{arith}
use Rattle.std.proofs.lemmas.Grind.{common_steps}
use Rattle.value_functions.proofs.texts.unescaped.Goals as goal

pub returns-in_ok-text_tree-in-Ok : goal.returns-in_ok-text_tree-in-Ok
returns-in_ok-text_tree-in-Ok c = grind (arith, common_steps)
