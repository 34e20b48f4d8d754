use Rattle.std.proofs.Common.{arith}
use Rattle.std.proofs.lemmas.Grind.{common_steps}
use Rattle.json_reader.proofs.Refuses.{no_tree}
use Rattle.value_functions.proofs.texts.parsed.Goals as goal

pub returns-in_default : goal.returns-in_default
returns-in_default c = λ tree is. no_tree c.args.text.now c.in-Err.refusal tree (c.in-Err.ensures.answer c.in_default.not-NoMemory) is.1

pub returns-in_ok-detach-in-Ok : goal.returns-in_ok-detach-in-Ok
returns-in_ok-detach-in-Ok c = grind (arith, common_steps)
