use Rattle.std.proofs.Common.{arith}
use Rattle.std.proofs.lemmas.Grind.{common_steps}
use Rattle.guard_words.proofs.reading.take_word.Goals as goal

pub returns : goal.returns
returns c = grind (arith, common_steps)

pub returns-in-Some : goal.returns-in-Some
returns-in-Some c = grind (arith, common_steps)

pub returns-in_default-kind_of : goal.returns-in_default-kind_of
returns-in_default-kind_of c = grind (arith, common_steps)

pub returns-then-is_given : goal.returns-then-is_given
returns-then-is_given c = grind (arith, common_steps)
