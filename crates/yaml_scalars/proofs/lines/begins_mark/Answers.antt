use Rattle.std.proofs.lemmas.Grind.{common_steps}
use Rattle.std.proofs.Common.{sym, arith}
use Rattle.yaml_scalars.proofs.Places.{mark_short}
use Rattle.yaml_scalars.proofs.lines.begins_mark.Goals as goal

pub returns-then-bytes-start-lt3-clause-is : goal.returns-then-bytes-start-lt3-clause-is
returns-then-bytes-start-lt3-clause-is c = sym (mark_short c.args.bytes.now c.args.start c.if-bytes-start-lt3.true)

pub returns-clause-is : goal.returns-clause-is
returns-clause-is c = grind (arith, common_steps)

pub returns-then-bytes-start-clause-is : goal.returns-then-bytes-start-clause-is
returns-then-bytes-start-clause-is c = grind (arith, common_steps)

pub returns-then-first-ne46-clause-is : goal.returns-then-first-ne46-clause-is
returns-then-first-ne46-clause-is c = grind (arith, common_steps)
