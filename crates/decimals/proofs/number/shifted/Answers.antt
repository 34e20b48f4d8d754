use Rattle.std.proofs.lemmas.Grind.{common_steps}
use Rattle.std.proofs.Common.{arith}
use Rattle.decimals.proofs.DecimalRange.{normal_near}
use Rattle.decimals.proofs.number.shifted.Goals as goal

pub returns-then-kept-ge-LIMIT : goal.returns-then-kept-ge-LIMIT
returns-then-kept-ge-LIMIT c = λ n. let near = normal_near c.args.minus c.args.kept c.args.up c.args.down (omega arith) n in let small = near.small in absurd (omega arith)

pub returns-then-down-up : goal.returns-then-down-up
returns-then-down-up c = grind (arith, common_steps)
