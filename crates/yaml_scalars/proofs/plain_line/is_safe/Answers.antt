use Rattle.std.proofs.Common.{arith}
use Rattle.std.proofs.lemmas.Grind.{common_steps}
use Rattle.yaml_scalars.proofs.plain_line.is_safe.Goals as goal

pub returns-then-not-is_unsafe : goal.returns-then-not-is_unsafe
returns-then-not-is_unsafe c = grind (arith, common_steps)

pub bounds-bytes-at : goal.bounds-bytes-at
bounds-bytes-at c = grind (arith, common_steps)
