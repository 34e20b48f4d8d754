use Rattle.std.proofs.Common.{arith}
use Rattle.std.proofs.lemmas.Grind.{common_steps}
use Rattle.yaml_scalars.proofs.header.with_digit.Goals as goal

pub returns-clause-line : goal.returns-clause-line
returns-clause-line c = grind (arith, common_steps)

pub returns-clause-seen : goal.returns-clause-seen
returns-clause-seen c = grind (arith, common_steps)

pub returns-clause-within : goal.returns-clause-within
returns-clause-within c = grind (arith, common_steps)

pub bounds-bytes-header : goal.bounds-bytes-header
bounds-bytes-header c = grind (arith, common_steps)

pub overflow_sub-digit : goal.overflow_sub-digit
overflow_sub-digit c = grind (arith, common_steps)
