use Rattle.std.proofs.lemmas.Grind.{common_steps}
use Rattle.std.proofs.Common.{◌+◌, ◌<◌, length, arith}
use Rattle.yaml_scalars.proofs.EscapeValues.{meaning_so, pair_is}
use Rattle.yaml_scalars.proofs.escape.pair_at.Goals as goal

pub returns-clause-is : goal.returns-clause-is
returns-clause-is c =
    let l : c.args.at + 6 < length c.args.bytes.now = omega arith in
    meaning_so _ _ c.low_at.result (pair_is c.args.bytes.now c.args.at c.args.high l c.if-bytes-at-ne92.false c.if-bytes-at-ne117.false) c.low_at.ensures.is

pub returns-then-at-bytes-2-clause-is : goal.returns-then-at-bytes-2-clause-is
returns-then-at-bytes-2-clause-is c = grind (arith, common_steps)

pub returns-then-at-bytes-clause-is : goal.returns-then-at-bytes-clause-is
returns-then-at-bytes-clause-is c = grind (arith, common_steps)
