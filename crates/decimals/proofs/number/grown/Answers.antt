use Rattle.std.proofs.Common.{◌+◌, ◌^◌, arith}
use Rattle.decimals.proofs.NumberValue.{far_power, times_more}
use Rattle.decimals.proofs.number.grown.Goals as goal

pub returns-then-zeros-ge18 : goal.returns-then-zeros-ge18
returns-then-zeros-ge18 c =
    let far = far_power c.args.zeros (omega arith) in
    let more = times_more c.args.kept (10 ^ (c.args.zeros + 1)) (omega arith) in
    omega arith
