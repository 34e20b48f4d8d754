use Rattle.std.proofs.lemmas.Grind.{common_steps}
use Rattle.std.proofs.Common.{◌^◌, arith}
use Rattle.decimals.proofs.NumberValue.{high_power, times_more}
use Rattle.decimals.proofs.number.raised.Goals as goal

pub returns-then-by-ge18 : goal.returns-then-by-ge18
returns-then-by-ge18 c =
    let far = high_power c.args.by (omega arith) in
    let more = times_more c.args.kept (10 ^ c.args.by) (omega arith) in
    omega arith

pub of-requires : goal.of-requires
of-requires c = grind (arith, common_steps)
