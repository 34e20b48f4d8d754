use Rattle.std.proofs.lemmas.Grind.{common_steps}
use Rattle.std.proofs.Common.{◌==◌, arith}
use Rattle.byte_lanes.proofs.Blocks.{count_by-block, range-chunk}
use Rattle.byte_lanes.proofs.count.count_byte.Goals as goal

pub loop-at-preserved : goal.loop-at-preserved
loop-at-preserved c =
    let bytes = c.args.bytes.now in
    let at = c.loop-at.at in
    let next = count_by-block (λ x. x == c.args.byte) at 32 bytes in
    (omega arith, omega (arith, next, rw range-chunk at c.count_in.ensures, c.loop-at.invariant.1))

pub overflow_add-total : goal.overflow_add-total
overflow_add-total c = grind (arith, common_steps)

pub overflow_add-total-then-x-byte : goal.overflow_add-total-then-x-byte
overflow_add-total-then-x-byte c = grind (arith, common_steps)

pub returns : goal.returns
returns c = grind (arith, common_steps)
