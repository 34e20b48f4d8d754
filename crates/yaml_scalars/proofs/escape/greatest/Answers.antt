use Rattle.std.proofs.Common.{◌≡◌, ◌+◌, ◌-◌, ◌*◌, ◌^◌, arith, ap, ◌∙◌}
use Rattle.yaml_scalars.specs.Quoted.{greatest}
use Rattle.yaml_scalars.proofs.EscapeDigits.{fits, one_more, greatest_next}
use Rattle.yaml_scalars.proofs.escape.greatest.Goals as goal

pub overflow_mul-value : goal.overflow_mul-value
overflow_mul-value c =
    let f = fits c.loop.value (8 - c.args.left + c.loop.counter) 0 c.loop.invariant.1 (omega arith) (omega arith) in
    omega arith

pub overflow_add-value : goal.overflow_add-value
overflow_add-value c =
    let f = fits c.loop.value (8 - c.args.left + c.loop.counter) 15 c.loop.invariant.1 (omega arith) (omega arith) in
    omega arith

pub loop-preserved : goal.loop-preserved
loop-preserved c =
    let digits : 8 - c.args.left + c.loop.counter + 1 ≡ 8 - c.args.left + (c.loop.counter + 1) = omega arith in
    let left : c.args.left - c.loop.counter - 1 ≡ c.args.left - (c.loop.counter + 1) = omega arith in
    let small = one_more c.loop.value (8 - c.args.left + c.loop.counter) 15 c.loop.invariant.1 (omega arith) in
    let power = ap (λ k. 16 ^ k) digits in (
      omega arith,
      omega (arith, small, power),
      c.loop.invariant.2 ∙ greatest_next (c.args.left - c.loop.counter) c.loop.value (omega arith) ∙ ap (λ k. greatest k (c.loop.value * 16 + 15)) left,
    )
