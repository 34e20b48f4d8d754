use Rattle.std.proofs.lemmas.Grind.{common_steps}
use Rattle.std.proofs.Common.{◌+◌, ◌<◌, length, drop, sym, ap, ◌∙◌, arith}
use Rattle.decimals.specs.Number.{number_behind}
use Rattle.decimals.specs.code.Reading.{cap}
use Rattle.decimals.proofs.NumberValue.{cap-behind, number-drop}
use Rattle.decimals.proofs.number.capped_number.Goals as goal

pub loop-byte-preserved : goal.loop-byte-preserved
loop-byte-preserved c =
    let s = c.capped_step-n.ensures in
    let l : c.loop-byte.byte-index < length c.args.digits.now = omega arith in
    (ap (λ x. cap (number_behind x (drop (c.loop-byte.byte-index + 1) c.args.digits.now))) s ∙ cap-behind _ (drop (c.loop-byte.byte-index + 1) c.args.digits.now) ∙ ap cap (sym (number-drop c.loop-byte.n c.loop-byte.byte-index c.args.digits.now l)) ∙ c.loop-byte.invariant.0, omega arith)

pub returns : goal.returns
returns c = grind (arith, common_steps)
