use Rattle.std.proofs.lemmas.Grind.{common_steps}
use Rattle.std.proofs.Common.{◌<◌, length, sym, ◌∙◌, arith}
use Rattle.decimals.proofs.NumberValue.{number-drop, digit_at}
use Rattle.decimals.proofs.number.with_digits.Goals as goal

pub loop-byte-preserved : goal.loop-byte-preserved
loop-byte-preserved c =
    let i = c.loop-byte.invariant in
    let l : c.loop-byte.byte-index < length c.args.digits.now = omega arith in
    let d = digit_at c.loop-byte.byte-index c.args.digits.now i.0 l in
    let few = i.1 in
    (d.1, omega (arith, c.with_digit-now.ensures.few), λ m h. let n = i.2 m h in (_, c.with_digit-now.ensures.held n.0 n.1, sym (number-drop n.0 c.loop-byte.byte-index c.args.digits.now l) ∙ n.2))

pub overflow_sub-byte : goal.overflow_sub-byte
overflow_sub-byte c = grind (arith, common_steps)

pub returns-clause-held : goal.returns-clause-held
returns-clause-held c = grind (arith, common_steps)

pub with_digit-now-requires-clause-digit : goal.with_digit-now-requires-clause-digit
with_digit-now-requires-clause-digit c = grind (arith, common_steps)
