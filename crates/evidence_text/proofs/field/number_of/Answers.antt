use Rattle.std.proofs.Common.{◌≡◌, true, get_or, arith, ◌∙◌}
use Rattle.std.specs.Char.{is_ascii_digit}
use Rattle.std.proofs.lemmas.List.Folds.{list_all_more}
use Rattle.std.proofs.lemmas.Bool.{and_from}
use Rattle.evidence_text.proofs.Numbers.{one_more, sum_too_great, ten_too_great}
use Rattle.evidence_text.proofs.field.number_of.Goals as goal

pub returns-in_err-checked_mul : goal.returns-in_err-checked_mul
returns-in_err-checked_mul c =
    let digit : is_ascii_digit (get_or c.args.digits.now c.loop-digit.digit-index 0) ≡ true = grind (arith, c.is_ascii_digit.ensures.value, c.if-not-is_ascii_digit.false) in
    rw c.from_residual.ensures (ten_too_great c.args.digits.now c.loop-digit.digit-index c.loop-digit.number (omega arith) digit c.loop-digit.invariant.value c.in_err-checked_mul.ensures)

pub returns-in_err-number : goal.returns-in_err-number
returns-in_err-number c =
    let digit : is_ascii_digit (get_or c.args.digits.now c.loop-digit.digit-index 0) ≡ true = grind (arith, c.is_ascii_digit.ensures.value, c.if-not-is_ascii_digit.false) in
    rw c.from_residual-in_err-number.ensures (
    sum_too_great c.args.digits.now c.loop-digit.digit-index c.loop-digit.number c.in_ok-checked_mul.field-0 c.from.result (omega arith) digit
    c.loop-digit.invariant.value c.in_ok-checked_mul.ensures.1 c.from.ensures c.in_err-number.ensures
    )

pub loop-digit-preserved : goal.loop-digit-preserved
loop-digit-preserved c =
    let digit : is_ascii_digit (get_or c.args.digits.now c.loop-digit.digit-index 0) ≡ true = grind (arith, c.is_ascii_digit.ensures.value, c.if-not-is_ascii_digit.false) in
    let sum = c.in_ok-number.ensures in
    record {
      digits = list_all_more is_ascii_digit c.args.digits.now c.loop-digit.digit-index 0 (omega arith) ∙ and_from _ _ c.loop-digit.invariant.digits digit;
      value = sum.1 ∙ one_more c.args.digits.now c.loop-digit.digit-index c.loop-digit.number c.in_ok-checked_mul.field-0 c.from.result (omega arith) digit
          c.loop-digit.invariant.value c.in_ok-checked_mul.ensures.1 c.from.ensures;
      small = rw sum.1 sum.0;
    }
