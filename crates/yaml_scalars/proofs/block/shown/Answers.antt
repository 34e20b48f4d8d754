use Rattle.std.proofs.Common.{◌≡◌, ℕ, List, ◌+◌, get_or, arith, sym, ◌∙◌, ap, cond, false}
use Rattle.std.specs.Prelude.{nat_eq, ◌&&◌}
use Rattle.std.proofs.lemmas.Bool.Decides.{nat_tests}
use Rattle.yaml_scalars.specs.Lines.{begins_with}
use Rattle.yaml_scalars.specs.Block.{may_end}
use Rattle.yaml_scalars.proofs.BlockLines.{no_second, shown_is}
use Rattle.yaml_scalars.proofs.block.shown.Goals.{else-bytes-place-eq13-via-then-bytes-place-eq13+else-may_end, else-bytes-place-eq13-via-else-bytes-place-eq13}
use Rattle.yaml_scalars.proofs.block.shown.Goals as goal

pub returns-then-ends_line-clause-place : goal.returns-then-ends_line-clause-place
returns-then-ends_line-clause-place c =
    let mark = c.mark_len-mark.result in
    let place = c.args.start + c.whites.result + mark in
    sym (shown_is c.args.bytes.now c.args.start place mark c.mark_len-mark.ensures.count (omega (arith, c.whites.ensures.count)) ∙ ap (λ (t : List ℕ). cond (begins_with 13 t && may_end mark) (place + 1) place) (c.ends_line.ensures.over c.if-ends_line.true))

pub returns-then-may_end-clause-place : goal.returns-then-may_end-clause-place
returns-then-may_end-clause-place c =
    let mark = c.mark_len-mark.result in
    let place = c.args.start + c.whites.result + mark in
    sym (shown_is c.args.bytes.now c.args.start place mark c.mark_len-mark.ensures.count (omega (arith, c.whites.ensures.count))
    ∙ ap (λ (t : List ℕ). cond (begins_with 13 t && may_end mark) (place + 1) place) (c.ends_line.ensures.more c.if-ends_line.false).1
    ∙ ap (λ (b : ℕ). cond (nat_eq b 13 && may_end mark) (place + 1) place) c.if-bytes-place-eq13.true
    ∙ ap (λ q. cond q (place + 1) place) (sym c.may_end.ensures ∙ c.if-may_end.true))

pub returns-clause-place : goal.returns-clause-place
returns-clause-place c =
    let mark = c.mark_len-mark.result in
    let place = c.args.start + c.whites.result + mark in
    let byte = get_or c.args.bytes.now place 0 in
    let others : (nat_eq byte 13 && may_end mark) ≡ false = elim c.else-bytes-place-eq13.branch [
      | else-bytes-place-eq13-via-then-bytes-place-eq13+else-may_end w ↦ no_second (nat_eq byte 13) (may_end mark) (sym w.may_end.ensures ∙ w.if-may_end.false)
      | else-bytes-place-eq13-via-else-bytes-place-eq13 w ↦ (let other : nat_eq byte 13 ≡ false = grind (arith, nat_tests, w.if-bytes-place-eq13.false) in ap (λ q. q && may_end mark) other)
    ] in
    sym (shown_is c.args.bytes.now c.args.start place mark c.mark_len-mark.ensures.count (omega (arith, c.whites.ensures.count))
    ∙ ap (λ (t : List ℕ). cond (begins_with 13 t && may_end mark) (place + 1) place) (c.ends_line.ensures.more c.if-ends_line.false).1
    ∙ ap (λ q. cond q (place + 1) place) others)
