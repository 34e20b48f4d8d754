use Rattle.std.proofs.lemmas.Grind.{common_steps}
use Rattle.std.proofs.Common.{◌≡◌, ◌+◌, ◌++◌, ◌∷◌, [], ap, sym, ◌∙◌, arith}
use Rattle.byte_lanes.specs.code.LineStarts.{after_newlines}
use Rattle.byte_lanes.proofs.Places.{after_newlines-add, after_newlines-hit, after_newlines-miss}
use Rattle.byte_lanes.proofs.lines.line_starts.Goals.{then-bytes-at-eq10+in_ok-push-2, else-bytes-at-eq10}
use Rattle.byte_lanes.proofs.lines.line_starts.Goals as goal

pub loop-at-preserved : goal.loop-at-preserved
loop-at-preserved c =
    let bytes = c.args.bytes.now in
    let at = c.loop-at.at in
    let here : 0 + at ≡ at = omega arith in (
      omega arith,
      c.in_ok-push_starts.ensures ∙ ap (λ r. r ++ after_newlines bytes at 64) c.loop-at.invariant.1
          ∙ ap (λ r. 0 ∷ r) (ap (λ i. after_newlines bytes 0 at ++ after_newlines bytes i 64) (sym here) ∙ sym (after_newlines-add bytes 0 at 64)),
    )

pub loop-at-2-preserved : goal.loop-at-2-preserved
loop-at-2-preserved c =
    let bytes = c.args.bytes.now in
    let at = c.loop-at-2.at in (
      omega arith,
      elim c.if-bytes-at-eq10.branch [
        | then-bytes-at-eq10+in_ok-push-2 w ↦
            ap (λ v. v.items) w.starts-is ∙ w.in_ok-push-2.ensures.items
            ∙ ap (λ r. r ++ (at + 1) ∷ []) c.loop-at-2.invariant.1
            ∙ ap (λ r. 0 ∷ r) (sym (after_newlines-hit bytes at w.if-bytes-at-eq10.true))
        | else-bytes-at-eq10 w ↦
            ap (λ v. v.items) w.starts-is ∙ c.loop-at-2.invariant.1
            ∙ ap (λ r. 0 ∷ r) (sym (after_newlines-miss bytes at w.if-bytes-at-eq10.false))
      ],
    )

pub overflow_add-count_byte : goal.overflow_add-count_byte
overflow_add-count_byte c = grind (arith, common_steps)
