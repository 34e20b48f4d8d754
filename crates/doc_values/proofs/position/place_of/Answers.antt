use Rattle.std.proofs.Common.{◌≡◌, ◌+◌, ◌<◌, ◌==◌, false, length, get_or, ◌∙◌, ap, sym, arith}
use Rattle.std.proofs.lemmas.Bool.Decides.{nat_tests}
use Rattle.doc_values.proofs.Lines.{line-break, column-break, line-other, column-other}
use Rattle.doc_values.proofs.position.place_of.Goals.{then-bytes-i-eq10, else-bytes-i-eq10}
use Rattle.doc_values.proofs.position.place_of.Goals as goal

pub loop-i-preserved : goal.loop-i-preserved
loop-i-preserved c =
    let i = c.loop-i.invariant in
    let l : c.loop-i.i < length c.args.bytes.now = omega (arith, c.requires.within) in
    elim c.if-bytes-i-eq10.branch [
      | then-bytes-i-eq10 w ↦
          let e = w.if-bytes-i-eq10.true in
          let x = line-break c.args.bytes.now c.loop-i.i l e in
          let y = column-break c.args.bytes.now c.loop-i.i l e in
          (w.line-is ∙ ap (λ n. n + 1) i.0 ∙ sym x, w.column-is ∙ sym y, omega (arith, w.line-is, i.2), omega (arith, w.column-is))
      | else-bytes-i-eq10 w ↦
          let e : (get_or c.args.bytes.now c.loop-i.i 0 == 10) ≡ false = grind (arith, nat_tests, w.if-bytes-i-eq10.false) in
          let x = line-other c.args.bytes.now c.loop-i.i l e in
          let y = column-other c.args.bytes.now c.loop-i.i l e in
          (w.line-is ∙ i.0 ∙ sym x, w.column-is ∙ ap (λ n. n + 1) i.1 ∙ sym y, omega (arith, w.line-is, i.2), omega (arith, w.column-is, i.3))
    ]
