use Rattle.std.proofs.Common.{◌≡◌, ℕ, ◌-◌, take, drop, get_or, inl, inr, ap, ◌∙◌, arith, false}
use Rattle.std.specs.Prelude.{nat_eq}
use Rattle.std.proofs.lemmas.Bool.Decides.{nat_tests}
use Rattle.yaml_scalars.specs.Lines.{ends_with}
use Rattle.yaml_scalars.specs.Plain.{plain_len}
use Rattle.yaml_scalars.specs.code.Walk.{line_at}
use Rattle.yaml_scalars.proofs.FurtherLines.{plain_le, shown_before, shown_behind, last_byte}
use Rattle.yaml_scalars.proofs.plain_line.return_shown.Goals.{else-not-flow-via-then-not-flow+then-begin-stop+else-bytes-stop-eq58, else-not-flow-via-then-not-flow+else-begin-stop, else-not-flow-via-else-not-flow}
use Rattle.yaml_scalars.proofs.plain_line.return_shown.Goals as goal

pub returns-then-bytes-stop-eq58-clause-place : goal.returns-then-bytes-stop-eq58-clause-place
returns-then-bytes-stop-eq58-clause-place c =
    let bytes = c.args.bytes.now in
    let part = line_at (drop c.args.begin bytes) in
    let n = plain_len c.args.flow false part in
    let last = last_byte 58 bytes c.args.begin c.args.stop n c.requires.order (plain_le c.args.flow false part) c.if-begin-stop.true ∙ ap (λ (b : ℕ). nat_eq b 58) c.if-bytes-stop-eq58.true in
    shown_before c.args.flow part c.args.begin c.args.stop c.requires.order c.if-not-flow.true last

pub returns-clause-place : goal.returns-clause-place
returns-clause-place c =
    let bytes = c.args.bytes.now in
    let part = line_at (drop c.args.begin bytes) in
    let n = plain_len c.args.flow false part in
    shown_behind c.args.flow part c.args.begin c.args.stop c.requires.order (elim c.else-not-flow.branch [
      | else-not-flow-via-then-not-flow+then-begin-stop+else-bytes-stop-eq58 w ↦ inr (last_byte 58 bytes c.args.begin c.args.stop n c.requires.order (plain_le c.args.flow false part) w.if-begin-stop.true ∙ (let other : nat_eq (get_or bytes (c.args.stop - 1) 0) 58 ≡ false = grind (arith, nat_tests, w.if-bytes-stop-eq58.false) in other))
      | else-not-flow-via-then-not-flow+else-begin-stop w ↦ inr (let e : n ≡ 0 = omega (arith, c.requires.order, w.if-begin-stop.false) in ap (λ k. ends_with 58 (take k part)) e)
      | else-not-flow-via-else-not-flow w ↦ inl w.if-not-flow.false
    ])
