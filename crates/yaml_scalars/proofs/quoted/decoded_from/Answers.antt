use Rattle.std.proofs.Common.{◌≡◌, length, arith, sym, subst, ◌∙◌}
use Rattle.std.specs.Prelude.{string_bytes, Ok}
use Rattle.yaml_scalars.specs.declared.quoted.Step.{Step}
use Rattle.yaml_scalars.specs.Lines.{Outcome}
use Rattle.yaml_scalars.specs.code.QuotedSteps.{from, Steps, IsRefused}
use Rattle.yaml_scalars.proofs.QuotedRuns.{from_end}
use Rattle.yaml_scalars.proofs.quoted.decoded_from.Goals as goal

pub returns : goal.returns
returns c =
    let e : c.loop-at.at ≡ length c.args.text.now = omega arith in
    c.loop-at.invariant.3 ∙ from_end c.args.style.now.quote c.args.style.now.one_line c.args.text.now c.loop-at.at (string_bytes c.loop-at.decoded) e

pub loop-at-preserved : goal.loop-at-preserved
loop-at-preserved c =
    let text = c.args.text.now in
    let at = c.loop-at.at in
    let quote = c.args.style.now.quote in
    let one_line = c.args.style.now.one_line in
    let before = c.loop-at.invariant in
    let g = subst (λ (s : Step). Steps (from quote one_line text at (string_bytes c.loop-at.decoded)) quote one_line text at (string_bytes c.read_piece.new.decoded) (Ok s)) c.in-Further.is c.in-Ok.ensures in
    (omega (arith, g.1, before.0), g.2, g.3, before.3 ∙ g.0)

pub returns-in-Closed : goal.returns-in-Closed
returns-in-Closed c =
    let text = c.args.text.now in
    let at = c.loop-at.at in
    let quote = c.args.style.now.quote in
    let one_line = c.args.style.now.one_line in
    let before = c.loop-at.invariant in
    let g = subst (λ (s : Step). Steps (from quote one_line text at (string_bytes c.loop-at.decoded)) quote one_line text at (string_bytes c.read_piece.new.decoded) (Ok s)) c.in-Closed.is c.in-Ok.ensures in
    (before.3 ∙ g.0, omega (arith, g.1, before.0), g.2, g.3)

pub returns-in-Err : goal.returns-in-Err
returns-in-Err c = subst (λ (o : Outcome). IsRefused o c.in-Err.refusal) (sym c.loop-at.invariant.3) c.in-Err.ensures
