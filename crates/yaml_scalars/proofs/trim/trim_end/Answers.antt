use Rattle.std.proofs.lemmas.Grind.{common_steps}
use Rattle.std.proofs.Common.{◌≤◌, length, arith, sym, ◌∙◌}
use Rattle.yaml_scalars.proofs.Trimmed.{part_stays, part_falls}
use Rattle.yaml_scalars.proofs.trim.trim_end.Goals as goal

pub returns-then-not-is_white-clause-part : goal.returns-then-not-is_white-clause-part
returns-then-not-is_white-clause-part c =
    let l : c.loop-end.end ≤ length c.args.bytes.now = omega arith in
    sym (part_stays c.args.bytes.now c.args.start c.loop-end.end c.loop-end-test.true l (sym c.is_white.ensures ∙ c.if-not-is_white.true)) ∙ c.loop-end.invariant.3

pub loop-end-preserved : goal.loop-end-preserved
loop-end-preserved c =
    let l : c.loop-end.end ≤ length c.args.bytes.now = omega arith in
    (omega arith, omega arith, (λ h. sym c.is_white.ensures ∙ c.if-not-is_white.false), sym (part_falls c.args.bytes.now c.args.start c.loop-end.end c.loop-end-test.true l (sym c.is_white.ensures ∙ c.if-not-is_white.false)) ∙ c.loop-end.invariant.3)

pub returns-then-not-is_white-clause-edge : goal.returns-then-not-is_white-clause-edge
returns-then-not-is_white-clause-edge c = grind (arith, common_steps)
