use Rattle.std.proofs.Common.{◌+◌, ◌≤◌, length, drop, arith, rules, sym, ◌∙◌, ap, add-one}
use Rattle.yaml_scalars.specs.declared.plain_line.Below.TheVariants.{Blank, Outside}
use Rattle.yaml_scalars.specs.code.Walk.{line_at}
use Rattle.yaml_scalars.specs.code.PlainSteps.{from}
use Rattle.yaml_scalars.proofs.LineParts.{line_within}
use Rattle.yaml_scalars.proofs.FurtherLines.{from_below, from_further, rest_ends, skip_le, byte_before}
use Rattle.yaml_scalars.proofs.plain.next_content.Goals as goal

pub returns-in-Outside-clause-rest : goal.returns-in-Outside-clause-rest
returns-in-Outside-clause-rest c = λ t e. c.loop-start.invariant.3 t e ∙ from_below c.args.setting c.args.bytes.now c.loop-start.line c.in-Some.start t e c.loop-start.blanks Outside c.in-Some.ensures.4 (sym c.below_at.ensures ∙ c.in-Outside.is)

pub loop-start-preserved : goal.loop-start-preserved
loop-start-preserved c = (
  omega (arith, c.loop-start.invariant.0, c.in-Some.ensures.1),
  c.in-Some.ensures.2,
  omega (arith, c.loop-start.invariant.2, c.in-Some.ensures.1),
  λ t e. c.loop-start.invariant.3 t e ∙ from_below c.args.setting c.args.bytes.now c.loop-start.line c.in-Some.start t e c.loop-start.blanks Blank c.in-Some.ensures.4 (sym c.below_at.ensures ∙ c.in-Blank.is) ∙ ap (λ n. from c.args.setting c.args.bytes.now c.in-Some.start t e n) (sym (add-one c.loop-start.blanks)),
)

pub overflow_add-begin : goal.overflow_add-begin
overflow_add-begin c =
    let l : c.in-Some.start + c.in-Further.skip ≤ length c.args.bytes.now = line_within c.args.bytes.now c.in-Some.start c.in-Further.skip c.in-Some.ensures.2 (skip_le c.args.setting (line_at (drop c.in-Some.start c.args.bytes.now)) c.in-Further.skip (sym c.below_at.ensures ∙ c.in-Further.is)) in
    search (rules, l)

pub ends_at_once-requires : goal.ends_at_once-requires
ends_at_once-requires c = line_within c.args.bytes.now c.in-Some.start c.in-Further.skip c.in-Some.ensures.2 (skip_le c.args.setting (line_at (drop c.in-Some.start c.args.bytes.now)) c.in-Further.skip (sym c.below_at.ensures ∙ c.in-Further.is))

pub returns-then-ends_at_once-clause-rest : goal.returns-then-ends_at_once-clause-rest
returns-then-ends_at_once-clause-rest c =
    λ t e. c.loop-start.invariant.3 t e
    ∙ from_further c.args.setting c.args.bytes.now c.loop-start.line c.in-Some.start c.in-Further.skip t e c.loop-start.blanks c.in-Some.ensures.4 (sym c.below_at.ensures ∙ c.in-Further.is)
    ∙ rest_ends c.args.setting c.args.bytes.now (c.in-Some.start + c.in-Further.skip) c.loop-start.blanks t e c.if-setting.true (c.ends_at_once.ensures c.if-ends_at_once.true)

pub returns-in-Further-clause-rest : goal.returns-in-Further-clause-rest
returns-in-Further-clause-rest c = λ t e. c.loop-start.invariant.3 t e ∙ from_further c.args.setting c.args.bytes.now c.loop-start.line c.in-Some.start c.in-Further.skip t e c.loop-start.blanks c.in-Some.ensures.4 (sym c.below_at.ensures ∙ c.in-Further.is)

pub returns-in-Further-clause-behind : goal.returns-in-Further-clause-behind
returns-in-Further-clause-behind c =
    let l = line_within c.args.bytes.now c.in-Some.start c.in-Further.skip c.in-Some.ensures.2 (skip_le c.args.setting (line_at (drop c.in-Some.start c.args.bytes.now)) c.in-Further.skip (sym c.below_at.ensures ∙ c.in-Further.is)) in (
      omega (arith, c.loop-start.invariant.0, c.in-Some.ensures.1),
      l,
      byte_before c.args.setting c.args.bytes.now c.in-Some.start c.in-Further.skip (omega (arith, c.in-Some.ensures.1)) c.in-Some.ensures.3 (sym c.below_at.ensures ∙ c.in-Further.is),
    )
