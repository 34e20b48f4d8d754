use Rattle.std.proofs.Common.{arith, ap, subst, ◌∙◌}
use Rattle.std.specs.Prelude.{string_bytes}
use Rattle.yaml_scalars.specs.code.PlainSteps.{rest, LiesBehind}
use Rattle.yaml_scalars.proofs.FurtherLines.{lies_before}
use Rattle.yaml_scalars.proofs.plain.read_lines.Goals as goal

pub loop-reading-preserved : goal.loop-reading-preserved
loop-reading-preserved c =
    let line = c.in-Some.line in
    let next = c.add_line.new.reading.next in (
      lies_before c.args.text.now 0 line.begin next (omega arith) c.in-Ok.ensures.next,
      c.loop-reading.invariant.1 ∙ ap (λ n. rest c.args.setting c.args.text.now n (string_bytes c.loop-reading.reading.text) c.loop-reading.reading.end) c.in-Some.is ∙ c.in-Ok.ensures.ok,
      λ at lies end.
          let i = c.loop-reading.invariant.2 at lies end in
          let b = subst (λ n. LiesBehind c.args.text.now at n) c.in-Some.is i.0 in
          (lies_before c.args.text.now at line.begin next (omega (arith, b.0)) c.in-Ok.ensures.next, c.in-Ok.ensures.edge at b.0 i.1),
    )

pub returns-clause-edge : goal.returns-clause-edge
returns-clause-edge c = λ at lies end. (c.loop-reading.invariant.2 at lies end).1
