use Rattle.std.proofs.lemmas.Grind.{common_steps}
use Rattle.std.proofs.Common.{ℕ, List, Some, sym, subst, arith}
use Rattle.yaml_scalars.specs.code.PlainSteps.{LiesBehind}
use Rattle.yaml_scalars.specs.Scalar.{IsEndOf}
use Rattle.yaml_scalars.proofs.plain.goes_on.Goals as goal

pub returns-in-Ok-clause-end : goal.returns-in-Ok-clause-end
returns-in-Ok-clause-end c =
    let lies = subst (λ (t : List ℕ). LiesBehind t c.args.at (Some c.in-Some.line)) c.as_bytes.ensures.value c.in-Some.ensures.behind in
    subst (λ e. IsEndOf c.args.text.now c.args.at e) (sym c.scalar-in-Ok.ensures.end) (c.in-Ok.ensures.edge c.args.at lies c.requires.end)

pub read_lines-requires-clause-next : goal.read_lines-requires-clause-next
read_lines-requires-clause-next c = grind (arith, common_steps)
