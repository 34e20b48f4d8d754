use Rattle.evidence_checker.proofs.OnRows.{none-said}
use Rattle.evidence_checker.proofs.bodies.judged_row.Goals as goal

pub returns-in_default-framed_verdict : goal.returns-in_default-framed_verdict
returns-in_default-framed_verdict c = λ known b site_is.
    none-said known c.args.lines.now c.args.frame b c.args.row.now c.args.cites.now c.in-Found.value
    c.in-Some.first.now c.in-Some.left.now c.args.body c.in-Found.is c.in-Some.ensures.cases.0 site_is c.in_default-framed_verdict.ensures
