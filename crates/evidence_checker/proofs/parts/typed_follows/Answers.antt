use Rattle.evidence_checker.proofs.FirstSaid.{typed-decided, typed-never}
use Rattle.evidence_checker.proofs.parts.typed_follows.Goals as goal

pub returns-in-None : goal.returns-in-None
returns-in-None c = λ known b site_is.
    typed-never c.args.lines.now c.args.line.frame c.in-Some.first.now c.args.cites.now c.in-Some.others.now c.in-Some.ensures.cases.0 known c.args.verdict
    b c.args.line.site c.in-None.ensures

pub returns-in-Some-rows_said : goal.returns-in-Some-rows_said
returns-in-Some-rows_said c = λ known b site_is.
    typed-decided c.args.lines.now c.args.line.frame c.in-Some.first.now c.args.cites.now c.in-Some.others.now c.in-Some.ensures.cases.0 known c.args.verdict
    b c.args.line.site c.in-Some-rows_said.rows c.body_follows_on.result
    c.in-Some-rows_said.ensures (c.body_follows_on.ensures known b site_is)
