use Rattle.evidence_rows.proofs.Decided.{is-none, is-some}
use Rattle.evidence_checker.proofs.VerdictsSaid.{loose-none, loose-said}
use Rattle.evidence_checker.proofs.verdicts.loose_follows.Goals as goal

pub returns-then-is_empty : goal.returns-then-is_empty
returns-then-is_empty c = λ known.
    loose-none known c.args.lines.now c.args.frame c.args.verdict c.args.loose.now c.args.cites.now (is-none c.args.loose.now c.is_empty.result c.is_empty.ensures c.if-is_empty.true)

pub returns-in-len1 : goal.returns-in-len1
returns-in-len1 c = λ known.
    loose-said known c.args.lines.now c.args.frame c.args.verdict c.is_said.result c.args.loose.now c.args.cites.now (is-some c.args.loose.now c.is_empty.result c.is_empty.ensures c.if-is_empty.false)
    c.in-len1.len_at_least c.in-len1.len_below c.is_said.ensures
