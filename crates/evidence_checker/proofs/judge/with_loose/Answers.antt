use Rattle.std.proofs.Common.{sym, [], ◌∷◌}
use Rattle.std.proofs.lemmas.List.{append-nil}
use Rattle.evidence_rows.proofs.Decided.{is-none, is-some}
use Rattle.evidence_checker.proofs.RuleVerdicts.{loose-none, loose-said, loose-unjudged, said-by, unjudged-by}
use Rattle.evidence_checker.proofs.judge.with_loose.Goals as goal

pub returns-then-is_empty : goal.returns-then-is_empty
returns-then-is_empty c = λ lines judged.
    ([], loose-none lines c.args.loose.now (is-none c.args.loose.now c.is_empty.result c.is_empty.ensures c.if-is_empty.true), sym (append-nil c.args.verdicts.items))

pub returns-in_default : goal.returns-in_default
returns-in_default c = λ lines judged.
    loose-unjudged lines c.args.loose.now (is-some c.args.loose.now c.is_empty.result c.is_empty.ensures c.if-is_empty.false)
    (unjudged-by lines c.args.judged.now.of.items 0 c.verdict.result judged c.verdict.ensures c.in_default.is)

pub returns : goal.returns
returns c = λ lines judged. (
  c.in-Some.verdict ∷ [],
  loose-said lines c.args.loose.now c.in-Some.verdict (is-some c.args.loose.now c.is_empty.result c.is_empty.ensures c.if-is_empty.false)
      (said-by lines c.args.judged.now.of.items 0 c.verdict.result c.in-Some.verdict judged c.verdict.ensures c.in-Some.is),
  c.in_ok-push.ensures.items,
)
