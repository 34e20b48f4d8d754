use Rattle.std.proofs.Common.{sym}
use Rattle.guard_syntax.specs.code.Seen.{see_body, see_opt_conds, see_rule}
use Rattle.evidence_lookups.proofs.PartsSeen.{body-site}
use Rattle.evidence_checker.proofs.UnderConditions.{none-within}
use Rattle.evidence_checker.proofs.FirstSaid.{rule-decided}
use Rattle.evidence_checker.proofs.parts.rule_follows.Goals as goal

pub returns : goal.returns
returns c = λ known.
    rule-decided known c.args.lines.now c.args.frame (see_rule c.args.rule.now) c.args.cites.now c.args.verdict c.guarded_follows.result
    (none-within c.as_slice.result.now c.args.rule.now.params c.as_slice.ensures c.if-not-is_empty.ensures)
    (c.guarded_follows.ensures known (see_opt_conds c.args.rule.now.cond) (see_body c.args.rule.now.body) c.conds_site-cond.ensures (sym (body-site c.args.rule.now.body)))
