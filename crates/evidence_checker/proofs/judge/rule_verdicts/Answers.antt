use Rattle.std.proofs.Common.{sym, ◌∙◌}
use Rattle.evidence_rows.proofs.Decided.{is-none, is-some}
use Rattle.evidence_checker.proofs.RuleVerdicts.{all-so-far, none-more, one-more, said-by, unjudged-by, wanting-here}
use Rattle.evidence_checker.proofs.judge.rule_verdicts.Goals as goal

pub returns-in_default : goal.returns-in_default
returns-in_default c = λ lines judged.
    wanting-here lines c.args.rules.now c.loop-rule.rule-index c.rule-item.result c.loop-rule-test.true c.rule-item.is
    (sym c.as_slice.ensures ∙ is-none c.as_slice.result.now c.is_empty.result c.is_empty.ensures c.if-not-is_empty.false)
    (unjudged-by lines c.args.judged.now.of.items c.rule-item.result.site c.verdict.result judged c.verdict.ensures c.in_default.is)

pub loop-rule-preserved : goal.loop-rule-preserved
loop-rule-preserved c = λ lines judged.
    one-more lines c.args.rules.now c.loop-rule.verdicts.items c.push.new.self.items c.in-Some.verdict c.loop-rule.rule-index c.rule-item.result c.loop-rule-test.true c.rule-item.is
    (sym c.as_slice.ensures ∙ is-none c.as_slice.result.now c.is_empty.result c.is_empty.ensures c.if-not-is_empty.false)
    (said-by lines c.args.judged.now.of.items c.rule-item.result.site c.verdict.result c.in-Some.verdict judged c.verdict.ensures c.in-Some.is)
    c.in_ok-push.ensures.items (c.loop-rule.invariant lines judged)

pub loop-rule-preserved-then-not-is_empty : goal.loop-rule-preserved-then-not-is_empty
loop-rule-preserved-then-not-is_empty c = λ lines judged.
    none-more lines c.args.rules.now c.loop-rule.verdicts.items c.loop-rule.rule-index c.rule-item.result c.loop-rule-test.true c.rule-item.is
    (λ none. is-some c.as_slice.result.now c.is_empty.result c.is_empty.ensures c.if-not-is_empty.true (c.as_slice.ensures ∙ none))
    (c.loop-rule.invariant lines judged)

pub returns : goal.returns
returns c = λ lines judged. all-so-far lines c.args.rules.now c.loop-rule.verdicts.items c.loop-rule.rule-index c.loop-rule-test.false (c.loop-rule.invariant lines judged)
