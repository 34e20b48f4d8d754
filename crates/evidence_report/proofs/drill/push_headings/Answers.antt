use Rattle.evidence_report.proofs.CountedVerdicts.{past_verdict}
use Rattle.evidence_report.proofs.DrillTexts.{headings-all, headings-more}
use Rattle.evidence_report.proofs.drill.push_headings.Goals as goal

pub loop-listed-preserved : goal.loop-listed-preserved
loop-listed-preserved c =
    headings-more c.args.all.now c.loop-listed.listed-index past_verdict c.args.text.now.items c.loop-listed.text.items c.push_rule_line.new.lines.items c.loop-listed-test.true c.loop-listed.invariant
    c.in_ok-push_rule_line.ensures

pub returns : goal.returns
returns c = headings-all c.args.all.now c.loop-listed.listed-index c.args.text.now.items c.loop-listed.text.items c.loop-listed-test.false c.loop-listed.invariant
