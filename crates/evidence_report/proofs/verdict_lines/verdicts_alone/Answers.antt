use Rattle.evidence_report.proofs.CountedVerdicts.{past_verdict}
use Rattle.evidence_report.proofs.DrillTexts.{verdicts-all, verdicts-more}
use Rattle.evidence_report.proofs.verdict_lines.verdicts_alone.Goals as goal

pub loop-listed-preserved : goal.loop-listed-preserved
loop-listed-preserved c =
    verdicts-more c.args.all.now c.loop-listed.listed-index past_verdict c.loop-listed.verdicts.items c.push.new.self.items c.loop-listed-test.true c.loop-listed.invariant c.in_ok-push.ensures.items

pub returns : goal.returns
returns c = verdicts-all c.args.all.now c.loop-listed.listed-index c.loop-listed.verdicts.items c.loop-listed-test.false c.loop-listed.invariant
