use Rattle.evidence_report.proofs.Counting.{lead-counted}
use Rattle.evidence_report.proofs.count.count_lead.Goals as goal

pub returns-in-Line : goal.returns-in-Line
returns-in-Line c known lines are below = lead-counted known lines c.args.counts.now c.args.lead.now c.in-Line.number c.count_at.result c.in-Line.is are below c.count_at.ensures
