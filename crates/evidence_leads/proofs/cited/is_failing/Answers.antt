use Rattle.std.proofs.Common.{ap, ◌∙◌}
use Rattle.evidence_lines.specs.Lines.{line_of}
use Rattle.evidence_leads.specs.code.Leads.{is_some_fail}
use Rattle.evidence_leads.proofs.FailingLines.{fails-by}
use Rattle.evidence_leads.proofs.cited.is_failing.Goals as goal

pub returns : goal.returns
returns c known = c.is_some_fail.ensures ∙ ap is_some_fail c.verdict_at.ensures ∙ fails-by (line_of c.args.lines.now c.args.number)
