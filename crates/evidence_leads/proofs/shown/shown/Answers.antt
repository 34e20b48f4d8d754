use Rattle.std.proofs.Common.{◌∙◌}
use Rattle.evidence_leads.proofs.SitesOfLines.{made-seen, site-at}
use Rattle.evidence_leads.proofs.shown.shown.Goals as goal

pub returns-in-Made-clause-seen : goal.returns-in-Made-clause-seen
returns-in-Made-clause-seen c known =
    made-seen known c.args.lines.now c.args.value c.in-Made.line c.in-Made.row c.site_of.result c.in-Made.is
    (c.site_of.ensures ∙ site-at c.args.lines.now c.in-Made.line)
