use Rattle.std.proofs.Common.{arith}
use Rattle.std.proofs.lemmas.Grind.{common_steps}
use Rattle.evidence_leads.proofs.LoopLeads.{found-led}
use Rattle.evidence_leads.proofs.leads.push_found_row.Goals as goal

pub returns-in_ok-push_cite-in-len1-up-clause-leads : goal.returns-in_ok-push_cite-in-len1-up-clause-leads
returns-in_ok-push_cite-in-len1-up-clause-leads c known part v =
    found-led known c.args.lines.now part v c.args.cites.now 0 c.args.into.now.items c.push_cite.new.into.items c.in-len1-up.len_at_least (c.in_ok-push_cite-in-len1-up.ensures known)

pub returns-in_ok-push_cite-in-len1-up-clause-left : goal.returns-in_ok-push_cite-in-len1-up-clause-left
returns-in_ok-push_cite-in-len1-up-clause-left c = grind (arith, common_steps)
