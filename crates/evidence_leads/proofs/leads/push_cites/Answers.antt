use Rattle.evidence_leads.specs.code.Leads.{cite_leads}
use Rattle.evidence_leads.proofs.LoopLeads.{owes-end, owes-more}
use Rattle.evidence_leads.proofs.Exits.{nothing-at-exit}
use Rattle.evidence_leads.proofs.leads.push_cites.Goals as goal

pub loop-cite-init : goal.loop-cite-init
loop-cite-init c = λ known final rest. rest

pub loop-cite-preserved : goal.loop-cite-preserved
loop-cite-preserved c = λ known.
    owes-more known (cite_leads known c.args.lines.now) c.args.cites.now c.loop-cite.cite-index 0
    c.args.into.now.items c.loop-cite.into.items c.push_cite.new.into.items c.loop-cite-test.true (c.in_ok-push_cite.ensures known) (c.loop-cite.invariant known)

pub returns-in_err-push_cite : goal.returns-in_err-push_cite
returns-in_err-push_cite c known = nothing-at-exit _ c.from_residual.result c.in_err-push_cite.field-0.0 c.from_residual.ensures.1

pub returns : goal.returns
returns c known =
    owes-end known (cite_leads known c.args.lines.now) c.args.cites.now c.loop-cite.cite-index
    c.args.into.now.items c.loop-cite.into.items c.loop-cite-test.false (c.loop-cite.invariant known)
