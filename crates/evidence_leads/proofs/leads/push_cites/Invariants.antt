use Rattle.std.proofs.Common.{drop}
use Rattle.std.specs.List.{flat_map}
use Rattle.rule_meaning.specs.StoreModel.{StoreModel}
use Rattle.evidence_leads.specs.code.Leads.{cite_leads}
use Rattle.evidence_leads.proofs.LoopLeads.{Owes}
use Rattle.evidence_leads.proofs.leads.push_cites.Given as goal

abbrev pub invariant-loop-cite : goal.invariant-loop-cite
invariant-loop-cite l =
    (known : StoreModel) → Owes known l.initial.into.items l.into.items (flat_map (cite_leads known l.lines) l.cites) (flat_map (cite_leads known l.lines) (drop l.cite-index l.cites))
