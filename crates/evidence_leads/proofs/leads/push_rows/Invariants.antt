use Rattle.std.proofs.Common.{◌≡◌, true, drop}
use Rattle.std.specs.List.{list_all}
use Rattle.rule_meaning.specs.StoreModel.{StoreModel, is_known}
use Rattle.evidence_leads.specs.code.Leads.{rows_leads}
use Rattle.evidence_leads.proofs.LoopLeads.{Owes}
use Rattle.evidence_leads.proofs.leads.push_rows.Given as goal

abbrev pub invariant-loop-row : goal.invariant-loop-row
invariant-loop-row l =
    (known : StoreModel) → list_all (is_known known) l.rows ≡ true
    → Owes known l.initial.into.items l.into.items (rows_leads known l.lines l.part l.rows l.cites) (rows_leads known l.lines l.part (drop l.row-index l.rows) l.left)
