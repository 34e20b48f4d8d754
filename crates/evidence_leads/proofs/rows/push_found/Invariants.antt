use Rattle.std.proofs.Common.{◌≡◌, true, drop}
use Rattle.std.specs.List.{flat_map, list_all}
use Rattle.rule_meaning.specs.Fails.{found_row}
use Rattle.rule_meaning.specs.StoreModel.{StoreModel, is_known}
use Rattle.evidence_truth.specs.code.LineFails.{see}
use Rattle.evidence_leads.specs.code.Leads.{own}
use Rattle.evidence_leads.proofs.LoopLeads.{Owes}
use Rattle.evidence_leads.proofs.rows.push_found.Given as goal

abbrev pub invariant-loop-row : goal.invariant-loop-row
invariant-loop-row l =
    (known : StoreModel) → list_all (is_known known) l.rows ≡ true
    → Owes known l.initial.into.items l.into.items (flat_map (λ x. own (found_row l.part (see known l.lines x))) l.rows)
    (flat_map (λ x. own (found_row l.part (see known l.lines x))) (drop l.row-index l.rows))
