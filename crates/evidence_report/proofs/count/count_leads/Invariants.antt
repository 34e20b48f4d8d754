use Rattle.std.proofs.Common.{◌≡◌, suc, ◌+◌, ◌-◌, ◌^◌, ◌≤◌, min, List, length, map, drop}
use Rattle.evidence_lines.specs.declared.line.Line.{Line}
use Rattle.rule_meaning.specs.StoreModel.{StoreModel}
use Rattle.evidence_report.specs.code.Counts.{AreCounts, counted}
use Rattle.evidence_leads.specs.code.Leads.{AreBelow, see_lead}
use Rattle.evidence_report.proofs.Counting.{all_behind}
use Rattle.evidence_report.proofs.count.count_leads.Given as goal

abbrev pub invariant-loop-lead : goal.invariant-loop-lead
invariant-loop-lead l = record {
  small : l.count ≤ 2 ^ 64 - 1;
  owes : (known : StoreModel) (lines : List Line) → AreCounts known lines l.counts → AreBelow known lines (suc (length l.counts)) (map (see_lead known) l.leads)
      → min (l.count + length (all_behind known lines (drop l.lead-index l.leads))) (2 ^ 64 - 1) ≡ counted (all_behind known lines l.leads);
}
