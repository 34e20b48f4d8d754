use Rattle.std.proofs.Common.{◌≡◌, drop}
use Rattle.std.specs.List.{flat_map}
use Rattle.rule_meaning.specs.Keys.{passes}
use Rattle.evidence_lookups.specs.code.Grounds.{known_of, lines_of}
use Rattle.evidence_truth.specs.code.LineFails.{failed_row}
use Rattle.evidence_leads.specs.code.Leads.{own}
use Rattle.evidence_leads.proofs.LoopLeads.{Owes}
use Rattle.evidence_leads.proofs.rows.push_each_failed.Given as goal

abbrev pub invariant-loop-left : goal.invariant-loop-left
invariant-loop-left l = record {
  kept : l.matchers.book.now ≡ l.initial.matchers.book.now;
  owed : Owes (known_of l.context) l.initial.into.items l.into.items
      (flat_map (λ x. own (failed_row (known_of l.context) (lines_of l.context) l.test.part (passes (known_of l.context) l.test.op l.test.not l.test.rights.now) x)) l.lefts)
      (flat_map (λ x. own (failed_row (known_of l.context) (lines_of l.context) l.test.part (passes (known_of l.context) l.test.op l.test.not l.test.rights.now) x)) (drop l.left-index l.lefts));
}
