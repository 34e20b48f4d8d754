use Rattle.std.proofs.Common.{◌≡◌, ℕ, ◌+◌, ◌-◌, ◌^◌, suc, length, min, arith}
use Rattle.std.proofs.lemmas.Grind.{common_steps}
use Rattle.evidence_truth.specs.code.LineFails.{line_fails}
use Rattle.evidence_report.specs.code.Counts.{counted}
use Rattle.evidence_leads.specs.code.Leads.{entries_behind, see_lead}
use Rattle.evidence_report.proofs.Counting.{all_behind, below-lead, count-more}
use Rattle.evidence_report.proofs.WrittenLeads.{past_lead}
use Rattle.evidence_report.proofs.count.count_leads.Goals as goal

pub loop-lead-preserved : goal.loop-lead-preserved
loop-lead-preserved c =
    let more : c.saturating_add-count.result ≡ min (c.loop-lead.count + c.count_lead.result) (2 ^ 64 - 1) = omega (arith, c.saturating_add-count.ensures) in
    record {
      small = omega (arith, more);
      owes = λ known lines are below.
          count-more (entries_behind (λ (n : ℕ). line_fails known lines n n)) (see_lead known) c.args.leads.now c.loop-lead.lead-index past_lead (counted (all_behind known lines c.args.leads.now)) c.loop-lead.count c.count_lead.result c.saturating_add-count.result
          c.loop-lead-test.true
          (c.count_lead.ensures known lines are (below-lead known lines (suc (length c.args.counts.now)) c.args.leads.now c.loop-lead.lead-index past_lead c.loop-lead-test.true below)) more
          (c.loop-lead.invariant.owes known lines are below);
    }

pub returns : goal.returns
returns c = grind (arith, common_steps)
