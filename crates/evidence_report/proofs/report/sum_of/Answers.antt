use Rattle.std.proofs.Common.{◌≡◌, ◌+◌, ◌-◌, ◌^◌, map, min, arith}
use Rattle.guard_ends.specs.Drill.{fail_count}
use Rattle.guard_ends.specs.Reported.{Reported}
use Rattle.evidence_report.specs.code.VerdictLines.{see_verdict}
use Rattle.evidence_report.proofs.Counting.{count-ends, count-more}
use Rattle.evidence_report.proofs.CountedVerdicts.{past_verdict}
use Rattle.evidence_report.proofs.report.sum_of.Goals as goal

pub loop-listed-preserved : goal.loop-listed-preserved
loop-listed-preserved c =
    let more : c.saturating_add-sum.result ≡ min (c.loop-listed.sum + c.count_under.result) (2 ^ 64 - 1) = omega (arith, c.saturating_add-sum.ensures) in
    record {
      small = omega (arith, more);
      owes = λ known lines are long said.
          count-more (λ (r : Reported). r.fails) (see_verdict known lines) c.args.all.now c.loop-listed.listed-index past_verdict (fail_count (map (see_verdict known lines) c.args.all.now)) c.loop-listed.sum
          c.count_under.result c.saturating_add-sum.result c.loop-listed-test.true
          (c.count_under.ensures known lines are long (said c.loop-listed.listed-index past_verdict c.loop-listed-test.true)) more (c.loop-listed.invariant.owes known lines are long said);
    }

pub returns : goal.returns
returns c known lines are long said =
    count-ends (λ (r : Reported). r.fails) (see_verdict known lines) c.args.all.now c.loop-listed.listed-index (fail_count (map (see_verdict known lines) c.args.all.now)) c.loop-listed.sum c.loop-listed-test.false
    c.loop-listed.invariant.small (c.loop-listed.invariant.owes known lines are long said)
