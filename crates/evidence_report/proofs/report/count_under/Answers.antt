use Rattle.std.proofs.Common.{ap, sym}
use Rattle.guard_syntax.specs.declared.row.Verdict.{Verdict}
use Rattle.evidence_truth.specs.code.LineFails.{line_fails}
use Rattle.guard_ends.specs.Reported.{if_fail}
use Rattle.evidence_report.specs.code.Counts.{counted}
use Rattle.evidence_report.proofs.CountedVerdicts.{counted-under}
use Rattle.evidence_report.proofs.report.count_under.Goals as goal

pub returns-in-Fail : goal.returns-in-Fail
returns-in-Fail c known lines are long said = counted-under known lines c.args.counts.now are long c.args.listed.now c.count_at.result said c.in-Fail.is c.count_at.ensures

pub returns-in-Pass : goal.returns-in-Pass
returns-in-Pass c known lines are long said =
    let n = c.args.listed.now.line.number in
    sym (ap (λ (v : Verdict). counted (if_fail v (line_fails known lines n n))) c.in-Pass.is)

pub returns-in-Skip : goal.returns-in-Skip
returns-in-Skip c known lines are long said =
    let n = c.args.listed.now.line.number in
    sym (ap (λ (v : Verdict). counted (if_fail v (line_fails known lines n n))) c.in-Skip.is)
