use Rattle.std.proofs.Common.{arith}
use Rattle.rule_meaning.specs.Verdicts.{is_fail, is_pass, is_skip}
use Rattle.evidence_report.proofs.CountedVerdicts.{past_verdict}
use Rattle.evidence_report.proofs.Tallies.{all-counted, one-counted}
use Rattle.evidence_report.proofs.tally.tally_of.Goals as goal

pub loop-listed-preserved : goal.loop-listed-preserved
loop-listed-preserved c =
    let all = c.args.all.now in
    let i = c.loop-listed.listed-index in
    let few = c.loop-listed.invariant.few in
    let more = c.add.ensures.all in
    record {
      few = omega (arith, few, more);
      pass = one-counted is_pass all i past_verdict c.loop-listed.tally.pass c.add.new.self.pass c.loop-listed-test.true c.loop-listed.invariant.pass c.add.ensures.pass;
      fail = one-counted is_fail all i past_verdict c.loop-listed.tally.fail c.add.new.self.fail c.loop-listed-test.true c.loop-listed.invariant.fail c.add.ensures.fail;
      skip = one-counted is_skip all i past_verdict c.loop-listed.tally.skip c.add.new.self.skip c.loop-listed-test.true c.loop-listed.invariant.skip c.add.ensures.skip;
    }

pub returns : goal.returns
returns c =
    let all = c.args.all.now in
    let i = c.loop-listed.listed-index in
    record {
      pass = all-counted is_pass all i c.loop-listed.tally.pass c.loop-listed-test.false c.loop-listed.invariant.pass;
      fail = all-counted is_fail all i c.loop-listed.tally.fail c.loop-listed-test.false c.loop-listed.invariant.fail;
      skip = all-counted is_skip all i c.loop-listed.tally.skip c.loop-listed-test.false c.loop-listed.invariant.skip;
    }
