use Rattle.std.proofs.Common.{◌≡◌, ◌+◌, ◌≤◌, count_by, take}
use Rattle.rule_meaning.specs.Verdicts.{is_fail, is_pass, is_skip}
use Rattle.evidence_report.specs.code.VerdictLines.{verdicts_in}
use Rattle.evidence_report.proofs.tally.tally_of.Given as goal

abbrev pub invariant-loop-listed : goal.invariant-loop-listed
invariant-loop-listed l = record {
  few : l.tally.pass + l.tally.fail + l.tally.skip ≤ l.listed-index;
  pass : l.tally.pass ≡ count_by is_pass (verdicts_in (take l.listed-index l.all));
  fail : l.tally.fail ≡ count_by is_fail (verdicts_in (take l.listed-index l.all));
  skip : l.tally.skip ≡ count_by is_skip (verdicts_in (take l.listed-index l.all));
}
