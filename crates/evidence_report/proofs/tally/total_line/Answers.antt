use Rattle.std.proofs.Common.{◌≡◌, ◌++◌, ◌∙◌, codes, decimal, string_bytes}
use Rattle.std.proofs.lemmas.Result.{IfOk-weaker}
use Rattle.guard_ends.specs.Report.{total_line}
use Rattle.evidence_report.specs.code.VerdictLines.{verdicts_in}
use Rattle.evidence_report.proofs.Tallies.{counts-told}
use Rattle.evidence_report.proofs.tally.total_line.Goals as goal

pub returns : goal.returns
returns c =
    let tally = c.tally_of.result in
    let vs = verdicts_in c.args.all.now in
    IfOk-weaker c.tally_line.result
    (λ text. string_bytes text ≡ codes "total " ++ decimal tally.pass ++ codes " PASS " ++ decimal tally.fail ++ codes " FAIL " ++ decimal tally.skip ++ codes " SKIP\n")
    (λ text. string_bytes text ≡ total_line vs)
    (λ text is. is ∙ counts-told vs tally.pass tally.fail tally.skip c.tally_of.ensures.pass c.tally_of.ensures.fail c.tally_of.ensures.skip) c.tally_line.ensures
