use Rattle.std.proofs.Common.{◌≡◌, ◌∙◌}
use Rattle.guard_ends.specs.Report.{total_line}
use Rattle.evidence_report.specs.code.VerdictLines.{verdicts_in}
use Rattle.evidence_report.proofs.TakenTexts.{same-front, same-taken}
use Rattle.evidence_report.proofs.Writing.{writes-refused}
use Rattle.evidence_report.proofs.report.write_total.Goals as goal

pub returns-in-Ok : goal.returns-in-Ok
returns-in-Ok g c =
    let text = total_line (verdicts_in c.args.all.now) in
    let is : c.as_bytes.result.now ≡ text = c.as_bytes.ensures.value ∙ c.in-Ok.ensures in
    record {
      ok = same-taken c.put.result (g.S.Sink.told c.args.sink.now) (g.S.Sink.told c.put.new.sink) c.as_bytes.result.now text is c.put.ensures.ok;
      err = same-front c.put.result (g.S.Sink.told c.args.sink.now) (g.S.Sink.told c.put.new.sink) c.as_bytes.result.now text is c.put.ensures.err;
      tells = c.put.ensures.tells;
      failed = c.put.ensures.failed;
      kept = c.put.ensures.kept;
    }

pub returns-in-Err : goal.returns-in-Err
returns-in-Err g c = writes-refused (g.S.Sink.told c.args.sink.now) (g.S.Sink.faults c.args.sink.now) (total_line (verdicts_in c.args.all.now))
