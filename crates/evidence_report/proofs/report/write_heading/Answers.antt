use Rattle.std.proofs.Common.{◌≡◌, List, ℕ, ◌++◌, ap, ◌∙◌}
use Rattle.report_text.specs.RuleLines.{rule_line}
use Rattle.evidence_report.proofs.TakenTexts.{same-front, same-taken}
use Rattle.evidence_report.proofs.Writing.{writes-refused}
use Rattle.evidence_report.proofs.report.write_heading.Goals as goal

pub returns-in-Ok : goal.returns-in-Ok
returns-in-Ok g c =
    let v = c.args.listed.now in
    let text = rule_line v.name.now v.line.verdict in
    let is : c.deref.result.now ≡ text = c.deref.ensures.value ∙ c.in-Ok.ensures ∙ ap (λ (t : List ℕ). t ++ text) c.new-line.ensures.items in
    record {
      ok = same-taken c.put.result (g.S.Sink.told c.args.sink.now) (g.S.Sink.told c.put.new.sink) c.deref.result.now text is c.put.ensures.ok;
      err = same-front c.put.result (g.S.Sink.told c.args.sink.now) (g.S.Sink.told c.put.new.sink) c.deref.result.now text is c.put.ensures.err;
      tells = c.put.ensures.tells;
      failed = c.put.ensures.failed;
      kept = c.put.ensures.kept;
    }

pub returns : goal.returns
returns g c = writes-refused (g.S.Sink.told c.args.sink.now) (g.S.Sink.faults c.args.sink.now) (rule_line c.args.listed.now.name.now c.args.listed.now.line.verdict)
