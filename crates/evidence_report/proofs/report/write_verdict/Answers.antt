use Rattle.std.proofs.Common.{List, ℕ, ◌++◌, subst}
use Rattle.evidence_lookups.specs.code.Grounds.{known_of, lines_of}
use Rattle.evidence_truth.specs.code.LineFails.{line_fails}
use Rattle.guard_ends.specs.Reported.{if_fail}
use Rattle.report_text.specs.RuleLines.{rule_line}
use Rattle.report_text.specs.code.SeenTexts.{see_lined}
use Rattle.evidence_report.specs.code.Written.{Writes, entry_lines}
use Rattle.evidence_report.proofs.ReportTexts.{not-by-pass, not-by-skip, text-alone, text-under}
use Rattle.evidence_report.proofs.Writing.{writes-same, writes-stopped, writes-then}
use Rattle.evidence_report.proofs.report.write_verdict.Goals as goal

pub returns-in_err-write_heading : goal.returns-in_err-write_heading
returns-in_err-write_heading g c =
    let known = known_of c.args.context.now in
    let v = c.args.listed.now in
    let more = entry_lines known (see_lined c.args.texts.now) (if_fail v.line.verdict (line_fails known (lines_of c.args.context.now) v.line.number v.line.number)) in
    writes-stopped c.in_err-write_heading.field-0.0 c.from_residual.result (g.S.Sink.told c.args.sink.now) (g.S.Sink.told c.write_heading.new.sink) (g.S.Sink.faults c.args.sink.now) (g.S.Sink.faults c.write_heading.new.sink)
    (rule_line v.name.now v.line.verdict) more c.in_err-write_heading.ensures c.from_residual.ensures.1

pub returns-in-Fail : goal.returns-in-Fail
returns-in-Fail g c =
    let known = known_of c.args.context.now in
    let texts = see_lined c.args.texts.now in
    let v = c.args.listed.now in
    let es = line_fails known (lines_of c.args.context.now) v.line.number v.line.number in
    subst (λ (t : List ℕ). Writes (g.S.Sink.told c.args.sink.now) (g.S.Sink.told c.write_line.new.sink) (g.S.Sink.faults c.args.sink.now) (g.S.Sink.faults c.write_line.new.sink) t c.write_line.result)
    (text-under known texts v.name.now v.line.verdict es c.in-Fail.is)
    (writes-then _ c.write_line.result (g.S.Sink.told c.args.sink.now) (g.S.Sink.told c.write_heading.new.sink) (g.S.Sink.told c.write_line.new.sink) (g.S.Sink.faults c.args.sink.now) (g.S.Sink.faults c.write_heading.new.sink)
    (g.S.Sink.faults c.write_line.new.sink) (rule_line v.name.now v.line.verdict) (entry_lines known texts es) c.in_ok-write_heading.ensures c.write_line.ensures)

pub returns-in-Pass : goal.returns-in-Pass
returns-in-Pass g c =
    let known = known_of c.args.context.now in
    let texts = see_lined c.args.texts.now in
    let v = c.args.listed.now in
    let es = line_fails known (lines_of c.args.context.now) v.line.number v.line.number in
    writes-same _ _ (g.S.Sink.told c.args.sink.now) (g.S.Sink.told c.write_heading.new.sink) (g.S.Sink.faults c.args.sink.now) (g.S.Sink.faults c.write_heading.new.sink) (rule_line v.name.now v.line.verdict) _
    (text-alone known texts v.name.now v.line.verdict es (not-by-pass v.line.verdict c.in-Pass.is)) c.in_ok-write_heading.ensures

pub returns-in-Skip : goal.returns-in-Skip
returns-in-Skip g c =
    let known = known_of c.args.context.now in
    let texts = see_lined c.args.texts.now in
    let v = c.args.listed.now in
    let es = line_fails known (lines_of c.args.context.now) v.line.number v.line.number in
    writes-same _ _ (g.S.Sink.told c.args.sink.now) (g.S.Sink.told c.write_heading.new.sink) (g.S.Sink.faults c.args.sink.now) (g.S.Sink.faults c.write_heading.new.sink) (rule_line v.name.now v.line.verdict) _
    (text-alone known texts v.name.now v.line.verdict es (not-by-skip v.line.verdict c.in-Skip.is)) c.in_ok-write_heading.ensures
