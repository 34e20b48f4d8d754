use Rattle.std.proofs.Common.{List, ℕ, ◌+◌, Ok, arith, drop, get_or, subst}
use Rattle.std.specs.List.{flat_map}
use Rattle.evidence_lookups.specs.code.Grounds.{known_of, lines_of}
use Rattle.report_text.specs.code.SeenTexts.{see_lined}
use Rattle.evidence_report.specs.code.Written.{Writes}
use Rattle.evidence_report.proofs.CountedVerdicts.{past_verdict}
use Rattle.evidence_report.proofs.ReportTexts.{texts-alike, verdict_text}
use Rattle.evidence_report.proofs.TakenTexts.{text-ends, text-more, text-starts, text-stops}
use Rattle.evidence_report.proofs.Writing.{loop-ends, loop-goes, loop-stops}
use Rattle.evidence_report.proofs.report.write_verdicts.Goals as goal

pub loop-listed-init : goal.loop-listed-init
loop-listed-init g c = record { text = text-starts (g.S.Sink.told c.args.sink.now) (flat_map (verdict_text (known_of c.args.context.now) (lines_of c.args.context.now) (see_lined c.args.texts.now)) c.args.all.now); tells = λ some. some; kept = omega arith }

pub loop-listed-preserved : goal.loop-listed-preserved
loop-listed-preserved g c =
    loop-goes _ (g.S.Sink.told c.args.sink.now) (g.S.Sink.told c.loop-listed.sink) (g.S.Sink.told c.write_verdict.new.sink) (g.S.Sink.faults c.args.sink.now) (g.S.Sink.faults c.loop-listed.sink) (g.S.Sink.faults c.write_verdict.new.sink) (flat_map (verdict_text (known_of c.args.context.now) (lines_of c.args.context.now) (see_lined c.args.texts.now)) c.args.all.now) (flat_map (verdict_text (known_of c.args.context.now) (lines_of c.args.context.now) (see_lined c.args.texts.now)) (drop c.loop-listed.listed-index c.args.all.now)) (flat_map (verdict_text (known_of c.args.context.now) (lines_of c.args.context.now) (see_lined c.args.texts.now)) (drop (c.loop-listed.listed-index + 1) c.args.all.now)) ((verdict_text (known_of c.args.context.now) (lines_of c.args.context.now) (see_lined c.args.texts.now)) (get_or c.args.all.now c.loop-listed.listed-index past_verdict))
    c.loop-listed.invariant c.in_ok-write_verdict.ensures
    (λ piece owes. text-more (verdict_text (known_of c.args.context.now) (lines_of c.args.context.now) (see_lined c.args.texts.now)) c.args.all.now c.loop-listed.listed-index (g.S.Sink.told c.args.sink.now) (g.S.Sink.told c.loop-listed.sink) past_verdict (g.S.Sink.told c.write_verdict.new.sink) c.loop-listed-test.true piece owes)

pub returns-in_err-write_verdict : goal.returns-in_err-write_verdict
returns-in_err-write_verdict g c =
    subst (λ (text : List ℕ). Writes (g.S.Sink.told c.args.sink.now) (g.S.Sink.told c.write_verdict.new.sink) (g.S.Sink.faults c.args.sink.now) (g.S.Sink.faults c.write_verdict.new.sink) text c.from_residual.result) (texts-alike (known_of c.args.context.now) (lines_of c.args.context.now) (see_lined c.args.texts.now) c.args.all.now)
    (loop-stops c.in_err-write_verdict.field-0.0 c.from_residual.result (g.S.Sink.told c.args.sink.now) (g.S.Sink.told c.loop-listed.sink) (g.S.Sink.told c.write_verdict.new.sink) (g.S.Sink.faults c.args.sink.now) (g.S.Sink.faults c.loop-listed.sink) (g.S.Sink.faults c.write_verdict.new.sink) (flat_map (verdict_text (known_of c.args.context.now) (lines_of c.args.context.now) (see_lined c.args.texts.now)) c.args.all.now) (flat_map (verdict_text (known_of c.args.context.now) (lines_of c.args.context.now) (see_lined c.args.texts.now)) (drop c.loop-listed.listed-index c.args.all.now)) ((verdict_text (known_of c.args.context.now) (lines_of c.args.context.now) (see_lined c.args.texts.now)) (get_or c.args.all.now c.loop-listed.listed-index past_verdict))
    c.loop-listed.invariant c.in_err-write_verdict.ensures c.from_residual.ensures.1
    (λ piece owes. text-stops (verdict_text (known_of c.args.context.now) (lines_of c.args.context.now) (see_lined c.args.texts.now)) c.args.all.now c.loop-listed.listed-index (g.S.Sink.told c.args.sink.now) (g.S.Sink.told c.loop-listed.sink) past_verdict (g.S.Sink.told c.write_verdict.new.sink) c.loop-listed-test.true piece owes))

pub returns : goal.returns
returns g c =
    subst (λ (text : List ℕ). Writes (g.S.Sink.told c.args.sink.now) (g.S.Sink.told c.loop-listed.sink) (g.S.Sink.faults c.args.sink.now) (g.S.Sink.faults c.loop-listed.sink) text (Ok tt)) (texts-alike (known_of c.args.context.now) (lines_of c.args.context.now) (see_lined c.args.texts.now) c.args.all.now)
    (loop-ends tt (g.S.Sink.told c.args.sink.now) (g.S.Sink.told c.loop-listed.sink) (g.S.Sink.faults c.args.sink.now) (g.S.Sink.faults c.loop-listed.sink) (flat_map (verdict_text (known_of c.args.context.now) (lines_of c.args.context.now) (see_lined c.args.texts.now)) c.args.all.now) (flat_map (verdict_text (known_of c.args.context.now) (lines_of c.args.context.now) (see_lined c.args.texts.now)) (drop c.loop-listed.listed-index c.args.all.now)) c.loop-listed.invariant
    (λ owes. text-ends (verdict_text (known_of c.args.context.now) (lines_of c.args.context.now) (see_lined c.args.texts.now)) c.args.all.now c.loop-listed.listed-index (g.S.Sink.told c.args.sink.now) (g.S.Sink.told c.loop-listed.sink) c.loop-listed-test.false owes))
