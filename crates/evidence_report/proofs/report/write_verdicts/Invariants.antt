use Rattle.std.proofs.Common.{drop}
use Rattle.std.specs.List.{flat_map}
use Rattle.evidence_lookups.specs.code.Grounds.{known_of, lines_of}
use Rattle.report_text.specs.code.SeenTexts.{see_lined}
use Rattle.evidence_report.proofs.ReportTexts.{verdict_text}
use Rattle.evidence_report.proofs.Writing.{OwesWrites}
use Rattle.evidence_report.proofs.report.write_verdicts.Given as goal

abbrev pub invariant-loop-listed : goal.invariant-loop-listed
invariant-loop-listed g l =
    OwesWrites (g.S.Sink.told l.initial.sink) (g.S.Sink.told l.sink) (g.S.Sink.faults l.initial.sink) (g.S.Sink.faults l.sink)
    (flat_map (verdict_text (known_of l.context) (lines_of l.context) (see_lined l.texts)) l.all)
    (flat_map (verdict_text (known_of l.context) (lines_of l.context) (see_lined l.texts)) (drop l.listed-index l.all))
