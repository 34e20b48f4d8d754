use Rattle.std.proofs.Common.{◌*◌, ◌+◌, ◌≤◌, drop, IsSome}
use Rattle.std.specs.List.{flat_map}
use Rattle.evidence_lookups.specs.code.Grounds.{known_of, lines_of}
use Rattle.report_text.specs.code.SeenTexts.{see_lined}
use Rattle.evidence_report.proofs.Writing.{OwesWrites}
use Rattle.evidence_report.proofs.WrittenLeads.{lead_rank, lead_text}
use Rattle.evidence_report.proofs.write.+write.Given as goal

abbrev pub decreases-write_line : goal.decreases-write_line
decreases-write_line g l = l.number * 2 + 1

abbrev pub decreases-write_lead : goal.decreases-write_lead
decreases-write_lead g l = lead_rank l.lead.now

abbrev pub invariant-write_line-loop-lead : goal.invariant-write_line-loop-lead
invariant-write_line-loop-lead g l =
    OwesWrites (g.S.Sink.told l.initial.sink) (g.S.Sink.told l.sink) (g.S.Sink.faults l.initial.sink) (g.S.Sink.faults l.sink)
    (flat_map (lead_text (known_of l.context) (lines_of l.context) (see_lined l.texts)) l.lead-items)
    (flat_map (lead_text (known_of l.context) (lines_of l.context) (see_lined l.texts)) (drop l.lead-index l.lead-items))
