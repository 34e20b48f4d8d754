use Rattle.std.proofs.Common.{◌≡◌, ◌<◌, ◌*◌, ◌+◌, ℕ, List, All, Ok, map, ap, sym, subst, ◌∙◌, arith, drop, get_or}
use Rattle.std.specs.List.{flat_map}
use Rattle.evidence_lines.specs.Lines.{line_of}
use Rattle.evidence_lookups.specs.code.Grounds.{known_of, lines_of}
use Rattle.evidence_truth.specs.code.LineFails.{line_fails}
use Rattle.report_text.specs.code.SeenTexts.{see_lined}
use Rattle.evidence_leads.specs.code.Leads.{IsShown, line_leads, see_lead}
use Rattle.evidence_report.specs.code.Written.{Writes, entry_lines}
use Rattle.evidence_leads.specs.declared.lead.Lead.{Lead}
use Rattle.evidence_report.proofs.TakenTexts.{text-ends, text-more, text-starts, text-stops}
use Rattle.evidence_report.proofs.WrittenLeads.{entry-text, lead-below, lead_rank, lead_text, line-text, past_lead, rank-less}
use Rattle.evidence_report.proofs.Writing.{loop-ends, loop-goes, loop-stops, writes-refused}
use Rattle.evidence_report.proofs.write.+write.Goals as goal

pub write_lead-returns-in-Entry : goal.write_lead-returns-in-Entry
write_lead-returns-in-Entry g t c =
    subst (λ (text : List ℕ). Writes (g.S.Sink.told c.args.sink.now) (g.S.Sink.told c.write_entry_over.new.sink) (g.S.Sink.faults c.args.sink.now) (g.S.Sink.faults c.write_entry_over.new.sink) text c.write_entry_over.result)
    (entry-text (known_of c.args.context.now) (lines_of c.args.context.now) (see_lined c.args.texts.now) c.args.lead.now c.in-Entry.entry c.in-Entry.is)
    (record {
      ok = c.write_entry_over.ensures.ok;
      err = c.write_entry_over.ensures.err;
      tells = c.write_entry_over.ensures.tells;
      failed = c.write_entry_over.ensures.failed;
      kept = c.write_entry_over.ensures.kept;
    })

pub write_lead-returns-in-Line : goal.write_lead-returns-in-Line
write_lead-returns-in-Line g t c =
    subst (λ (x : Lead). Writes (g.S.Sink.told c.args.sink.now) (g.S.Sink.told c.write_line.new.sink) (g.S.Sink.faults c.args.sink.now) (g.S.Sink.faults c.write_line.new.sink) (lead_text (known_of c.args.context.now) (lines_of c.args.context.now) (see_lined c.args.texts.now) x) c.write_line.result) (sym c.in-Line.is) c.write_line.ensures

pub write_line-returns-in_default : goal.write_line-returns-in_default
write_line-returns-in_default g t c =
    let known = known_of c.args.context.now in
    writes-refused (g.S.Sink.told c.args.sink.now) (g.S.Sink.faults c.args.sink.now) (entry_lines known (see_lined c.args.texts.now) (line_fails known (lines_of c.args.context.now) c.args.number c.args.number))

pub write_line-write_lead-requires : goal.write_line-write_lead-requires
write_line-write_lead-requires g t c =
    let known = known_of c.args.context.now in
    let lines = lines_of c.args.context.now in
    let texts = see_lined c.args.texts.now in
    let xs = c.as_slice-lead-items.result.now in
    let i = c.loop-lead.lead-index in
    let are : map (see_lead known) xs ≡ line_leads known lines (line_of lines c.args.number) = ap (map (see_lead known)) c.as_slice-lead-items.ensures.value ∙ c.in-Ok.ensures.leads in
    let shown : All (IsShown known) xs = subst (λ (ys : List Lead). All (IsShown known) ys) (sym c.as_slice-lead-items.ensures.value) c.in-Ok.ensures.shown in
    let less : lead_rank (get_or xs i past_lead) < c.args.number * 2 + 1 =
    rank-less known lines (get_or xs i past_lead) c.args.number (lead-below known lines texts c.requires c.args.number xs are i past_lead c.loop-lead-test.true) in
    λ κs out. (omega (arith, less, c.decreases), (out, (c.requires, shown i past_lead c.loop-lead-test.true)))

pub write_line-loop-lead-init : goal.write_line-loop-lead-init
write_line-loop-lead-init g t c = record { text = text-starts (g.S.Sink.told c.args.sink.now) (flat_map (lead_text (known_of c.args.context.now) (lines_of c.args.context.now) (see_lined c.args.texts.now)) c.as_slice-lead-items.result.now); tells = λ some. some; kept = omega arith }

pub write_line-loop-lead-preserved : goal.write_line-loop-lead-preserved
write_line-loop-lead-preserved g t c =
    loop-goes _ (g.S.Sink.told c.args.sink.now) (g.S.Sink.told c.loop-lead.sink) (g.S.Sink.told c.write_lead.new.sink) (g.S.Sink.faults c.args.sink.now) (g.S.Sink.faults c.loop-lead.sink) (g.S.Sink.faults c.write_lead.new.sink) (flat_map (lead_text (known_of c.args.context.now) (lines_of c.args.context.now) (see_lined c.args.texts.now)) c.as_slice-lead-items.result.now) (flat_map (lead_text (known_of c.args.context.now) (lines_of c.args.context.now) (see_lined c.args.texts.now)) (drop c.loop-lead.lead-index c.as_slice-lead-items.result.now)) (flat_map (lead_text (known_of c.args.context.now) (lines_of c.args.context.now) (see_lined c.args.texts.now)) (drop (c.loop-lead.lead-index + 1) c.as_slice-lead-items.result.now)) ((lead_text (known_of c.args.context.now) (lines_of c.args.context.now) (see_lined c.args.texts.now)) (get_or c.as_slice-lead-items.result.now c.loop-lead.lead-index past_lead))
    c.loop-lead.invariant c.in_ok-write_lead.ensures
    (λ piece owes. text-more (lead_text (known_of c.args.context.now) (lines_of c.args.context.now) (see_lined c.args.texts.now)) c.as_slice-lead-items.result.now c.loop-lead.lead-index (g.S.Sink.told c.args.sink.now) (g.S.Sink.told c.loop-lead.sink) past_lead (g.S.Sink.told c.write_lead.new.sink) c.loop-lead-test.true piece owes)

pub write_line-returns-in_err-write_lead : goal.write_line-returns-in_err-write_lead
write_line-returns-in_err-write_lead g t c =
    let known = known_of c.args.context.now in
    let lines = lines_of c.args.context.now in
    let texts = see_lined c.args.texts.now in
    let xs = c.as_slice-lead-items.result.now in
    let are : map (see_lead known) xs ≡ line_leads known lines (line_of lines c.args.number) = ap (map (see_lead known)) c.as_slice-lead-items.ensures.value ∙ c.in-Ok.ensures.leads in
    subst (λ (text : List ℕ). Writes (g.S.Sink.told c.args.sink.now) (g.S.Sink.told c.write_lead.new.sink) (g.S.Sink.faults c.args.sink.now) (g.S.Sink.faults c.write_lead.new.sink) text c.from_residual.result) (line-text known lines texts c.requires c.args.number xs are)
    (loop-stops c.in_err-write_lead.field-0.0 c.from_residual.result (g.S.Sink.told c.args.sink.now) (g.S.Sink.told c.loop-lead.sink) (g.S.Sink.told c.write_lead.new.sink) (g.S.Sink.faults c.args.sink.now) (g.S.Sink.faults c.loop-lead.sink) (g.S.Sink.faults c.write_lead.new.sink) (flat_map (lead_text (known_of c.args.context.now) (lines_of c.args.context.now) (see_lined c.args.texts.now)) c.as_slice-lead-items.result.now) (flat_map (lead_text (known_of c.args.context.now) (lines_of c.args.context.now) (see_lined c.args.texts.now)) (drop c.loop-lead.lead-index c.as_slice-lead-items.result.now)) ((lead_text (known_of c.args.context.now) (lines_of c.args.context.now) (see_lined c.args.texts.now)) (get_or c.as_slice-lead-items.result.now c.loop-lead.lead-index past_lead))
    c.loop-lead.invariant c.in_err-write_lead.ensures c.from_residual.ensures.1
    (λ piece owes. text-stops (lead_text (known_of c.args.context.now) (lines_of c.args.context.now) (see_lined c.args.texts.now)) c.as_slice-lead-items.result.now c.loop-lead.lead-index (g.S.Sink.told c.args.sink.now) (g.S.Sink.told c.loop-lead.sink) past_lead (g.S.Sink.told c.write_lead.new.sink) c.loop-lead-test.true piece owes))

pub write_line-returns : goal.write_line-returns
write_line-returns g t c =
    let known = known_of c.args.context.now in
    let lines = lines_of c.args.context.now in
    let texts = see_lined c.args.texts.now in
    let xs = c.as_slice-lead-items.result.now in
    let are : map (see_lead known) xs ≡ line_leads known lines (line_of lines c.args.number) = ap (map (see_lead known)) c.as_slice-lead-items.ensures.value ∙ c.in-Ok.ensures.leads in
    subst (λ (text : List ℕ). Writes (g.S.Sink.told c.args.sink.now) (g.S.Sink.told c.loop-lead.sink) (g.S.Sink.faults c.args.sink.now) (g.S.Sink.faults c.loop-lead.sink) text (Ok tt)) (line-text known lines texts c.requires c.args.number xs are)
    (loop-ends tt (g.S.Sink.told c.args.sink.now) (g.S.Sink.told c.loop-lead.sink) (g.S.Sink.faults c.args.sink.now) (g.S.Sink.faults c.loop-lead.sink) (flat_map (lead_text (known_of c.args.context.now) (lines_of c.args.context.now) (see_lined c.args.texts.now)) c.as_slice-lead-items.result.now) (flat_map (lead_text (known_of c.args.context.now) (lines_of c.args.context.now) (see_lined c.args.texts.now)) (drop c.loop-lead.lead-index c.as_slice-lead-items.result.now)) c.loop-lead.invariant
    (λ owes. text-ends (lead_text (known_of c.args.context.now) (lines_of c.args.context.now) (see_lined c.args.texts.now)) c.as_slice-lead-items.result.now c.loop-lead.lead-index (g.S.Sink.told c.args.sink.now) (g.S.Sink.told c.loop-lead.sink) c.loop-lead-test.false owes))
