use Rattle.std.proofs.Common.{List, ℕ, ap, map, refl, subst, sym, ◌∙◌}
use Rattle.std.specs.List.{flat_map}
use Rattle.evidence_lookups.specs.code.Grounds.{known_of, lines_of}
use Rattle.evidence_rules.specs.Follows.{nothing_made}
use Rattle.guard_ends.specs.Drill.{fail_count}
use Rattle.guard_ends.specs.Report as reports
use Rattle.report_text.specs.code.SeenTexts.{see_lined}
use Rattle.evidence_report.specs.code.VerdictLines.{AreSaid, see_verdict, verdicts_in}
use Rattle.evidence_report.specs.code.Written.{Takes, TakesFront}
use Rattle.evidence_report.specs.declared.verdict_lines.VerdictLine.{VerdictLine}
use Rattle.evidence_leads.proofs.EarlierCites.{cites-fall}
use Rattle.evidence_report.proofs.ReportTexts.{whole-text}
use Rattle.evidence_report.proofs.TakenTexts.{front-longer, front-then, of-error, takes-then}
use Rattle.evidence_report.proofs.report.write_report.Goals as goal

pub count_entries-requires-clause-falls : goal.count_entries-requires-clause-falls
count_entries-requires-clause-falls g c =
    let known = known_of c.args.context.now in
    cites-fall c.args.context.now.version (nothing_made known.template known.file) (lines_of c.args.context.now) c.requires.accepts.follow

pub count_entries-requires-clause-said : goal.count_entries-requires-clause-said
count_entries-requires-clause-said g c = subst (λ (vs : List VerdictLine). AreSaid (lines_of c.args.context.now) vs) (sym c.deref.ensures.value) c.in-Ok.ensures.said

pub write_verdicts-requires : goal.write_verdicts-requires
write_verdicts-requires g c =
    let known = known_of c.args.context.now in
    cites-fall c.args.context.now.version (nothing_made known.template known.file) (lines_of c.args.context.now) c.requires.accepts.follow

pub returns-in_err-write_verdicts-clause-err : goal.returns-in_err-write_verdicts-clause-err
returns-in_err-write_verdicts-clause-err g c answers obey =
    let known = known_of c.args.context.now in
    let lines = lines_of c.args.context.now in
    let texts = see_lined c.args.texts.now in
    let all = c.in-Ok.all.items in
    let start = g.S.Sink.told c.args.sink.now in
    let middle = g.S.Sink.told c.write_verdicts.new.sink in
    let first = flat_map (reports.lines_of known.file known.template texts) (map (see_verdict known lines) c.deref-2.result.now) in
    of-error c.from_residual.result _
    (subst (λ (t : List ℕ). TakesFront start t middle)
    (whole-text known lines texts answers all c.deref-2.result.now all c.deref-2.ensures.value refl (c.in-Ok.ensures.verdicts answers obey))
    (front-longer start middle first (reports.total_line (verdicts_in all)) c.in_err-write_verdicts.ensures.err))

pub returns-in_err-write_total-clause-err : goal.returns-in_err-write_total-clause-err
returns-in_err-write_total-clause-err g c answers obey =
    let known = known_of c.args.context.now in
    let lines = lines_of c.args.context.now in
    let texts = see_lined c.args.texts.now in
    let all = c.in-Ok.all.items in
    let start = g.S.Sink.told c.args.sink.now in
    let middle = g.S.Sink.told c.write_verdicts.new.sink in
    let end = g.S.Sink.told c.write_total.new.sink in
    let first = flat_map (reports.lines_of known.file known.template texts) (map (see_verdict known lines) c.deref-2.result.now) in
    of-error c.from_residual-in_err-write_total.result _
    (subst (λ (t : List ℕ). TakesFront start t end)
    (whole-text known lines texts answers all c.deref-2.result.now c.deref-3.result.now c.deref-2.ensures.value c.deref-3.ensures.value (c.in-Ok.ensures.verdicts answers obey))
    (front-then start middle end first (reports.total_line (verdicts_in c.deref-3.result.now)) c.in_ok-write_verdicts.ensures.ok c.in_err-write_total.ensures.err))

pub returns-clause-ok : goal.returns-clause-ok
returns-clause-ok g c answers obey =
    let known = known_of c.args.context.now in
    let lines = lines_of c.args.context.now in
    let texts = see_lined c.args.texts.now in
    let all = c.in-Ok.all.items in
    let start = g.S.Sink.told c.args.sink.now in
    let middle = g.S.Sink.told c.write_verdicts.new.sink in
    let end = g.S.Sink.told c.write_total.new.sink in
    let first = flat_map (reports.lines_of known.file known.template texts) (map (see_verdict known lines) c.deref-2.result.now) in
    subst (λ (t : List ℕ). Takes start t end)
    (whole-text known lines texts answers all c.deref-2.result.now c.deref-3.result.now c.deref-2.ensures.value c.deref-3.ensures.value (c.in-Ok.ensures.verdicts answers obey))
    (takes-then start middle end first (reports.total_line (verdicts_in c.deref-3.result.now)) c.in_ok-write_verdicts.ensures.ok c.in_ok-write_total.ensures.ok)

pub returns-clause-count : goal.returns-clause-count
returns-clause-count g c answers obey =
    let known = known_of c.args.context.now in
    let lines = lines_of c.args.context.now in
    c.in-Ok-count_entries.ensures ∙ ap (λ (vs : List VerdictLine). fail_count (map (see_verdict known lines) vs)) c.deref.ensures.value ∙ ap fail_count (c.in-Ok.ensures.verdicts answers obey)
