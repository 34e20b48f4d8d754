use Rattle.std.proofs.Common.{◌≡◌, ◌++◌, List, codes, decimal, subst, sym, ◌∙◌, ap}
use Rattle.std.specs.List.{flat_map}
use Rattle.std.proofs.lemmas.Result.{IfOk-weaker}
use Rattle.evidence_lookups.specs.code.Grounds.{known_of, lines_of}
use Rattle.evidence_rules.specs.Follows.{nothing_made}
use Rattle.rule_meaning.specs.Seeing.{world_of}
use Rattle.guard_ends.specs.Drill.{drill_report}
use Rattle.guard_ends.specs.Report.{total_line}
use Rattle.evidence_report.specs.code.VerdictLines.{AreSaid, heading, verdicts_in}
use Rattle.evidence_report.specs.declared.verdict_lines.VerdictLine.{VerdictLine}
use Rattle.evidence_report.proofs.DrillTexts.{drill-told}
use Rattle.evidence_leads.proofs.EarlierCites.{cites-fall}
use Rattle.evidence_report.proofs.TakenTexts.{none-at-exit}
use Rattle.evidence_report.proofs.drill.drill_text.Goals as goal

pub count_entries-requires-clause-falls : goal.count_entries-requires-clause-falls
count_entries-requires-clause-falls c =
    let known = known_of c.args.context.now in
    cites-fall c.args.context.now.version (nothing_made known.template known.file) (lines_of c.args.context.now) c.requires.accepts.follow

pub count_entries-requires-clause-said : goal.count_entries-requires-clause-said
count_entries-requires-clause-said c = subst (λ (vs : List VerdictLine). AreSaid (lines_of c.args.context.now) vs) (sym c.deref.ensures.value) c.in_ok-all.ensures.said

pub returns-in_err-all : goal.returns-in_err-all
returns-in_err-all c answers texts obey = none-at-exit _ c.from_residual.result c.in_err-all.field-0.0 c.from_residual.ensures.1

pub returns-in_err-entries : goal.returns-in_err-entries
returns-in_err-entries c answers texts obey = none-at-exit _ c.from_residual-in_err-entries.result c.in_err-entries.field-0.0 c.from_residual-in_err-entries.ensures.1

pub returns : goal.returns
returns c answers texts obey =
    let known = known_of c.args.context.now in
    let lines = lines_of c.args.context.now in
    let count = c.args.count in
    let entries = c.in_ok-entries.entries in
    IfOk-weaker c.text_of.result
    (λ text. text.items ≡ (codes "drill " ++ decimal count ++ codes "\n") ++ flat_map heading c.deref-2.result.now ++ (codes "fails " ++ decimal entries ++ codes "\n") ++ total_line (verdicts_in c.deref-2.result.now))
    (λ text. text.items ≡ drill_report count (world_of known answers) texts)
    (λ text is. is ∙ drill-told known lines answers c.in_ok-all.all.items (c.in_ok-all.ensures.verdicts answers obey) texts count entries c.deref.result.now c.deref-2.result.now c.deref.ensures.value c.deref-2.ensures.value
    c.in_ok-entries.ensures)
    c.text_of.ensures
