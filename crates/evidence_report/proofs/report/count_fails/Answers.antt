use Rattle.std.proofs.Common.{◌≡◌, List, ap, map, subst, sym, ◌∙◌}
use Rattle.std.proofs.lemmas.Result.{IfOk-weaker}
use Rattle.evidence_lookups.specs.code.Grounds.{known_of, lines_of}
use Rattle.evidence_rules.specs.Follows.{nothing_made}
use Rattle.rule_meaning.specs.Seeing.{world_of}
use Rattle.guard_ends.specs.Drill.{fail_count}
use Rattle.guard_ends.specs.Reported.{reported}
use Rattle.evidence_report.specs.code.VerdictLines.{AreSaid, see_verdict}
use Rattle.evidence_report.specs.declared.verdict_lines.VerdictLine.{VerdictLine}
use Rattle.evidence_leads.proofs.EarlierCites.{cites-fall}
use Rattle.evidence_report.proofs.TakenTexts.{none-at-exit}
use Rattle.evidence_report.proofs.report.count_fails.Goals as goal

pub count_entries-requires-clause-falls : goal.count_entries-requires-clause-falls
count_entries-requires-clause-falls c =
    let known = known_of c.args.context.now in
    cites-fall c.args.context.now.version (nothing_made known.template known.file) (lines_of c.args.context.now) c.requires.accepts.follow

pub count_entries-requires-clause-said : goal.count_entries-requires-clause-said
count_entries-requires-clause-said c = subst (λ (vs : List VerdictLine). AreSaid (lines_of c.args.context.now) vs) (sym c.deref.ensures.value) c.in_ok-all.ensures.said

pub returns-in_err-all : goal.returns-in_err-all
returns-in_err-all c answers obey = none-at-exit _ c.from_residual.result c.in_err-all.field-0.0 c.from_residual.ensures.1

pub returns : goal.returns
returns c answers obey =
    let known = known_of c.args.context.now in
    let lines = lines_of c.args.context.now in
    IfOk-weaker c.count_entries.result (λ n. n ≡ fail_count (map (see_verdict known lines) c.deref.result.now)) (λ n. n ≡ fail_count (reported (world_of known answers)))
    (λ n is. is ∙ ap (λ (vs : List VerdictLine). fail_count (map (see_verdict known lines) vs)) c.deref.ensures.value ∙ ap fail_count (c.in_ok-all.ensures.verdicts answers obey)) c.count_entries.ensures
