use Rattle.std.proofs.Common.{◌≡◌, ap, ◌∙◌, sym}
use Rattle.std.proofs.lemmas.Result.{IfOk-weaker}
use Rattle.rule_meaning.specs.Seeing.{world_of}
use Rattle.evidence_lookups.specs.code.Grounds.{known_of, lines_of}
use Rattle.guard_ends.specs.Reported.{verdicts_of}
use Rattle.evidence_report.specs.code.VerdictLines.{verdicts_in}
use Rattle.evidence_report.proofs.DrillTexts.{verdicts-told}
use Rattle.evidence_report.proofs.TakenTexts.{none-at-exit}
use Rattle.evidence_report.proofs.verdict_lines.verdicts_told.Goals as goal

pub returns-in_err-all : goal.returns-in_err-all
returns-in_err-all c answers obey = none-at-exit _ c.from_residual.result c.in_err-all.field-0.0 c.from_residual.ensures.1

pub returns : goal.returns
returns c answers obey =
    let known = known_of c.args.context.now in
    IfOk-weaker c.verdicts_alone.result (λ verdicts. verdicts.items ≡ verdicts_in c.deref.result.now) (λ verdicts. verdicts.items ≡ verdicts_of (world_of known answers))
    (λ verdicts is. is ∙ ap verdicts_in c.deref.ensures.value ∙ verdicts-told known (lines_of c.args.context.now) answers c.in_ok-all.all.items (c.in_ok-all.ensures.verdicts answers obey))
    c.verdicts_alone.ensures
