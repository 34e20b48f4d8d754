use Rattle.std.proofs.Common.{◌≡◌, IfOk, subst, sym}
use Rattle.rule_meaning.specs.Seeing.{world_of}
use Rattle.evidence_lookups.specs.code.Grounds.{known_of}
use Rattle.report_text.specs.code.SeenTexts.{see_texts}
use Rattle.guard_run.specs.code.Forms.{report_in}
use Rattle.guard_run.specs.declared.report.Form.{Form}
use Rattle.guard_run.proofs.report.report_by.Goals as goal

pub returns-in-Entries : goal.returns-in-Entries
returns-in-Entries c answers obey =
    let inputs = c.args.inputs.now in
    subst (λ (f : Form). IfOk c.whole_report.result (λ report. report.items ≡ report_in f (world_of (known_of c.args.context.now) answers) (see_texts inputs.texts))) (sym c.in-Entries.is)
    (c.whole_report.ensures answers obey)

pub returns-in-Drill : goal.returns-in-Drill
returns-in-Drill c answers obey =
    let inputs = c.args.inputs.now in
    subst (λ (f : Form). IfOk c.drill_report.result (λ report. report.items ≡ report_in f (world_of (known_of c.args.context.now) answers) (see_texts inputs.texts))) (sym c.in-Drill.is)
    (c.drill_report.ensures answers (see_texts inputs.texts) obey)
