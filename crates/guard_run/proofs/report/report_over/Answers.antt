use Rattle.std.proofs.Common.{◌≡◌, ◌++◌, ◌∙◌, ℕ, List, Some, ap, refl}
use Rattle.std.proofs.lemmas.Option.{same_Some}
use Rattle.rule_meaning.specs.Seeing.{world_of}
use Rattle.evidence_lookups.specs.code.Grounds.{known_of}
use Rattle.report_text.specs.code.SeenTexts.{see_lined}
use Rattle.guard_ends.specs.Report.{report}
use Rattle.guard_run.proofs.report.report_over.Goals as goal

pub returns-in-Ok : goal.returns-in-Ok
returns-in-Ok c answers obey =
    let text = report (world_of (known_of c.args.context.now) answers) (see_lined c.args.texts.now) in
    let before : List ℕ = c.new.result.items in
    let taken : Some c.write_report.new.sink.bytes.items ≡ Some (before ++ text) = c.in-Ok.ensures.ok answers obey before refl in
    same_Some c.write_report.new.sink.bytes.items (before ++ text) taken ∙ ap (λ (front : List ℕ). front ++ text) c.new.ensures.items
