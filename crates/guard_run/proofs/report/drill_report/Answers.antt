use Rattle.std.proofs.Common.{◌≡◌, ◌++◌, ◌∙◌, ℕ, List, Some, ap, refl}
use Rattle.std.proofs.lemmas.Option.{same_Some}
use Rattle.rule_meaning.specs.Seeing.{world_of}
use Rattle.evidence_lookups.specs.code.Grounds.{known_of}
use Rattle.guard_ends.specs.Drill.{drill_report}
use Rattle.guard_run.proofs.report.drill_report.Goals as goal

pub returns-in-Ok : goal.returns-in-Ok
returns-in-Ok c answers texts obey =
    let text = drill_report c.args.count (world_of (known_of c.args.context.now) answers) texts in
    let before : List ℕ = c.new.result.items in
    let taken : Some c.write_drill.new.sink.bytes.items ≡ Some (before ++ text) = c.in-Ok.ensures.ok answers texts obey before refl in
    same_Some c.write_drill.new.sink.bytes.items (before ++ text) taken ∙ ap (λ (front : List ℕ). front ++ text) c.new.ensures.items
