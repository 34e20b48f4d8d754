use Rattle.std.proofs.Common.{◌≡◌, ◌∙◌, ◌++◌, ℕ, List, Some, ap, refl}
use Rattle.std.proofs.lemmas.Option.{same_Some}
use Rattle.rule_names.specs.code.Files.{file_of}
use Rattle.report_text.specs.RuleLines.{reported_names, rule_lines}
use Rattle.guard_run.proofs.check.accepted_text.Goals as goal

pub returns-in-Ok : goal.returns-in-Ok
returns-in-Ok c =
    let lines = rule_lines (reported_names (file_of c.args.rules.now)) c.args.verdicts.now in
    let before : List ℕ = c.in_ok-from_slice.field-0.items in
    let put : Some c.write_rules.new.sink.bytes.items ≡ Some (before ++ lines) = c.in-Ok.ensures.ok before refl in
    same_Some c.write_rules.new.sink.bytes.items (before ++ lines) put ∙ ap (λ (front : List ℕ). front ++ lines) c.in_ok-from_slice.ensures.items
