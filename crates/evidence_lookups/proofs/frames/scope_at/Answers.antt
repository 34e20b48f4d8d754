use Rattle.std.proofs.Common.{Option, Some, ◌∙◌, ap, sym}
use Rattle.std.specs.Prelude.{option_and_then}
use Rattle.rule_names.specs.declared.piece.Piece as code
use Rattle.rule_names.specs.Pieces.{Piece}
use Rattle.rule_names.specs.code.Seen.{see_piece}
use Rattle.evidence_rules.specs.CitedLines.{scope_of_piece}
use Rattle.evidence_lookups.specs.code.Grounds.{file_in}
use Rattle.evidence_lookups.proofs.frames.scope_at.Goals as goal

pub returns-in-Some-Step : goal.returns-in-Some-Step
returns-in-Some-Step c =
    let f = file_in c.args.context.now in
    c.scope_of_step.ensures f
    ∙ ap (λ (o : Option Piece). option_and_then (scope_of_piece f c.args.site) o) (ap (λ (p : code.Piece). Some (see_piece p)) (sym c.in-Some-Step.field-0-is) ∙ c.in-Some-Step.ensures)
