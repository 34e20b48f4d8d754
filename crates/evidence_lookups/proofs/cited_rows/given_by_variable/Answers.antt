use Rattle.std.proofs.Common.{Some, ◌∙◌, ap, sym}
use Rattle.evidence_lines.specs.declared.line.LineKind.TheVariants as kind
use Rattle.evidence_lines.specs.declared.line.Outcome.TheVariants as says
use Rattle.rule_names.specs.Resolution.{bind_of}
use Rattle.rule_names.specs.declared.bind.Bind.TheVariants as bound
use Rattle.evidence_rules.specs.CitedLines.{GivesArgument, GivesBound, IsLine, outwards}
use Rattle.evidence_lookups.specs.code.Grounds.{file_in, lines_of}
use Rattle.evidence_lookups.proofs.RowsGiven.{some-given}
use Rattle.evidence_lookups.proofs.cited_rows.given_by_variable.Goals as goal

pub returns-in-Some-outwards-2 : goal.returns-in-Some-outwards-2
returns-in-Some-outwards-2 c =
    let f = file_in c.args.context.now in
    let ls = lines_of c.args.context.now in
    some-given (bind_of f c.args.site) (bound.Capture c.in-Capture.up c.in-Capture.step) (λ b rows. GivesBound f ls c.args.frame b c.args.number rows) c.rows_said.result (sym c.in-Some.ensures ∙ ap Some c.in-Capture.is)
    (some-given (outwards f ls c.in-Capture.up c.args.frame) c.in-Some-outwards-2.at (λ at rows. IsLine ls c.args.number kind.Capture at c.in-Capture.step (says.Rows rows)) c.rows_said.result (sym c.in-Some-outwards-2.ensures) c.rows_said.ensures)

pub returns-in-Some-outwards-3 : goal.returns-in-Some-outwards-3
returns-in-Some-outwards-3 c =
    let f = file_in c.args.context.now in
    let ls = lines_of c.args.context.now in
    some-given (bind_of f c.args.site) (bound.Param c.in-Param.up c.in-Param.index) (λ b rows. GivesBound f ls c.args.frame b c.args.number rows) c.given_by_argument.result (sym c.in-Some.ensures ∙ ap Some c.in-Param.is)
    (some-given (outwards f ls c.in-Param.up c.args.frame) c.in-Some-outwards-3.at (λ at rows. GivesArgument f ls at c.in-Param.index c.args.number rows) c.given_by_argument.result (sym c.in-Some-outwards-3.ensures) c.given_by_argument.ensures)
