use Rattle.std.proofs.Common.{sym}
use Rattle.guard_syntax.specs.code.Seen.{see_step}
use Rattle.evidence_lookups.specs.code.Grounds.{file_in, lines_of}
use Rattle.evidence_lookups.proofs.PartsSeen.{step-site}
use Rattle.evidence_lookups.proofs.RowsGiven.{step-given}
use Rattle.evidence_lookups.proofs.cited_rows.given_by_step.Goals as goal

pub returns : goal.returns
returns c =
    step-given (file_in c.args.context.now) (lines_of c.args.context.now) c.args.frame (see_step c.args.step.now) c.args.number c.args.step.now.site c.kind_of_step.result c.rows_said.result
    (c.kind_of_step.ensures (file_in c.args.context.now) (lines_of c.args.context.now)) (sym (step-site c.args.step.now)) c.rows_said.ensures
