use Rattle.evidence_lines.specs.declared.line.Outcome.TheVariants as says
use Rattle.evidence_lookups.proofs.RowsGiven.{rows-there}
use Rattle.evidence_lookups.proofs.lookup.rows_said.Goals as goal

pub returns-in-Some : goal.returns-in-Some
returns-in-Some c =
    rows-there c.args.lines.now c.args.number c.args.kind c.args.frame c.args.site c.in-Some.outcome c.rows_of.result c.in-Some.ensures c.rows_of.ensures

pub returns-in-None : goal.returns-in-None
returns-in-None c = λ rows. c.in-None.ensures (says.Rows rows)
