use Rattle.evidence_lines.specs.declared.line.Outcome.TheVariants as says
use Rattle.evidence_lookups.proofs.LinesPlaced.{other-place, unplaced, verdict-there}
use Rattle.evidence_lookups.proofs.lookup.verdict_said.Goals as goal

pub returns-in_default : goal.returns-in_default
returns-in_default c = λ verdict. unplaced c.args.lines.now c.args.number c.args.kind c.args.frame c.args.site (says.Verdict verdict) c.in_default.ensures

pub returns-then-is_placed : goal.returns-then-is_placed
returns-then-is_placed c =
    verdict-there c.args.lines.now c.args.number c.in-Some.place c.in-Some.ensures c.args.kind c.args.frame c.args.site c.verdict_at.result c.if-is_placed.ensures c.verdict_at.ensures

pub returns-else-is_placed : goal.returns-else-is_placed
returns-else-is_placed c =
    λ verdict. other-place c.args.lines.now c.args.number c.in-Some.place c.in-Some.ensures c.args.kind c.args.frame c.args.site c.if-is_placed.ensures (says.Verdict verdict)
