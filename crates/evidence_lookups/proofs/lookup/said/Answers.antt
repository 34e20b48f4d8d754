use Rattle.evidence_lookups.proofs.LinesPlaced.{other-place, said-there, unplaced}
use Rattle.evidence_lookups.proofs.lookup.said.Goals as goal

pub returns-in_default : goal.returns-in_default
returns-in_default c = λ outcome. unplaced c.args.lines.now c.args.number c.args.kind c.args.frame c.args.site outcome c.in_default.ensures

pub returns-then-is_placed : goal.returns-then-is_placed
returns-then-is_placed c =
    said-there c.args.lines.now c.args.number c.in-Some.place c.in-Some.ensures c.args.kind c.args.frame c.args.site c.outcome_at.result c.if-is_placed.ensures c.outcome_at.ensures

pub returns-else-is_placed : goal.returns-else-is_placed
returns-else-is_placed c = other-place c.args.lines.now c.args.number c.in-Some.place c.in-Some.ensures c.args.kind c.args.frame c.args.site c.if-is_placed.ensures
