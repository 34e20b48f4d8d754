use Rattle.evidence_lines.specs.declared.line.LineKind.TheVariants as kind
use Rattle.evidence_lines.specs.declared.line.Outcome.TheVariants as says
use Rattle.evidence_lookups.proofs.LinesPlaced.{unplaced}
use Rattle.evidence_checker.proofs.FramesSaid.{frameless, no-frame, said-in-frame}
use Rattle.evidence_checker.proofs.bodies.said_within.Goals as goal

pub returns-in_default : goal.returns-in_default
returns-in_default c = λ at _ verdict _. unplaced c.args.lines.now c.args.number kind.Conj at c.args.site (says.Verdict verdict) c.in_default.ensures

pub returns-in_default-frame : goal.returns-in_default-frame
returns-in_default-frame c =
    λ at _ verdict _. frameless c.args.lines.now c.args.number c.in-Some.place c.in-Some.ensures c.in_default-frame.is kind.Conj at c.args.site (says.Verdict verdict)

pub returns-then-is_frame_at : goal.returns-then-is_frame_at
returns-then-is_frame_at c =
    said-in-frame c.args.lines.now c.args.number c.in-Some.place c.in-Some-frame.at c.in-Some.ensures c.in-Some-frame.is c.args.frame c.args.scope c.args.site c.verdict_said.result
    c.if-is_frame_at.ensures c.verdict_said.ensures

pub returns-else-is_frame_at : goal.returns-else-is_frame_at
returns-else-is_frame_at c =
    no-frame c.args.lines.now c.args.number c.in-Some.place c.in-Some-frame.at c.in-Some.ensures c.in-Some-frame.is c.args.frame c.args.scope c.args.site c.if-is_frame_at.ensures
