use Rattle.std.proofs.Common.{sym}
use Rattle.evidence_lines.specs.declared.line.LineKind.TheVariants as kind
use Rattle.evidence_lines.specs.declared.line.Outcome.TheVariants as says
use Rattle.evidence_lookups.proofs.FramedVerdicts.{framed-else, framed-there, unframed}
use Rattle.evidence_lookups.proofs.LinesPlaced.{unplaced}
use Rattle.evidence_lookups.proofs.body_frames.framed_verdict.Goals as goal

pub returns-in_default : goal.returns-in_default
returns-in_default c = λ at verdict _. unplaced c.args.lines.now c.args.number kind.Conj at c.args.site (says.Verdict verdict) c.in_default.ensures

pub returns-in_default-frame : goal.returns-in_default-frame
returns-in_default-frame c =
    λ at verdict _.
    unframed c.args.lines.now c.args.number c.args.within.frame c.args.within.site c.args.site c.args.within.value c.in-Some.place c.in-Some.ensures (sym c.in_default-frame.is) at verdict

pub returns-then-is_frame : goal.returns-then-is_frame
returns-then-is_frame c =
    framed-there c.args.lines.now c.args.number c.args.within.frame c.args.within.site c.args.site c.args.within.value c.in-Some.place c.in-Some.ensures c.in-Some-frame.at c.verdict_said.result
    c.in-Some-frame.is c.if-is_frame.ensures c.verdict_said.ensures

pub returns-else-is_frame : goal.returns-else-is_frame
returns-else-is_frame c =
    framed-else c.args.lines.now c.args.number c.args.within.frame c.args.within.site c.args.site c.args.within.value c.in-Some.place c.in-Some.ensures c.in-Some-frame.at c.in-Some-frame.is
    c.if-is_frame.ensures
