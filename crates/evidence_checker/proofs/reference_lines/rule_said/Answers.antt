use Rattle.evidence_lines.specs.declared.line.LineKind.TheVariants as kind
use Rattle.evidence_lines.specs.declared.line.Outcome.TheVariants as says
use Rattle.evidence_lookups.proofs.LinesPlaced.{unplaced}
use Rattle.evidence_checker.proofs.FramesSaid.{frameless, said-anywhere}
use Rattle.evidence_checker.proofs.reference_lines.rule_said.Goals as goal

pub returns-in_default : goal.returns-in_default
returns-in_default c = λ at verdict. unplaced c.args.lines.now c.args.number kind.Rule at c.args.site (says.Verdict verdict) c.in_default.ensures

pub returns-in_default-frame : goal.returns-in_default-frame
returns-in_default-frame c =
    λ at verdict. frameless c.args.lines.now c.args.number c.in-Some.place c.in-Some.ensures c.in_default-frame.is kind.Rule at c.args.site (says.Verdict verdict)

pub returns : goal.returns
returns c =
    said-anywhere c.args.lines.now c.args.number c.in-Some.place c.in-Some-frame.frame c.in-Some.ensures c.in-Some-frame.is kind.Rule c.args.site c.verdict_said.result c.verdict_said.ensures
