use Rattle.std.proofs.Common.{◌≡◌, ◌-◌, suc, Some, None, refl, ◌∙◌, arith}
use Rattle.evidence_lines.specs.declared.line.LineKind.TheVariants as kind
use Rattle.evidence_rules.specs.CitedLines.{file_frame}
use Rattle.evidence_lookups.proofs.FramesAround.{by-fields, no-further, other-kind}
use Rattle.evidence_lookups.proofs.frames.file_frame.Goals as goal

pub returns-in_default : goal.returns-in_default
returns-in_default c =
    let more : c.loop-most.most ≡ suc (c.loop-most.most - 1) = omega (arith, c.loop-most-test.true) in
    λ f. no-further f c.args.lines.now c.loop-most.most (c.loop-most.most - 1) c.loop-most.at more c.in_default.ensures ∙ c.loop-most.invariant f

pub returns-in-File : goal.returns-in-File
returns-in-File c =
    let more : c.loop-most.most ≡ suc (c.loop-most.most - 1) = omega (arith, c.loop-most-test.true) in
    λ f. by-fields f c.args.lines.now c.loop-most.most (c.loop-most.most - 1) c.loop-most.at c.in-Some.place kind.File c.in-Some.place.frame more c.in-Some.ensures c.in-File.is refl ∙ c.loop-most.invariant f

pub returns-in_default-kind : goal.returns-in_default-kind
returns-in_default-kind c =
    let more : c.loop-most.most ≡ suc (c.loop-most.most - 1) = omega (arith, c.loop-most-test.true) in
    λ f. other-kind f c.args.lines.now c.in-Some.place.kind (file_frame f c.args.lines.now (c.loop-most.most - 1)) c.loop-most.at c.in-Some.place.frame c.in_default-kind.not-File c.in_default-kind.not-Frame
    ∙ by-fields f c.args.lines.now c.loop-most.most (c.loop-most.most - 1) c.loop-most.at c.in-Some.place c.in-Some.place.kind c.in-Some.place.frame more c.in-Some.ensures refl refl ∙ c.loop-most.invariant f

pub returns-in_default-frame : goal.returns-in_default-frame
returns-in_default-frame c =
    let more : c.loop-most.most ≡ suc (c.loop-most.most - 1) = omega (arith, c.loop-most-test.true) in
    λ f. by-fields f c.args.lines.now c.loop-most.most (c.loop-most.most - 1) c.loop-most.at c.in-Some.place kind.Frame None more c.in-Some.ensures c.in-Frame.is c.in_default-frame.is ∙ c.loop-most.invariant f

pub loop-most-preserved : goal.loop-most-preserved
loop-most-preserved c =
    let more : c.loop-most.most ≡ suc (c.loop-most.most - 1) = omega (arith, c.loop-most-test.true) in
    λ f. by-fields f c.args.lines.now c.loop-most.most (c.loop-most.most - 1) c.loop-most.at c.in-Some.place kind.Frame (Some c.in-Some-frame.further) more c.in-Some.ensures c.in-Frame.is c.in-Some-frame.is ∙ c.loop-most.invariant f
