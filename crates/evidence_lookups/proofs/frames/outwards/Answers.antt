use Rattle.std.proofs.Common.{◌≡◌, ◌-◌, suc, ◌∙◌, arith}
use Rattle.evidence_lookups.specs.code.Grounds.{file_in, lines_of}
use Rattle.evidence_lookups.proofs.FramesAround.{outwards-on, outwards-off}
use Rattle.evidence_lookups.proofs.frames.outwards.Goals as goal

pub loop-left-preserved : goal.loop-left-preserved
loop-left-preserved c =
    let more : c.loop-left.left ≡ suc (c.loop-left.left - 1) = omega (arith, c.loop-left-test.true) in
    outwards-on (file_in c.args.context.now) (lines_of c.args.context.now) c.loop-left.left (c.loop-left.left - 1) c.loop-left.at c.in-Some.outer more c.in-Some.ensures ∙ c.loop-left.invariant

pub returns-in_default : goal.returns-in_default
returns-in_default c =
    let more : c.loop-left.left ≡ suc (c.loop-left.left - 1) = omega (arith, c.loop-left-test.true) in
    outwards-off (file_in c.args.context.now) (lines_of c.args.context.now) c.loop-left.left (c.loop-left.left - 1) c.loop-left.at more c.in_default.ensures ∙ c.loop-left.invariant
