use Rattle.std.proofs.Common.{◌≡◌, ◌-◌, suc, ◌∙◌, arith}
use Rattle.rule_names.specs.code.Files.{file_of}
use Rattle.scope_frames.proofs.OutwardSteps.{outwards-on, outwards-off}
use Rattle.scope_frames.proofs.outwards.outwards.Goals as goal

pub loop-left-preserved : goal.loop-left-preserved
loop-left-preserved c =
    let more : c.loop-left.left ≡ suc (c.loop-left.left - 1) = omega (arith, c.loop-left-test.true) in
    outwards-on (file_of c.args.file.now) c.args.frames.now c.loop-left.left (c.loop-left.left - 1) c.loop-left.at c.in-Some.outer more c.in-Some.ensures ∙ c.loop-left.invariant

pub returns-in_default : goal.returns-in_default
returns-in_default c =
    let more : c.loop-left.left ≡ suc (c.loop-left.left - 1) = omega (arith, c.loop-left-test.true) in
    outwards-off (file_of c.args.file.now) c.args.frames.now c.loop-left.left (c.loop-left.left - 1) c.loop-left.at more c.in_default.ensures ∙ c.loop-left.invariant
