use Rattle.std.proofs.Common.{◌≡◌, suc}
use Rattle.scope_frames.specs.code.Frames.{root_of}
use Rattle.scope_frames.proofs.outwards.root.Given as goal

abbrev pub invariant-loop-frame : goal.invariant-loop-frame
invariant-loop-frame l = root_of l.frames (suc l.left) l.at ≡ root_of l.frames (suc l.number) l.number

abbrev pub decreases-loop-frame : goal.decreases-loop-frame
decreases-loop-frame l = l.left
