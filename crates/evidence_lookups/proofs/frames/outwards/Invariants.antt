use Rattle.std.proofs.Common.{◌≡◌}
use Rattle.evidence_rules.specs.CitedLines.{outwards}
use Rattle.evidence_lookups.specs.code.Grounds.{file_in, lines_of}
use Rattle.evidence_lookups.proofs.frames.outwards.Given as goal

abbrev pub invariant-loop-left : goal.invariant-loop-left
invariant-loop-left l = outwards (file_in l.context) (lines_of l.context) l.left l.at ≡ outwards (file_in l.context) (lines_of l.context) l.up l.frame

abbrev pub decreases-loop-left : goal.decreases-loop-left
decreases-loop-left l = l.left
