use Rattle.std.proofs.Common.{◌≡◌, length}
use Rattle.guard_syntax.specs.Syntax.{File}
use Rattle.evidence_rules.specs.CitedLines.{file_frame}
use Rattle.evidence_lookups.proofs.frames.file_frame.Given as goal

abbrev pub invariant-loop-most : goal.invariant-loop-most
invariant-loop-most l = (f : File) → file_frame f l.lines l.most l.at ≡ file_frame f l.lines (length l.lines) l.frame

abbrev pub decreases-loop-most : goal.decreases-loop-most
decreases-loop-most l = l.most
