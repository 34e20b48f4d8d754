use Rattle.engine_parts.specs.code.FrameLines.{AreCopied, AreKept}
use Rattle.engine_parts.proofs.frame_lines.copy_lines.Given as goal

abbrev pub invariant-loop-offset : goal.invariant-loop-offset
invariant-loop-offset l = AreKept l.fn.lines.items l.lines.items × AreCopied l.fn.lines.items l.span l.first l.offset l.lines.items
