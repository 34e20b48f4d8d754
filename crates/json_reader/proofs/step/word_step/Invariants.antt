use Rattle.std.proofs.Common.{◌≤◌, ◌+◌, length}
use Rattle.json_reader.proofs.Walk.{InWordAt}
use Rattle.json_reader.proofs.step.word_step.Given as goal

abbrev pub invariant-loop-i : goal.invariant-loop-i
invariant-loop-i l = InWordAt l.bytes l.rest (l.at + 1) l.i l.kind l.at l.builder × (l.at + 1 + l.i ≤ length l.bytes)
