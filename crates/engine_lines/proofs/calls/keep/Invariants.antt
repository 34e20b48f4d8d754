use Rattle.engine_states.proofs.KeptTrees.{KeptSoFar}
use Rattle.engine_lines.proofs.calls.keep.Given as goal

abbrev pub invariant-loop-made : goal.invariant-loop-made
invariant-loop-made l = KeptSoFar l.fn.store l.store l.line l.yielded l.rows.items
