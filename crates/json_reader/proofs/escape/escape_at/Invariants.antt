use Rattle.json_reader.proofs.Walk.{InEscape}
use Rattle.json_reader.proofs.escape.escape_at.Given as goal

abbrev pub invariant-loop-end : goal.invariant-loop-end
invariant-loop-end l = InEscape l.bytes l.at l.end
