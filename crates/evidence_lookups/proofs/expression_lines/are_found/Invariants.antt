use Rattle.evidence_lookups.proofs.RowsFound.{FoundSoFar}
use Rattle.evidence_lookups.proofs.expression_lines.are_found.Given as goal

abbrev pub invariant-loop-index : goal.invariant-loop-index
invariant-loop-index l = FoundSoFar l.all l.rows l.index l.next
