use Rattle.std.proofs.Common.{◌≡◌, ◌++◌, map, take}
use Rattle.evidence_lines.specs.code.RowsSeen.{node_of}
use Rattle.evidence_lines.proofs.node_rows.push_nodes.Given as goal

abbrev pub invariant-loop-row : goal.invariant-loop-row
invariant-loop-row l = l.into.items ≡ l.initial.into.items ++ map node_of (take l.row-index l.rows)
