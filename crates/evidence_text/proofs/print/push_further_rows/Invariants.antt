use Rattle.std.proofs.Common.{◌≡◌, ◌++◌, All, drop}
use Rattle.evidence_lines.specs.Shapes.{IsRowBounded}
use Rattle.evidence_text.proofs.RowsLeft.{left_text}
use Rattle.evidence_text.proofs.print.push_further_rows.Given as goal

abbrev pub invariant-loop-index : goal.invariant-loop-index
invariant-loop-index l = record {
  printed : l.text.items ++ left_text l.rows l.index ≡ l.initial.text.items ++ left_text l.rows 1;
  bounded : All IsRowBounded (drop l.index l.rows) → All IsRowBounded (drop 1 l.rows);
}
