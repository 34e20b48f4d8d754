use Rattle.std.proofs.Common.{◌≡◌, length}
use Rattle.evidence_lookups.specs.code.Grounds.{known_of, lines_of}
use Rattle.evidence_report.specs.code.Counts.{AreCounts}
use Rattle.evidence_report.proofs.count.count_lines.Given as goal

abbrev pub invariant-loop-before : goal.invariant-loop-before
invariant-loop-before l = record {
  size : length l.counts.items ≡ l._before;
  are : AreCounts (known_of l.context) (lines_of l.context) l.counts.items;
}
