use Rattle.std.proofs.Common.{◌≡◌, ◌+◌, ◌-◌, ◌^◌, ◌≤◌, min, List, length, map, drop}
use Rattle.evidence_lines.specs.declared.line.Line.{Line}
use Rattle.rule_meaning.specs.StoreModel.{StoreModel}
use Rattle.guard_ends.specs.Drill.{fail_count}
use Rattle.guard_ends.specs.Reported.{Reported}
use Rattle.evidence_report.specs.code.Counts.{AreCounts}
use Rattle.evidence_report.specs.code.VerdictLines.{AreSaid, see_verdict}
use Rattle.evidence_report.proofs.Counting.{gathered}
use Rattle.evidence_report.proofs.report.sum_of.Given as goal

abbrev pub invariant-loop-listed : goal.invariant-loop-listed
invariant-loop-listed l = record {
  small : l.sum ≤ 2 ^ 64 - 1;
  owes : (known : StoreModel) (lines : List Line) → AreCounts known lines l.counts → length l.counts ≡ length lines → AreSaid lines l.all
      → min (l.sum + length (gathered (λ (r : Reported). r.fails) (see_verdict known lines) (drop l.listed-index l.all))) (2 ^ 64 - 1) ≡ fail_count (map (see_verdict known lines) l.all);
}
