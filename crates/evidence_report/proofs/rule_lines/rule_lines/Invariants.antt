use Rattle.std.proofs.Common.{◌≡◌}
use Rattle.evidence_report.proofs.RuleTables.{table_upto}
use Rattle.evidence_report.proofs.rule_lines.rule_lines.Given as goal

abbrev pub invariant-loop-before : goal.invariant-loop-before
invariant-loop-before l = l.table.items ≡ table_upto l.lines l.sites l.before
