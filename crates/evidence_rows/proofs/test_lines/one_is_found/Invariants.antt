use Rattle.std.proofs.Common.{◌≡◌, true, drop}
use Rattle.rule_meaning.specs.Verdicts.{is_found}
use Rattle.evidence_rows.specs.code.TestedRows.{holds_for}
use Rattle.evidence_rows.proofs.test_lines.one_is_found.Given as goal

abbrev pub invariant-loop-row : goal.invariant-loop-row
invariant-loop-row l = holds_for true is_found l.rows ≡ holds_for true is_found (drop l.row-index l.rows)
