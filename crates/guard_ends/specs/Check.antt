-- A check: what out takes where evidence was judged.
use Rattle.std.specs.Prelude.{ℕ, List, ◌++◌, codes, decimal}
use Rattle.guard_syntax.specs.Syntax.{File}
use Rattle.guard_syntax.specs.declared.row.Verdict.{Verdict}
use Rattle.report_text.specs.RuleLines.{reported_names, rule_lines}

-- where it is accepted: `accepted`, and the line of each verdict that it says, without those of what it fails by
abbrev pub accepted_text : File → List Verdict → List ℕ
accepted_text rules verdicts = codes "accepted\n" ++ rule_lines (reported_names rules) verdicts

-- where it is rejected: `rejected <number of a line>`
abbrev pub rejected_text : ℕ → List ℕ
rejected_text number = codes "rejected " ++ decimal number ++ codes "\n"
