use Rattle.std.proofs.Common.{◌≡◌, take}
use Rattle.evidence_report.specs.code.VerdictLines.{verdicts_in}
use Rattle.evidence_report.proofs.verdict_lines.verdicts_alone.Given as goal

abbrev pub invariant-loop-listed : goal.invariant-loop-listed
invariant-loop-listed l = l.verdicts.items ≡ verdicts_in (take l.listed-index l.all)
