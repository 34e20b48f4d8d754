use Rattle.std.proofs.Common.{◌≡◌, ◌++◌, take}
use Rattle.std.specs.List.{flat_map}
use Rattle.evidence_report.specs.code.VerdictLines.{heading}
use Rattle.evidence_report.proofs.drill.push_headings.Given as goal

abbrev pub invariant-loop-listed : goal.invariant-loop-listed
invariant-loop-listed l = l.text.items ≡ l.initial.text.items ++ flat_map heading (take l.listed-index l.all)
