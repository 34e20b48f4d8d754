use Rattle.std.proofs.Common.{◌≡◌, All, take}
use Rattle.evidence_lines.specs.Shapes.{IsInFormat}
use Rattle.evidence_text.specs.Text.{evidence_text}
use Rattle.guard_run.proofs.evidence.evidence_text.Given as goal

abbrev pub invariant-loop-before : goal.invariant-loop-before
invariant-loop-before l = record {
  printed : l.text.items ≡ evidence_text l.evidence.version (take l.before l.evidence.lines);
  in_format : All IsInFormat (take l.before l.evidence.lines);
}
