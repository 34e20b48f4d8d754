use Rattle.std.proofs.Common.{◌≡◌, ◌++◌, All, take, decimal}
use Rattle.std.specs.List.{flat_map}
use Rattle.evidence_lines.specs.Shapes.{IsCount}
use Rattle.evidence_text.specs.Spelling.{further_text}
use Rattle.evidence_text.proofs.print.push_further_cites.Given as goal

abbrev pub invariant-loop-cite : goal.invariant-loop-cite
invariant-loop-cite l = record {
  printed : l.text.items ≡ l.initial.text.items ++ flat_map (further_text decimal) (take l.cite-index l.cites);
  bounded : All IsCount (take l.cite-index l.cites);
}
