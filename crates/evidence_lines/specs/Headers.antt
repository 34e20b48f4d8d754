-- The first line of evidence, by its version.
use Rattle.std.specs.Prelude.{ℕ, List, codes}
use Rattle.evidence_lines.specs.declared.version.Version.{Version}
use Rattle.evidence_lines.specs.declared.version.Version.TheVariants.{One, Two}

-- line 0, with its newline
abbrev pub header : Version → List ℕ
header One = codes "guard-evidence 1\n"
header Two = codes "guard-evidence 2\n"
