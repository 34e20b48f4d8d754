-- Evidence as contracts see it.
use Rattle.std.specs.Prelude.{List}
use Rattle.evidence_lines.specs.declared.line.Line.{Line}
use Rattle.evidence_lines.specs.declared.version.Version.{Version}

-- a version, and lines, the first of which has the number 1
pub record Versioned : Type 0 where
  pub version : Version
  pub lines : List Line
