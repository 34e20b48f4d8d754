-- The tables of a rule file as the code has them.
use Rattle.std.specs.Prelude.{◌≡◌}
use Rattle.rule_names.specs.code.Files.{file_of}
use Rattle.rule_names.specs.declared.file.RuleFile.{RuleFile}
use Rattle.evidence_lookups.specs.code.Owned.{AreOwners}
use Rattle.evidence_lookups.specs.declared.tables.FileTables.{FileTables}

-- they are of a file: of its parts, and of whose its bodies are
abbrev pub AreTablesOf : RuleFile → FileTables → Type 0
AreTablesOf file tables = (tables.pieces.file.now ≡ file) × AreOwners (file_of file) tables.owners
