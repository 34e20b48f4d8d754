-- Grounds as the code has them.
use Rattle.std.specs.Prelude.{List}
use Rattle.evidence_lines.specs.declared.line.Line.{Line}
use Rattle.evidence_lines.specs.declared.version.Version.{Version}
use Rattle.guard_syntax.specs.Syntax.{File}
use Rattle.rule_meaning.specs.StoreModel.{StoreModel}
use Rattle.value_store.specs.code.Stores.{see_store}
use Rattle.evidence_lookups.specs.declared.line_context.LineContext.{LineContext}

-- the version of the evidence
abbrev pub version_of : LineContext → Version
version_of g = g.version

-- what is known
abbrev pub known_of : LineContext → StoreModel
known_of g = see_store g.store.now

-- the rule file
abbrev pub file_in : LineContext → File
file_in g = (see_store g.store.now).file

-- the lines before
abbrev pub lines_of : LineContext → List Line
lines_of g = g.lines
