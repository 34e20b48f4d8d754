-- Rule files as the code has them, seen as syntax.
use Rattle.guard_syntax.specs.Syntax.{File}
use Rattle.guard_syntax.specs.code.Seen.{see_file}
use Rattle.rule_names.specs.declared.file.RuleFile.{RuleFile}

-- the syntax of a rule file
abbrev pub file_of : RuleFile → File
file_of f = see_file f.raw
