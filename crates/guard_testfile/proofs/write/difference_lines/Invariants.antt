use Rattle.std.proofs.Common.{◌≡◌, take}
use Rattle.std.specs.List.{flat_map}
use Rattle.rule_names.specs.code.Files.{file_of}
use Rattle.guard_testfile.specs.Texts.{difference_line}
use Rattle.guard_testfile.proofs.CaseTexts.{differing}
use Rattle.guard_testfile.proofs.write.difference_lines.Given as goal

abbrev pub invariant-loop-wanted : goal.invariant-loop-wanted
invariant-loop-wanted l = l.lines.items ≡ flat_map difference_line (differing (file_of l.verdicts.file.now) l.verdicts.listed.now (take l.wanted-index l.wanted-items))
