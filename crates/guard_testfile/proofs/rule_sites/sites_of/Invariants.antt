use Rattle.std.proofs.Common.{take}
use Rattle.rule_names.specs.code.Files.{file_of}
use Rattle.report_text.proofs.RuleNames.{names}
use Rattle.guard_testfile.specs.code.RuleSites.{AreSites}
use Rattle.guard_testfile.proofs.rule_sites.sites_of.Given as goal

abbrev pub invariant-loop-rule : goal.invariant-loop-rule
invariant-loop-rule l = AreSites (file_of l.fn.file) (names (take l.rule-index l.rules)) l.sites
