use Rattle.std.proofs.Common.{sym, subst}
use Rattle.rule_names.specs.code.Files.{file_of as seen}
use Rattle.rule_names.specs.declared.file.RuleFile.{RuleFile}
use Rattle.scope_frames.specs.code.Frames.{AreEntered}
use Rattle.library_tests.proofs.cells.enter_called.Goals as goal

pub returns-in-Some : goal.returns-in-Some
returns-in-Some c = subst (λ (f : RuleFile). AreEntered (seen f) c.enter.new.self.entered.keys) (sym c.enter.ensures.file) (c.enter.ensures.sound c.requires)
