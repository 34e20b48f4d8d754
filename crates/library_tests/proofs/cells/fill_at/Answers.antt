use Rattle.std.proofs.Common.{sym, subst, List}
use Rattle.rule_names.specs.code.Files.{file_of as seen}
use Rattle.rule_names.specs.declared.file.RuleFile.{RuleFile}
use Rattle.scope_frames.specs.code.Frames.{AreEntered}
use Rattle.scope_frames.specs.declared.frame.Frame.{Frame}
use Rattle.library_tests.proofs.cells.fill_at.Goals as goal

pub returns : goal.returns
returns c =
    subst (λ (f : RuleFile). AreEntered (seen f) c.fill.new.self.entered.keys) (sym c.fill.ensures.file)
    (subst (λ (fs : List Frame). AreEntered (seen c.args.frames.now.file.now) fs) (sym c.fill.ensures.frames) c.requires)
