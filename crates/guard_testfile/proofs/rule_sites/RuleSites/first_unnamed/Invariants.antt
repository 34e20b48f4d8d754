use Rattle.rule_names.specs.code.Files.{file_of}
use Rattle.guard_testfile.specs.Refusals.{HoldsBelow, named_at}
use Rattle.guard_testfile.proofs.rule_sites.RuleSites.first_unnamed.Given as goal

abbrev pub invariant-loop-id : goal.invariant-loop-id
invariant-loop-id l = HoldsBelow l.id (named_at (file_of l.self.file.now) l.doc)
