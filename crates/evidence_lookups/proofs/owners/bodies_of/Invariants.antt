use Rattle.std.proofs.Common.{◌≡◌}
use Rattle.rule_names.specs.code.Files.{file_of}
use Rattle.evidence_lookups.specs.code.Owned.{marks_upto}
use Rattle.evidence_lookups.proofs.owners.bodies_of.Given as goal

abbrev pub invariant-loop-site : goal.invariant-loop-site
invariant-loop-site l = l.marks.items ≡ marks_upto (file_of l.pieces.file.now) l.owner l.site
