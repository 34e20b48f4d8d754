use Rattle.std.proofs.Common.{subst}
use Rattle.rule_names.specs.code.Files.{file_of}
use Rattle.rule_names.specs.declared.file.RuleFile.{RuleFile}
use Rattle.evidence_lookups.specs.code.Owned.{AreOwners}
use Rattle.evidence_lookups.proofs.tables.FileTables.new.Goals as goal

pub returns : goal.returns
returns c = (
  c.in_ok-pieces.ensures,
  subst (λ (f : RuleFile). AreOwners (file_of f) c.in_ok-owners.owners) c.in_ok-pieces.ensures c.in_ok-owners.ensures,
)
