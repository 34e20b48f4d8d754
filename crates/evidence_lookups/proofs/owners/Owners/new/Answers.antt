use Rattle.rule_names.specs.code.Files.{file_of}
use Rattle.evidence_lookups.proofs.OwnersMarked.{tables}
use Rattle.evidence_lookups.proofs.owners.Owners.new.Goals as goal

pub returns : goal.returns
returns c =
    tables (file_of c.args.pieces.now.file.now) (record { rules = c.in_ok-rules.rules; whens = c.in_ok-whens.whens; blocks = c.in_ok-blocks.blocks }) c.in_ok-rules.ensures c.in_ok-whens.ensures c.in_ok-blocks.ensures
